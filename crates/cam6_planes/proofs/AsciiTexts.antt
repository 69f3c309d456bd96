-- The digits of a row are ASCII.
use Rattle.std.proofs.Common.{ℕ, zero, suc, ◌*◌, ◌<◌, Bool, List, [], ◌∷◌, map, codes, lit<, arith}
use Rattle.std.specs.Str.{IsAscii}
use Rattle.std.specs.List.{range_with_len}
use Rattle.cam6_planes.specs.Digits.{row_text, digit_at, four_columns}

-- each of these is below 128
abbrev AreBelow128 : List ℕ → Type 0
AreBelow128 [] = Unit {0}
AreBelow128 (x ∷ xs) = (x < 128) × AreBelow128 xs

IsAscii-below : (xs : List ℕ) → AreBelow128 xs → IsAscii xs
IsAscii-below [] h i = omega arith
IsAscii-below (x ∷ xs) h zero = h.0
IsAscii-below (x ∷ xs) h (suc i) = IsAscii-below xs h.1 i

IsAscii-map_any : (f : ℕ → ℕ) (xs : List ℕ) → ((x : ℕ) → f x < 128) → IsAscii (map f xs)
IsAscii-map_any f [] h i = omega arith
IsAscii-map_any f (x ∷ xs) h zero = h x
IsAscii-map_any f (x ∷ xs) h (suc i) = IsAscii-map_any f xs h i

pub digits-ascii : IsAscii (codes "0123456789abcdef")
digits-ascii = IsAscii-below (codes "0123456789abcdef") (
  lit< tt,
  (
    lit< tt,
    (
      lit< tt,
      (
        lit< tt,
        (
          lit< tt,
          (
            lit< tt,
            (
              lit< tt,
              (
                lit< tt,
                (
                  lit< tt,
                  (
                    lit< tt,
                    (
                      lit< tt,
                      (
                        lit< tt,
                        (lit< tt, (lit< tt, (lit< tt, (lit< tt, tt)))),
                      ),
                    ),
                  ),
                ),
              ),
            ),
          ),
        ),
      ),
    ),
  ),
)

pub row_text-ascii : (n : ℕ) (row : ℕ → Bool) → IsAscii (row_text n row)
unfolding row_text
row_text-ascii n row =
    IsAscii-map_any (digit_at row) (range_with_len 0 n)
    (λ k. digits-ascii (four_columns row (4 * k)))
