-- An array that a loop fills, and the digits of its bytes.
use Rattle.std.proofs.Common.{◌≡◌, ◌≢◌, ◌<◌, ◌≤◌, ◌+◌, ◌*◌, ◌/◌, ◌%◌, ◌∙◌, ◌++◌, ℕ, Bool, List, length}
use Rattle.std.proofs.Common.{take, get_or, map, sym, ap, arith, below_more, get_or-set_other}
use Rattle.std.proofs.Common.{get_or-set_same}
use Rattle.std.proofs.Math.ListN.{set}
use Rattle.std.proofs.Math.Seq.{take-append_seam}
use Rattle.std.proofs.lemmas.List.{get_or-take, length-take-le}
use Rattle.std.proofs.lemmas.List.FromFn.{fill_by_all, length-map-range_with_len}
use Rattle.std.specs.List.{range_with_len}
use Rattle.hex.specs.Hex.{encode_lower}
use Rattle.cam6_planes.specs.Digits.{row_text, row_bytes, digit_at}
use Rattle.cam6_planes.proofs.RowBytes.{bytes_have_its_digits}

-- the front is what was put there
pub front_filled : (f : ℕ → ℕ) (xs : List ℕ) (n : ℕ) → n ≤ length xs
    → ((k : ℕ) → k < n → get_or xs k 0 ≡ f k) → take n xs ≡ map f (range_with_len 0 n)
front_filled f xs n within filled =
    fill_by_all f (take n xs) n 0 (length-take-le n xs within)
    (λ k h. get_or-take n xs k 0 h ∙ filled k h)

-- one more was put there
pub filled_more : (f : ℕ → ℕ) (xs : List ℕ) (i v : ℕ) → i < length xs
    → ((k : ℕ) → k < i → get_or xs k 0 ≡ f k) → v ≡ f i
    → (k : ℕ) → k < i + 1 → get_or (set xs i v) k 0 ≡ f k
filled_more f xs i v within filled is =
    below_more (λ k. get_or (set xs i v) k 0 ≡ f k) i
    (λ k h. let other : k ≢ i = omega arith in rw get_or-set_other (filled k h))
    (rw get_or-set_same is)

length-row_text : (n : ℕ) (f : ℕ → Bool) → length (row_text n f) ≡ n
unfolding row_text
length-row_text n f = length-map-range_with_len (digit_at f) 0 n

-- the digits of a row's bytes, in front of what was there
pub digits_filled : (side number : ℕ) (f : ℕ → Bool) (bytes output rest : List ℕ)
    → number ≡ side → side % 128 ≡ 0 → take (side / 8) bytes ≡ row_bytes (side / 8) f
    → output ≡ encode_lower (take (number / 8) bytes)
    → take (side / 4) (output ++ rest) ≡ row_text (side / 4) f
digits_filled side number f bytes output rest is whole shown written =
    let n : ℕ = side / 8 in
    let double : 2 * n ≡ side / 4 = omega (arith, whole) in
    let text : output ≡ row_text (side / 4) f =
    written ∙ ap (λ m. encode_lower (take (m / 8) bytes)) is ∙ ap encode_lower shown
    ∙ bytes_have_its_digits n f ∙ ap (λ m. row_text m f) double in
    let long : length output ≡ side / 4 = ap length text ∙ length-row_text (side / 4) f in
    ap (λ m. take m (output ++ rest)) (sym long) ∙ take-append_seam output rest ∙ text
