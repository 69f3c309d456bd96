-- What is made of a row is read as the row.
use Rattle.std.proofs.Common.{◌≡◌, ◌<◌, ◌+◌, ◌*◌, ◌/◌, ◌%◌, ◌==◌, ◌∙◌, ℕ, List, [], ◌∷◌, length, map, get_or}
use Rattle.std.proofs.Common.{zero, suc, Bool, true, false, cond, Some, Ok, option_map, option_and_then}
use Rattle.std.proofs.Common.{refl, sym, ap, arith}
use Rattle.std.proofs.Common.{Option}
use Rattle.std.proofs.lemmas.List.{ext_get_or, length-map}
use Rattle.std.proofs.lemmas.List.FromFn.{length-map-range_with_len, get_or-map-range_with_len}
use Rattle.std.specs.List.{range_with_len, AllByRecursion}
use Rattle.std.specs.Result.{result_ok}
use Rattle.hex.specs.Hex.{encode_with, encode_lower, decode_sized, lower_digits, IsBytes}
use Rattle.hex.proofs.HexLemmas.{decode_sized-encode_lower}
use Rattle.cam6_planes.specs.Digits.{row_text}
use Rattle.cam6_planes.specs.Row.{bit_number, byte_column}
use Rattle.cam6_planes.specs.Side.{side_number, side_of}
use Rattle.cam6_planes.specs.declared.sides.Side.{Side}
use Rattle.cam6_planes.proofs.DigitsRead.{digits_read_back}
use Rattle.cam6_planes.proofs.SideNumbers.{side_of_number, side_words}
use Rattle.cam6_show_frames.specs.Frame.{colours}
use Rattle.cam6_show_frames.specs.Replies.{digit_column}
use Rattle.cam6_show_frames.specs.Laws.{colour_digit, ColoursAreReadBack, BitsAreReadBack}
use Rattle.cam6_show_frames.proofs.BitsRead.{bits_shown}

-- the same of each column is the same row
same_columns : (f g : ℕ → ℕ) (n : ℕ) → ((x : ℕ) → x < n → f x ≡ g x)
    → map f (range_with_len 0 n) ≡ map g (range_with_len 0 n)
same_columns f g n same =
    let long = length-map-range_with_len f 0 n in
    ext_get_or 0 (map f (range_with_len 0 n)) (map g (range_with_len 0 n))
    (long ∙ sym (length-map-range_with_len g 0 n))
    (λ x h.
    let within : x < n = omega (arith, long, h) in
    get_or-map-range_with_len f 0 n x x 0 within (omega arith)
    ∙ same x within
    ∙ sym (get_or-map-range_with_len g 0 n x x 0 within (omega arith)))

pub bits_back : BitsAreReadBack
bits_back side row =
    let back = digits_read_back side row in
    sym
    (bits_shown (row_text (side_number side / 4) row) back.0
    (map (λ x. bit_number (row x)) (range_with_len 0 (side_number side))) side back.1 back.2.long
    (same_columns (λ x. bit_number (row x)) (λ x. bit_number (byte_column back.0 x))
    (side_number side) (λ x h. ap bit_number (sym (back.2.columns x h)))))

-- two colours to a byte
packed : List ℕ → List ℕ
packed [] = []
packed (a ∷ []) = []
packed (a ∷ b ∷ row) = (a * 16 + b) ∷ packed row

abbrev AllFew : List ℕ → Type 0
AllFew row = AllByRecursion (λ colour. colour < colours) row

packed_text : (row : List ℕ) → length row % 2 ≡ 0 → AllFew row
    → encode_lower (packed row) ≡ map colour_digit row
unfolding packed encode_with
packed_text [] even few = refl
packed_text (a ∷ []) even few = let never : ⊥ = cc in absurd never
packed_text (a ∷ b ∷ row) even few =
    let low : b < 16 = few.1.0 in
    let first : (a * 16 + b) / 16 ≡ a = omega (arith, low) in
    let second : (a * 16 + b) % 16 ≡ b = omega (arith, low) in
    ap (λ c. get_or lower_digits c 0 ∷ get_or lower_digits ((a * 16 + b) % 16) 0
    ∷ encode_lower (packed row)) first
    ∙ ap (λ c. get_or lower_digits a 0 ∷ get_or lower_digits c 0 ∷ encode_lower (packed row)) second
    ∙ ap (λ l. colour_digit a ∷ colour_digit b ∷ l) (packed_text row (omega arith) few.1.1)

packed_long : (row : List ℕ) → length row % 2 ≡ 0 → 2 * length (packed row) ≡ length row
unfolding packed
packed_long [] even = refl
packed_long (a ∷ []) even = let never : ⊥ = cc in absurd never
packed_long (a ∷ b ∷ row) even = omega (arith, packed_long row (omega arith))

packed_bytes : (row : List ℕ) → AllFew row → IsBytes (packed row)
unfolding packed
packed_bytes [] few i = omega arith
packed_bytes (a ∷ []) few i = omega arith
packed_bytes (a ∷ b ∷ row) few zero =
    let high : a < 16 = few.0 in let low : b < 16 = few.1.0 in omega (arith, high, low)
packed_bytes (a ∷ b ∷ row) few (suc i) = packed_bytes row few.1.1 i

neither : (b : Bool) (n : ℕ) → cond b n n ≡ n
neither true n = refl
neither false n = refl

packed_shows : (row : List ℕ) → length row % 2 ≡ 0 → AllFew row → (x : ℕ)
    → digit_column (packed row) x ≡ get_or row x 0
unfolding packed
packed_shows [] even few x = neither (x % 2 == 0) 0
packed_shows (a ∷ []) even few x = let never : ⊥ = cc in absurd never
packed_shows (a ∷ b ∷ row) even few zero =
    let low : b < 16 = few.1.0 in
    let high : (a * 16 + b) / 16 ≡ a = omega (arith, low) in high
packed_shows (a ∷ b ∷ row) even few (suc zero) =
    let low : b < 16 = few.1.0 in
    let last : (a * 16 + b) % 16 ≡ b = omega (arith, low) in last
packed_shows (a ∷ b ∷ row) even few (suc (suc x)) =
    let half : suc (suc x) / 2 ≡ suc (x / 2) = omega arith in
    let odd : suc (suc x) % 2 ≡ x % 2 = omega arith in
    rw half (rw odd (packed_shows row (omega arith) few.1.1 x))

side_is_even : (side : Side) → (side_number side % 2 ≡ 0)
side_is_even side = omega (arith, side_words side)

pub colours_back : ColoursAreReadBack
colours_back side row is =
    let s : ℕ = side_number side in
    let text = map colour_digit row in
    let bytes = packed row in
    let even : length row % 2 ≡ 0 = ap (λ n. n % 2) is.0 ∙ side_is_even side in
    let half : length bytes ≡ s / 2 = omega (arith, packed_long row even, is.0) in
    let decoded : decode_sized text (s / 2) ≡ Ok bytes =
    ap (λ t. decode_sized t (s / 2)) (sym (packed_text row even is.1))
    ∙ decode_sized-encode_lower bytes (s / 2) half (packed_bytes row is.1) in
    let shown : List ℕ = map (digit_column bytes) (range_with_len 0 s) in
    let long : length shown ≡ s = length-map-range_with_len (digit_column bytes) 0 s in
    let seen : shown ≡ row =
    ext_get_or 0 shown row (long ∙ sym is.0)
    (λ x h.
    let within : x < s = omega (arith, long, h) in
    get_or-map-range_with_len (digit_column bytes) 0 s x x 0 within (omega arith)
    ∙ packed_shows row even is.1 x) in
    let of_side : Side → Option (List ℕ) =
    λ t. option_map (λ b. map (digit_column b) (range_with_len 0 (side_number t)))
    (result_ok (decode_sized text (side_number t / 2))) in
    ap (λ n. option_and_then of_side (side_of n)) (length-map row colour_digit ∙ is.0)
    ∙ ap (option_and_then of_side) (side_of_number side)
    ∙ ap (λ r. option_map (λ b. map (digit_column b) (range_with_len 0 s)) (result_ok r)) decoded
    ∙ ap Some seen
