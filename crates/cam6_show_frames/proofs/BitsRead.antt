-- A row of one plane, bit by bit.
use Rattle.std.proofs.Common.{◌≡◌, ◌*◌, ◌∙◌, ℕ, List, length, map, Bool, true, false, Some, option_map, sym, ap, refl}
use Rattle.std.proofs.Common.{◌-◌, ◌/◌, ◌%◌, ◌^◌, ◌==◌, get_or, bit_and}
use mir.Val.{bool_byte}
use Rattle.std.proofs.lemmas.Nat.Bits.{shr_and_one}
use Rattle.std.specs.List.{range_with_len}
use Rattle.cam6_planes.specs.declared.sides.Side.{Side}
use Rattle.cam6_planes.specs.Side.{side_number}
use Rattle.cam6_planes.specs.Row.{bit_number, byte_column}
use Rattle.cam6_planes.specs.Digits.{bits_of_digits}
use Rattle.cam6_show_frames.specs.Replies.{bits_of_text}

-- a text whose bits these bytes are says the row that they show
pub bits_shown : (text bytes row : List ℕ) (side : Side) → bits_of_digits text ≡ Some bytes
    → 8 * length bytes ≡ side_number side
    → row ≡ map (λ x. bit_number (byte_column bytes x)) (range_with_len 0 (side_number side))
    → Some row ≡ bits_of_text text
bits_shown text bytes row side said long shown =
    let bits : ℕ → ℕ = λ x. bit_number (byte_column bytes x) in
    ap Some shown
    ∙ ap (λ n. Some (map bits (range_with_len 0 n))) (sym long)
    ∙ ap (option_map (λ b. map (λ x. bit_number (byte_column b x)) (range_with_len 0 (8 * length b))))
    (sym said)

-- whether a bit is set, as the code has it, is its number
pub bit_told : (bit : Bool) → bool_byte bit ≡ bit_number bit
bit_told false = refl
bit_told true = refl

-- the bit of a column, shifted to the lowest place
pub bit_read : (bytes : List ℕ) (x : ℕ)
    → bool_byte (bit_and (get_or bytes (x / 8) 0 / 2 ^ (7 - x % 8)) 1 == 1)
    ≡ bit_number (byte_column bytes x)
unfolding byte_column
bit_read bytes x =
    ap (λ bit. bool_byte (bit == 1)) (shr_and_one (get_or bytes (x / 8) 0) (7 - x % 8))
    ∙ bit_told (byte_column bytes x)
