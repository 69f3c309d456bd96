-- Digits that were made of a row are read as its bits.
use Rattle.std.proofs.Common.{◌≡◌, ℕ, ◌*◌, ◌/◌}
use Rattle.std.proofs.Common.{List, length, Some, Ok, option_and_then, sym, ◌∙◌}
use Rattle.std.proofs.Common.{ap, arith}
use Rattle.std.specs.Result.{result_ok}
use Rattle.hex.specs.Hex.{decode_sized, encode_lower, lower_digits}
use Rattle.hex.proofs.HexLemmas.{length-encode_with, decode_pairs-encode_with}
use Rattle.hex.proofs.HexLemmas.{IsDigits-lower_digits}
use Rattle.hex.proofs.Pairs.{decode_sized-pairs}
use Rattle.cam6_planes.specs.Side.{side_number, side_of}
use Rattle.cam6_planes.specs.declared.sides.Side.{Side}
use Rattle.cam6_planes.specs.Digits.{row_text, row_bytes, bits_of_digits}
use Rattle.cam6_planes.specs.Laws.{DigitsAreReadBack}
use Rattle.cam6_planes.proofs.HexText.{encode_lower-row}
use Rattle.cam6_planes.proofs.RowBytes.{row_bytes-long, row_bytes-small, row_bytes-show}
use Rattle.cam6_planes.proofs.SideNumbers.{side_words, side_of_number}

-- digits that say these bytes are as many as the rows of the side have
sized_digits : (digits bits : List ℕ) (n : ℕ) → decode_sized digits n ≡ Ok bits →
    length digits ≡ 2 * n
sized_digits digits bits n is = grind (arith, is)

pub digits_said : (side : Side) (digits bits : List ℕ) →
    decode_sized digits (side_number side / 8) ≡ Ok bits → bits_of_digits digits ≡ Some bits
digits_said side digits bits is =
    let whole : 4 * length digits ≡ side_number side =
    omega (arith, sized_digits digits bits (side_number side / 8) is, side_words side) in
    ap (λ n. option_and_then (λ s. result_ok (decode_sized digits (side_number s / 8))) (side_of n))
    whole ∙
    ap (option_and_then (λ s. result_ok (decode_sized digits (side_number s / 8))))
    (side_of_number side) ∙
    ap result_ok is

pub digits_read_back : DigitsAreReadBack
digits_read_back side row =
    let s : ℕ = side_number side in
    let n : ℕ = s / 8 in
    let bytes = row_bytes n row in
    let long : length bytes ≡ n = row_bytes-long n row in
    let whole : 8 * n ≡ s = omega (arith, side_words side) in
    let text : encode_lower bytes ≡ row_text (s / 4) row =
    encode_lower-row (s / 4) bytes row (omega arith) (row_bytes-small n row)
    (λ x h. row_bytes-show n row x (omega arith)) in
    let digits : length (encode_lower bytes) ≡ 2 * length bytes =
    length-encode_with lower_digits bytes in
    let said : decode_sized (encode_lower bytes) n ≡ Ok bytes =
    decode_sized-pairs (encode_lower bytes) n (omega arith) (omega arith) ∙
    decode_pairs-encode_with lower_digits IsDigits-lower_digits 0 bytes (row_bytes-small n row) in (
      bytes,
      ap bits_of_digits (sym text) ∙ digits_said side (encode_lower bytes) bytes said,
      record { long = omega arith; columns = λ x h. row_bytes-show n row x (omega arith) },
    )
