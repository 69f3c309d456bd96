use Rattle.std.proofs.Common.{◌≡◌, ◌<◌, ◌∙◌, ◌/◌, ℕ, length, get_or, take, rules, arith}
use Rattle.std.proofs.lemmas.List.{length-take-le}
use Rattle.cam6_planes.specs.Row.{column_bit}
use Rattle.cam6_planes.proofs.Bytes.{byte_column-take, small-take}
use Rattle.cam6_planes.proofs.HexText.{encode_lower-row}
use Rattle.cam6_planes.specs.declared.row.TheConstants.{BYTES}
use Rattle.cam6_planes.proofs.digits.write_hex.Goals as goal

pub returns : goal.returns
returns c =
    let written = rw c.unwrap.ensures at c.encode_to_slice.ensures.written in
    let n : ℕ = length c.args.text.now / 2 in
    let bytes = c.bytes_of_row-bytes.result in
    let all : length bytes ≡ BYTES = search rules in
    let long : length (take n bytes) ≡ n = length-take-le n bytes (omega arith) in
    let small : (i : ℕ) → get_or bytes i 0 < 256 = search rules in
    written ∙ encode_lower-row (length c.args.text.now) (take n bytes) (column_bit c.args.row.now)
    (omega arith) (small-take n bytes small)
    (λ x h. byte_column-take n bytes x (omega arith) ∙ c.bytes_of_row-bytes.ensures x (omega arith))
