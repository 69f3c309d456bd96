use Rattle.std.proofs.Common.{◌≡◌, ◌<◌, ◌∙◌, ◌/◌, ℕ, length, get_or, take, rules, arith}
use Rattle.std.proofs.lemmas.List.{length-take-le}
use Rattle.cam6_planes.specs.Row.{column_bit}
use Rattle.cam6_planes.specs.Side.{side_number}
use Rattle.cam6_planes.proofs.Bytes.{byte_column-take, small-take}
use Rattle.cam6_planes.proofs.RowBytes.{row_bytes-is}
use Rattle.cam6_planes.proofs.SideNumbers.{side_most}
use Rattle.cam6_planes.specs.declared.row.TheConstants.{BYTES}
use Rattle.cam6_planes.proofs.digits.bits_of_row.Goals as goal

pub returns : goal.returns
returns c =
    let n : ℕ = side_number c.args.side / 8 in
    let most = side_most c.args.side in
    let bytes = c.bytes_of_row.result in
    let all : length bytes ≡ BYTES = search rules in
    let long : length (take n bytes) ≡ n = length-take-le n bytes (omega (arith, most, all)) in
    let small : (i : ℕ) → get_or bytes i 0 < 256 = search rules in
    row_bytes-is n (column_bit c.args.row.now) (take n bytes) long (small-take n bytes small)
    (λ x h. byte_column-take n bytes x h ∙ c.bytes_of_row.ensures x (omega (arith, h, most)))
