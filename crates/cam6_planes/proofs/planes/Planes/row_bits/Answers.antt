use Rattle.std.proofs.Common.{◌∙◌, ◌/◌, ℕ, ap, arith}
use Rattle.cam6_planes.specs.Row.{column_bit}
use Rattle.cam6_planes.specs.Digits.{row_bytes}
use Rattle.cam6_planes.specs.Side.{side_number}
use Rattle.cam6_planes.specs.Stored.{Stored, width}
use Rattle.cam6_planes.specs.Cells.{cells}
use Rattle.cam6_planes.proofs.RowBytes.{row_bytes-same}
use Rattle.cam6_planes.proofs.planes.Planes.row_bits.Goals as goal

pub returns : goal.returns
returns c =
    let n : ℕ = width c.args.self.now / 8 in
    let side = ap (λ (v : Stored). side_number v.side) c.self.view_is in
    c.bits_of_row.ensures ∙ ap (λ k. row_bytes (k / 8) (column_bit c.row_words.result)) side ∙
    row_bytes-same n (column_bit c.row_words.result) (λ x. cells c.args.self.now c.args.p x c.args.y)
    (λ x h. c.row_words.ensures.value x (omega (arith, h, side)))
