use Rattle.std.proofs.Common.{ℕ, ◌+◌, ◌*◌, ◌∙◌, ap}
use Rattle.cam6_planes.specs.Row.{column_bit, east_of}
use Rattle.cam6_planes.specs.Side.{side_number}
use Rattle.cam6_lines.proofs.RowsOfUnits.{columns_shown}
use Rattle.cam6_lines.proofs.rows.columns_east.Goals as goal

pub returns : goal.returns
returns c =
    let a = c.args in
    let w : ℕ = c.words_of_row.result in
    columns_shown a.side a.unit w c.words.result c.words_east.result
    (λ x. column_bit a.row.now (east_of (side_number a.side) x)) c.requires
    c.words_of_row.ensures.value c.words.ensures.value
    (λ k x four there l. c.words_east.ensures k x four there l ∙
    ap (λ n. column_bit a.row.now (east_of n (64 * (w * a.unit + k) + x))) c.words.ensures.value)
