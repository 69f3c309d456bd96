use Rattle.std.proofs.Common.{ℕ, ◌+◌, ◌*◌, ◌/◌, sym, ◌∙◌, ap}
use Rattle.cam6_planes.specs.Row.{word_column, column_bit}
use Rattle.cam6_planes.specs.Side.{side_number}
use Rattle.cam6_planes.proofs.WordByWord.{column_bit-at}
use Rattle.cam6_lines.proofs.RowsOfUnits.{columns_shown, words_in_row}
use Rattle.cam6_lines.proofs.rows.columns_here.Goals as goal

pub returns : goal.returns
returns c =
    let a = c.args in
    let w : ℕ = c.words_of_row.result in
    columns_shown a.side a.unit w (side_number a.side / 64) c.words_here.result
    (column_bit a.row.now) c.requires c.words_of_row.ensures.value (words_in_row a.side)
    (λ k x four there l. ap (λ word. word_column word x) (c.words_here.ensures k four) ∙
    sym (column_bit-at a.row.now (w * a.unit + k) x l))
