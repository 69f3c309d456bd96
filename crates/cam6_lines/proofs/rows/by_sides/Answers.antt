use Rattle.cam6_lines.proofs.ChosenRows.{by_sides, chosen_here}
use Rattle.cam6_lines.proofs.RowsOfUnits.{four_words}
use Rattle.cam6_lines.proofs.rows.by_sides.Goals as goal

pub returns : goal.returns
returns c = λ i h.
    let a = c.args in
    let mask = c.right_columns-rights.result in
    let sides = c.right_columns-rights.ensures in
    four_words (by_sides a.grid a.left a.right) 256 c.chosen_word.result c.chosen_word-2.result
    c.chosen_word-3.result c.chosen_word-4.result
    (λ k. chosen_here a.grid a.left a.right mask 0 c.chosen_word.result sides
    c.chosen_word.ensures)
    (λ k. chosen_here a.grid a.left a.right mask 1 c.chosen_word-2.result sides
    c.chosen_word-2.ensures)
    (λ k. chosen_here a.grid a.left a.right mask 2 c.chosen_word-3.result sides
    c.chosen_word-3.ensures)
    (λ k. chosen_here a.grid a.left a.right mask 3 c.chosen_word-4.result sides
    c.chosen_word-4.ensures) i h h
