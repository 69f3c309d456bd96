use Rattle.std.proofs.Common.{◌∙◌, ap, ◌%◌}
use Rattle.cam6_lookup.specs.Transposed.{cell}
use Rattle.cam6_lookup.proofs.Transposing.{row_1, position_1, row_2, position_2, row_3, position_3, position_4}
use Rattle.cam6_lookup.proofs.Transposing.{row_1-lt, position_1-lt, row_2-lt, position_2-lt, row_3-lt}
use Rattle.cam6_lookup.proofs.Transposing.{position_3-lt, row_4-is, position_4-is}
use Rattle.cam6_lookup.proofs.swap.transposed.Goals as goal

pub returns : goal.returns
returns c = λ k i p h l m.
    let rows = c.args.rows.now in
    c.round.ensures k i p h l m ∙
    c.round-rows-3.ensures (row_1 k p) i (position_1 k p) (row_1-lt k p h m) l (position_1-lt k p h m) ∙
    c.round-rows-2.ensures (row_2 k p) i (position_2 k p) (row_2-lt k p h m) l (position_2-lt k p h m) ∙
    c.round-rows.ensures (row_3 k p) i (position_3 k p) (row_3-lt k p h m) l (position_3-lt k p h m) ∙
    ap (λ n. cell rows n i (position_4 k p)) (row_4-is k p h m) ∙
    ap (cell rows (p % 16) i) (position_4-is k p h m)
