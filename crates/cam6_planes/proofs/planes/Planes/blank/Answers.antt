use Rattle.std.proofs.Common.{◌∙◌, ap, arith, get_or, [], replicate}
use Rattle.std.proofs.lemmas.List.{get_or-replicate}
use Rattle.cam6_planes.specs.Side.{side_number}
use Rattle.cam6_planes.proofs.Blank.{stored_bit-zeros}
use Rattle.cam6_planes.specs.declared.row.TheConstants.{WORDS}
use Rattle.cam6_planes.proofs.planes.Planes.blank.Goals as goal

pub returns-clause-cells : goal.returns-clause-cells
returns-clause-cells c =
    stored_bit-zeros (side_number c.args.limit) WORDS c.loop-y.rows.items (omega arith)
    (λ y h. ap (λ rows. get_or rows y []) c.loop-y.invariant ∙
    get_or-replicate c.loop-y._y y (replicate 4 (replicate WORDS 0)) [] (omega arith))
