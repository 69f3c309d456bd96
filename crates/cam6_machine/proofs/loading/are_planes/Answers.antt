use Rattle.std.proofs.Common.{◌∙◌, sym, ap, length, ◌&&◌}
use Rattle.std.specs.List.{list_all}
use Rattle.std.proofs.lemmas.Bool.{eq-eqb}
use Rattle.cam6_planes.specs.Side.{side_number}
use Rattle.cam6_model.specs.Refusals.{are_rows}
use Rattle.cam6_machine.proofs.loading.are_planes.Goals as goal

pub returns : goal.returns
returns c =
    let planes = c.args.planes.now in
    c.all_planes.ensures
    ∙ sym (ap (λ b. b && list_all (are_rows (side_number c.args.side)) planes)
    (eq-eqb (length planes) 4 c.type_inv.planes))
