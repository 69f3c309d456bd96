use Rattle.std.proofs.Common.{◌≡◌, ◌∙◌, IfOk, ap, subst}
use Rattle.cam6_planes.specs.Side.{side_number}
use Rattle.cam6_planes.specs.Cells.{cells, torus}
use Rattle.cam6_commands.specs.declared.commands.Command.TheVariants.{Load}
use Rattle.cam6_model.specs.Alone.{after}
use Rattle.cam6_model.specs.Saved.{saved_bit}
use Rattle.cam6_machine.specs.Stored.{machine_of, machine_over}
use Rattle.cam6_machine.proofs.machines.Machine.load.Goals as goal

pub returns-in-Ok-clause-machine : goal.returns-in-Ok-clause-machine
returns-in-Ok-clause-machine c =
    let old = c.self.inside.image in
    let new = c.put_planes.new.self in
    let made = subst (λ found. IfOk found (λ taken.
    new.side ≡ taken.side → cells new ≡ torus (side_number taken.side) (saved_bit taken.rows) →
    machine_over new c.load.new.self
    ≡ after (machine_over old c.self.inside.kept) (Load c.args.saved)))
    c.in-Ok.is (c.in_ok-planes.ensures.machine old new) in
    made c.put_planes.ensures.side c.put_planes.ensures.cells ∙
    ap (λ v. after (machine_of v) (Load c.args.saved)) c.self.view_is
