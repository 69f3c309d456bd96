use Rattle.std.proofs.Common.{◌∙◌, ap}
use Rattle.cam6_commands.specs.declared.commands.Command.TheVariants.{Clear}
use Rattle.cam6_model.specs.Alone.{after}
use Rattle.cam6_planes.specs.Cells.{cells, without_plane}
use Rattle.cam6_planes.specs.Side.{side_number}
use Rattle.cam6_machine.specs.Stored.{machine_of}
use Rattle.cam6_machine.proofs.Replying.{after-clear}
use Rattle.cam6_machine.proofs.machines.Machine.clear.Goals as goal

pub returns-clause-machine : goal.returns-clause-machine
returns-clause-machine c =
    let planes = c.self.inside.image in
    let k = c.self.inside.kept in
    after-clear planes k.limit k.rules k.cycle k.position k.colours c.clear_plane.new.self
    c.args.plane c.clear_plane.ensures.alike c.in-Ok.ensures.refusal
    (c.clear_plane.ensures.cells ∙
    ap (without_plane (side_number planes.side) (cells planes))
    (c.number.ensures.value ∙ c.in-Ok.ensures.value)) ∙
    ap (λ v. after (machine_of v) (Clear c.args.plane)) c.self.view_is
