use Rattle.std.proofs.Common.{sym}
use Rattle.cam6_commands.specs.declared.commands.Command.TheVariants.{Drop}
use Rattle.cam6_rules.specs.Numbers.{entries_of}
use Rattle.cam6_machine.specs.Internal.Images.{kept_as}
use Rattle.cam6_machine.proofs.Keeping.{stays_kept, some_planes}
use Rattle.cam6_machine.proofs.Replying.{after-drop}
use Rattle.cam6_machine.proofs.kept.Kept.drop_rule.Goals as goal

pub invariant_of-self-2 : goal.invariant_of-self-2
invariant_of-self-2 c =
    let k = c.self.inside in
    let cycle = entries_of k.cycle in
    let new = c.remove.new.self in
    let closed = entries_of c.remove.new.cycle in
    let name = c.args.name.now in (
      stays_kept (kept_as k.limit k.rules cycle k.position k.colours)
          (kept_as k.limit new closed k.position k.colours) (Drop name) c.self.invariant.0 tt
          (after-drop some_planes k.limit k.rules cycle k.position k.colours name new closed
          (sym c.in-Ok.ensures.refusal) c.in-Ok.ensures.rules c.in-Ok.ensures.named)
          (c.in-Ok.ensures.numbered c.self.invariant.0.numbered),
      c.in-Ok.ensures.tables k.tables c.self.invariant.1,
    )
