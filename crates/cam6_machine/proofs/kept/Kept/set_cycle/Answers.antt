use Rattle.std.proofs.Common.{sym, subst}
use Rattle.cam6_commands.specs.declared.commands.Command.TheVariants.{Cycle}
use Rattle.cam6_rules.specs.Numbers.{entries_of}
use Rattle.cam6_rules.specs.Filled.{AreTablesIf}
use Rattle.cam6_machine.specs.Internal.Images.{kept_as}
use Rattle.cam6_machine.proofs.Keeping.{stays_kept, some_planes}
use Rattle.cam6_machine.proofs.Replying.{after-cycle}
use Rattle.cam6_machine.proofs.kept.Kept.set_cycle.Goals as goal

pub invariant_of-self : goal.invariant_of-self
invariant_of-self c =
    let k = c.self.inside in
    let old = entries_of k.cycle in
    let cycle = c.in-Ok.cycle in
    let entries = c.args.entries.now in (
      stays_kept (kept_as k.limit k.rules old k.position k.colours)
          (kept_as k.limit k.rules cycle 0 k.colours) (Cycle entries) c.self.invariant.0 tt
          (after-cycle some_planes k.limit k.rules old k.position k.colours entries cycle
          (sym c.in-Ok.ensures.refusal) c.in-Ok.ensures.named) c.in-Ok.ensures.numbered,
      subst (λ o. AreTablesIf o k.rules cycle c.invalidate.new.self.entries) (sym c.invalidate.ensures.filled) tt,
    )
