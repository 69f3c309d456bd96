use Rattle.std.proofs.Common.{◌≡◌, ◌∙◌, ap, sym}
use Rattle.cam6_commands.specs.declared.commands.Command.TheVariants.{Map}
use Rattle.cam6_model.specs.Alone.{after}
use Rattle.cam6_model.specs.Machine.{Machine}
use Rattle.cam6_model.specs.Refusals.{fault_refusal}
use Rattle.cam6_model.proofs.Refusing.{after-accepted}
use Rattle.cam6_rules.specs.Numbers.{entries_of}
use Rattle.cam6_machine.specs.Internal.Images.{kept_as, stored_as}
use Rattle.cam6_machine.proofs.Keeping.{stays_kept, some_planes}
use Rattle.cam6_machine.proofs.kept.Kept.set_colours.Goals as goal

pub invariant_of-self : goal.invariant_of-self
invariant_of-self c =
    let k = c.self.inside in
    let cycle = entries_of k.cycle in
    let colours = c.args.colours.now in
    let old = stored_as some_planes k.limit k.rules cycle k.position k.colours in
    let made : stored_as some_planes k.limit k.rules cycle k.position c.in-Ok.kept
    ≡ after old (Map colours) =
    ap {B = Machine} (λ l. record old { colours = l }) c.in-Ok.ensures.colours ∙
    sym (after-accepted old (Map colours) (ap fault_refusal (sym c.in-Ok.ensures.refusal))) in (
      stays_kept (kept_as k.limit k.rules cycle k.position k.colours)
          (kept_as k.limit k.rules cycle k.position c.in-Ok.kept) (Map colours)
          c.self.invariant.0 tt made c.self.invariant.0.numbered,
      c.self.invariant.1,
    )
