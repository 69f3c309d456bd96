use Rattle.std.proofs.Common.{◌≡◌, List, None, sym, subst}
use Rattle.cam6_commands.specs.declared.commands.Command.TheVariants.{Rule}
use Rattle.cam6_cycle.specs.declared.entries.Entry.{Entry}
use Rattle.cam6_model.specs.Refusals.{definition_refusal}
use Rattle.cam6_rules.specs.Filled.{AreTrue}
use Rattle.cam6_rules.specs.Numbers.{entries_of, named_entries, AreNumbered}
use Rattle.cam6_machine.specs.Internal.Images.{kept_as}
use Rattle.cam6_machine.proofs.Keeping.{stays_kept, some_planes}
use Rattle.cam6_machine.proofs.Replying.{after-rule}
use Rattle.cam6_machine.proofs.kept.Kept.define.Goals as goal

pub invariant_of-self-2 : goal.invariant_of-self-2
invariant_of-self-2 c =
    let k = c.self.inside in
    let cycle = entries_of k.cycle in
    let new = c.define.new.self in
    let name = c.args.name in
    let wiring = c.args.wiring in
    let text = c.args.text in
    let same = c.entries_of-cycle.ensures.entries in
    let numbered = c.self.invariant.0.numbered in
    let there = subst (AreNumbered k.rules) (sym same) numbered in
    let accepted = subst (λ (l : List Entry).
    definition_refusal k.rules (named_entries k.rules l) name wiring text ≡ None) same
    c.in-Ok.ensures.refusal in
    let named = subst (λ (l : List Entry). named_entries new l ≡ named_entries k.rules l) same
    (c.define.ensures.named there) in (
      stays_kept (kept_as k.limit k.rules cycle k.position k.colours)
          (kept_as k.limit new cycle k.position k.colours) (Rule name wiring text)
          c.self.invariant.0 c.in-Ok.ensures.text
          (after-rule some_planes k.limit k.rules cycle k.position k.colours name text wiring new
          accepted c.in-Ok.ensures.rules named)
          (subst (AreNumbered new) same (c.define.ensures.numbered there)),
      subst (AreTrue c.define.new.scratch new) same
          (c.define.ensures.tables there
          (subst (AreTrue k.tables k.rules) (sym same) c.self.invariant.1)),
    )
