use Rattle.std.proofs.Common.{◌≡◌, drop}
use Rattle.cam6_rules.specs.Internal.Numbered.{rules_of}
use Rattle.cam6_model.specs.Refusals.{first_refusal}
use Rattle.cam6_rules.proofs.refusals.accept_entries.Given as goal

abbrev pub invariant-loop-entry : goal.invariant-loop-entry
invariant-loop-entry l =
    first_refusal (rules_of l.rules.entries) (drop l.entry-index l.entries)
    ≡ first_refusal (rules_of l.rules.entries) l.entries
