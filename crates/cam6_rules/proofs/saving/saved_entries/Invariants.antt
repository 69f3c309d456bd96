use Rattle.std.proofs.Common.{◌≡◌, map, take}
use Rattle.cam6_rules.specs.Internal.Numbered.{rules_of}
use Rattle.cam6_rules.specs.Numbers.{named_entry}
use Rattle.cam6_rules.proofs.saving.saved_entries.Given as goal

abbrev pub invariant-loop-entry : goal.invariant-loop-entry
invariant-loop-entry l =
    l.saved.items ≡ map (named_entry (rules_of l.rules.entries)) (take l.entry-index l.cycle)
