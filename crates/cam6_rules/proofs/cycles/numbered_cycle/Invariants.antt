use Rattle.std.proofs.Common.{◌≡◌, map, take}
use Rattle.cam6_rules.specs.Internal.Numbered.{rules_of, numbered_entry}
use Rattle.cam6_rules.proofs.cycles.numbered_cycle.Given as goal

abbrev pub invariant-loop-entry : goal.invariant-loop-entry
invariant-loop-entry l =
    l.numbered.items ≡ map (numbered_entry (rules_of l.rules.entries)) (take l.entry-index l.entries)
