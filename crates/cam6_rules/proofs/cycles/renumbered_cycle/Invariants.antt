use Rattle.std.proofs.Common.{◌≡◌, map, take}
use Rattle.cam6_rules.specs.Internal.Numbered.{closed_entry}
use Rattle.cam6_rules.proofs.cycles.renumbered_cycle.Given as goal

abbrev pub invariant-loop-entry : goal.invariant-loop-entry
invariant-loop-entry l =
    l.closed.items ≡ map (closed_entry l.number) (take l.entry-index l.cycle)
