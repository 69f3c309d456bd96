use Rattle.std.proofs.Common.{◌≡◌, drop}
use Rattle.std.specs.List.{list_all}
use Rattle.cam6_patterns.proofs.Rows.{has_two_states}
use Rattle.cam6_patterns.proofs.writing.states_of.Given as goal

abbrev pub invariant-loop-y : goal.invariant-loop-y
invariant-loop-y l =
    list_all has_two_states (drop l.y l.frame) ≡ list_all has_two_states l.frame
