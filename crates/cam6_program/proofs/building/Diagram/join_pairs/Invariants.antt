use Rattle.std.proofs.Common.{◌≤◌}
use Rattle.cam6_program.specs.declared.nodes.TheConstants.{PLACES}
use Rattle.cam6_program.proofs.building.Diagram.join_pairs.Given as goal

abbrev pub invariant-loop-k : goal.invariant-loop-k
invariant-loop-k l = l.self.count ≤ PLACES
