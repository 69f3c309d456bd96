use Rattle.std.proofs.Common.{◌≤◌}
use Rattle.cam6_program.specs.declared.nodes.TheConstants.{PLACES}
use Rattle.cam6_program.proofs.counting.counting_diagram.Given as goal

abbrev pub invariant-loop-level : goal.invariant-loop-level
invariant-loop-level l = l.diagram.count ≤ PLACES
