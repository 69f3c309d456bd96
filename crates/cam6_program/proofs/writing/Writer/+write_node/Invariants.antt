use Rattle.std.proofs.Common.{◌≤◌}
use Rattle.cam6_program.specs.declared.programs.TheConstants.{MAX_STEPS}
use Rattle.cam6_program.proofs.writing.Writer.+write_node.Given as goal

abbrev pub decreases-write_node : goal.decreases-write_node
decreases-write_node l = l.number

abbrev pub invariant-loop-source : goal.invariant-loop-source
invariant-loop-source l = l.self.count ≤ MAX_STEPS
