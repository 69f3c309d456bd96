use Rattle.std.proofs.Common.{◌≤◌}
use Rattle.cam6_program.specs.declared.programs.TheConstants.{MAX_STEPS}
use Rattle.cam6_program.proofs.writing.Writer.write_counters.Given as goal

abbrev pub invariant-loop-place : goal.invariant-loop-place
invariant-loop-place l = l.self.count ≤ MAX_STEPS
