use Rattle.std.proofs.Common.{◌≡◌}
use Rattle.cam6_program.proofs.writing.Writer.expect_reads.Given as goal

abbrev pub invariant-loop-source : goal.invariant-loop-source
invariant-loop-source l = l.self.count ≡ l.initial.self.count

abbrev pub invariant-loop-back : goal.invariant-loop-back
invariant-loop-back l = l.self.count ≡ l.initial.self.count
