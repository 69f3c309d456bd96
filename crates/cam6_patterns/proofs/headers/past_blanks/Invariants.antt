use Rattle.std.proofs.Common.{◌≡◌, length}
use Rattle.cam6_patterns.specs.Header.{past_blanks}
use Rattle.cam6_patterns.proofs.headers.past_blanks.Given as goal

abbrev pub invariant-loop-byte : goal.invariant-loop-byte
invariant-loop-byte l = past_blanks l.rest ≡ past_blanks l.bytes

abbrev pub decreases-loop-byte : goal.decreases-loop-byte
decreases-loop-byte l = length l.rest
