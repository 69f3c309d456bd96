use Rattle.std.proofs.Common.{◌≡◌, length}
use Rattle.cam6_patterns.specs.Header.{after_first}
use Rattle.cam6_patterns.proofs.headers.after_first.Given as goal

abbrev pub invariant-loop-later : goal.invariant-loop-later
invariant-loop-later l = after_first l.wanted l.rest ≡ after_first l.wanted l.bytes

abbrev pub decreases-loop-later : goal.decreases-loop-later
decreases-loop-later l = length l.rest
