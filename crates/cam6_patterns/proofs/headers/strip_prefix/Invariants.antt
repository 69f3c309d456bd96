use Rattle.std.proofs.Common.{◌≡◌, length}
use Rattle.cam6_patterns.specs.Header.{strip_prefix}
use Rattle.cam6_patterns.proofs.headers.strip_prefix.Given as goal

abbrev pub invariant-loop-want : goal.invariant-loop-want
invariant-loop-want l = strip_prefix l.wanted l.rest ≡ strip_prefix l.first l.bytes

abbrev pub decreases-loop-want : goal.decreases-loop-want
decreases-loop-want l = length l.wanted
