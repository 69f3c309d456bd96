use Rattle.std.proofs.Common.{◌≡◌, ◌<◌, ◌*◌, ℕ, length}
use Rattle.cam6_patterns.specs.Pattern.{most_cells}
use Rattle.cam6_patterns.specs.Header.{number_after}
use Rattle.cam6_patterns.specs.Outcome.{StandsFor}
use Rattle.cam6_patterns.proofs.headers.number_after.Given as goal

abbrev pub invariant-loop-byte : goal.invariant-loop-byte
invariant-loop-byte l = (n : ℕ) × (number_after n l.rest ≡ number_after l.first l.bytes)
    × StandsFor n l.number × (l.number < 3 * most_cells)

abbrev pub decreases-loop-byte : goal.decreases-loop-byte
decreases-loop-byte l = length l.rest
