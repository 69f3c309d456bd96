use Rattle.std.proofs.Common.{◌<◌, ℕ, IsTrue, slice_index}
use Rattle.cam6_table.specs.Internal.LaneValues.{Fits}
use Rattle.cam6_table.specs.Internal.Sets.{IsIn}
use Rattle.cam6_table.proofs.lane_values.Merge.fits_in.Given as goal

abbrev pub invariant-loop-lane : goal.invariant-loop-lane
invariant-loop-lane l = IsTrue l.fits → (k : ℕ) → k < l.lane → IsIn l.set.mask k →
    Fits l.self (slice_index l.a k) (slice_index l.b k)
