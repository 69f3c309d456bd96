use Rattle.std.proofs.Common.{◌≡◌, ◌<◌, ℕ, length, slice_index}
use Rattle.cam6_table.specs.Codes.{result_at}
use Rattle.cam6_table.specs.Internal.Lanes.{AreLeft}
use Rattle.cam6_table.specs.Internal.Filling.{IsRight, AreRightIfFilled}
use Rattle.cam6_table.proofs.filling.fill_lanes.Given as goal

-- the entries at the addresses of the lanes so far are right, and those that were so still are
abbrev pub invariant-loop-lane : goal.invariant-loop-lane
invariant-loop-lane l = record {
  all : length l.table ≡ 4096;
  left : AreLeft l.at l.code l.scratch.places l.scratch.lanes;
  after : AreRightIfFilled (result_at l.code) l.table;
  kept : (a : ℕ) → a < 4096 → IsRight (result_at l.code) l.fn.table a →
      IsRight (result_at l.code) l.table a;
  filled : (k : ℕ) → k < l.lane →
      IsRight (result_at l.code) l.table (slice_index l.at k);
}
