use Rattle.std.proofs.Common.{◌≡◌, ◌<◌, ℕ, length, slice_index}
use Rattle.cam6_table.specs.Internal.Filling.{unfilled}
use Rattle.cam6_table.proofs.filling.mark_unfilled.Given as goal

-- no address so far has an entry
abbrev pub invariant-loop-address : goal.invariant-loop-address
invariant-loop-address l = record {
  all : length l.table ≡ 4096;
  unfilled : (a : ℕ) → a < l.address → slice_index l.table a ≡ unfilled;
}
