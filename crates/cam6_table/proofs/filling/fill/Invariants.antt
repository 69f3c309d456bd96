use Rattle.std.proofs.Common.{◌≡◌, ◌<◌, ℕ, length, bit_and}
use Rattle.cam6_table.specs.Codes.{result_at}
use Rattle.cam6_table.specs.Internal.Filling.{IsRight}
use Rattle.cam6_table.proofs.filling.fill.Given as goal

-- the entries before an address are right, and all those that the others are copies of
abbrev pub invariant-loop-address : goal.invariant-loop-address
invariant-loop-address l = record {
  all : length l.table ≡ 4096;
  kept : (a : ℕ) → a < 4096 → bit_and a l.mask ≡ a → IsRight (result_at l.code) l.table a;
  filled : (a : ℕ) → a < l.address → IsRight (result_at l.code) l.table a;
}
