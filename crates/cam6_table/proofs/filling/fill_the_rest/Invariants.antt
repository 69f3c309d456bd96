use Rattle.std.proofs.Common.{◌≡◌, ◌≤◌, ◌<◌, ◌-◌, ℕ, length, bit_and}
use Rattle.cam6_table.specs.Codes.{result_at}
use Rattle.cam6_table.specs.Internal.Filling.{IsRight, AreRightIfFilled}
use Rattle.cam6_table.proofs.filling.fill_the_rest.Given as goal

-- the entries before an address, where nothing but lines of the mask is shown, are right, and so is
-- each that is filled
abbrev pub invariant-loop-from : goal.invariant-loop-from
invariant-loop-from l = record {
  all : length l.table ≡ 4096;
  within : l.from ≤ 4096;
  after : AreRightIfFilled (result_at l.code) l.table;
  filled : (a : ℕ) → a < l.from → bit_and a l.mask ≡ a → IsRight (result_at l.code) l.table a;
}

abbrev pub decreases-loop-from : goal.decreases-loop-from
decreases-loop-from l = 4096 - l.from
