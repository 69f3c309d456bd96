use Rattle.std.proofs.Common.{◌≡◌, length}
use Rattle.cam6_table.specs.Codes.{result_at}
use Rattle.cam6_table.specs.Internal.Filling.{AreRightIfFilled}
use Rattle.cam6_table.proofs.filling.fill_in_groups.Given as goal

-- each entry that is filled is right
abbrev pub invariant-loop-group : goal.invariant-loop-group
invariant-loop-group l = record {
  all : length l.table ≡ 4096;
  after : AreRightIfFilled (result_at l.code) l.table;
}
