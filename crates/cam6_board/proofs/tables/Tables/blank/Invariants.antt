use Rattle.std.proofs.Common.{◌≡◌, vec_len}
use Rattle.cam6_board.proofs.tables.Tables.blank.Given as goal

abbrev pub invariant-loop-use : goal.invariant-loop-use
invariant-loop-use l = vec_len l.by_use ≡ l._use
