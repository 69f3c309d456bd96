use Rattle.std.proofs.Common.{◌≡◌, take, vec_len}
use Rattle.cam6_cycle.specs.Limits.{max_tables}
use Rattle.cam6_board.proofs.tables.Tables.copy_from.Given as goal

abbrev pub invariant-loop-place : goal.invariant-loop-place
invariant-loop-place l = record {
  scratch : vec_len l.self-inside.by_use ≡ max_tables;
  copied : take l.place l.self-inside.by_use.items ≡ take l.place l.other-inside.by_use.items;
}
