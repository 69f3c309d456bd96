use Rattle.std.proofs.Common.{◌≡◌, replicate}
use Rattle.cam6_station.specs.Held.{idle}
use Rattle.cam6_core.proofs.start.idle_boards.Given as goal

abbrev pub invariant-loop-board : goal.invariant-loop-board
invariant-loop-board l = record {
  boards : l.boards ≡ l.fn.boards;
  idle : l.made.items ≡ replicate l._board idle;
}
