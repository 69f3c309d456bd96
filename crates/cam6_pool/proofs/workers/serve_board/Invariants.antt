use Rattle.std.proofs.Common.{◌≡◌, ◌≤◌}
use Rattle.cam6_handoff.specs.Holding.{IsIdle}
use Rattle.cam6_station.specs.Held.{idle}
use Rattle.cam6_pool.proofs.workers.serve_board.Given as goal

-- between two leases the seat holds none, and the board no job
abbrev pub invariant-loop : goal.invariant-loop
invariant-loop g l = record {
  rests : IsIdle l.round.seat;
  number : l.round.seat.number ≡ l.initial.round.seat.number;
  users : l.round.seat.users ≡ l.initial.round.seat.users;
  station : l.station.at ≡ idle;
  count : g.B.Board.fault_count l.fn.board ≤ l.station.faults;
}
