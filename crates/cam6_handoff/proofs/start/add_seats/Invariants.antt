use Rattle.std.proofs.Common.{◌≡◌, []}
use Rattle.cam6_handoff.specs.Boot.{AreIdleSeats}
use Rattle.cam6_handoff.specs.declared.rule.View.TheVariants.{First}
use Rattle.cam6_handoff.proofs.start.add_seats.Given as goal

abbrev pub invariant-loop-board : goal.invariant-loop-board
invariant-loop-board l = record {
  same : l.first.table_id ≡ l.initial.first.table_id;
  next : l.first.me ≡ (First l.users l.board, []);
  users : l.users ≡ l.fn.users;
  made : AreIdleSeats l.board l.users l.seats.items;
}
