use Rattle.std.proofs.Common.{◌∙◌, ◌+◌, refl, sym, subst}
use Rattle.cam6_handoff.specs.Boot.{AreIdleSeats}
use Rattle.cam6_handoff.proofs.Counting.{one_more_seat}
use Rattle.cam6_handoff.proofs.start.add_seats.Goals as goal

pub loop-board-preserved : goal.loop-board-preserved
loop-board-preserved c =
    let b = c.loop-board.board in
    let users = c.args.users in
    record {
      same = c.in_ok-seat.ensures.of ∙ c.loop-board.invariant.same;
      next = c.in_ok-seat.ensures.next;
      users = refl;
      made = subst (AreIdleSeats (b + 1) users) (sym c.in_ok-push.ensures.items)
          (one_more_seat b users c.loop-board.seats.items _
          c.loop-board.invariant.made c.in_ok-seat.ensures.seat);
    }
