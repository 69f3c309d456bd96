use Rattle.std.proofs.Common.{slice_index, arith}
use Rattle.cam6_table.proofs.TakenAlong.{untouched_left}
use Rattle.cam6_table.proofs.together.go_straight.Goals as goal

pub returns-clause-left : goal.returns-clause-left
returns-clause-left c = λ places left.
    let run = c.run_straight-flow in
    let within = left.within in
    record {
      within = omega arith;
      holds = run.ensures.holds;
      floors = run.ensures.floors;
      each = left.each;
      inside = λ lane below inside.
          run.ensures.left.inside lane below inside (left.inside lane below inside);
      outside = λ lane below outside.
          untouched_left (slice_index c.args.addresses.now lane) c.args.code.now _ _ c.args.lanes.now
          run.new.lanes lane (run.ensures.left.outside lane below outside)
          (left.outside lane below outside);
    }
