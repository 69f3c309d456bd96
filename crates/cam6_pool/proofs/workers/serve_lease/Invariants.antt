use Rattle.cam6_pool.specs.Internal.Served.{ServesOn, measure_of}
use Rattle.cam6_pool.proofs.workers.serve_lease.Given as goal

-- the station serves the seat
abbrev pub invariant-loop-stops : goal.invariant-loop-stops
invariant-loop-stops g l = record {
  on : ServesOn l.fn.seat l.fn.station l.seat l.station;
}

abbrev pub decreases-loop-stops : goal.decreases-loop-stops
decreases-loop-stops g l = measure_of l.station.at
