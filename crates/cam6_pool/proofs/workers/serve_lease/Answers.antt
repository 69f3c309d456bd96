use Rattle.std.proofs.Common.{rules}
use Rattle.cam6_pool.proofs.Going.{accepts_home, emptied_then, is_loaded_then, loads, on_and_on}
use Rattle.cam6_pool.proofs.workers.serve_lease.Goals as goal

pub put_back-requires : goal.put_back-requires
put_back-requires g c =
    accepts_home c.args.seat.now.holds _ c.in-Err.queued c.requires.seat c.in-Err.ensures.back

pub loop-stops-init : goal.loop-stops-init
loop-stops-init g c = record {
  on = loads c.args.seat.now c.args.station.now c.load.new.self _ _ c.in_default.ensures.ok
      c.requires.seat c.in_default.ensures.faults;
}

pub loop-stops-preserved : goal.loop-stops-preserved
loop-stops-preserved g c =
    let next = on_and_on c.args.seat.now c.loop-stops.seat c.follow_gate-stops.new.seat c.args.station.now
    c.loop-stops.station c.follow_gate-stops.new.station c.loop-stops.invariant.on in
    record { on = search rules }

pub follow_gate-stops-requires-clause-loaded : goal.follow_gate-stops-requires-clause-loaded
follow_gate-stops-requires-clause-loaded g c =
    let loaded = is_loaded_then c.loop-stops.station.at in
    search rules

pub returns-clause-seat : goal.returns-clause-seat
returns-clause-seat g c =
    let empty = emptied_then c.args.seat.now c.loop-stops.seat c.args.station.now c.loop-stops.station
    c.loop-stops.invariant.on in
    search rules
