use Rattle.std.proofs.Common.{ap}
use Rattle.cam6_station.specs.Held.{is_loaded}
use Rattle.cam6_pool.proofs.Going.{free, failed, none_left}
use Rattle.cam6_pool.proofs.Serving.{accepts_back, accepts_lost_off}
use Rattle.cam6_pool.proofs.workers.preempt.Goals as goal

pub put_back-requires : goal.put_back-requires
put_back-requires g c =
    (accepts_back c.args.seat.now.holds c.args.station.now.at c.preempt.new.self.at _
    c.in-Back.queued c.requires.serves c.in-Back.ensures.gives).0

pub put_back-requires-in-Lost : goal.put_back-requires-in-Lost
put_back-requires-in-Lost g c =
    (accepts_lost_off c.args.seat.now.holds c.args.station.now.at c.preempt.new.self.at _
    c.in-Lost.queued c.requires.serves c.in-Lost.ensures.gives).0

pub returns-in-Back-clause-on : goal.returns-in-Back-clause-on
returns-in-Back-clause-on g c =
    free c.args.seat.now c.put_back.new.self c.args.station.now c.preempt.new.self c.put_back.ensures
    (accepts_back c.args.seat.now.holds c.args.station.now.at c.preempt.new.self.at _
    c.in-Back.queued c.requires.serves c.in-Back.ensures.gives).1 c.in-Back.ensures.faults

pub returns-in-Back-clause-less : goal.returns-in-Back-clause-less
returns-in-Back-clause-less g c =
    none_left c.args.station.now.at c.preempt.new.self.at c.requires.loaded
    (ap is_loaded (accepts_back c.args.seat.now.holds c.args.station.now.at c.preempt.new.self.at _
    c.in-Back.queued c.requires.serves c.in-Back.ensures.gives).1)

pub returns-in-Lost-clause-on : goal.returns-in-Lost-clause-on
returns-in-Lost-clause-on g c =
    failed c.args.seat.now c.put_back-in-Lost.new.self c.args.station.now c.preempt.new.self
    c.put_back-in-Lost.ensures
    (accepts_lost_off c.args.seat.now.holds c.args.station.now.at c.preempt.new.self.at _
    c.in-Lost.queued c.requires.serves c.in-Lost.ensures.gives).1 c.in-Lost.ensures.faults

pub returns-in-Lost-clause-less : goal.returns-in-Lost-clause-less
returns-in-Lost-clause-less g c =
    none_left c.args.station.now.at c.preempt.new.self.at c.requires.loaded
    (ap is_loaded (accepts_lost_off c.args.seat.now.holds c.args.station.now.at
    c.preempt.new.self.at _ c.in-Lost.queued c.requires.serves c.in-Lost.ensures.gives).1)
