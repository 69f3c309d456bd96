use Rattle.std.proofs.Common.{refl, ap}
use Rattle.cam6_station.specs.Held.{is_loaded}
use Rattle.cam6_pool.proofs.Going.{goes_on, free, failed, more_rises, none_left, fewer_left}
use Rattle.cam6_pool.proofs.Serving.{serves_after, accepts_done, accepts_lost}
use Rattle.cam6_pool.proofs.workers.follow_gate.Goals as goal

pub put_done-requires : goal.put_done-requires
put_done-requires g c =
    (accepts_done c.args.seat.now.holds c.args.station.now.at c.band.new.self.at _ c.in-Last.finished
    c.requires.serves c.in-Last.ensures.gives).0

pub put_back-requires : goal.put_back-requires
put_back-requires g c =
    (accepts_lost c.args.seat.now.holds c.args.station.now.at c.band.new.self.at _ c.in-Lost.queued
    c.requires.serves c.in-Lost.ensures.gives).0

pub returns-in-More-clause-on : goal.returns-in-More-clause-on
returns-in-More-clause-on g c =
    let b = c.args.seat.now in
    let s = c.args.station.now in
    let after = c.band.new.self in
    goes_on b b s after refl
    (serves_after b.holds s.at after.at _ c.requires.serves c.in-More.ensures.gives)
    (more_rises s.at after.at _ s.faults after.faults c.in-More.ensures.gives
    c.in-More.ensures.faults)

pub returns-in-More-clause-less : goal.returns-in-More-clause-less
returns-in-More-clause-less g c =
    fewer_left c.args.station.now.at c.band.new.self.at _ c.in-More.ensures.gives

pub returns-in-Last-clause-on : goal.returns-in-Last-clause-on
returns-in-Last-clause-on g c =
    free c.args.seat.now c.put_done.new.self c.args.station.now c.band.new.self c.put_done.ensures
    (accepts_done c.args.seat.now.holds c.args.station.now.at c.band.new.self.at _ c.in-Last.finished
    c.requires.serves c.in-Last.ensures.gives).1 c.in-Last.ensures.faults

pub returns-in-Last-clause-less : goal.returns-in-Last-clause-less
returns-in-Last-clause-less g c =
    none_left c.args.station.now.at c.band.new.self.at c.requires.loaded
    (ap is_loaded (accepts_done c.args.seat.now.holds c.args.station.now.at c.band.new.self.at _
    c.in-Last.finished c.requires.serves c.in-Last.ensures.gives).1)

pub returns-in-Lost-clause-on : goal.returns-in-Lost-clause-on
returns-in-Lost-clause-on g c =
    failed c.args.seat.now c.put_back.new.self c.args.station.now c.band.new.self c.put_back.ensures
    (accepts_lost c.args.seat.now.holds c.args.station.now.at c.band.new.self.at _ c.in-Lost.queued
    c.requires.serves c.in-Lost.ensures.gives).1 c.in-Lost.ensures.faults

pub returns-in-Lost-clause-less : goal.returns-in-Lost-clause-less
returns-in-Lost-clause-less g c =
    none_left c.args.station.now.at c.band.new.self.at c.requires.loaded
    (ap is_loaded (accepts_lost c.args.seat.now.holds c.args.station.now.at c.band.new.self.at _
    c.in-Lost.queued c.requires.serves c.in-Lost.ensures.gives).1)
