use Rattle.cam6_lookup.proofs.Lanes.{lane_first, lane_second, lane_third, lane_fourth}
use Rattle.cam6_lookup.proofs.look_up.in_lanes.Goals as goal

pub returns-clause-first : goal.returns-clause-first
returns-clause-first c = λ r h.
    rw (c.from.ensures, c.from-2.ensures, c.from-3.ensures, c.from-4.ensures)
    (lane_first c.args.a c.args.b c.args.c c.args.d c.ranges.a.fits c.ranges.b.fits
    c.ranges.c.fits r h)

pub returns-clause-second : goal.returns-clause-second
returns-clause-second c = λ r h.
    rw (c.from.ensures, c.from-2.ensures, c.from-3.ensures, c.from-4.ensures)
    (lane_second c.args.a c.args.b c.args.c c.args.d c.ranges.a.fits c.ranges.b.fits
    c.ranges.c.fits r h)

pub returns-clause-third : goal.returns-clause-third
returns-clause-third c = λ r h.
    rw (c.from.ensures, c.from-2.ensures, c.from-3.ensures, c.from-4.ensures)
    (lane_third c.args.a c.args.b c.args.c c.args.d c.ranges.a.fits c.ranges.b.fits
    c.ranges.c.fits r h)

pub returns-clause-fourth : goal.returns-clause-fourth
returns-clause-fourth c = λ r h.
    rw (c.from.ensures, c.from-2.ensures, c.from-3.ensures, c.from-4.ensures)
    (lane_fourth c.args.a c.args.b c.args.c c.args.d c.ranges.a.fits c.ranges.b.fits
    c.ranges.c.fits r h)
