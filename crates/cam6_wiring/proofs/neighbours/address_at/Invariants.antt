use Rattle.std.proofs.Common.{◌≡◌, ◌-◌, map, drop}
use Rattle.cam6_planes.specs.Side.{side_number}
use Rattle.cam6_planes.specs.Cells.{cells}
use Rattle.cam6_wiring.specs.Seen.{number_of, seen, line_shows}
use Rattle.cam6_wiring.proofs.neighbours.address_at.Given as goal

abbrev pub invariant-loop-line : goal.invariant-loop-line
invariant-loop-line l =
    l.address ≡ number_of
    (map (line_shows (λ name.
    seen (side_number l.planes.side) (cells l.planes) l.setting name l.x l.y))
    (drop (12 - l.line) l.names))
