use Rattle.std.proofs.Common.{◌≡◌, drop}
use Rattle.std.specs.List.{position_from}
use Rattle.cam6_wiring.specs.Wiring.{is_at, names_of}
use Rattle.cam6_wiring.proofs.wirings.line_of.Given as goal

abbrev pub invariant-loop-line : goal.invariant-loop-line
invariant-loop-line l =
    position_from (is_at l.name) l.line (drop l.line l.known-items)
    ≡ position_from (is_at l.name) 0 (names_of l.fn.hood l.fn.minor)
