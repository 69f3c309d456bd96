use Rattle.std.proofs.Common.{◌≡◌, ◌+◌, ◌*◌}
use Rattle.cam6_block.specs.BlockMaps.{by_table}
use Rattle.cam6_block.proofs.Filled.{IsFilledTo}
use Rattle.cam6_block.proofs.Phases.{phase_of}
use Rattle.cam6_block.proofs.inverses.fill_shown.Given as goal

abbrev pub invariant-loop-phase : goal.invariant-loop-phase
invariant-loop-phase l =
    IsFilledTo (by_table l.hood l.minor l.table) l.hood l.minor (1024 * l.phase-index) l.out

abbrev pub invariant-loop-state : goal.invariant-loop-state
invariant-loop-state l = record {
  phase_is : l.phase ≡ phase_of l.phase-index;
  filled : IsFilledTo (by_table l.hood l.minor l.table) l.hood l.minor
      (1024 * l.phase-index + 4 * l.state) l.out;
}

abbrev pub invariant-loop-corner : goal.invariant-loop-corner
invariant-loop-corner l = record {
  phase_is : l.phase ≡ phase_of l.phase-index;
  filled : IsFilledTo (by_table l.hood l.minor l.table) l.hood l.minor
      (1024 * l.phase-index + 4 * l.state + l.corner) l.out;
}
