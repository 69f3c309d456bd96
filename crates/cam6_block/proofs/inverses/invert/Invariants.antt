use Rattle.std.proofs.Common.{◌<◌}
use Rattle.cam6_wiring.specs.Name.{phase_number}
use Rattle.cam6_wiring.specs.declared.names.Phase.{Phase}
use Rattle.cam6_block.specs.BlockMaps.{by_table, block_map, IsOneToOne}
use Rattle.cam6_block.proofs.inverses.invert.Given as goal

-- no two block states meet at a phase before
abbrev pub invariant-loop-phase : goal.invariant-loop-phase
invariant-loop-phase l =
    (before : Phase) → phase_number before < l.phase-index →
    IsOneToOne (block_map (by_table l.hood l.minor l.table) before)
