use Rattle.cam6_block.specs.BlockMaps.{by_table, block_map}
use Rattle.cam6_block.proofs.Search.{IsKept}
use Rattle.cam6_block.proofs.refusals.find_meeting.Given as goal

abbrev pub invariant-loop-state : goal.invariant-loop-state
invariant-loop-state l =
    IsKept (block_map (by_table l.hood l.minor l.table) l.phase) l.state l.state_of_successor
