use Rattle.cam6_table.specs.Codes.{last_of}
use Rattle.cam6_table.specs.Internal.LinesRead.{IsMaskFor}
use Rattle.cam6_table.proofs.lines_read.lines_read.Given as goal

-- the mask has the lines of the instructions so far, which are the last of the code
abbrev pub invariant-loop-remaining : goal.invariant-loop-remaining
invariant-loop-remaining l = IsMaskFor l.mask (last_of l.remaining l.instructions)
