use Rattle.cam6_table.proofs.waiting.LaneQueue.put_between.Given as goal

abbrev pub decreases-loop-at : goal.decreases-loop-at
decreases-loop-at l = l.at
