use Rattle.cam6_table.specs.Internal.Lanes.{AreLeftWith}
use Rattle.cam6_table.proofs.together.run_flow.Given as goal

-- in each lane there is left to do what there was
abbrev pub invariant-loop-flow : goal.invariant-loop-flow
invariant-loop-flow l = AreLeftWith l.addresses l.code l.flow l.places l.lanes

abbrev pub decreases-loop-flow : goal.decreases-loop-flow
decreases-loop-flow l = l.flow.remaining
