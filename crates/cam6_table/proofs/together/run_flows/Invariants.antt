use Rattle.cam6_table.specs.Internal.Lanes.{AreLeftWith}
use Rattle.cam6_table.proofs.together.run_flows.Given as goal

-- in each lane there is left to do what there was
abbrev pub invariant-loop : goal.invariant-loop
invariant-loop l = AreLeftWith l.addresses l.code l.flow l.places l.lanes
