use Rattle.cam6_web_bridge.proofs.Steps.{goes_on}
use Rattle.cam6_web_bridge.proofs.carrying.carry.Goals as goal

pub loop-rounds-preserved : goal.loop-rounds-preserved
loop-rounds-preserved g c =
    goes_on _ _ _ _ _ _ _ _ _ _ _ c.loop-rounds-test.true c.loop-rounds.invariant c.in-Ok.ensures
