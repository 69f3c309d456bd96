use Rattle.cam6_session.proofs.Telling.{fault_told_by_machine}
use Rattle.cam6_session.proofs.answerers.respond_fault.Goals as goal

pub returns : goal.returns
returns g c l m said taken =
    fault_told_by_machine _ l _ _ c.args.fault m c.tell_fault.ensures said taken
