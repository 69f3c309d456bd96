use Rattle.cam6_session.proofs.Telling.{fault_told_by_core}
use Rattle.cam6_session.proofs.replays.respond_fault.Goals as goal

pub returns : goal.returns
returns g c l s said taken =
    fault_told_by_core _ l _ _ c.args.fault s c.tell_fault.ensures said taken
