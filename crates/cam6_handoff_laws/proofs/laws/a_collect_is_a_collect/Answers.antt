use Rattle.cam6_handoff_laws.proofs.Desks.{collect_is_collect}
use Rattle.cam6_handoff_laws.proofs.laws.a_collect_is_a_collect.Goals as goal

pub returns : goal.returns
returns c = record { law = collect_is_collect }
