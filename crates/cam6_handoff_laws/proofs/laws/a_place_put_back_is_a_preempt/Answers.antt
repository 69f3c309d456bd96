use Rattle.cam6_handoff_laws.proofs.Boards.{back_is_preempt}
use Rattle.cam6_handoff_laws.proofs.laws.a_place_put_back_is_a_preempt.Goals as goal

pub returns : goal.returns
returns c = record { law = λ a p b left home taken q step before after found has seat says at tells stands off. back_is_preempt a p b taken step before after found has says at left home q seat tells stands off }
