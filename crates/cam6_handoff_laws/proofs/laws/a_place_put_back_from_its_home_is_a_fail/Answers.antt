use Rattle.cam6_handoff_laws.proofs.Boards.{back_from_home_is_fail}
use Rattle.cam6_handoff_laws.proofs.laws.a_place_put_back_from_its_home_is_a_fail.Goals as goal

pub returns : goal.returns
returns c = record { law = λ a p b left home taken q step before after found has seat says at tells stands from. back_from_home_is_fail a p b taken step before after found has says at left home q seat tells stands from }
