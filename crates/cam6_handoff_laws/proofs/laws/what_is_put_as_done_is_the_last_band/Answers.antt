use Rattle.cam6_handoff_laws.proofs.Boards.{done_is_last_band}
use Rattle.cam6_handoff_laws.proofs.laws.what_is_put_as_done_is_the_last_band.Goals as goal

pub returns : goal.returns
returns c = record { law = λ a p b home taken f step before after found has seat says at tells done. done_is_last_band a p b taken step before after found has says at home f seat tells done }
