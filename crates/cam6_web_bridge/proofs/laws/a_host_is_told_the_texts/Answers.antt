use Rattle.cam6_web_bridge.proofs.Telling.{said, told}
use Rattle.cam6_web_bridge.proofs.laws.a_host_is_told_the_texts.Goals as goal

pub returns : goal.returns
returns g c = record {
  law = λ s t h k heard bridges. (told _ s t h k heard bridges, said _ s t h k heard bridges);
}
