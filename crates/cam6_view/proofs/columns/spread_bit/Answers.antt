use Rattle.std.proofs.Common.{◌∙◌, ap, ◌==◌}
use Rattle.std.proofs.lemmas.Nat.Bits.{shr_and_one}
use Rattle.cam6_view.proofs.columns.spread_bit.Goals as goal

pub returns : goal.returns
returns c = λ k h. c.word_of.ensures k h ∙ ap (λ n. n == 1) (shr_and_one c.args.mask c.args.state)
