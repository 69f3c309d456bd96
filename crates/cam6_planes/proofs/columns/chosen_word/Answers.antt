use Rattle.cam6_planes.proofs.ChosenWords.{chosen_column}
use Rattle.cam6_planes.proofs.columns.chosen_word.Goals as goal

pub returns : goal.returns
returns c = λ k h. chosen_column c.args.mask c.args.unset c.args.set k c.ranges.mask.fits h
