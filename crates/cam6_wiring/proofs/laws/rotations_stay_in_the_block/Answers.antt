use Rattle.cam6_wiring.proofs.Rotating.{rotations}
use Rattle.cam6_wiring.proofs.laws.rotations_stay_in_the_block.Goals as goal

pub returns : goal.returns
returns c = record { law = λ k f grid rotation p x y some. rotations k f grid p x y some rotation }
