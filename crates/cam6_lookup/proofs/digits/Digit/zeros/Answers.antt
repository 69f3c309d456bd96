use Rattle.std.proofs.Common.{refl}
use Rattle.cam6_lookup.specs.declared.digits.Digit.TheVariants.{One, Two, Four, Eight}
use Rattle.cam6_lookup.proofs.Positions.{zeros_at}
use Rattle.cam6_lookup.proofs.digits.Digit.zeros.Goals as goal

pub returns-in-One : goal.returns-in-One
returns-in-One c = λ p h. rw c.in-One.is (zeros_at One 0x5555555555555555 refl p h)

pub returns-in-Two : goal.returns-in-Two
returns-in-Two c = λ p h. rw c.in-Two.is (zeros_at Two 0x3333333333333333 refl p h)

pub returns-in-Four : goal.returns-in-Four
returns-in-Four c = λ p h. rw c.in-Four.is (zeros_at Four 0x0f0f0f0f0f0f0f0f refl p h)

pub returns-in-Eight : goal.returns-in-Eight
returns-in-Eight c = λ p h. rw c.in-Eight.is (zeros_at Eight 0x00ff00ff00ff00ff refl p h)
