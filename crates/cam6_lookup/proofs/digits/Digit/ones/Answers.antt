use Rattle.std.proofs.Common.{refl}
use Rattle.cam6_lookup.specs.declared.digits.Digit.TheVariants.{One, Two, Four, Eight}
use Rattle.cam6_lookup.proofs.Positions.{ones_at}
use Rattle.cam6_lookup.proofs.digits.Digit.ones.Goals as goal

pub returns-in-One : goal.returns-in-One
returns-in-One c = λ p h. rw c.in-One.is (ones_at One 0xaaaaaaaaaaaaaaaa refl p h)

pub returns-in-Two : goal.returns-in-Two
returns-in-Two c = λ p h. rw c.in-Two.is (ones_at Two 0xcccccccccccccccc refl p h)

pub returns-in-Four : goal.returns-in-Four
returns-in-Four c = λ p h. rw c.in-Four.is (ones_at Four 0xf0f0f0f0f0f0f0f0 refl p h)

pub returns-in-Eight : goal.returns-in-Eight
returns-in-Eight c = λ p h. rw c.in-Eight.is (ones_at Eight 0xff00ff00ff00ff00 refl p h)
