use Rattle.cam6_planes.specs.declared.sides.Side.TheVariants.{S128, S256, S512}
use Rattle.cam6_planes.proofs.SideTexts.{text_is_decimal}
use Rattle.cam6_planes.proofs.sides.Side.text.Goals as goal

pub returns-in-S128-clause-number : goal.returns-in-S128-clause-number
returns-in-S128-clause-number c = rw c.in-S128.is (text_is_decimal S128)

pub returns-in-S256-clause-number : goal.returns-in-S256-clause-number
returns-in-S256-clause-number c = rw c.in-S256.is (text_is_decimal S256)

pub returns-in-S512-clause-number : goal.returns-in-S512-clause-number
returns-in-S512-clause-number c = rw c.in-S512.is (text_is_decimal S512)
