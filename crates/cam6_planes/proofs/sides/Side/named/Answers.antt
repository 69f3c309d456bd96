use Rattle.cam6_planes.specs.declared.sides.Side.TheVariants.{S128, S256, S512}
use Rattle.std.proofs.Common.{◌∙◌}
use Rattle.cam6_planes.proofs.SideTexts.{text_is_decimal}
use Rattle.cam6_planes.proofs.sides.Side.named.Goals as goal

pub returns-in-text-clause-number : goal.returns-in-text-clause-number
returns-in-text-clause-number c = c.in-text.is ∙ text_is_decimal S128

pub returns-in-text-2-clause-number : goal.returns-in-text-2-clause-number
returns-in-text-2-clause-number c = c.in-text-2.is ∙ text_is_decimal S256

pub returns-in-text-3-clause-number : goal.returns-in-text-3-clause-number
returns-in-text-3-clause-number c = c.in-text-3.is ∙ text_is_decimal S512
