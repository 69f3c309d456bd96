use Rattle.std.proofs.Common.{IfSome, sym, subst}
use Rattle.cam6_commands.specs.RuleTexts.{HasText}
use Rattle.cam6_wire.proofs.RuleTexts.{other_has_text}
use Rattle.cam6_wire.proofs.commands.command_by_word.Goals as goal

pub returns-in_default-clause-texts : goal.returns-in_default-clause-texts
returns-in_default-clause-texts c =
    subst (λ o. IfSome o HasText) (sym c.command_without_text.ensures) (other_has_text _ _ c.in_default.not-rule)
