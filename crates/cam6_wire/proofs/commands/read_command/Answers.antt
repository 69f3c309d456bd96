use Rattle.std.proofs.Common.{IfOk, sym, subst}
use Rattle.cam6_commands.specs.RuleTexts.{HasText}
use Rattle.cam6_wire.proofs.Saying.{not_empty}
use Rattle.cam6_wire.proofs.RuleTexts.{value_has_text}
use Rattle.cam6_wire.proofs.commands.read_command.Goals as goal

pub returns-in_err-command_in-clause-memory : goal.returns-in_err-command_in-clause-memory
returns-in_err-command_in-clause-memory c = λ wanted. (
  not_empty c.args.line.now _ c.in_ok-value.ensures.value.1,
  c.in_ok-value.ensures.value.0,
)

pub returns-in_err-is_spelled-clause-memory : goal.returns-in_err-is_spelled-clause-memory
returns-in_err-is_spelled-clause-memory c = λ wanted. (
  not_empty c.args.line.now _ c.in_ok-value.ensures.value.1,
  c.in_ok-value.ensures.value.0,
)

pub returns-clause-texts : goal.returns-clause-texts
returns-clause-texts c =
    subst (λ r. IfOk r HasText) (sym c.in_ok-command.ensures.value)
    (value_has_text c.args.line.now _ _ c.in_ok-value.ensures.value.0
    c.in_ok-value.ensures.value.1 c.in_ok-command_in.ensures)
