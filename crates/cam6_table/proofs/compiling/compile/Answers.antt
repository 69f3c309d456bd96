use Rattle.cam6_forth.proofs.SomethingKept.{accepted_is_kept}
use Rattle.cam6_table.specs.RuleTexts.{IsCodeFor, IsTableOf}
use Rattle.cam6_table.proofs.FaultsOfTexts.{nothing_wrong, its_stop}
use Rattle.cam6_table.proofs.RuleTexts.{filled_is_of_the_text}
use Rattle.cam6_table.proofs.compiling.compile.Goals as goal

-- code that filled the trial is the text's, and the trial its table
tried : (c : goal.After-drop-rule-inside-in-Ok-fill) →
    IsCodeFor c.args.wiring c.args.text.now c.in_ok-code.code
    × IsTableOf c.args.wiring c.args.text.now c.fill.new.table
tried c =
    let made = c.in-Ok-fill.ensures in
    filled_is_of_the_text c.args.wiring c.args.text.now c.in-Ok.rule c.in_ok-code.code
    c.fill.new.table c.in-Ok.ensures.accepted c.in_ok-code.ensures.meaning made.whole made.filled

pub returns-in-Ok-fill-clause-code : goal.returns-in-Ok-fill-clause-code
returns-in-Ok-fill-clause-code c = (tried c).0

pub returns-in-Ok-fill-clause-table : goal.returns-in-Ok-fill-clause-table
returns-in-Ok-fill-clause-table c = (tried c).1

pub returns-in-Ok-fill-clause-refused : goal.returns-in-Ok-fill-clause-refused
returns-in-Ok-fill-clause-refused c =
    nothing_wrong c.args.wiring c.args.text.now c.in-Ok.rule c.in_ok-code.code
    c.in-Ok.ensures.accepted c.in-Ok.ensures.exact c.in_ok-code.ensures.meaning (tried c).0

pub returns-clause-refused : goal.returns-clause-refused
returns-clause-refused c =
    its_stop c.args.wiring c.args.text.now c.in-Ok.rule c.in_ok-code.code
    c.in-Ok.ensures.accepted c.in-Ok.ensures.exact c.in_ok-code.ensures.meaning
    c.in-Err.address c.in-Err.fault c.in-Err.ensures.fault

pub returns-in_err-code-clause-unkept : goal.returns-in_err-code-clause-unkept
returns-in_err-code-clause-unkept c = λ unkept refused.
    let kept = accepted_is_kept c.args.wiring c.args.text.now c.in-Ok.rule.definitions
    c.in-Ok.ensures.exact.0 in
    cc (kept, unkept)
