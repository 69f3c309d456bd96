use Rattle.std.proofs.Common.{◌∙◌, ap, arith, length, sym}
use Rattle.cam6_model.specs.Refusals.{or_then, some_cycle}
use Rattle.cam6_rules.specs.Numbers.{entries_of, named_entries}
use Rattle.cam6_machine.proofs.Keeping.{some_named}
use Rattle.cam6_machine.proofs.refusals.accept_run.Goals as goal

pub returns-in-Some-clause-refusal : goal.returns-in-Some-clause-refusal
returns-in-Some-clause-refusal c = λ rules.
    let entries = entries_of c.args.cycle.now in
    let there = c.entries-entries.ensures in
    let some = some_named rules entries
    (omega (arith, there.some, ap length there.entries, ap length (ap entries_of c.in-Some.is))) in
    sym some ∙
    ap (λ o. or_then o (some_cycle (named_entries rules entries))) c.in_ok-steps.ensures.refusal
