use Rattle.std.proofs.Common.{◌∙◌}
use Rattle.cam6_table.proofs.LastCode.{popped_last, never_without, made_of, last-length, last-is_code}
use Rattle.cam6_table.proofs.Needs.{rule_has}
use Rattle.cam6_table.proofs.codes.Code.of.Goals as goal

pub codes_of-requires : goal.codes_of-requires
codes_of-requires c =
    rule_has c.args.rule.now c.wiring.result c.definitions.result.now c.wiring.ensures
    c.definitions.ensures.definitions c.definitions.ensures.tree

pub unreachable-requires : goal.unreachable-requires
unreachable-requires c =
    let codes = c.in_ok-codes.codes in
    let made = made_of c.args.rule.now c.wiring.result c.definitions.result.now codes.items
    c.wiring.ensures c.definitions.ensures.definitions c.in_ok-codes.ensures in
    never_without c.args.rule.now codes.items c.pop.result codes.len made
    c.definitions.ensures.tree codes.ok.0 c.pop.ensures.value c.in-None.is

pub new-requires : goal.new-requires
new-requires c =
    let codes = c.in_ok-codes.codes in
    let made = made_of c.args.rule.now c.wiring.result c.definitions.result.now codes.items
    c.wiring.ensures c.definitions.ensures.definitions c.in_ok-codes.ensures in
    last-length c.args.rule.now codes.items c.in-Some.last made (
    popped_last codes.items c.pop.result c.in-Some.last _ _ codes.ok.0 c.pop.ensures.cases
    c.pop.ensures.value c.in-Some.is
    ) c.definitions.ensures.tree

pub returns-clause-meaning : goal.returns-clause-meaning
returns-clause-meaning c =
    let codes = c.in_ok-codes.codes in
    let made = made_of c.args.rule.now c.wiring.result c.definitions.result.now codes.items
    c.wiring.ensures c.definitions.ensures.definitions c.in_ok-codes.ensures in
    last-is_code c.args.rule.now codes.items c.new.result made (
    c.new.ensures
    ∙ popped_last codes.items c.pop.result c.in-Some.last _ _ codes.ok.0 c.pop.ensures.cases
    c.pop.ensures.value c.in-Some.is
    )
