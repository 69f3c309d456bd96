use Rattle.std.proofs.Common.{◌≡◌, ◌∙◌, sym, arith, length, true, false}
use Rattle.std.proofs.lemmas.Bool.{le-leb, lt-leb}
use Rattle.std.proofs.lemmas.List.{length-map}
use Rattle.cam6_commands.specs.Limits.{max_rules}
use Rattle.cam6_rules.specs.Numbers.{named_entries}
use Rattle.cam6_rules.specs.Internal.Numbered.{rules_of}
use Rattle.cam6_rules.proofs.Naming.{refused_numbered, refused_new}
use Rattle.cam6_rules.proofs.refusals.accept_rule.Goals as goal

pub returns-in-Some : goal.returns-in-Some
returns-in-Some c =
    let rules = rules_of c.args.rules.now.entries in
    refused_numbered rules c.args.cycle.now c.args.name.now c.in-Some.number true c.requires.names
    c.if-not-is_rule_name.ensures (sym c.rule_number.ensures ∙ c.in-Some.is) c.if-is_used.ensures

pub returns-in-Some-2 : goal.returns-in-Some-2
returns-in-Some-2 c =
    let rules = rules_of c.args.rules.now.entries in
    refused_numbered rules c.args.cycle.now c.args.name.now c.in-Some.number false c.requires.names
    c.if-not-is_rule_name.ensures (sym c.rule_number.ensures ∙ c.in-Some.is) c.if-is_used.ensures

pub returns-in-None : goal.returns-in-None
returns-in-None c =
    let rules = rules_of c.args.rules.now.entries in
    let all : length rules ≡ c.len.result =
    length-map c.args.rules.now.entries _ ∙ sym c.len.ensures.len in
    refused_new rules (named_entries rules c.args.cycle.now) c.args.name.now true
    c.if-not-is_rule_name.ensures (sym c.rule_number.ensures ∙ c.in-None.is)
    (sym (le-leb max_rules (length rules) (omega (arith, all, c.if-len-ge-MAX_RULES.true))))

pub returns-in-None-2 : goal.returns-in-None-2
returns-in-None-2 c =
    let rules = rules_of c.args.rules.now.entries in
    let all : length rules ≡ c.len.result =
    length-map c.args.rules.now.entries _ ∙ sym c.len.ensures.len in
    refused_new rules (named_entries rules c.args.cycle.now) c.args.name.now false
    c.if-not-is_rule_name.ensures (sym c.rule_number.ensures ∙ c.in-None.is)
    (sym (lt-leb max_rules (length rules) (omega (arith, all, c.if-len-ge-MAX_RULES.false))))
