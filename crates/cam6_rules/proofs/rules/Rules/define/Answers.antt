use Rattle.std.proofs.Common.{◌≡◌, ◌∙◌, List, None, Ok, ap, sym, subst, true, false}
use Rattle.cam6_model.specs.Effects.{with_rule}
use Rattle.cam6_model.specs.Rules.{Rule}
use Rattle.cam6_model.specs.Always.{AreRules}
use Rattle.cam6_model.specs.Memory.{keeps_definition}
use Rattle.cam6_model.specs.Refusals.{rule_refusal}
use Rattle.cam6_model.proofs.Staying.{rules_defined}
use Rattle.cam6_model.proofs.WantOfMemory.{definition_is_kept}
use Rattle.cam6_rules.specs.Filled.{AreTrue}
use Rattle.cam6_rules.specs.Numbers.{named_entries, AreNumbered}
use Rattle.cam6_rules.specs.Internal.Numbered.{rules_of}
use Rattle.cam6_rules.specs.Internal.Verdicts.{IsVerdict}
use Rattle.cam6_rules.proofs.Naming.{entries_with}
use Rattle.cam6_rules.proofs.StaysNumbered.{numbered_with, tables_with, put_as}
use Rattle.cam6_rules.proofs.rules.Rules.define.Goals as goal

-- what the trial of the text said
verdict : (c : goal.In_ok-put-in-Ok) → IsVerdict c.args.wiring c.args.text (Ok c.in-Ok.rule)
verdict c = subst (IsVerdict c.args.wiring c.args.text) c.in-Ok.is c.compile_rule.ensures.verdict

-- the rule that is put
abbrev new : (c : goal.In_ok-put-in-Ok) → Rule
new c = record { name = c.args.name; wiring = c.args.wiring; text = c.args.text }

-- the rules, among which it was put
put : (c : goal.In_ok-put-in-Ok) →
    rules_of c.put.new.rules.entries ≡ with_rule (new c) (rules_of c.self.inside.by_name.entries)
put c =
    put_as (rules_of c.self.inside.by_name.entries) (rules_of c.put.new.rules.entries) c.args.name
    c.args.text c.in-Ok.rule.text c.args.wiring c.in-Ok.rule.wiring (verdict c).1 (verdict c).2
    c.in_ok-put-in-Ok.ensures.ok

-- there is room for it
scratch : (c : goal.In_ok-put-in-Ok) →
    let rules = rules_of c.self.inside.by_name.entries in
    rule_refusal rules (named_entries rules c.args.cycle.now) c.args.name ≡ None
scratch c = sym c.in_default.ensures

pub invariant_of-self-in-Ok : goal.invariant_of-self-in-Ok
invariant_of-self-in-Ok c =
    let rules = rules_of c.self.inside.by_name.entries in
    subst AreRules (sym (put c))
    (rules_defined (new c) rules (named_entries rules c.args.cycle.now) c.self.invariant (scratch c)
    (verdict c).0 (verdict c).3)

pub returns-in_err-put-in-Ok-clause-memory : goal.returns-in_err-put-in-Ok-clause-memory
returns-in_err-put-in-Ok-clause-memory c = λ none same.
    let verdict = subst (IsVerdict c.args.wiring c.args.text) c.in-Ok.is c.compile_rule.ensures.verdict in
    let rules = rules_of c.self.inside.by_name.entries in
    let kept : keeps_definition c.args.self.now (named_entries c.args.self.now c.args.cycle.now)
    c.args.name c.args.wiring c.args.text ≡ true =
    ap (λ (l : List Rule). keeps_definition l (named_entries l c.args.cycle.now) c.args.name
    c.args.wiring c.args.text) (sym c.self.view_is) ∙
    definition_is_kept rules (named_entries rules c.args.cycle.now) c.args.name c.args.wiring
    c.args.text c.in_default.ensures verdict.0 in
    let never : true ≡ false = sym kept ∙ none in
    cc never

pub returns-in-Ok-clause-named : goal.returns-in-Ok-clause-named
returns-in-Ok-clause-named c = λ numbered.
    let rules = rules_of c.self.inside.by_name.entries in
    let cycle = c.args.cycle.now in
    ap (λ (l : List Rule). named_entries l cycle) (put c) ∙
    entries_with (new c) rules cycle
    (subst (λ (l : List Rule). AreNumbered l cycle) (sym c.self.view_is) numbered) ∙
    ap (λ (l : List Rule). named_entries l cycle) c.self.view_is

pub returns-in-Ok-clause-numbered : goal.returns-in-Ok-clause-numbered
returns-in-Ok-clause-numbered c = λ numbered.
    let rules = rules_of c.self.inside.by_name.entries in
    let cycle = c.args.cycle.now in
    subst (λ (l : List Rule). AreNumbered l cycle) (sym (put c))
    (numbered_with (new c) rules cycle c.self.invariant.own (scratch c)
    (subst (λ (l : List Rule). AreNumbered l cycle) (sym c.self.view_is) numbered))

pub returns-in-Ok-clause-tables : goal.returns-in-Ok-clause-tables
returns-in-Ok-clause-tables c = λ numbered are.
    let rules = rules_of c.self.inside.by_name.entries in
    let cycle = c.args.cycle.now in
    subst (λ tables. AreTrue tables (rules_of c.put.new.rules.entries) cycle)
    (sym c.compile_rule.ensures.scratch)
    (subst (λ (l : List Rule). AreTrue c.args.scratch.now l cycle) (sym (put c))
    (tables_with (new c) rules cycle c.args.scratch.now c.self.invariant.own (scratch c)
    (subst (λ (l : List Rule). AreNumbered l cycle) (sym c.self.view_is) numbered)
    (subst (λ (l : List Rule). AreTrue c.args.scratch.now l cycle) (sym c.self.view_is) are)))

pub returns-in-Ok-clause-text : goal.returns-in-Ok-clause-text
returns-in-Ok-clause-text c = (verdict c).3
