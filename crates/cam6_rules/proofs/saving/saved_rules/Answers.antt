use Rattle.std.proofs.Common.{◌≡◌, ◌∙◌, ◌+◌, ◌++◌, ◌∷◌, [], List, ℕ, take, sym, ap, suc, arith}
use Rattle.std.proofs.Math.Seq.{take-suc}
use Rattle.std.proofs.lemmas.Option.{get_or_from_slice_get, slice_get_within}
use Rattle.cam6_model.specs.Rules.{Rule}
use Rattle.cam6_rules.specs.Internal.Numbered.{rules_of}
use Rattle.cam6_rules.proofs.CompiledRules.{listed, rule_found}
use Rattle.cam6_rules.proofs.saving.saved_rules.Goals as goal

pub loop-number-preserved : goal.loop-number-preserved
loop-number-preserved c =
    let rules = rules_of c.args.rules.now.entries in
    let n : ℕ = c.loop-number.number in
    let rule = listed (c.in-Some.name.now, c.in-Some.rule.now) in
    let here = rule_found c.args.rules.now.entries n (c.in-Some.name.now, c.in-Some.rule.now)
    c.in-Some.ensures.entry in
    let more : suc n ≡ n + 1 = omega arith in
    let new : Rule = record {
      name = c.new.result;
      wiring = c.wiring.result;
      text = c.new-in-loop-number.result;
    } in
    let name = c.new.ensures ∙ c.in_ok-from_str.ensures.ok ∙ c.as_str.ensures.value in
    let text = c.new-in-loop-number.ensures ∙ c.in_ok-from_str-2.ensures.ok ∙
    c.as_str-in-loop-number.ensures.text ∙ c.text.ensures in
    let same : new ≡ rule =
    ap {B = Rule} (λ t. record {
      name = t;
      wiring = c.wiring.result;
      text = c.new-in-loop-number.result;
    }) name ∙
    ap {B = Rule} (λ w. record { name = rule.name; wiring = w; text = c.new-in-loop-number.result })
    c.wiring.ensures ∙
    ap {B = Rule} (λ t. record { name = rule.name; wiring = rule.wiring; text = t }) text in
    c.in_ok-push.ensures.items ∙
    ap (λ (l : List Rule). l ++ new ∷ []) c.loop-number.invariant ∙
    ap (λ (r : Rule). take n rules ++ r ∷ [])
    (same ∙ sym (get_or_from_slice_get rules n rule rule here)) ∙
    sym (take-suc rules n rule (slice_get_within rules n rule here)) ∙
    ap (λ k. take k rules) more
