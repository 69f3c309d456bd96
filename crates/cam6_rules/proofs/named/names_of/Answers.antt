use Rattle.std.proofs.Common.{◌≡◌, ◌∙◌, ◌+◌, ◌++◌, ◌∷◌, [], List, ℕ, map, take, sym, ap, suc, arith}
use Rattle.std.proofs.Math.Seq.{take-suc}
use Rattle.std.proofs.lemmas.List.{map-append}
use Rattle.std.proofs.lemmas.Option.{get_or_from_slice_get, slice_get_within}
use Rattle.cam6_model.specs.Rules.{Rule}
use Rattle.cam6_rules.specs.Internal.Numbered.{rules_of}
use Rattle.cam6_rules.proofs.CompiledRules.{listed, rule_found}
use Rattle.cam6_rules.proofs.named.names_of.Goals as goal

pub loop-number-preserved : goal.loop-number-preserved
loop-number-preserved c =
    let rules = rules_of c.args.rules.now.entries in
    let n : ℕ = c.loop-number.number in
    let names : List Rule → List (List ℕ) = map (λ (rule : Rule). rule.name) in
    let here = rule_found c.args.rules.now.entries n (c.in-Some.name.now, c.in-Some.field-0-1.now)
    c.in-Some.ensures.entry in
    let more : suc n ≡ n + 1 = omega arith in
    let rule = listed (c.in-Some.name.now, c.in-Some.field-0-1.now) in
    c.in_ok-push.ensures.items ∙
    ap (λ (l : List (List ℕ)). l ++ c.new.result ∷ []) c.loop-number.invariant ∙
    ap (λ (name : List ℕ). names (take n rules) ++ name ∷ [])
    (c.new.ensures ∙ c.in_ok-from_str.ensures.ok ∙ c.as_str.ensures.value) ∙
    sym (map-append (λ (rule : Rule). rule.name) (take n rules) (rule ∷ [])) ∙
    ap (λ (r : Rule). names (take n rules ++ r ∷ [])) (sym (get_or_from_slice_get rules n rule rule here)) ∙
    sym (ap names (take-suc rules n rule (slice_get_within rules n rule here))) ∙
    ap (λ k. names (take k rules)) more
