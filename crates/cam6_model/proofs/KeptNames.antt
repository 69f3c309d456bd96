-- Rules after one was put under its name: what held of them holds.
use Rattle.std.proofs.Common.{◌≡◌, ◌≤◌, ◌+◌, ℕ, Bool, true, false, List, [], ◌∷◌, length}
use Rattle.std.proofs.Common.{Some, None, cond, refl, sym, ap, ◌∙◌, arith, suc}
use Rattle.std.specs.List.{AllByRecursion}
use Rattle.std.specs.Str.{bytes_eq}
use Rattle.std.proofs.lemmas.Map.Keys.{IsDistinct-head, IsDistinct-tail, IsDistinct-cons}
use Rattle.cam6_model.specs.Rules.{Rule, rule_named}
use Rattle.cam6_model.specs.Effects.{with_rule}
use Rattle.cam6_model.specs.Always.{HaveOwnNames}
use Rattle.cam6_model.proofs.Names.{names_of, same_bytes, bytes_eq-flip}

-- a rule with the wiring and the text of another one
abbrev pub rewritten : Rule → Rule → Rule
rewritten old new = record old { wiring = new.wiring; text = new.text }

-- one more rule, or as many
pub length_at_most : (new : Rule) (rules : List Rule) →
    length (with_rule new rules) ≤ length rules + 1
length_at_most new [] = omega arith
length_at_most new (rule ∷ rules) =
    by_test (bytes_eq new.name rule.name) (length_at_most new rules)
  where
    by_test : (b : Bool) → length (with_rule new rules) ≤ length rules + 1 →
        length (cond b (rewritten rule new ∷ rules) (rule ∷ with_rule new rules))
        ≤ length (rule ∷ rules) + 1
    by_test true rest = omega arith
    by_test false rest = omega (arith, rest)

pub length_same : (new : Rule) (rules : List Rule) (old : Rule) →
    rule_named new.name rules ≡ Some old → length (with_rule new rules) ≡ length rules
length_same new [] old found = cc found
length_same new (rule ∷ rules) old found =
    by_test (bytes_eq new.name rule.name) found (λ f. length_same new rules old f)
  where
    by_test : (b : Bool) → cond b (Some rule) (rule_named new.name rules) ≡ Some old →
        (rule_named new.name rules ≡ Some old → length (with_rule new rules) ≡ length rules) →
        length (cond b (rewritten rule new ∷ rules) (rule ∷ with_rule new rules))
        ≡ length (rule ∷ rules)
    by_test true found rest = refl
    by_test false found rest = ap suc (rest found)

-- what holds of the new rule, of the others, and of one that is written anew
pub all_with : (Q : Rule → Type 0) (new : Rule) (rules : List Rule) → Q new →
    ((old : Rule) → new.name ≡ old.name → Q old → Q (rewritten old new)) →
    AllByRecursion Q rules → AllByRecursion Q (with_rule new rules)
all_with Q new [] here again all = (here, tt)
all_with Q new (rule ∷ rules) here again all =
    by_test (bytes_eq new.name rule.name) refl (all_with Q new rules here again all.1)
  where
    by_test : (b : Bool) → bytes_eq new.name rule.name ≡ b →
        AllByRecursion Q (with_rule new rules) →
        AllByRecursion Q (cond b (rewritten rule new ∷ rules) (rule ∷ with_rule new rules))
    by_test true e rest = (again rule (same_bytes new.name rule.name e) all.0, all.1)
    by_test false e rest = (all.0, rest)

-- what holds of the names
names_with : (P : List ℕ → Type 0) (new : Rule) (rules : List Rule) → P new.name →
    AllByRecursion P (names_of rules) → AllByRecursion P (names_of (with_rule new rules))
names_with P new [] here all = (here, tt)
names_with P new (rule ∷ rules) here all =
    by_test (bytes_eq new.name rule.name) (names_with P new rules here all.1)
  where
    by_test : (b : Bool) → AllByRecursion P (names_of (with_rule new rules)) →
        AllByRecursion P
        (names_of (cond b (rewritten rule new ∷ rules) (rule ∷ with_rule new rules)))
    by_test true rest = (all.0, all.1)
    by_test false rest = (all.0, rest)

pub own_with : (new : Rule) (rules : List Rule) → HaveOwnNames [] → HaveOwnNames rules →
    HaveOwnNames (with_rule new rules)
own_with new [] none own = IsDistinct-cons bytes_eq new.name [] tt none
own_with new (rule ∷ rules) none own =
    by_test (bytes_eq new.name rule.name) refl
    (own_with new rules none (IsDistinct-tail bytes_eq rule.name (names_of rules) own))
  where
    by_test : (b : Bool) → bytes_eq new.name rule.name ≡ b →
        HaveOwnNames (with_rule new rules) →
        HaveOwnNames (cond b (rewritten rule new ∷ rules) (rule ∷ with_rule new rules))
    by_test true e rest = own
    by_test false e rest =
        IsDistinct-cons bytes_eq rule.name (names_of (with_rule new rules))
        (names_with (λ other. bytes_eq rule.name other ≡ false) new rules
        (bytes_eq-flip new.name rule.name false e)
        (IsDistinct-head bytes_eq rule.name (names_of rules) own))
        rest

-- another name's rule stays
pub other_named : (name : List ℕ) (new : Rule) (rules : List Rule) →
    bytes_eq name new.name ≡ false → rule_named name (with_rule new rules) ≡ rule_named name rules
other_named name new [] other = ap (λ b. cond b (Some new) None) other
other_named name new (rule ∷ rules) other =
    by_test (bytes_eq new.name rule.name) refl (other_named name new rules other)
  where
    by_test : (b : Bool) → bytes_eq new.name rule.name ≡ b →
        rule_named name (with_rule new rules) ≡ rule_named name rules →
        rule_named name (cond b (rewritten rule new ∷ rules) (rule ∷ with_rule new rules))
        ≡ cond (bytes_eq name rule.name) (Some rule) (rule_named name rules)
    by_test true e rest =
        let none : bytes_eq name rule.name ≡ false =
        sym (ap (bytes_eq name) (same_bytes new.name rule.name e)) ∙ other in
        ap (λ b. cond b (Some (rewritten rule new)) (rule_named name rules)) none ∙
        ap (λ b. cond b (Some rule) (rule_named name rules)) (sym none)
    by_test false e rest =
        ap (λ o. cond (bytes_eq name rule.name) (Some rule) o) rest
