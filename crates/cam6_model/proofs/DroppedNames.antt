-- Rules after one was dropped: what held of them holds.
use Rattle.std.proofs.Common.{◌≡◌, ◌≤◌, ℕ, Bool, true, false, ◌||◌, List, [], ◌∷◌, length}
use Rattle.std.proofs.Common.{Option, Some, None, cond, refl, sym, ap, ◌∙◌, arith}
use Rattle.std.specs.List.{AllByRecursion, list_any}
use Rattle.std.specs.Str.{bytes_eq}
use Rattle.std.proofs.lemmas.Map.Keys.{IsDistinct-head, IsDistinct-tail, IsDistinct-cons}
use Rattle.cam6_wiring.specs.declared.names.Half.{Half}
use Rattle.cam6_model.specs.Rules.{Rule, rule_named}
use Rattle.cam6_model.specs.Effects.{without_rule}
use Rattle.cam6_model.specs.Always.{HaveOwnNames, IsNamed, IsEntry}
use Rattle.cam6_model.specs.Refusals.{is_name, uses}
use Rattle.cam6_commands.specs.declared.commands.NamedEntry.{NamedEntry}
use Rattle.cam6_model.proofs.Names.{names_of, same_bytes}

neither : (a b : Bool) → (a || b) ≡ false → (a ≡ false) × (b ≡ false)
neither true b e = cc e
neither false b e = (refl, e)

pub length_without : (name : List ℕ) (rules : List Rule) →
    length (without_rule name rules) ≤ length rules
length_without name [] = omega arith
length_without name (rule ∷ rules) =
    by_test (bytes_eq name rule.name) (length_without name rules)
  where
    by_test : (b : Bool) → length (without_rule name rules) ≤ length rules →
        length (cond b rules (rule ∷ without_rule name rules)) ≤ length (rule ∷ rules)
    by_test true rest = omega arith
    by_test false rest = omega (arith, rest)

pub all_without : (Q : Rule → Type 0) (name : List ℕ) (rules : List Rule) →
    AllByRecursion Q rules → AllByRecursion Q (without_rule name rules)
all_without Q name [] all = tt
all_without Q name (rule ∷ rules) all =
    by_test (bytes_eq name rule.name) (all_without Q name rules all.1)
  where
    by_test : (b : Bool) → AllByRecursion Q (without_rule name rules) →
        AllByRecursion Q (cond b rules (rule ∷ without_rule name rules))
    by_test true rest = all.1
    by_test false rest = (all.0, rest)

names_without : (P : List ℕ → Type 0) (name : List ℕ) (rules : List Rule) →
    AllByRecursion P (names_of rules) → AllByRecursion P (names_of (without_rule name rules))
names_without P name [] all = tt
names_without P name (rule ∷ rules) all =
    by_test (bytes_eq name rule.name) (names_without P name rules all.1)
  where
    by_test : (b : Bool) → AllByRecursion P (names_of (without_rule name rules)) →
        AllByRecursion P (names_of (cond b rules (rule ∷ without_rule name rules)))
    by_test true rest = all.1
    by_test false rest = (all.0, rest)

pub own_without : (name : List ℕ) (rules : List Rule) → HaveOwnNames rules →
    HaveOwnNames (without_rule name rules)
own_without name [] own = own
own_without name (rule ∷ rules) own =
    by_test (bytes_eq name rule.name)
    (own_without name rules (IsDistinct-tail bytes_eq rule.name (names_of rules) own))
  where
    by_test : (b : Bool) → HaveOwnNames (without_rule name rules) →
        HaveOwnNames (cond b rules (rule ∷ without_rule name rules))
    by_test true rest = IsDistinct-tail bytes_eq rule.name (names_of rules) own
    by_test false rest =
        IsDistinct-cons bytes_eq rule.name (names_of (without_rule name rules))
        (names_without (λ other. bytes_eq rule.name other ≡ false) name rules
        (IsDistinct-head bytes_eq rule.name (names_of rules) own))
        rest

-- another name's rule stays
named_without : (name other : List ℕ) (rules : List Rule) → bytes_eq other name ≡ false →
    rule_named other (without_rule name rules) ≡ rule_named other rules
named_without name other [] apart = refl
named_without name other (rule ∷ rules) apart =
    by_test (bytes_eq name rule.name) refl (named_without name other rules apart)
  where
    by_test : (b : Bool) → bytes_eq name rule.name ≡ b →
        rule_named other (without_rule name rules) ≡ rule_named other rules →
        rule_named other (cond b rules (rule ∷ without_rule name rules))
        ≡ cond (bytes_eq other rule.name) (Some rule) (rule_named other rules)
    by_test true e rest =
        let none : bytes_eq other rule.name ≡ false =
        sym (ap (bytes_eq other) (same_bytes name rule.name e)) ∙ apart in
        sym (ap (λ b. cond b (Some rule) (rule_named other rules)) none)
    by_test false e rest = ap (λ o. cond (bytes_eq other rule.name) (Some rule) o) rest

half_without : (name : List ℕ) (rules : List Rule) (half : Half) (o : Option (List ℕ)) →
    is_name name o ≡ false → IsNamed rules half o → IsNamed (without_rule name rules) half o
half_without name rules half None apart named = tt
half_without name rules half (Some other) apart (rule, found, of_half) =
    (rule, named_without name other rules apart ∙ found, of_half)

-- the entries of a cycle that doesn't use it
pub entries_without : (name : List ℕ) (rules : List Rule) (cycle : List NamedEntry) →
    list_any (uses name) cycle ≡ false → AllByRecursion (IsEntry rules) cycle →
    AllByRecursion (IsEntry (without_rule name rules)) cycle
entries_without name rules [] unused are = tt
entries_without name rules (entry ∷ cycle) unused are =
    let (here, later) = neither (uses name entry) (list_any (uses name) cycle) unused in
    let (a, b) = neither (is_name name entry.a) (is_name name entry.b) here in (
      (
        half_without name rules _ entry.a a are.0.0,
        half_without name rules _ entry.b b are.0.1,
        are.0.2,
      ),
      entries_without name rules cycle later are.1,
    )
