-- Names of rules: they are one where their bytes are.
use Rattle.std.proofs.Common.{◌≡◌, ℕ, Bool, true, false, List, [], ◌∷◌, map, Some, cond, refl, sym}
use Rattle.std.proofs.Common.{ap, ◌∙◌}
use Rattle.std.specs.List.{AllByRecursion}
use Rattle.std.specs.Str.{bytes_eq}
use Rattle.std.proofs.lemmas.Map.Keys.{IsDistinct-head, IsDistinct-tail}
use Rattle.std.proofs.lemmas.Slice.Eq.{bytes_eq-Decides}
use Rattle.cam6_model.specs.Rules.{Rule, rule_named}
use Rattle.cam6_model.specs.Always.{HaveOwnNames}

-- names of rules
abbrev pub names_of : List Rule → List (List ℕ)
names_of rules = map (λ rule. rule.name) rules

pub same_bytes : (a b : List ℕ) → bytes_eq a b ≡ true → a ≡ b
same_bytes a b e = (bytes_eq-Decides a b).0 e

pub bytes_eq-self : (a : List ℕ) → bytes_eq a a ≡ true
bytes_eq-self a = (bytes_eq-Decides a a).1 refl

-- names that differ by their bytes are not one
pub apart_names : (a b : List ℕ) → bytes_eq a b ≡ false → a ≡ b → ⊥
apart_names a b e same = let one = (bytes_eq-Decides a b).1 same in cc (e, one)

pub bytes_eq-flip : (a b : List ℕ) (t : Bool) → bytes_eq a b ≡ t → bytes_eq b a ≡ t
bytes_eq-flip a b true e = (bytes_eq-Decides b a).1 (sym (same_bytes a b e))
bytes_eq-flip a b false e = by_test (bytes_eq b a) refl
  where
    by_test : (t : Bool) → bytes_eq b a ≡ t → bytes_eq b a ≡ false
    by_test false f = f
    by_test true f = absurd (apart_names a b e (sym (same_bytes b a f)))

-- the first rule's name is none of the others', which are their own
pub first_own : (first : Rule) (rules : List Rule) → HaveOwnNames (first ∷ rules) →
    AllByRecursion (λ other. bytes_eq first.name other ≡ false) (names_of rules)
first_own first rules own = IsDistinct-head bytes_eq first.name (names_of rules) own

pub later_own : (first : Rule) (rules : List Rule) → HaveOwnNames (first ∷ rules) →
    HaveOwnNames rules
later_own first rules own = IsDistinct-tail bytes_eq first.name (names_of rules) own

-- the rule at a name's number has the name
pub name_at_number : (name : List ℕ) (rules : List Rule) (rule : Rule) →
    rule_named name rules ≡ Some rule → name ≡ rule.name
name_at_number name [] rule found = cc found
name_at_number name (first ∷ rules) rule found =
    by_test (bytes_eq name first.name) refl found (λ f. name_at_number name rules rule f)
  where
    by_test : (b : Bool) → bytes_eq name first.name ≡ b →
        cond b (Some first) (rule_named name rules) ≡ Some rule →
        (rule_named name rules ≡ Some rule → name ≡ rule.name) → name ≡ rule.name
    by_test true e found rest =
        let is : first ≡ rule = cc found in
        same_bytes name first.name e ∙ ap (λ r. r.name) is
    by_test false e found rest = rest found
