-- Numbers of rules after one was dropped: they and the names still say the same.
use Rattle.std.proofs.Common.{◌≡◌, ◌≤◌, ◌<◌, ◌-◌, ℕ, zero, suc, Bool, true, false, ◌||◌, ◌==◌, List}
use Rattle.std.proofs.Common.{[], ◌∷◌, map, Option, Some, None, cond, refl, sym, ap, ◌∙◌, arith}
use Rattle.std.proofs.Common.{subst, option_map, slice_get}
use Rattle.std.specs.List.{list_any}
use Rattle.std.specs.Str.{bytes_eq}
use Rattle.std.proofs.lemmas.Bool.{lt-ltb, le-ltb, eq-eqb}
use native.Mathlib.Decide.{dec_lt}
use Rattle.cam6_cycle.specs.declared.entries.Entry.{Entry}
use Rattle.cam6_cycle.specs.declared.entries.HalfRule.{HalfRule}
use Rattle.cam6_model.specs.Rules.{Rule}
use Rattle.cam6_model.specs.Effects.{without_rule}
use Rattle.cam6_rules.specs.Numbers.{rule_at, name_of, number_in, named_entry, named_entries}
use Rattle.cam6_rules.specs.Numbers.{IsNumbered, AreNumbered}
use Rattle.cam6_rules.specs.Internal.Numbered.{rule_number, is_number, uses_number, closed_up}
use Rattle.cam6_rules.specs.Internal.Numbered.{closed_half, closed_entry}
use Rattle.cam6_commands.specs.declared.commands.NamedEntry.{NamedEntry}
use Rattle.cam6_rules.specs.Filled.{StoredTables, AreTrue}
use Rattle.cam6_rules.proofs.UsedRules.{HasSameRule, HaveSameRules, stay_true}

neither : (a b : Bool) → (a || b) ≡ false → (a ≡ false) × (b ≡ false)
neither true b e = cc e
neither false b e = (refl, e)

differ : (a b : ℕ) → (a == b) ≡ false → a ≡ b → ⊥
differ a b e same = cc (e, eq-eqb a b same)

-- numbers after it, and before it
after : (number other : ℕ) → number < other → closed_up number other ≡ other - 1
after number other h = ap (λ b. cond b (other - 1) other) (lt-ltb number other h)

before : (number other : ℕ) → other ≤ number → closed_up number other ≡ other
before number other h = ap (λ b. cond b (other - 1) other) (le-ltb number other h)

closed_up-suc : (number other : ℕ) → closed_up (suc number) (suc other) ≡ suc (closed_up number other)
closed_up-suc number other =
    elim (dec_lt number other) [
      | Prim.yes lt ↦
          after (suc number) (suc other) (omega (arith, lt)) ∙ one_more other (omega (arith, lt)) ∙
          sym (ap suc (after number other lt))
      | Prim.no ge ↦
          before (suc number) (suc other) (omega (arith, ge)) ∙
          sym (ap suc (before number other (omega (arith, ge))))
    ]
  where
    one_more : (n : ℕ) → 0 < n → suc n - 1 ≡ suc (n - 1)
    one_more n some = omega (arith, some)

one_less : (n : ℕ) → suc n - 1 ≡ n
one_less n = omega arith

-- rules at other numbers stand where their numbers are closed up
abbrev StandClosed : List ℕ → List Rule → Type 0
StandClosed name rules =
    (number other : ℕ) → rule_number name rules ≡ Some number → (other ≡ number → ⊥) →
    slice_get (without_rule name rules) (closed_up number other) ≡ slice_get rules other

get_without : (name : List ℕ) (rules : List Rule) → StandClosed name rules
get_without name [] number other found apart = cc found
get_without name (rule ∷ rules) number other found apart =
    by_test (bytes_eq name rule.name) other found apart
    (λ p k here different. get_without name rules p k here different)
  where
    later : (p other : ℕ) → rule_number name rules ≡ Some p → (other ≡ suc p → ⊥) → StandClosed name rules →
        slice_get (rule ∷ without_rule name rules) (closed_up (suc p) other)
        ≡ slice_get (rule ∷ rules) other
    later p zero found apart rest =
        ap (slice_get (rule ∷ without_rule name rules)) (before (suc p) zero (omega arith))
    later p (suc other) found apart rest =
        ap (slice_get (rule ∷ without_rule name rules)) (closed_up-suc p other) ∙
        rest p other found (λ same. apart (ap suc same))

    by_number : (o : Option ℕ) (other : ℕ) → rule_number name rules ≡ o →
        option_map suc o ≡ Some number → (other ≡ number → ⊥) → StandClosed name rules →
        slice_get (rule ∷ without_rule name rules) (closed_up number other)
        ≡ slice_get (rule ∷ rules) other
    by_number None other e found apart rest = cc found
    by_number (Some p) other e found apart rest =
        let is : suc p ≡ number = cc found in
        subst (λ number. slice_get (rule ∷ without_rule name rules) (closed_up number other)
        ≡ slice_get (rule ∷ rules) other) is
        (later p other e (λ same. apart (same ∙ is)) rest)

    by_test : (b : Bool) (other : ℕ) →
        cond b (Some 0) (option_map suc (rule_number name rules)) ≡ Some number →
        (other ≡ number → ⊥) → StandClosed name rules →
        slice_get (cond b rules (rule ∷ without_rule name rules)) (closed_up number other)
        ≡ slice_get (rule ∷ rules) other
    by_test true zero found apart rest =
        let is : 0 ≡ number = cc found in
        absurd (apart is)
    by_test true (suc other) found apart rest =
        let is : 0 ≡ number = cc found in
        subst (λ number. slice_get rules (closed_up number (suc other)) ≡ slice_get rules other) is
        (ap (slice_get rules) (after 0 (suc other) (omega arith) ∙ one_less other))
    by_test false other found apart rest =
        by_number (rule_number name rules) other refl found apart rest

module _ (name : List ℕ) (rules : List Rule) (number : ℕ) (found : rule_number name rules ≡ Some number)
  where
    half_closed : (o : Option HalfRule) → is_number number (number_in o) ≡ false →
        name_of (rule_at (without_rule name rules) (number_in (closed_half number o)))
        ≡ name_of (rule_at rules (number_in o))
    half_closed None apart = refl
    half_closed (Some half) apart = ap name_of (get_without name rules number half.number found (differ half.number number apart))

    -- the entries have the names that they had
    pub names_closed : (cycle : List Entry) → list_any (uses_number number) cycle ≡ false →
        named_entries (without_rule name rules) (map (closed_entry number) cycle)
        ≡ named_entries rules cycle
    names_closed [] unused = refl
    names_closed (entry ∷ cycle) unused =
        let (here, later) =
        neither (uses_number number entry) (list_any (uses_number number) cycle) unused in
        let (a, b) =
        neither (is_number number (number_in entry.a)) (is_number number (number_in entry.b)) here in
        let named = named_entry (without_rule name rules) (closed_entry number entry) in
        let rest = named_entries (without_rule name rules) (map (closed_entry number) cycle) in
        ap {B = List NamedEntry} (λ n. record named { a = n } ∷ rest) (half_closed entry.a a) ∙
        ap {B = List NamedEntry}
        (λ n. record (named_entry rules entry) { b = n } ∷ rest) (half_closed entry.b b) ∙
        ap (λ l. named_entry rules entry ∷ l) (names_closed cycle later)

    half_is_closed : (o : Option HalfRule) → is_number number (number_in o) ≡ false →
        IsNumbered rules o → IsNumbered (without_rule name rules) (closed_half number o)
    half_is_closed None apart numbered = tt
    half_is_closed (Some half) apart (rule, here, hood, minor) = (
      rule,
      get_without name rules number half.number found (differ half.number number apart) ∙ here,
      hood,
      minor,
    )

    -- and stand at their numbers
    pub numbered_closed : (cycle : List Entry) → list_any (uses_number number) cycle ≡ false →
        AreNumbered rules cycle → AreNumbered (without_rule name rules) (map (closed_entry number) cycle)
    numbered_closed [] unused numbered = tt
    numbered_closed (entry ∷ cycle) unused numbered =
        let (here, later) =
        neither (uses_number number entry) (list_any (uses_number number) cycle) unused in
        let (a, b) =
        neither (is_number number (number_in entry.a)) (is_number number (number_in entry.b)) here in (
          (
            half_is_closed entry.a a numbered.0.0,
            half_is_closed entry.b b numbered.0.1,
          ),
          numbered_closed cycle later numbered.1,
        )

    half_same : (o : Option HalfRule) → is_number number (number_in o) ≡ false →
        HasSameRule rules (without_rule name rules) o (closed_half number o)
    half_same None apart = tt
    half_same (Some half) apart =
        get_without name rules number half.number found (differ half.number number apart)

    same_closed : (cycle : List Entry) → list_any (uses_number number) cycle ≡ false →
        HaveSameRules rules (without_rule name rules) (closed_entry number) cycle
    same_closed [] unused = tt
    same_closed (entry ∷ cycle) unused =
        let (here, later) =
        neither (uses_number number entry) (list_any (uses_number number) cycle) unused in
        let (a, b) =
        neither (is_number number (number_in entry.a)) (is_number number (number_in entry.b)) here in
        ((half_same entry.a a, half_same entry.b b), same_closed cycle later)

    -- and the tables of the entries' rules stay theirs
    pub tables_closed : (cycle : List Entry) (tables : StoredTables) →
        list_any (uses_number number) cycle ≡ false → AreTrue tables rules cycle →
        AreTrue tables (without_rule name rules) (map (closed_entry number) cycle)
    tables_closed cycle tables unused are =
        stay_true rules (without_rule name rules) (closed_entry number) cycle tables
        (same_closed cycle unused) are
