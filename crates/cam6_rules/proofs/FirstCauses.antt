-- The first entry with a rule that can't be undone, entry by entry.
use Rattle.std.proofs.Common.{◌≡◌, ◌∙◌, ℕ, zero, suc, ◌<◌, List, [], ◌∷◌, length, Option, Some}
use Rattle.std.proofs.Common.{None}
use Rattle.std.proofs.Common.{ap, arith, drop, get_or, refl, slice_get, subst, sym}
use Rattle.cam6_block.specs.declared.refusals.NotReversible.{NotReversible}
use Rattle.cam6_cycle.specs.declared.entries.Entry.{Entry}
use Rattle.cam6_cycle.specs.declared.tables.Direction.{Direction}
use Rattle.cam6_wiring.specs.declared.names.Half.TheVariants.{A, B}
use Rattle.cam6_model.specs.Rules.{Rule}
use Rattle.cam6_model.specs.Cycles.{EntryRules}
use Rattle.cam6_model.specs.Refusals.{or_then, rule_cause, cause_refusal, entry_cause, first_cause}
use Rattle.cam6_model.specs.Always.{HaveOwnNames}
use Rattle.cam6_rules.specs.Numbers.{named_entries, rules_at, rule_at, number_in}
use Rattle.cam6_rules.specs.Filled.{StoredTables, AreTablesOf, AreTablesIf, AreTrue, way_refusal}
use Rattle.cam6_cycle.specs.declared.tables.Direction.TheVariants.{Forward, Backward}
use Rattle.std.specs.List.{AllByRecursion}
use Rattle.std.proofs.lemmas.Option.{get_or_from_slice_get, slice_get_within}
use Rattle.cam6_rules.proofs.Causes.{no_cause}
use Rattle.cam6_rules.proofs.FilledTables.{first_table, second_table}
use Rattle.cam6_commands.specs.declared.refusals.Refusal.{Refusal}
use Rattle.cam6_commands.specs.declared.refusals.Refusal.TheVariants as refused
use Rattle.cam6_rules.proofs.Naming.{same_rules}

-- an item and those after it
split_at : {X : Type 0} (xs : List X) (n : ℕ) (past : X) → n < length xs →
    drop n xs ≡ get_or xs n past ∷ drop (suc n) xs
split_at [] n past h = absurd (omega (arith, h))
split_at (x ∷ xs) zero past h = refl
split_at (x ∷ xs) (suc n) past h = split_at xs n past (omega (arith, h))

-- the causes from an entry on
abbrev pub causes_from : List Rule → List Entry → ℕ → Option Refusal
causes_from rules entries n = first_cause rules n (named_entries rules (drop n entries))

module _ (rules : List Rule) (entries : List Entry) (n : ℕ) (past : Entry)
    (own : HaveOwnNames rules) (within : n < length entries) where
  one_entry : causes_from rules entries n
      ≡ or_then (entry_cause n (rules_at rules (get_or entries n past)))
      (causes_from rules entries (suc n))
  one_entry =
      let entry = get_or entries n past in
      let later = causes_from rules entries (suc n) in
      ap (λ l. first_cause rules n (named_entries rules l)) (split_at entries n past within) ∙
      ap (λ (e : EntryRules). or_then (entry_cause n e) later) (same_rules rules entry own)

  abbrev cause_a : Option NotReversible
  cause_a = rule_cause (rules_at rules (get_or entries n past)).a

  abbrev cause_b : Option NotReversible
  cause_b = rule_cause (rules_at rules (get_or entries n past)).b

  abbrev by_causes : Option NotReversible → Option NotReversible → Option Refusal
  by_causes a b =
      or_then (or_then (cause_refusal n A a) (cause_refusal n B b))
      (causes_from rules entries (suc n))

  pub of_half_a : (cause : NotReversible) → cause_a ≡ Some cause →
      causes_from rules entries n ≡ Some (refused.NotReversible n A cause)
  of_half_a cause is = one_entry ∙ ap (λ a. by_causes a cause_b) is

  pub of_half_b : (cause : NotReversible) → cause_a ≡ None → cause_b ≡ Some cause →
      causes_from rules entries n ≡ Some (refused.NotReversible n B cause)
  of_half_b cause none is =
      one_entry ∙ ap (λ a. by_causes a cause_b) none ∙ ap (λ b. by_causes None b) is

  pub of_neither : cause_a ≡ None → cause_b ≡ None →
      causes_from rules entries n ≡ causes_from rules entries (suc n)
  of_neither none neither =
      one_entry ∙ ap (λ a. by_causes a cause_b) none ∙ ap (λ b. by_causes None b) neither

-- the rules of an entry can be undone
abbrev HasNoCause : List Rule → Entry → Type 0
HasNoCause rules entry =
    (rule_cause (rule_at rules (number_in entry.a)) ≡ None)
    × (rule_cause (rule_at rules (number_in entry.b)) ≡ None)

none_from : (rules : List Rule) (n : ℕ) (cycle : List Entry) → HaveOwnNames rules →
    AllByRecursion (HasNoCause rules) cycle → first_cause rules n (named_entries rules cycle) ≡ None
none_from rules n [] own all = refl
none_from rules n (entry ∷ cycle) own all =
    let later = first_cause rules (suc n) (named_entries rules cycle) in
    ap (λ (e : EntryRules). or_then (entry_cause n e) later) (same_rules rules entry own) ∙
    ap (λ a. or_then (or_then (cause_refusal n A a)
    (cause_refusal n B (rule_cause (rule_at rules (number_in entry.b))))) later) all.0.0 ∙
    ap (λ b. or_then (cause_refusal n B b) later) all.0.1 ∙
    none_from rules (suc n) cycle own all.1

-- what is so of the item at each index is so of all
all_at : {X : Type 0} (P : X → Type 0) (xs : List X) →
    ((n : ℕ) (x : X) → slice_get xs n ≡ Some x → P x) → AllByRecursion P xs
all_at P [] each = tt
all_at P (x ∷ xs) each = (each zero x refl, all_at P xs (λ n y found. each (suc n) y found))

-- a cycle whose rules have tables to go back by has no rule that can't be undone
pub no_first_cause : (rules : List Rule) (cycle : List Entry) (tables : List (List ℕ)) →
    HaveOwnNames rules → AreTablesOf Backward rules cycle tables →
    first_cause rules 0 (named_entries rules cycle) ≡ None
no_first_cause rules cycle tables own are =
    none_from rules 0 cycle own (all_at (HasNoCause rules) cycle at_entry)
  where
    at_entry : (n : ℕ) (entry : Entry) → slice_get cycle n ≡ Some entry → HasNoCause rules entry
    at_entry n entry found =
        let within = slice_get_within cycle n entry found in
        let same : get_or cycle n entry ≡ entry = get_or_from_slice_get cycle n entry entry found in (
          no_cause (rule_at rules (number_in entry.a)) _
              (first_table Backward rules tables n cycle entry within are entry.a
              (ap (λ (e : Entry). e.a) same)),
          no_cause (rule_at rules (number_in entry.b)) _
              (second_table Backward rules tables n cycle entry within are entry.b
              (ap (λ (e : Entry). e.b) same)),
        )

-- tables that are filled for a way are those of rules that have tables for it
pub filled_is_accepted : (way : Direction) (rules : List Rule) (cycle : List Entry)
    (tables : StoredTables) → HaveOwnNames rules → tables.filled ≡ Some way →
    AreTrue tables rules cycle → way_refusal way rules (named_entries rules cycle) ≡ None
filled_is_accepted Forward rules cycle tables own filled are = refl
filled_is_accepted Backward rules cycle tables own filled are =
    no_first_cause rules cycle tables.entries own
    (subst (λ o. AreTablesIf o rules cycle tables.entries) filled are)

-- the refusal for this way, if it isn't the first one backward, is none
pub first_refusal_is : (way : Direction) (rules : List Rule) (cycle : List Entry)
    (refusal : Refusal) → way ≡ Backward → causes_from rules cycle 0 ≡ Some refusal →
    Some refusal ≡ way_refusal way rules (named_entries rules cycle)
first_refusal_is Forward rules cycle refusal back is = cc back
first_refusal_is Backward rules cycle refusal back is = sym is
