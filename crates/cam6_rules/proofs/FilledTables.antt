-- Tables that are filled use by use.
use Rattle.std.proofs.Common.{◌≡◌, ℕ, zero, suc, ◌+◌, ◌<◌, ◌≤◌, List, [], ◌∷◌, ◌++◌, length}
use Rattle.std.proofs.Common.{Option, Some, None, slice_get, get_or, take, arith, refl, sym}
use Rattle.std.proofs.Common.{ap, ◌∙◌, subst, set, Result, Ok, Err, OnOk}
use Rattle.std.proofs.lemmas.List.{get_or_append_left}
use Rattle.std.proofs.lemmas.Option.{slice_get_within}
use Rattle.std.proofs.Math.Seq.{get_or-append_seam}
use native.Mathlib.Decide.{dec_lt}
use Rattle.cam6_wiring.specs.declared.names.Half.TheVariants.{A, B}
use Rattle.cam6_cycle.specs.Tables.{needed_for, tables_needed}
use Rattle.cam6_cycle.specs.declared.entries.Entry.{Entry}
use Rattle.cam6_cycle.specs.declared.entries.HalfRule.{HalfRule}
use Rattle.cam6_cycle.specs.declared.tables.Direction.{Direction}
use Rattle.cam6_cycle.specs.declared.tables.NeededTable.{NeededTable}
use Rattle.cam6_cycle.proofs.Needed as needed
use Rattle.cam6_model.specs.Rules.{Rule}
use Rattle.cam6_model.specs.TrueTables.{IsTableFor}
use Rattle.cam6_rules.specs.Numbers.{rule_at, number_in, IsNumbered, AreNumbered, AreTables}
use Rattle.cam6_rules.specs.Internal.Uses.{IsUse, IsUseOf}
use mir.Val.{bool_byte}
use Rattle.std.specs.Option.{is_some}
use Rattle.std.proofs.lemmas.List.{length-append}

-- an item of the first items is one of all
pub within_first : {X : Type 0} (n : ℕ) (xs : List X) (i : ℕ) (x : X) →
    slice_get (take n xs) i ≡ Some x → (i < n) × (slice_get xs i ≡ Some x)
within_first zero xs i x found = cc found
within_first (suc n) [] i x found = cc found
within_first (suc n) (y ∷ ys) zero x found = (omega arith, found)
within_first (suc n) (y ∷ ys) (suc i) x found =
    let later = within_first n ys i x found in (omega (arith, later.0), later.1)

-- a use among the first ones is one of all, of the rule at that number
pub used_before : (n first number : ℕ) (uses : List NeededTable) →
    IsUse number (slice_get (take n uses) first) →
    (table : NeededTable) × (first < n) × (slice_get uses first ≡ Some table)
    × (table.rule.number ≡ number)
used_before n first number uses is = by_table (slice_get (take n uses) first) refl is
  where
    by_table : (o : Option NeededTable) → slice_get (take n uses) first ≡ o → IsUse number o →
        (table : NeededTable) × (first < n) × (slice_get uses first ≡ Some table)
        × (table.rule.number ≡ number)
    by_table None e is = absurd is
    by_table (Some table) e is =
        let found = within_first n uses first table e in (table, found.0, found.1, is)

-- one more use has its rule's table, where the tables before it stay
pub one_more : (way : Direction) (n : ℕ) (rules : List Rule) (uses : List NeededTable)
    (before rest : List (List ℕ)) (new : List ℕ) → length before ≡ n → 0 < length rest →
    AreTables way n rules uses (before ++ rest) →
    ((table : NeededTable) → slice_get uses n ≡ Some table →
    IsTableFor way (rule_at rules (Some table.rule.number)) new) →
    AreTables way (n + 1) rules uses (before ++ set rest 0 new)
one_more way n rules uses before [] new long some are here index table h found =
    absurd (omega (arith, some))
one_more way n rules uses before (old ∷ rest) new long some are here index table h found =
    elim (dec_lt index n) [
      | Prim.yes lt ↦
          let kept : get_or (before ++ (new ∷ rest)) index []
          ≡ get_or (before ++ (old ∷ rest)) index [] =
          get_or_append_left before (new ∷ rest) [] index (omega (arith, lt, long)) ∙
          sym (get_or_append_left before (old ∷ rest) [] index (omega (arith, lt, long))) in
          subst (IsTableFor way (rule_at rules (Some table.rule.number))) (sym kept)
          (are index table lt found)
      | Prim.no ge ↦
          let last : index ≡ n = omega (arith, ge, h) in
          let end : index ≡ length before = omega (arith, last, long) in
          let there : get_or (before ++ (new ∷ rest)) index [] ≡ new =
          ap (λ i. get_or (before ++ (new ∷ rest)) i []) end ∙
          get_or-append_seam before new rest [] in
          subst (IsTableFor way (rule_at rules (Some table.rule.number))) (sym there)
          (here table (ap (slice_get uses) (sym last) ∙ found))
    ]

-- no use has its table at first
pub none_yet : (way : Direction) (rules : List Rule) (uses : List NeededTable) (tables : List (List ℕ)) →
    AreTables way 0 rules uses tables
none_yet way rules uses tables index table h = absurd (omega (arith, h))

-- fewer uses have theirs too
pub fewer : (way : Direction) (n m : ℕ) (rules : List Rule) (uses : List NeededTable) (tables : List (List ℕ)) →
    m ≤ n → AreTables way n rules uses tables → AreTables way m rules uses tables
fewer way n m rules uses tables le are index table h = are index table (omega (arith, le, h))

module _ (way : Direction) (rules : List Rule) (tables : List (List ℕ)) (k : ℕ) (cycle : List Entry) (past : Entry)
    (within : k < length cycle)
    (are : AreTables way (length (tables_needed way cycle)) rules (tables_needed way cycle)
    tables) where
  -- half A's table, and half B's, of the entry at a position
  pub first_table : (o : Option HalfRule) → (get_or cycle k past).a ≡ o →
      IsTableFor way (rule_at rules (number_in o))
      (get_or tables (length (tables_needed way (take k cycle))) [])
  first_table None is = tt
  first_table (Some rule) is =
      let index = length (tables_needed way (take k cycle)) in
      let found = needed.first_table way cycle k past within rule is in
      are index (record { half = A; rule = rule; direction = way })
      (slice_get_within (tables_needed way cycle) index _ found) found

  pub second_table : (o : Option HalfRule) → (get_or cycle k past).b ≡ o →
      IsTableFor way (rule_at rules (number_in o))
      (get_or tables (length (tables_needed way (take k cycle))
      + length (needed_for way A (get_or cycle k past).a)) [])
  second_table None is = tt
  second_table (Some rule) is =
      let index = length (tables_needed way (take k cycle))
      + length (needed_for way A (get_or cycle k past).a) in
      let found = needed.second_table way cycle k past within rule is in
      are index (record { half = B; rule = rule; direction = way })
      (slice_get_within (tables_needed way cycle) index _ found) found

-- which uses are an entry's
module _ (way : Direction) (k : ℕ) (cycle : List Entry) (past : Entry) (within : k < length cycle)
  where
    abbrev pub entry_at : Entry
    entry_at = get_or cycle k past

    abbrev pub first_index : ℕ
    first_index = length (tables_needed way (take k cycle))

    abbrev pub second_index : ℕ
    second_index = first_index + bool_byte (is_some entry_at.a)

    pub first_use : IsUseOf entry_at.a (slice_get (tables_needed way cycle) first_index)
    first_use = by_rule entry_at.a refl
      where
        by_rule : (o : Option HalfRule) → entry_at.a ≡ o →
            IsUseOf o (slice_get (tables_needed way cycle) first_index)
        by_rule None is = tt
        by_rule (Some rule) is =
            subst (IsUseOf (Some rule)) (sym (needed.first_table way cycle k past within rule is)) refl

    pub second_use : IsUseOf entry_at.b (slice_get (tables_needed way cycle) second_index)
    second_use =
        subst (λ n. IsUseOf entry_at.b (slice_get (tables_needed way cycle) (first_index + n)))
        (needed.some-length way A entry_at.a) (by_rule entry_at.b refl)
      where
        by_rule : (o : Option HalfRule) → entry_at.b ≡ o →
            IsUseOf o (slice_get (tables_needed way cycle)
            (first_index + length (needed_for way A entry_at.a)))
        by_rule None is = tt
        by_rule (Some rule) is =
            subst (IsUseOf (Some rule)) (sym (needed.second_table way cycle k past within rule is)) refl

    -- after them those of the next entry begin
    pub next_index : second_index + bool_byte (is_some entry_at.b)
        ≡ length (tables_needed way (take (k + 1) cycle))
    next_index =
        let before = tables_needed way (take k cycle) in
        let a = needed_for way A entry_at.a in
        let b = needed_for way B entry_at.b in
        let all = ap length (needed.tables_more way k cycle past within) in
        omega (
          arith,
          all,
          length-append (before ++ a) b,
          length-append before a,
          needed.some-length way A entry_at.a,
          needed.some-length way B entry_at.b,
        )

-- what follows where a call succeeds
pub on_ok : {A E P Q : Type 0} (r : Result A E) → (P → Q) → OnOk r P → OnOk r Q
on_ok (Ok a) f p = f p
on_ok (Err e) f p = tt

-- a call that didn't fail succeeded
pub not_err : {A E P : Type 0} (r : Result A E) → ((e : E) → r ≡ Err e → ⊥) → OnOk r P → P
not_err (Ok a) apart p = p
not_err (Err e) apart p = absurd (apart e refl)

-- an entry's rules stand at their numbers
pub numbered_at : (rules : List Rule) (cycle : List Entry) (position : ℕ) (entry : Entry) →
    slice_get cycle position ≡ Some entry → AreNumbered rules cycle →
    IsNumbered rules entry.a × IsNumbered rules entry.b
numbered_at rules [] position entry found numbered = cc found
numbered_at rules (first ∷ cycle) zero entry found numbered =
    let same : first ≡ entry = cc found in
    subst (λ (e : Entry). IsNumbered rules e.a × IsNumbered rules e.b) same numbered.0
numbered_at rules (first ∷ cycle) (suc position) entry found numbered =
    numbered_at rules cycle position entry found numbered.1
