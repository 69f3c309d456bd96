-- The tables of some entries more, and how many they are.
use Rattle.std.proofs.Common.{◌≡◌, ℕ, zero, suc, ◌+◌, ◌*◌, ◌<◌, ◌≤◌, List, [], ◌∷◌, ◌++◌, length}
use Rattle.std.proofs.Common.{Option, Some, None, get_or, take, drop, slice_get, arith, refl, sym}
use Rattle.std.proofs.Common.{ap, ◌∙◌}
use mir.Val.{bool_byte}
use Rattle.std.specs.Option.{is_some}
use Rattle.std.proofs.lemmas.List.{append_assoc, append-nil, length-append}
use Rattle.cam6_wiring.specs.declared.names.Half.{Half}
use Rattle.cam6_wiring.specs.declared.names.Half.TheVariants.{A, B}
use Rattle.cam6_cycle.specs.Tables.{needed_for, tables_needed}
use Rattle.cam6_cycle.specs.declared.entries.Entry.{Entry}
use Rattle.cam6_cycle.specs.declared.entries.HalfRule.{HalfRule}
use Rattle.cam6_cycle.specs.declared.tables.Direction.{Direction}
use Rattle.cam6_cycle.specs.declared.tables.NeededTable.{NeededTable}

-- a half needs at most one table
pub needed-length : (direction : Direction) (half : Half) (rule : Option HalfRule) →
    length (needed_for direction half rule) ≤ 1
needed-length direction half None = omega arith
needed-length direction half (Some rule) = omega arith

pub tables-length : (direction : Direction) (entries : List Entry) →
    length (tables_needed direction entries) ≤ 2 * length entries
tables-length direction [] = omega arith
tables-length direction (entry ∷ entries) =
    let first = needed_for direction A entry.a in
    let second = needed_for direction B entry.b in
    omega (
      arith,
      length-append (first ++ second) (tables_needed direction entries),
      length-append first second,
      needed-length direction A entry.a,
      needed-length direction B entry.b,
      tables-length direction entries,
    )

-- the tables of one more entry
pub tables_more : (direction : Direction) (k : ℕ) (entries : List Entry) (past : Entry) →
    k < length entries →
    let entry = get_or entries k past in
    (tables_needed direction (take k entries) ++ needed_for direction A entry.a)
    ++ needed_for direction B entry.b
    ≡ tables_needed direction (take (k + 1) entries)
tables_more direction k [] past h = absurd (omega (arith, h))
tables_more direction zero (entry ∷ entries) past h =
    sym (append-nil (needed_for direction A entry.a ++ needed_for direction B entry.b))
tables_more direction (suc k) (entry ∷ entries) past h =
    let own = needed_for direction A entry.a ++ needed_for direction B entry.b in
    let before = tables_needed direction (take k entries) in
    let at = get_or entries k past in
    let a = needed_for direction A at.a in
    let b = needed_for direction B at.b in
    let long : suc k + 1 ≡ suc (k + 1) = omega arith in
    ap (λ l. l ++ b) (append_assoc own before a) ∙
    append_assoc own (before ++ a) b ∙
    ap (λ l. own ++ l) (tables_more direction k entries past (omega (arith, h))) ∙
    ap (λ n. tables_needed direction (take n (entry ∷ entries))) (sym long)

-- the tables before an entry, its own, and those after it
pub split_at : (direction : Direction) (k : ℕ) (entries : List Entry) (past : Entry) →
    k < length entries →
    let entry = get_or entries k past in
    tables_needed direction entries
    ≡ tables_needed direction (take k entries)
    ++ (needed_for direction A entry.a ++ needed_for direction B entry.b
    ++ tables_needed direction (drop (k + 1) entries))
split_at direction k [] past h = absurd (omega (arith, h))
split_at direction zero (entry ∷ entries) past h = refl
split_at direction (suc k) (entry ∷ entries) past h =
    let own = needed_for direction A entry.a ++ needed_for direction B entry.b in
    let before = tables_needed direction (take k entries) in
    let at = get_or entries k past in
    let a = needed_for direction A at.a in
    let b = needed_for direction B at.b in
    let long : suc (k + 1) ≡ suc k + 1 = omega arith in
    ap (λ l. own ++ l) (split_at direction k entries past (omega (arith, h))) ∙
    sym (append_assoc own before (a ++ b ++ tables_needed direction (drop (k + 1) entries))) ∙
    ap (λ n. own ++ before
    ++ (a ++ b ++ tables_needed direction (drop n (entry ∷ entries)))) long

-- what stands after a front of a list
later : (front back : List NeededTable) (item : NeededTable) →
    slice_get (front ++ (item ∷ back)) (length front) ≡ Some item
later [] back item = refl
later (first ∷ front) back item = later front back item

module _ (direction : Direction) (entries : List Entry) (position : ℕ) (past : Entry)
    (within : position < length entries) where
  -- the index of half A's table, and of half B's, of the entry at a position
  pub first_table : (rule : HalfRule) → (get_or entries position past).a ≡ Some rule →
      slice_get (tables_needed direction entries)
      (length (tables_needed direction (take position entries)))
      ≡ Some (record { half = A; rule = rule; direction = direction })
  first_table rule is =
      let at = get_or entries position past in
      let before = tables_needed direction (take position entries) in
      let b = needed_for direction B at.b in
      let after = tables_needed direction (drop (position + 1) entries) in
      ap (λ l. slice_get l (length before))
      (split_at direction position entries past within ∙
      ap (λ a. before ++ (needed_for direction A a ++ b ++ after)) is) ∙
      later before (b ++ after) (record { half = A; rule = rule; direction = direction })

  pub second_table : (rule : HalfRule) → (get_or entries position past).b ≡ Some rule →
      slice_get (tables_needed direction entries)
      (length (tables_needed direction (take position entries))
      + length (needed_for direction A (get_or entries position past).a))
      ≡ Some (record { half = B; rule = rule; direction = direction })
  second_table rule is =
      let at = get_or entries position past in
      let before = tables_needed direction (take position entries) in
      let a = needed_for direction A at.a in
      let after = tables_needed direction (drop (position + 1) entries) in
      ap (λ l. slice_get l (length before + length a))
      (split_at direction position entries past within ∙
      ap (λ b. before ++ (a ++ needed_for direction B b ++ after)) is ∙
      ap (λ l. before ++ l) (append_assoc a (needed_for direction B (Some rule)) after) ∙
      sym (append_assoc before a (needed_for direction B (Some rule) ++ after))) ∙
      ap (slice_get ((before ++ a) ++ (needed_for direction B (Some rule) ++ after)))
      (sym (length-append before a)) ∙
      later (before ++ a) after (record { half = B; rule = rule; direction = direction })

-- a half without a rule needs no table, and one with a rule needs one
pub some-length : (direction : Direction) (half : Half) (rule : Option HalfRule) →
    length (needed_for direction half rule) ≡ bool_byte (is_some rule)
some-length direction half None = refl
some-length direction half (Some rule) = refl
