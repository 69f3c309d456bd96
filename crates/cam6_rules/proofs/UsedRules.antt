-- Where the rules of a cycle's entries stay what they are, tables that are true ones stay so.
use Rattle.std.proofs.Common.{◌≡◌, ◌∙◌, ℕ, List, [], ◌∷◌, ◌++◌, map, Option}
use Rattle.std.proofs.Common.{Some, None, slice_get, slice_index_or, option_map, refl, sym, ap, subst}
use Rattle.std.specs.List.{AllByRecursion}
use Rattle.std.proofs.lemmas.List.{map-append}
use Rattle.std.proofs.lemmas.Option.{slice_get-map, slice_get_within}
use Rattle.cam6_wiring.specs.declared.names.Half.{Half}
use Rattle.cam6_wiring.specs.declared.names.Half.TheVariants.{A, B}
use Rattle.cam6_cycle.specs.Tables.{needed_for, tables_needed}
use Rattle.cam6_cycle.specs.declared.entries.Entry.{Entry}
use Rattle.cam6_cycle.specs.declared.entries.HalfRule.{HalfRule}
use Rattle.cam6_cycle.specs.declared.tables.Direction.{Direction}
use Rattle.cam6_cycle.specs.declared.tables.NeededTable.{NeededTable}
use Rattle.cam6_model.specs.Rules.{Rule}
use Rattle.cam6_model.specs.TrueTables.{IsTableFor}
use Rattle.cam6_rules.specs.Numbers.{rule_at}
use Rattle.cam6_rules.specs.Filled.{StoredTables, AreTablesOf, AreTablesIf, AreTrue}

-- the rule of a needed table
abbrev pub rule_of : List Rule → NeededTable → Option Rule
rule_of rules table = rule_at rules (Some table.rule.number)

-- the rules of a cycle's uses
abbrev pub used_rules : Direction → List Rule → List Entry → List (Option Rule)
used_rules way rules cycle = map (rule_of rules) (tables_needed way cycle)

-- a half has the same rule among others by another number, if it has one
abbrev pub HasSameRule : List Rule → List Rule → Option HalfRule → Option HalfRule → Type 0
HasSameRule old new None None = Unit {0}
HasSameRule old new None (Some other) = ⊥
HasSameRule old new (Some half) None = ⊥
HasSameRule old new (Some half) (Some other) =
    rule_at new (Some other.number) ≡ rule_at old (Some half.number)

-- so it is with both halves of all entries, by the numbers that they then have
abbrev pub HaveSameRules : List Rule → List Rule → (Entry → Entry) → List Entry → Type 0
HaveSameRules old new renumbered cycle =
    AllByRecursion (λ entry. HasSameRule old new entry.a (renumbered entry).a
    × HasSameRule old new entry.b (renumbered entry).b) cycle

module _ (way : Direction) (old new : List Rule) where
  same_of_half : (half : Half) (o other : Option HalfRule) → HasSameRule old new o other →
      map (rule_of new) (needed_for way half other) ≡ map (rule_of old) (needed_for way half o)
  same_of_half half None None same = refl
  same_of_half half None (Some other) same = absurd same
  same_of_half half (Some rule) None same = absurd same
  same_of_half half (Some rule) (Some other) same = ap (λ (r : Option Rule). r ∷ []) same

  -- the uses have the same rules, one after another
  same_used : (renumbered : Entry → Entry) (cycle : List Entry) →
      HaveSameRules old new renumbered cycle →
      used_rules way new (map renumbered cycle) ≡ used_rules way old cycle
  same_used renumbered [] same = refl
  same_used renumbered (entry ∷ cycle) same =
      let other = renumbered entry in
      let a = needed_for way A entry.a in
      let b = needed_for way B entry.b in
      let rest = tables_needed way cycle in
      let new_a = needed_for way A other.a in
      let new_b = needed_for way B other.b in
      let new_rest = tables_needed way (map renumbered cycle) in
      map-append (rule_of new) (new_a ++ new_b) new_rest ∙
      ap (λ l. l ++ map (rule_of new) new_rest) (map-append (rule_of new) new_a new_b) ∙
      ap (λ l. (l ++ map (rule_of new) new_b) ++ map (rule_of new) new_rest)
      (same_of_half A entry.a other.a same.0.0) ∙
      ap (λ l. (map (rule_of old) a ++ l) ++ map (rule_of new) new_rest)
      (same_of_half B entry.b other.b same.0.1) ∙
      ap (λ l. (map (rule_of old) a ++ map (rule_of old) b) ++ l)
      (same_used renumbered cycle same.1) ∙
      ap (λ l. l ++ map (rule_of old) rest) (sym (map-append (rule_of old) a b)) ∙
      sym (map-append (rule_of old) (a ++ b) rest)

-- an item of which something is known is there
was_there : {X Y : Type 0} (f : X → Y) (o : Option X) (y : Y) → option_map f o ≡ Some y →
    (x : X) × (o ≡ Some x) × (f x ≡ y)
was_there f None y is = cc is
was_there f (Some x) y is = (x, refl, cc is)

module _ (way : Direction) (old new : List Rule) (cycle renumbered : List Entry)
    (tables : List (List ℕ)) where
  -- tables of uses that have the same rules
  tables_of_same : used_rules way new renumbered ≡ used_rules way old cycle →
      AreTablesOf way old cycle tables → AreTablesOf way new renumbered tables
  tables_of_same same are index table within found =
      let uses = tables_needed way cycle in
      let other = tables_needed way renumbered in
      let at : option_map (rule_of old) (slice_get uses index) ≡ Some (rule_of new table) =
      sym (slice_get-map (rule_of old) uses index) ∙
      ap (λ l. slice_get l index) (sym same) ∙
      slice_get-map (rule_of new) other index ∙ ap (option_map (rule_of new)) found in
      let (use_of, here, rule) = was_there (rule_of old) (slice_get uses index) (rule_of new table) at in
      subst (λ (r : Option Rule). IsTableFor way r (slice_index_or tables index [])) rule
      (are index use_of (slice_get_within uses index use_of here) here)

pub stay_true : (old new : List Rule) (renumbered : Entry → Entry) (cycle : List Entry)
    (tables : StoredTables) → HaveSameRules old new renumbered cycle →
    AreTrue tables old cycle → AreTrue tables new (map renumbered cycle)
stay_true old new renumbered cycle tables same are = by_way tables.filled are
  where
    by_way : (o : Option Direction) → AreTablesIf o old cycle tables.entries →
        AreTablesIf o new (map renumbered cycle) tables.entries
    by_way None are = tt
    by_way (Some way) are =
        tables_of_same way old new cycle (map renumbered cycle) tables.entries
        (same_used way old new renumbered cycle same) are
