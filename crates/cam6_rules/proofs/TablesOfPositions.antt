-- The tables of a position are those of its entry's rules.
use Rattle.std.proofs.Common.{◌≡◌, ◌∙◌, ◌+◌, ℕ, List, [], length, take, get_or, Option}
use Rattle.std.proofs.Common.{Some, None, refl, sym, ap, subst}
use Rattle.std.proofs.lemmas.Option.{get_or_from_slice_get, slice_get_within}
use Rattle.cam6_wiring.specs.declared.names.Half.TheVariants.{A}
use Rattle.cam6_cycle.specs.Tables.{needed_for, tables_needed, count_before}
use Rattle.cam6_cycle.specs.declared.entries.Entry.{Entry}
use Rattle.cam6_cycle.specs.declared.entries.HalfRule.{HalfRule}
use Rattle.cam6_cycle.specs.declared.tables.Direction.{Direction}
use Rattle.cam6_cycle.specs.declared.tables.Direction.TheVariants.{Forward}
use Rattle.cam6_band.specs.AtPosition.{half_at}
use Rattle.cam6_band.proofs.Uses.{as_many, same_length, step_is}
use Rattle.cam6_model.specs.Rules.{Rule}
use Rattle.cam6_model.specs.TrueTables.{IsTableFor, HasTableFor, AreTablesFor}
use Rattle.cam6_rules.specs.Numbers.{rule_at, number_in, rules_at, IsNumbered}
use Rattle.cam6_rules.specs.Laws.{TablesByUse}
use Rattle.cam6_rules.proofs.FilledTables.{first_table, second_table, numbered_at}

-- a half whose rule stands at its number has its table, where this lies at the index
has_table : (way : Direction) (rules : List Rule) (half : Option HalfRule) (tables : List (List ℕ))
    (index : ℕ) → IsNumbered rules half →
    IsTableFor way (rule_at rules (number_in half)) (get_or tables index []) →
    HasTableFor way (rule_at rules (number_in half)) (half_at half tables index)
has_table way rules None tables index numbered is = tt
has_table way rules (Some half) tables index numbered is =
    let found = numbered.1 in
    subst (λ o. HasTableFor way o (half_at (Some half) tables index)) (sym found) (
      sym numbered.2,
      sym numbered.3,
      subst (λ o. IsTableFor way o (get_or tables index [])) found is,
    )

pub tables_by_use : TablesByUse
tables_by_use way rules entries tables position entry step numbered are found at =
    let within = slice_get_within entries position entry found in
    let same : get_or entries position entry ≡ entry =
    get_or_from_slice_get entries position entry entry found in
    let here = numbered_at rules entries position entry found numbered in
    let before = count_before entries position in
    let first : before ≡ length (tables_needed way (take position entries)) =
    as_many Forward way (take position entries) in
    let own : length (needed_for Forward A entry.a)
    ≡ length (needed_for way A (get_or entries position entry).a) =
    same_length Forward way A entry.a ∙
    ap (λ (e : Entry). length (needed_for way A e.a)) (sym same) in
    let second : before + length (needed_for Forward A entry.a)
    ≡ length (tables_needed way (take position entries))
    + length (needed_for way A (get_or entries position entry).a) =
    ap (λ n. n + length (needed_for Forward A entry.a)) first ∙
    ap (λ n. length (tables_needed way (take position entries)) + n) own in
    subst (AreTablesFor way (rules_at rules entry))
    (step_is entries position tables entry step found at)
    (record {
      a = has_table way rules entry.a tables before here.0
          (subst (λ n. IsTableFor way (rule_at rules (number_in entry.a)) (get_or tables n []))
          (sym first)
          (first_table way rules tables position entries entry within are entry.a
          (ap (λ e. e.a) same)));
      b = has_table way rules entry.b tables (before + length (needed_for Forward A entry.a)) here.1
          (subst (λ n. IsTableFor way (rule_at rules (number_in entry.b)) (get_or tables n []))
          (sym second)
          (second_table way rules tables position entries entry within are entry.b
          (ap (λ e. e.b) same)));
      grid = refl;
      phase = refl;
    })
