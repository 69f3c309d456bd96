-- Where the tables of an entry lie, whichever way the cycle is gone along.
use Rattle.std.proofs.Common.{◌≡◌, ◌∙◌, ℕ, ◌+◌, List, [], ◌∷◌, ◌++◌, length, take, slice_get}
use Rattle.std.proofs.Common.{Option, Some, None, refl, sym, ap}
use Rattle.std.specs.Option.{option_map}
use Rattle.std.proofs.lemmas.List.{length-append}
use Rattle.cam6_wiring.specs.declared.names.Half.{Half}
use Rattle.cam6_wiring.specs.declared.names.Half.TheVariants.{A, B}
use Rattle.cam6_cycle.specs.Laws.{HaveTheirTables}
use Rattle.cam6_cycle.specs.Tables.{needed_for, tables_needed, count_before}
use Rattle.cam6_cycle.specs.declared.entries.Entry.{Entry}
use Rattle.cam6_cycle.specs.declared.entries.HalfRule.{HalfRule}
use Rattle.cam6_cycle.specs.declared.tables.Direction.{Direction}
use Rattle.cam6_cycle.specs.declared.tables.Direction.TheVariants.{Forward}
use Rattle.cam6_band.specs.ByTables.{StepTables, table_for}
use Rattle.cam6_band.specs.AtPosition.{half_at, tables_from, step_tables_at}
use Rattle.cam6_band.specs.Laws.{GoesByItsUse}

pub same_length : (way other : Direction) (half : Half) (rule : Option HalfRule) →
    length (needed_for way half rule) ≡ length (needed_for other half rule)
same_length way other half None = refl
same_length way other half (Some rule) = refl

-- as many tables are needed one way as the other
pub as_many : (way other : Direction) (entries : List Entry) →
    length (tables_needed way entries) ≡ length (tables_needed other entries)
as_many way other [] = refl
as_many way other (entry ∷ entries) =
    let a = λ (d : Direction). needed_for d A entry.a in
    let b = λ (d : Direction). needed_for d B entry.b in
    length-append (a way ++ b way) (tables_needed way entries) ∙
    ap (λ n. n + length (tables_needed way entries))
    (length-append (a way) (b way) ∙
    ap (λ n. n + length (b way)) (same_length way other A entry.a) ∙
    ap (λ n. length (a other) + n) (same_length way other B entry.b) ∙
    sym (length-append (a other) (b other))) ∙
    ap (λ n. length (a other ++ b other) + n) (as_many way other entries) ∙
    sym (length-append (a other ++ b other) (tables_needed other entries))

some_same : {X : Type 0} (x y : X) → Some x ≡ Some y → x ≡ y
some_same x y e = cc e

-- the tables at a position are those of the entry there
pub step_is : (entries : List Entry) (position : ℕ) (tables : List (List ℕ)) (entry : Entry)
    (step : StepTables) → slice_get entries position ≡ Some entry →
    step_tables_at entries position tables ≡ Some step →
    tables_from (count_before entries position) entry tables ≡ step
step_is entries position tables entry step found at =
    some_same (tables_from (count_before entries position) entry tables) step
    (ap (option_map (λ e. tables_from (count_before entries position) e tables)) (sym found) ∙ at)

pub goes_by_its_use : HaveTheirTables → GoesByItsUse
goes_by_its_use have way entries tables position step A entry rule found is at =
    let first = length (tables_needed way (take position entries)) in
    let same : count_before entries position ≡ first =
    as_many Forward way (take position entries) in (
      count_before entries position,
      ap (slice_get (tables_needed way entries)) same ∙
          (have way entries position entry found).0 rule is,
      ap (table_for A) (sym (step_is entries position tables entry step found at)) ∙
          ap (λ r. half_at r tables (count_before entries position)) is,
    )
goes_by_its_use have way entries tables position step B entry rule found is at =
    let first = length (tables_needed way (take position entries)) in
    let own = length (needed_for Forward A entry.a) in
    let index = count_before entries position + own in
    let same : index ≡ first + length (needed_for way A entry.a) =
    ap (λ n. n + own) (as_many Forward way (take position entries)) ∙
    ap (λ n. first + n) (same_length Forward way A entry.a) in (
      index,
      ap (slice_get (tables_needed way entries)) same ∙
          (have way entries position entry found).1 rule is,
      ap (table_for B) (sym (step_is entries position tables entry step found at)) ∙
          ap (λ r. half_at r tables index) is,
    )
