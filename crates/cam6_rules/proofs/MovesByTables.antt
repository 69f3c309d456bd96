-- A machine that moves by one step by the true tables of its cycle.
use Rattle.std.proofs.Common.{◌≡◌, ◌∙◌, ◌+◌, ℕ, suc, List, length, Option, Some, None, arith}
use Rattle.std.proofs.Common.{option_map, slice_get, refl, sym, ap, subst}
use Rattle.std.proofs.lemmas.List.{length-map}
use Rattle.std.proofs.lemmas.Option.{slice_get-map}
use Rattle.cam6_planes.specs.Side.{side_number}
use Rattle.cam6_planes.specs.Cells.{Cells, torus}
use Rattle.cam6_planes.specs.declared.sides.Side.{Side}
use Rattle.cam6_wiring.specs.declared.names.Half.{Half}
use Rattle.cam6_band.specs.AtPosition.{step_tables_at}
use Rattle.cam6_band.specs.ByTables.{StepTables, step_by}
use Rattle.cam6_cycle.specs.Along.{entry_index, position_after}
use Rattle.cam6_cycle.specs.declared.entries.Entry.{Entry}
use Rattle.cam6_cycle.specs.declared.tables.Direction.{Direction}
use Rattle.cam6_cycle.specs.declared.tables.Direction.TheVariants.{Forward, Backward}
use Rattle.cam6_commands.specs.declared.commands.NamedEntry.{NamedEntry}
use Rattle.cam6_model.specs.Cycles.{entry_rules, rule_for}
use Rattle.cam6_model.specs.Undoing.{IsReversibleEntry}
use Rattle.cam6_model.specs.Always.{HaveOwnNames, IsMachine}
use Rattle.cam6_model.specs.Machine.{Machine, stepped_by, unstepped_by}
use Rattle.cam6_model.specs.Moves.{planes_moved, one_moved, moved, CanMove}
use Rattle.cam6_model.proofs.BothWays.{only_these}
use Rattle.cam6_model.proofs.RulesOfEntries.{of_entry}
use Rattle.cam6_model.proofs.StepsByTables.{CanGoBy, step_by_tables, can_be_undone}
use Rattle.cam6_model.proofs.StepsOfATorus.{side_some, side_even, AreWhole}
use Rattle.cam6_model.proofs.StepsOfATorus.{steps_whole, unsteps_whole}
use Rattle.cam6_rules.specs.Numbers.{named_entry, named_entries, rules_at, AreNumbered}
use Rattle.cam6_rules.specs.Filled.{AreTablesOf}
use Rattle.cam6_rules.specs.Laws.{TrueTablesMove}
use Rattle.cam6_rules.proofs.Naming.{same_rules}
use Rattle.cam6_rules.proofs.TablesOfPositions.{tables_by_use}

-- where there is something of an item, there is the item
was_there : {X Y : Type 0} (f : X → Y) (o : Option X) (y : Y) → option_map f o ≡ Some y →
    (x : X) × (o ≡ Some x)
was_there f None y is = cc is
was_there f (Some x) y is = (x, refl)

-- one step this way is by the entry of the cycle by which a step goes
moved_by : (direction : Direction) (m : Machine) (entry : NamedEntry) →
    slice_get m.cycle (entry_index direction (length m.cycle) m.position) ≡ Some entry →
    record m {
      planes =
          planes_moved direction (side_number m.side) (entry_rules m.rules entry) m.planes;
      position = position_after direction (length m.cycle) m.position;
    }
    ≡ one_moved direction m
moved_by Forward m entry at = ap (λ e. stepped_by e m) (sym at)
moved_by Backward m entry at =
    ap (λ e. unstepped_by (position_after Backward (length m.cycle) m.position) e m) (sym at)

-- where a machine can move this way, its step can go by the rules of each entry
can_go_by : (direction : Direction) (m : Machine) (entries : List Entry) (index : ℕ)
    (entry : Entry) → HaveOwnNames m.rules → m.cycle ≡ named_entries m.rules entries →
    slice_get m.cycle index ≡ Some (named_entry m.rules entry) → CanMove direction m →
    (half : Half) → CanGoBy direction (side_number m.side) (rule_for half (rules_at m.rules entry))
can_go_by Forward m entries index entry own cycle found can half = tt
can_go_by Backward m entries index entry own cycle found can half = (
  side_some m.side,
  side_even m.side,
  can_be_undone (rules_at m.rules entry)
      (subst IsReversibleEntry (same_rules m.rules entry own)
      (of_entry (λ e. IsReversibleEntry (entry_rules m.rules e)) m.cycle index
      (named_entry m.rules entry) can found))
      half,
)

pub true_tables_move : TrueTablesMove
true_tables_move direction m entries tables step own numbered cycle whole can are at =
    let s = side_number m.side in
    let index = entry_index direction (length entries) m.position in
    let there = was_there _ (slice_get entries index) step at in
    let entry = there.0 in
    let found : slice_get entries index ≡ Some entry = there.1 in
    let name = named_entry m.rules entry in
    let all : length m.cycle ≡ length entries =
    ap length cycle ∙ length-map entries (named_entry m.rules) in
    let named : slice_get m.cycle index ≡ Some name =
    ap (λ c. slice_get c index) cycle ∙ slice_get-map (named_entry m.rules) entries index ∙
    ap (option_map (named_entry m.rules)) found in
    let here : slice_get m.cycle (entry_index direction (length m.cycle) m.position) ≡ Some name =
    ap (λ n. slice_get m.cycle (entry_index direction n m.position)) all ∙ named in
    let made : step_by s step m.planes
    ≡ planes_moved direction s (entry_rules m.rules name) m.planes =
    step_by_tables direction s (rules_at m.rules entry) step
    (tables_by_use direction m.rules entries tables index entry step numbered are found at)
    m.planes (can_go_by direction m entries index entry own cycle named can) whole ∙
    ap (λ e. planes_moved direction s e m.planes) (sym (same_rules m.rules entry own)) in
    sym (moved_by direction m name here) ∙
    ap {B = Machine} (λ (f : Cells). record m {
      planes = f;
      position = position_after direction (length m.cycle) m.position;
    }) (sym made) ∙
    ap {B = Machine} (λ n. record m {
      planes = step_by s step m.planes;
      position = position_after direction n m.position;
    }) all

-- some steps on, planes are still of the machine's side, and it can still move
moved_whole : (direction : Direction) (n : ℕ) (m : Machine) → AreWhole m →
    AreWhole (moved direction n m)
moved_whole Forward n m whole = steps_whole n m whole
moved_whole Backward n m whole = unsteps_whole n m whole

can_move_on : (direction : Direction) (m : Machine) (planes : Cells) (position : ℕ) →
    CanMove direction m → CanMove direction (record m { planes = planes; position = position })
can_move_on Forward m planes position can = tt
can_move_on Backward m planes position can = can

one_more_moved : (direction : Direction) (n : ℕ) (m : Machine) →
    moved direction (n + 1) m ≡ one_moved direction (moved direction n m)
one_more_moved Forward n m =
    let one : n + 1 ≡ suc n = omega arith in ap (λ k. moved Forward k m) one
one_more_moved Backward n m =
    let one : n + 1 ≡ suc n = omega arith in ap (λ k. moved Backward k m) one

-- one step more, after some others
pub one_more_by_tables : (direction : Direction) (m : Machine) (n : ℕ) (entries : List Entry)
    (tables : List (List ℕ)) (step : StepTables) →
    IsMachine m → AreNumbered m.rules entries → m.cycle ≡ named_entries m.rules entries →
    CanMove direction m → AreTablesOf direction m.rules entries tables →
    step_tables_at entries
    (entry_index direction (length entries) (moved direction n m).position) tables ≡ Some step →
    ((moved direction (n + 1) m).planes
    ≡ step_by (side_number m.side) step (moved direction n m).planes) ×
    ((moved direction (n + 1) m).position
    ≡ position_after direction (length entries) (moved direction n m).position)
one_more_by_tables direction m n entries tables step is numbered cycle can are at =
    let now = moved direction n m in
    let there : Machine = record m { planes = now.planes; position = now.position } in
    let same : now ≡ there = only_these direction m n in
    let whole : torus (side_number m.side) now.planes ≡ now.planes =
    subst (λ (s : Side). torus (side_number s) now.planes ≡ now.planes)
    (ap (λ (k : Machine). k.side) same) (moved_whole direction n m is.planes) in
    let made = one_more_moved direction n m ∙ ap (one_moved direction) same ∙
    true_tables_move direction there entries tables step is.rules.own numbered cycle whole
    (can_move_on direction m now.planes now.position can) are at in
    (ap (λ (k : Machine). k.planes) made, ap (λ (k : Machine). k.position) made)
