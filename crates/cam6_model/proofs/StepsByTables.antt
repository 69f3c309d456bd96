-- A step by the tables of an entry's rules is the entry's step, or backward its step undone.
use Rattle.std.proofs.Common.{◌≡◌, ◌∙◌, ℕ, ◌%◌, ◌<◌, ◌&&◌, Bool, Option, Some, None, nat_lt}
use Rattle.std.proofs.Common.{slice_index, refl, sym, ap}
use Rattle.std.specs.Prelude.{⊤}
use Rattle.std.proofs.Math.Nat.{mod-lt}
use Rattle.std.proofs.Math.Path.{fun_ext}
use Rattle.cam6_planes.specs.Cells.{Cells, torus}
use Rattle.cam6_wiring.specs.Block.{corner_of}
use Rattle.cam6_wiring.specs.Name.{on_plane}
use Rattle.cam6_wiring.specs.Seen.{Sees, seen, address}
use Rattle.cam6_wiring.specs.declared.names.Half.{Half}
use Rattle.cam6_wiring.specs.declared.names.Half.TheVariants.{A, B}
use Rattle.cam6_wiring.specs.declared.names.Level.{Level}
use Rattle.cam6_wiring.specs.declared.neighbours.Setting.{Setting}
use Rattle.cam6_forth.specs.Trees.{tree_of}
use Rattle.cam6_entries.specs.NewBits.{bit_for}
use Rattle.cam6_table.proofs.TrueTables.{true_table}
use Rattle.cam6_block.specs.Blocks.{corner_sees, corner_address}
use Rattle.cam6_block.specs.BlockMaps.{block_map, preimage, reading_of}
use Rattle.cam6_block.proofs.States.{bit_for-corner_bits}
use Rattle.cam6_cycle.specs.declared.tables.Direction.{Direction}
use Rattle.cam6_cycle.specs.declared.tables.Direction.TheVariants.{Forward, Backward}
use Rattle.cam6_band.specs.ByTables.{HalfEntries, StepTables, bit_by_table, table_for, setting_by}
use Rattle.cam6_band.specs.ByTables.{step_by}
use Rattle.cam6_model.specs.Rules.{Rule}
use Rattle.cam6_model.specs.Cycles.{EntryRules, rule_for, setting_for}
use Rattle.cam6_model.specs.Steps.{new_bit, new_cell}
use Rattle.cam6_model.specs.Undoing.{block_state_at, corner_in_block, changed_cell, blockwise}
use Rattle.cam6_model.specs.Undoing.{undone_by}
use Rattle.cam6_model.specs.Undoing.{IsReversibleRule, IsReversibleEntry}
use Rattle.cam6_model.specs.TrueTables.{HasTableFor, AreTablesFor}
use Rattle.cam6_model.specs.Moves.{planes_moved}
use Rattle.cam6_model.specs.Laws.{TrueTablesStep, InvertedTablesUndo}
use Rattle.cam6_model.proofs.BlocksOfCells.{corner_number-lt, block_state_at-lt}
use Rattle.cam6_model.proofs.AddressesOfBlocks.{addresses_agree}
use Rattle.cam6_model.proofs.SeenInBlocks.{sees_block}
use Rattle.cam6_model.proofs.StepsByBlocks.{same_on_planes}

-- forward a rule can always be gone by, and backward where it can be undone, on an even side
abbrev pub CanGoBy : Direction → ℕ → Option Rule → Type 0
CanGoBy Forward s rule = ⊤
CanGoBy Backward s rule = (0 < s) × (s % 2 ≡ 0) × IsReversibleRule rule

-- each rule of an entry that can be undone can be undone
pub can_be_undone : (entry : EntryRules) → IsReversibleEntry entry → (half : Half) →
    IsReversibleRule (rule_for half entry)
can_be_undone entry can A = can.0
can_be_undone entry can B = can.1

-- what a cell becomes in a plane of a half
abbrev cell_after : Direction → ℕ → Cells → Setting → Option Rule → Level → ℕ → ℕ → Bool
cell_after Forward s f setting rule level x y = new_cell s f setting rule level x y
cell_after Backward s f setting rule level x y =
    changed_cell s f setting.grid setting.half (undone_by setting.phase rule) level x y

module _ (s : ℕ) (f : Cells) (setting : Setting) (rule : Rule) (half : HalfEntries)
    (level : Level) (x y : ℕ) where
  -- by the rule's own wiring
  by_wiring : half.hood ≡ rule.wiring.hood → half.minor ≡ rule.wiring.minor →
      bit_by_table s f setting (Some half) level x y
      ≡ bit_for level (slice_index half.entries
      (address s f setting rule.wiring.hood rule.wiring.minor x y))
  by_wiring same_hood same_minor =
      ap (λ hood. bit_for level
      (slice_index half.entries (address s f setting hood half.minor x y))) same_hood ∙
      ap (λ minor. bit_for level
      (slice_index half.entries (address s f setting rule.wiring.hood minor x y))) same_minor

  -- by a true table: what the words of the rule make of it
  by_true_table : HasTableFor Forward (Some rule) (Some half) →
      bit_by_table s f setting (Some half) level x y
      ≡ new_cell s f setting (Some rule) level x y
  by_true_table has =
      by_wiring has.0 has.1 ∙
      sym (ap (new_bit level)
      (true_table rule.wiring (tree_of rule.text) half.entries
      (λ name. seen s f setting name x y) has.2.rule has.2.holds))

  -- by an inverted table: its corner's bit in the least state that becomes its block's
  by_inverse_table : 0 < s → s % 2 ≡ 0 → x < s → y < s → IsReversibleRule (Some rule) →
      HasTableFor Backward (Some rule) (Some half) →
      bit_by_table s f setting (Some half) level x y
      ≡ changed_cell s f setting.grid setting.half (undone_by setting.phase (Some rule)) level x y
  unfolding corner_address
  by_inverse_table some even h k can has =
      let state = block_state_at s f setting.half setting.grid x y in
      let corner = corner_in_block setting.grid x y in
      let sees : Sees = λ name. seen s f setting name x y in
      let inverted = has.2.1 in
      by_wiring has.0 has.1 ∙
      ap (λ shown. bit_for level (slice_index half.entries shown))
      (addresses_agree sees (corner_sees setting.phase state corner)
      (sees_block s f setting x y some even h k) rule.wiring.hood rule.wiring.minor can.blocks
      can.alone) ∙
      ap (bit_for level)
      (inverted.shown setting.phase state corner
      (block_state_at-lt s f setting.half setting.grid x y)
      (corner_number-lt (corner_of setting.grid x y))) ∙
      bit_for-corner_bits level (preimage (block_map (reading_of rule.wiring rule.text) setting.phase) state) corner

-- a cell's new bit, of a half that has its rule's table
cell_by_table : (direction : Direction) (s : ℕ) (f : Cells) (setting : Setting)
    (rule : Option Rule) (table : Option HalfEntries) (level : Level) (x y : ℕ) →
    CanGoBy direction s rule → HasTableFor direction rule table →
    bit_by_table s f setting table level (x % s) (y % s)
    ≡ cell_after direction s f setting rule level (x % s) (y % s)
cell_by_table Forward s f setting None None level x y can has = refl
cell_by_table Backward s f setting None None level x y can has = refl
cell_by_table direction s f setting None (Some half) level x y can has = absurd has
cell_by_table direction s f setting (Some rule) None level x y can has = absurd has
cell_by_table Forward s f setting (Some rule) (Some half) level x y can has =
    by_true_table s f setting rule half level (x % s) (y % s) has
cell_by_table Backward s f setting (Some rule) (Some half) level x y (some, even, can) has =
    by_inverse_table s f setting rule half level (x % s) (y % s) some even (mod-lt x some)
    (mod-lt y some) can has

-- all cells become this at once
all_cells : (direction : Direction) (s : ℕ) (entry : EntryRules) (f : Cells) →
    torus s (λ p x y. on_plane p (λ half level.
    cell_after direction s f (setting_for half entry) (rule_for half entry) level x y))
    ≡ planes_moved direction s entry f
unfolding blockwise
all_cells Forward s entry f = refl
all_cells Backward s entry f = refl

module _ (direction : Direction) (s : ℕ) (entry : EntryRules) (tables : StepTables)
    (are : AreTablesFor direction entry tables) where
  half_has : (half : Half) → HasTableFor direction (rule_for half entry) (table_for half tables)
  half_has A = are.a
  half_has B = are.b

  setting_is : (half : Half) → setting_by half tables ≡ setting_for half entry
  setting_is half =
      ap {B = Setting} (λ g. record { half = half; grid = g; phase = tables.phase }) are.grid ∙
      ap {B = Setting} (λ p. record { half = half; grid = entry.grid; phase = p }) are.phase

  -- on cells f that are a torus
  pub step_by_tables : (f : Cells) → ((half : Half) → CanGoBy direction s (rule_for half entry)) →
      torus s f ≡ f → step_by s tables f ≡ planes_moved direction s entry f
  unfolding step_by
  step_by_tables f can whole =
      let by : Cells → ℕ → ℕ → Half → Level → Bool =
      λ g x y half level.
      bit_by_table s g (setting_by half tables) (table_for half tables) level x y in
      let after : ℕ → ℕ → Half → Level → Bool =
      λ x y half level.
      cell_after direction s f (setting_for half entry) (rule_for half entry) level x y in
      ap (λ (g : Cells). torus s (λ p x y. on_plane p (λ half level. by g x y half level)))
      whole ∙
      fun_ext (λ p. fun_ext (λ x. fun_ext (λ y.
      ap (λ bit. nat_lt p 4 && bit)
      (same_on_planes (by f (x % s) (y % s)) (after (x % s) (y % s))
      (λ half level.
      ap (λ set. bit_by_table s f set (table_for half tables) level (x % s) (y % s))
      (setting_is half) ∙
      cell_by_table direction s f (setting_for half entry) (rule_for half entry)
      (table_for half tables) level x y (can half) (half_has half)) p)))) ∙
      all_cells direction s entry f

pub true_tables_step : TrueTablesStep
true_tables_step s entry tables f are whole =
    step_by_tables Forward s entry tables are f (λ half. tt) whole

pub inverted_tables_undo : InvertedTablesUndo
inverted_tables_undo s entry tables f some even can are whole =
    step_by_tables Backward s entry tables are f
    (λ half. (some, even, can_be_undone entry can half)) whole
