-- One step this way along a cycle, of a machine by all that it stores.
use Rattle.std.proofs.Common.{◌≡◌, ◌∙◌, ℕ, suc, List, length, Some, refl, sym, ap}
use Rattle.cam6_planes.specs.Side.{side_number}
use Rattle.cam6_planes.specs.Stored.{Stored, AreAlike}
use Rattle.cam6_planes.specs.Cells.{Cells, cells, stored_bit}
use Rattle.cam6_planes.specs.declared.sides.Side.{Side}
use Rattle.cam6_planes.proofs.CellsAt.{torus_again}
use Rattle.cam6_band.specs.AtPosition.{step_tables_at}
use Rattle.cam6_band.specs.ByTables.{StepTables, step_by}
use Rattle.cam6_cycle.specs.Along.{entry_index, position_after}
use Rattle.cam6_cycle.specs.declared.entries.Entry.{Entry}
use Rattle.cam6_cycle.specs.declared.tables.Direction.{Direction}
use Rattle.cam6_cycle.specs.declared.tables.Direction.TheVariants.{Forward, Backward}
use Rattle.cam6_model.specs.Rules.{Rule}
use Rattle.cam6_model.specs.Always.{HaveOwnNames}
use Rattle.cam6_model.specs.Machine.{Machine}
use Rattle.cam6_model.specs.Moves.{one_moved, moved, CanMove}
use Rattle.cam6_model.proofs.StepsOfATorus.{side_some}
use Rattle.cam6_rules.specs.Numbers.{AreNumbered}
use Rattle.cam6_rules.specs.Filled.{AreTablesOf}
use Rattle.cam6_rules.proofs.MovesByTables.{true_tables_move}
use Rattle.cam6_machine.specs.Internal.Images.{stored_as}

-- no steps leave a machine, and one step more comes after the others
pub none_moved : (direction : Direction) (m : Machine) → m ≡ moved direction 0 m
none_moved Forward m = refl
none_moved Backward m = refl

pub one_more : (direction : Direction) (n : ℕ) (m : Machine) →
    one_moved direction (moved direction n m) ≡ moved direction (suc n) m
one_more Forward n m = refl
one_more Backward n m = refl

-- where a machine can move this way it can with other planes and from another position
can_move_there : (direction : Direction) (limit : Side) (first old : Stored) (rules : List Rule)
    (cycle : List Entry) (start position : ℕ) (colours : List ℕ) →
    CanMove direction (stored_as first limit rules cycle start colours) →
    CanMove direction (stored_as old limit rules cycle position colours)
can_move_there Forward limit first old rules cycle start position colours can = tt
can_move_there Backward limit first old rules cycle start position colours can = can

module _ (direction : Direction) (limit : Side) (rules : List Rule) (cycle : List Entry) (colours : List ℕ)
    (own : HaveOwnNames rules) (old new : Stored) (alike : AreAlike old new) (position : ℕ) where
  -- by the tables of the entry by which a step goes, the planes after it and the position after it
  -- are those of one step
  pub one_step : (tables : List (List ℕ)) (step : StepTables) (first : Stored) (start : ℕ) →
      AreNumbered rules cycle →
      AreTablesOf direction rules cycle tables →
      CanMove direction (stored_as first limit rules cycle start colours) →
      step_tables_at cycle (entry_index direction (length cycle) position) tables ≡ Some step →
      cells new ≡ step_by (side_number old.side) step (cells old) →
      stored_as new limit rules cycle (position_after direction (length cycle) position) colours
      ≡ one_moved direction (stored_as old limit rules cycle position colours)
  one_step tables step first start numbered are can at made =
      let m = stored_as old limit rules cycle position colours in
      let after = position_after direction (length cycle) position in
      ap {B = Machine} (λ n. record m {
        side = n;
        planes = cells new;
        position = after;
      }) alike.side ∙
      ap {B = Machine} (λ (f : Cells). record m { planes = f; position = after }) made ∙
      sym (true_tables_move direction m cycle tables step own numbered refl
      (torus_again (side_number old.side) (stored_bit old.rows) (side_some old.side))
      (can_move_there direction limit first old rules cycle start position colours can) are at)
