-- A band takes a job on as the machine moves along whose cycle it goes.
use Rattle.std.proofs.Common.{◌≡◌, ◌∙◌, ℕ, zero, suc, ◌+◌, ◌<◌, List, length, Some}
use Rattle.std.proofs.Common.{option_map, slice_get, refl, sym, ap, subst, arith, inl, inr}
use Rattle.std.proofs.Math.Nat.{mod-lt}
use Rattle.std.proofs.lemmas.Option.{slice_get_cases}
use Rattle.cam6_planes.specs.Cells.{Cells}
use Rattle.cam6_planes.specs.Side.{side_number}
use Rattle.cam6_planes.specs.declared.sides.Side.{Side}
use Rattle.cam6_cycle.specs.Along.{entry_index, position_after, previous}
use Rattle.cam6_cycle.specs.declared.entries.Entry.{Entry}
use Rattle.cam6_cycle.specs.declared.tables.Direction.{Direction}
use Rattle.cam6_cycle.specs.declared.tables.Direction.TheVariants.{Forward, Backward}
use Rattle.cam6_band.specs.AtPosition.{step_tables_at}
use Rattle.cam6_band.specs.ByTables.{StepTables, step_by}
use Rattle.cam6_model.specs.Machine.{Machine}
use Rattle.cam6_model.specs.Moves.{moved, CanMove}
use Rattle.cam6_model.specs.Always.{IsMachine}
use Rattle.cam6_rules.specs.Numbers.{named_entries, AreNumbered}
use Rattle.cam6_rules.specs.Filled.{AreTablesOf}
use Rattle.cam6_rules.proofs.MovesByTables.{one_more_by_tables}
use Rattle.cam6_board.specs.declared.boards.BandEnd.{BandEnd}
use Rattle.cam6_board.specs.declared.images.Image.{Image}
use Rattle.cam6_board.specs.declared.images.Image.TheVariants.{Rest, Mid}
use Rattle.cam6_board.specs.Images.{planes_in, IsOnTheWay, IsAfterBand, GoesOn}
use Rattle.cam6_board.specs.Jobs.{StoredJob}
use Rattle.cam6_board.specs.Bands.{step_of, end_of, Counts, Moves}
use Rattle.cam6_board.specs.Standing.{GoesAlong, IsStepsOn, steps_after}
use Rattle.cam6_board.specs.Laws.{BandsFollowTheMachine}

-- among the entries are that by which a step goes and the position after it
previous_within : (len position : ℕ) → position < len → previous len position < len
previous_within len zero within = omega (arith, within)
previous_within len (suc position) within = omega (arith, within)

index_within : (direction : Direction) (len position : ℕ) → position < len →
    entry_index direction len position < len
index_within Forward len position within = within
index_within Backward len position within = previous_within len position within

after_within : (direction : Direction) (len position : ℕ) → position < len →
    position_after direction len position < len
after_within Forward len position within =
    let some : 0 < len = omega (arith, within) in mod-lt (position + 1) some
after_within Backward len position within = previous_within len position within

there_is : {X : Type 0} (xs : List X) (i : ℕ) → i < length xs →
    (x : X) × (slice_get xs i ≡ Some x)
there_is xs i within = elim (slice_get_cases xs i).1 [
  | inl found ↦ (found.0, found.2)
  | inr past ↦ absurd (omega (arith, within, past.0))
]

-- a band ends a step as it is told
pub one_more_after : (steps n : ℕ) → steps_after (end_of steps) n ≡ n + 1
one_more_after zero n = refl
one_more_after (suc steps) n = refl

module _ (m : Machine) (tables : List (List ℕ)) (n : ℕ) (before : StoredJob) (is : IsMachine m)
    (goes : GoesAlong m tables before) (on : IsStepsOn m n before) where
  -- the tables by which its step goes
  its_step : (step : StepTables) × (step_of before tables ≡ Some step)
  its_step =
      let len = length before.cycle in
      let index = entry_index before.direction len before.position in
      let entry = there_is before.cycle index
      (index_within before.direction len before.position goes.within) in
      (_, ap (option_map _) entry.1)

  -- the planes and the position one step further on
  further : ((moved before.direction (n + 1) m).planes
      ≡ step_by (side_number m.side) its_step.0 (moved before.direction n m).planes) ×
      ((moved before.direction (n + 1) m).position
      ≡ position_after before.direction (length before.cycle)
      (moved before.direction n m).position)
  further =
      let len = length before.cycle in
      one_more_by_tables before.direction m n before.cycle tables its_step.0 is goes.numbered goes.cycle
      goes.can goes.true_tables
      (ap (λ p. step_tables_at before.cycle (entry_index before.direction len p) tables)
      (sym on.position) ∙
      its_step.1)

  module _ (after : StoredJob) (end : BandEnd) (moves : Moves tables before end after) where
    beyond : IsAfterBand (moved before.direction n m).planes
        (moved before.direction (n + 1) m).planes after.image
    beyond =
        let o = (moved before.direction n m).planes in
        let step = its_step.0 in
        let made = further.0 ∙
        ap (λ (k : Side). step_by (side_number k) step o) (sym on.side) in
        subst (λ (f : Cells). IsAfterBand o f after.image) (sym made)
        (moves.planes o step its_step.1
        (subst (λ (f : Cells). IsOnTheWay o f before.image) made on.planes))

    -- of whatever image: its side, the position, and the planes on the way
    abbrev Stands : ℕ → Image → Type 0
    Stands k image =
        ((planes_in image).side ≡ m.side)
        × (after.position ≡ (moved before.direction k m).position)
        × IsOnTheWay (moved before.direction k m).planes
        (moved before.direction (k + 1) m).planes image
        × (after.position < length before.cycle)

    stands : (image : Image) → GoesOn before.image image → Counts image before end after →
        IsAfterBand (moved before.direction n m).planes
        (moved before.direction (n + 1) m).planes image →
        Stands (steps_after end n) image
    stands (Mid mid) goes_on counts way =
        subst (λ e. Stands (steps_after e n) (Mid mid)) (sym counts.0) (
          goes_on.0.side ∙ on.side,
          counts.1 ∙ on.position,
          way,
          subst (λ p. p < length before.cycle) (sym counts.1) goes.within,
        )
    stands (Rest rest) goes_on counts way =
        let len = length before.cycle in
        subst (λ k. Stands k (Rest rest))
        (sym (ap (λ e. steps_after e n) counts.0 ∙ one_more_after after.steps n)) (
          goes_on.0.side ∙ on.side,
          counts.1 ∙ ap (position_after before.direction len) on.position ∙ sym further.1,
          way,
          subst (λ p. p < len) (sym counts.1)
              (after_within before.direction len before.position goes.within),
        )

    pub still_along : GoesAlong m tables after
    still_along =
        let stand = stands after.image moves.goes_on moves.counts beyond in
        record {
          numbered = subst (AreNumbered m.rules) (sym moves.cycle) goes.numbered;
          cycle = goes.cycle ∙ ap (named_entries m.rules) (sym moves.cycle);
          within = subst (λ (c : List Entry). after.position < length c) (sym moves.cycle) stand.3;
          can = subst (λ d. CanMove d m) (sym moves.direction) goes.can;
          true_tables = subst (λ d. AreTablesOf d m.rules after.cycle tables) (sym moves.direction)
              (subst (λ (c : List Entry). AreTablesOf before.direction m.rules c tables)
              (sym moves.cycle) goes.true_tables);
        }

    pub steps_on : IsStepsOn m (steps_after end n) after
    steps_on =
        let stand = stands after.image moves.goes_on moves.counts beyond in
        let k = steps_after end n in
        record {
          side = stand.0;
          position = stand.1 ∙ ap (λ d. (moved d k m).position) (sym moves.direction);
          planes = subst (λ d. IsOnTheWay (moved d k m).planes (moved d (k + 1) m).planes after.image)
              (sym moves.direction) stand.2;
        }

pub bands_follow : BandsFollowTheMachine
bands_follow m tables n before after end is goes on moves = (
  still_along m tables n before is goes on after end moves,
  steps_on m tables n before is goes on after end moves,
)
