-- What output words, and values that come on top, make of a lane's state.
use Rattle.std.proofs.Common.{◌≡◌, ◌∙◌, ◌<◌, ◌≤◌, ◌+◌, ◌-◌, ◌%◌, ◌==◌, ℕ, zero, suc, ◌∷◌, ◌++◌, Bool}
use Rattle.std.proofs.Common.{Option, None, Some, Result, Ok, length, slice_index, ap, refl, sym, arith}
use Rattle.cam6_forth.specs.declared.words.StackWord.{StackWord}
use Rattle.cam6_forth.specs.declared.words.StackWord.TheVariants as word
use Rattle.cam6_forth.specs.declared.words.Target.{Target}
use Rattle.cam6_table.specs.declared.faults.RuleFault.{RuleFault}
use Rattle.cam6_table.specs.declared.floors.Floors.{Floors}
use Rattle.cam6_table.specs.declared.lanes.Lanes.{Lanes}
use Rattle.cam6_table.specs.declared.lane_stacks.Stacks.{Stacks}
use Rattle.cam6_table.specs.declared.outputs.State.{State}
use Rattle.cam6_table.specs.Words.{Values, pushed, on_stack}
use Rattle.cam6_table.specs.Meaning.{with_stack}
use Rattle.cam6_table.specs.Codes.{goes_on, go}
use Rattle.cam6_entries.specs.NewBits.{is_odd}
use Rattle.cam6_table.specs.Outputs.{with_output, written, written_top}
use Rattle.cam6_table.specs.Internal.Lanes.{column, value_at, floor_of, end_of, width_of, below_gap}
use Rattle.cam6_table.specs.Internal.Lanes.{stack_at, bit_written, state_at, Stands}
use Rattle.cam6_table.proofs.Columns.{column_at}
use Rattle.cam6_table.proofs.DeeperStacks.{on_deeper}
use Rattle.cam6_table.proofs.Gaps.{length_stack, lies_so, dropped}
use Rattle.cam6_table.proofs.LaneWords.{in_room}

abbrev ok_values : Values → Result Values RuleFault
ok_values values = Ok values

bit_is : (v : ℕ) → v < 2 → bit_written v ≡ Some (v == 1)
bit_is zero low = refl
bit_is (suc zero) low = refl
bit_is (suc (suc v)) low = absurd (omega arith)

-- a lowest bit that is kept is the one that is written
pub kept_bit : (v kept : ℕ) → kept ≡ v % 2 → bit_written kept ≡ Some (is_odd v)
kept_bit v kept is = ap bit_written is ∙ bit_is (v % 2) (omega arith)

abbrev pub state_of : Values → Option Bool → Option Bool → State
state_of stack lower upper = record { stack = stack; lower = lower; upper = upper }

-- the top value is written
pub top_written : (target : Target) (lane len : ℕ) (lanes : Lanes) →
    1 + end_of lane lanes.floors ≤ len →
    written target (state_at lane len lanes)
    ≡ Ok (with_output target (value_at lane lanes.stacks.rows (len - 1))
    (state_at lane (len - 1) lanes))
top_written target lane len lanes some =
    ap (λ (stack : Values). written_top target (stack ++ below_gap lane lanes.stacks.rows lanes.floors)
    (state_at lane len lanes))
    (column_at lane lanes.stacks.rows (end_of lane lanes.floors) len (len - 1) (omega arith)
    (omega arith))

module _ (lane : ℕ) (old : Lanes) (stacks : Stacks)
    (same : below_gap lane stacks.rows old.floors ≡ below_gap lane old.stacks.rows old.floors) where
  -- a value comes on top
  pub pushed_on : (v : ℕ) → Stands lane old.stacks.len old.floors →
      old.stacks.len < floor_of lane old.floors + 32 →
      column lane stacks.rows (end_of lane old.floors) stacks.len
      ≡ v ∷ column lane old.stacks.rows (end_of lane old.floors) old.stacks.len →
      goes_on (with_stack (state_at lane old.stacks.len old)
      (pushed v (stack_at lane old.stacks.rows old.floors old.stacks.len)))
      ≡ Ok (
        state_of (stack_at lane stacks.rows old.floors stacks.len)
            (bit_written (slice_index old.lower lane)) (bit_written (slice_index old.upper lane)),
        go 0 None,
      )
  pushed_on v stands low made =
      let stack = stack_at lane old.stacks.rows old.floors old.stacks.len in
      let is = length_stack lane old.stacks.len old.stacks.rows old.floors stands in
      ap (λ said. goes_on (with_stack (state_at lane old.stacks.len old) said))
      (in_room (v ∷ stack) (omega arith) ∙
      ap ok_values (sym (ap (λ (c : Values). c ++ below_gap lane stacks.rows old.floors) made ∙
      ap (λ (c : Values). v ∷
      (column lane old.stacks.rows (end_of lane old.floors) old.stacks.len ++ c)) same)))

  -- a stack word is done
  pub done_on : (said : StackWord) → Stands lane stacks.len old.floors →
      on_stack said (column lane old.stacks.rows (end_of lane old.floors) old.stacks.len)
      ≡ Ok (column lane stacks.rows (end_of lane old.floors) stacks.len) →
      goes_on (with_stack (state_at lane old.stacks.len old)
      (on_stack said (stack_at lane old.stacks.rows old.floors old.stacks.len)))
      ≡ Ok (
        state_of (stack_at lane stacks.rows old.floors stacks.len)
            (bit_written (slice_index old.lower lane)) (bit_written (slice_index old.upper lane)),
        go 0 None,
      )
  done_on said stands leaves =
      let new = column lane stacks.rows (end_of lane old.floors) stacks.len in
      let made : new ++ below_gap lane old.stacks.rows old.floors
      ≡ stack_at lane stacks.rows old.floors stacks.len = ap (λ (c : Values). new ++ c) (sym same) in
      let is = length_stack lane stacks.len stacks.rows old.floors stands in
      let high = stands.high in
      let long = ap length made in
      ap (λ left. goes_on (with_stack (state_at lane old.stacks.len old) left))
      (on_deeper said (column lane old.stacks.rows (end_of lane old.floors) old.stacks.len) new
      (below_gap lane old.stacks.rows old.floors) (omega arith) leaves ∙
      ap ok_values made)

-- a lane's state stays if each of its stacks does
pub others_stay : (lane : ℕ) (old : Lanes) (stacks : Stacks) →
    ((floor top : ℕ) → column lane stacks.rows floor top ≡ column lane old.stacks.rows floor top) →
    (top : ℕ) →
    state_of (stack_at lane stacks.rows old.floors top) (bit_written (slice_index old.lower lane))
    (bit_written (slice_index old.upper lane)) ≡ state_at lane top old
others_stay lane old stacks same top =
    let end = end_of lane old.floors in
    let from = floor_of lane old.floors - width_of lane old.floors in
    let to = end - width_of lane old.floors in
    ap (λ (stack : Values). state_of stack (bit_written (slice_index old.lower lane))
    (bit_written (slice_index old.upper lane)))
    (ap (λ (c : Values). c ++ column lane stacks.rows from to) (same end top) ∙
    ap (λ (c : Values). column lane old.stacks.rows end top ++ c) (same from to))

-- the top value is taken off
pub dropped_on : (lane len : ℕ) (old : Lanes) (floors : Floors) → Stands lane len old.floors →
    floor_of lane old.floors < len → floor_of lane floors ≡ floor_of lane old.floors →
    width_of lane floors ≡ width_of lane old.floors →
    (end_of lane old.floors < len → end_of lane floors ≡ end_of lane old.floors) →
    (len ≤ end_of lane old.floors → end_of lane floors + 1 ≡ len) →
    goes_on (with_stack (state_at lane len old)
    (on_stack word.Drop (stack_at lane old.stacks.rows old.floors len)))
    ≡ Ok (
      state_of (stack_at lane old.stacks.rows floors (len - 1))
          (bit_written (slice_index old.lower lane)) (bit_written (slice_index old.upper lane)),
      go 0 None,
    )
dropped_on lane len old floors stands some floor_is width_is same one =
    let rows = old.stacks.rows in
    ap (λ left. goes_on (with_stack (state_at lane len old) left))
    (dropped lane (floor_of lane old.floors) (width_of lane old.floors) (end_of lane old.floors) len
    (end_of lane floors) rows stands.deep stands.begins stands.in_place some same one ∙
    ap ok_values (sym (lies_so lane (len - 1) (floor_of lane old.floors) (end_of lane floors)
    (width_of lane old.floors) rows floors floor_is refl width_is)))
