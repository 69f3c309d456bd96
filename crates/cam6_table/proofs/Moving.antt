-- Lanes whose stacks were moved have their states.
use Rattle.std.proofs.Common.{◌≡◌, ◌∙◌, ℕ, slice_index, ap, arith}
use Rattle.cam6_table.specs.declared.floors.Floors.{Floors}
use Rattle.cam6_table.specs.declared.lanes.Lanes.{Lanes}
use Rattle.cam6_table.specs.declared.lane_stacks.Stacks.{Stacks}
use Rattle.cam6_table.specs.Words.{Values}
use Rattle.cam6_table.specs.Internal.Lanes.{value_at, floor_of, end_of, width_of, bit_written}
use Rattle.cam6_table.specs.Internal.Lanes.{stack_at, Stands, IsKept, IsUntouched}
use Rattle.cam6_table.proofs.Gaps.{same_stack}
use Rattle.cam6_table.proofs.LaneOutputs.{state_of}

-- the stack between other rows is the same
pub kept_by : (lanes : Lanes) (stacks : Stacks) (floors : Floors) (lane top after : ℕ) →
    Stands lane after floors →
    stack_at lane stacks.rows floors after ≡ stack_at lane lanes.stacks.rows lanes.floors top →
    IsKept top lanes after
    (record { stacks = stacks; floors = floors; lower = lanes.lower; upper = lanes.upper }) lane
kept_by lanes stacks floors lane top after stands same = record {
  stands = stands;
  same = ap (λ (stack : Values). state_of stack (bit_written (slice_index lanes.lower lane))
      (bit_written (slice_index lanes.upper lane))) same;
}

-- no row of a lane was changed, and its stack lies as it did
pub untouched_by : (lanes : Lanes) (stacks : Stacks) (floors : Floors) (lane : ℕ) →
    floor_of lane floors ≡ floor_of lane lanes.floors →
    end_of lane floors ≡ end_of lane lanes.floors →
    width_of lane floors ≡ width_of lane lanes.floors →
    ((row : ℕ) → value_at lane stacks.rows row ≡ value_at lane lanes.stacks.rows row) →
    IsUntouched lanes
    (record { stacks = stacks; floors = floors; lower = lanes.lower; upper = lanes.upper }) lane
untouched_by lanes stacks floors lane floor_is end_is width_is same = record {
  stands = λ top stands.
      let deep = stands.deep in
      let begins = stands.begins in
      let in_place = stands.in_place in
      let high = stands.high in
      record {
        deep = omega arith;
        begins = omega arith;
        in_place = omega arith;
        high = omega arith;
        within = stands.within;
      };
  spanned = λ span is.
      let deep = is.deep in
      let begins = is.begins in
      let in_place = is.in_place in
      let bottom = is.bottom in
      let full = is.full in
      record {
        deep = omega arith;
        begins = omega arith;
        in_place = omega arith;
        bottom = omega arith;
        full = omega arith;
      };
  state = λ top.
      ap (λ (stack : Values). state_of stack (bit_written (slice_index lanes.lower lane))
      (bit_written (slice_index lanes.upper lane)))
      (same_stack lane top stacks.rows lanes.stacks.rows floors lanes.floors floor_is end_is
      width_is same);
}

-- a lane that was not touched has its state
pub kept_untouched : (lanes new : Lanes) (lane top : ℕ) → IsUntouched lanes new lane →
    Stands lane top lanes.floors → IsKept top lanes top new lane
kept_untouched lanes new lane top same stands = record {
  stands = same.stands top stands;
  same = same.state top;
}

-- one after the other
pub kept_then : (lanes mid new : Lanes) (lane top between after : ℕ) →
    IsKept top lanes between mid lane → IsKept between mid after new lane →
    IsKept top lanes after new lane
kept_then lanes mid new lane top between after first second = record {
  stands = second.stands;
  same = second.same ∙ first.same;
}

pub untouched_then : (lanes mid new : Lanes) (lane : ℕ) → IsUntouched lanes mid lane →
    IsUntouched mid new lane → IsUntouched lanes new lane
untouched_then lanes mid new lane first second = record {
  stands = λ top stands. second.stands top (first.stands top stands);
  spanned = λ span is. second.spanned span (first.spanned span is);
  state = λ top. second.state top ∙ first.state top;
}
