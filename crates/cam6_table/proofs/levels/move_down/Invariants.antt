use Rattle.std.proofs.Common.{◌≡◌, ◌<◌, ◌≤◌, ◌+◌, ◌-◌, ℕ, slice_index}
use Rattle.cam6_table.specs.declared.lane_values.TheConstants.{LANES}
use Rattle.cam6_table.specs.Internal.Lanes.{value_at}
use Rattle.cam6_table.specs.Internal.Sets.{IsIn, IsOut}
use Rattle.cam6_table.proofs.levels.move_down.Given as goal

-- the rows before the next one are where they go, and the others where they were
abbrev pub invariant-loop-next : goal.invariant-loop-next
invariant-loop-next l = record {
  len : l.stacks.len ≡ l.fn.stacks.len;
  moved : (lane row : ℕ) → lane < LANES → IsIn l.set lane → slice_index l.ends lane ≤ row →
      l.by ≤ row → row < l.next →
      value_at lane l.stacks.rows (row - l.by) ≡ value_at lane l.fn.stacks.rows row;
  kept : (lane row : ℕ) → l.next ≤ row + l.by →
      value_at lane l.stacks.rows row ≡ value_at lane l.fn.stacks.rows row;
  below : (lane row : ℕ) → lane < LANES → IsIn l.set lane →
      row + l.by < slice_index l.ends lane →
      value_at lane l.stacks.rows row ≡ value_at lane l.fn.stacks.rows row;
  outside : (lane row : ℕ) → lane < LANES → IsOut l.set lane →
      value_at lane l.stacks.rows row ≡ value_at lane l.fn.stacks.rows row;
}
