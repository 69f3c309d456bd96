use Rattle.std.proofs.Common.{◌≡◌, ◌≢◌, ◌<◌, ◌≤◌, ◌-◌, ℕ}
use Rattle.cam6_table.specs.Internal.Lanes.{value_at}
use Rattle.cam6_table.proofs.lane_stacks.Stacks.fill.Given as goal

-- the rows from the next one on have their values, and the others are as they were
abbrev pub invariant-loop-next : goal.invariant-loop-next
invariant-loop-next l = record {
  first : l.from ≤ l.next;
  last : l.next ≤ l.to;
  len : l.self.len ≡ l.fn.self.len;
  filled : (row : ℕ) → l.next ≤ row → row < l.to →
      value_at l.lane l.self.rows row ≡ value_at l.lane l.fn.self.rows (row - l.width);
  below : (row : ℕ) → row < l.next →
      value_at l.lane l.self.rows row ≡ value_at l.lane l.fn.self.rows row;
  above : (row : ℕ) → l.to ≤ row →
      value_at l.lane l.self.rows row ≡ value_at l.lane l.fn.self.rows row;
  others : (other row : ℕ) → other ≢ l.lane →
      value_at other l.self.rows row ≡ value_at other l.fn.self.rows row;
}

abbrev pub decreases-loop-next : goal.decreases-loop-next
decreases-loop-next l = l.next
