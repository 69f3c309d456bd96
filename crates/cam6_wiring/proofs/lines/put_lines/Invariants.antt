use Rattle.std.proofs.Common.{◌≡◌, ℕ, ◌<◌, length, get_or, [], None}
use Rattle.cam6_planes.specs.Cells.{Cells}
use Rattle.cam6_planes.specs.Row.{column_bit}
use Rattle.cam6_planes.specs.Side.{side_number}
use Rattle.cam6_wiring.specs.Lines.{AreRowsAround, sees_at}
use Rattle.cam6_wiring.specs.Seen.{line_shows}
use Rattle.cam6_wiring.proofs.lines.put_lines.Given as goal

abbrev pub invariant-loop-k : goal.invariant-loop-k
invariant-loop-k l = record {
  long : length l.lines ≡ 12;
  shown : (f : Cells) → AreRowsAround f l.y l.rows → (x : ℕ) → x < side_number l.rows.side →
      (j : ℕ) → j < l.k → column_bit (get_or l.lines j []) x
      ≡ line_shows (sees_at (side_number l.rows.side) f l.setting x l.y) (get_or l.names j None);
}
