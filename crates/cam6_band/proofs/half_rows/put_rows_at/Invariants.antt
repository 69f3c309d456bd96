use Rattle.std.proofs.Common.{◌≡◌, ◌≢◌, ◌<◌, ◌≤◌, ◌+◌, ◌⊎◌, ℕ}
use Rattle.cam6_planes.specs.Cells.{cells}
use Rattle.cam6_planes.specs.Stored.{width, AreAlike}
use Rattle.cam6_lines.specs.Units.{bit_in}
use Rattle.cam6_band.proofs.half_rows.put_rows_at.Given as goal

abbrev pub invariant-loop-r : goal.invariant-loop-r
invariant-loop-r l = record {
  alike : AreAlike l.fn.image l.image;
  rows : (x r : ℕ) → x < width l.fn.image → r < l.r →
      cells l.image l.p x (l.y + r) ≡ bit_in l.side l.rows r x;
  others : (q x v : ℕ) → q < 4 → x < width l.fn.image → v < width l.fn.image →
      (q ≢ l.p) ⊎ ((v < l.y) ⊎ (l.y + l.r ≤ v)) → cells l.image q x v ≡ cells l.fn.image q x v;
}
