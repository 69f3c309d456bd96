use Rattle.std.proofs.Common.{◌≡◌, ◌<◌, ◌≤◌, ℕ, [], get_or, set, length, replicate}
use Rattle.cam6_planes.specs.declared.row.TheConstants.{WORDS}
use Rattle.cam6_planes.proofs.planes.clear_rows.Given as goal

abbrev pub invariant-loop-row : goal.invariant-loop-row
invariant-loop-row l = record {
  planes : (y : ℕ) → y < l.row-index → length (get_or l.fn.rows y []) ≡ 4;
  value : (y : ℕ) → y < l.row-index → get_or l.row-items y []
      ≡ set (get_or l.fn.rows y []) l.fn.p (replicate WORDS 0);
  rest : (y : ℕ) → l.row-index ≤ y → get_or l.row-items y [] ≡ get_or l.fn.rows y [];
}
