use Rattle.std.proofs.Common.{◌≡◌, ◌<◌, ℕ, length, get_or}
use Rattle.cam6_show_frames.specs.Frame.{colour_at}
use Rattle.cam6_patterns.specs.Pattern.{most_cells}
use Rattle.cam6_patterns.proofs.writing.row_cells.Given as goal

abbrev pub invariant-loop-x : goal.invariant-loop-x
invariant-loop-x l = record {
  long : length l.cells ≡ most_cells;
  filled : (j : ℕ) → j < l.x → get_or l.cells j 0 ≡ colour_at l.frame j l.y;
}
