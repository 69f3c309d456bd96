use Rattle.std.proofs.Common.{◌≡◌, ◌<◌, ℕ, length, get_or}
use Rattle.cam6_planes.specs.Row.{word_column}
use Rattle.cam6_view.specs.States.{is_in}
use Rattle.cam6_view.proofs.columns.spread.Given as goal

abbrev pub invariant-loop-state : goal.invariant-loop-state
invariant-loop-state l = record {
  words : length l.sets ≡ 16;
  made : (state c : ℕ) → state < l.state → c < 64 →
      word_column (get_or l.sets state 0) c ≡ is_in l.mask state;
}
