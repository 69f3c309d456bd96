use Rattle.std.proofs.Common.{ℕ, get_or}
use Rattle.cam6_planes.specs.Row.{word_column}
use Rattle.cam6_view.specs.Internal.{lower_state}
use Rattle.cam6_view.proofs.StatesOfWords.{by_upper}
use Rattle.cam6_view.proofs.columns.select_by_state.Goals as goal

pub returns : goal.returns
returns c k h =
    let plane = λ (p : ℕ). word_column (get_or c.args.words.now p 0) k in
    rw (
      c.chosen_word.ensures k h,
      c.chosen_word-below_8.ensures k h,
      c.chosen_word-from_8.ensures k h,
      c.select_by_lower_planes.ensures k h,
      c.select_by_lower_planes-2.ensures k h,
      c.select_by_lower_planes-3.ensures k h,
      c.select_by_lower_planes-4.ensures k h,
    )
    (by_upper (λ state. word_column (get_or c.args.sets.now state 0) k)
    (lower_state c.args.words.now k) (plane 2) (plane 3))
