use Rattle.std.proofs.Common.{◌∙◌, get_or}
use Rattle.cam6_planes.specs.Row.{word_column}
use Rattle.cam6_view.specs.States.{is_in}
use Rattle.cam6_view.specs.Internal.{state_in_words}
use Rattle.cam6_view.proofs.CountsBelow.{ones_in_columns, count_below-same}
use Rattle.cam6_view.proofs.StatesOfRows.{state_by-lt}
use Rattle.cam6_view.proofs.counts.count_in_word.Goals as goal

pub returns-clause-value : goal.returns-clause-value
returns-clause-value c mask spread =
    let words = c.args.words.now in
    ones_in_columns c.select_by_state.result c.select_by_state.type_inv ∙
    count_below-same (word_column c.select_by_state.result) (λ k. is_in mask (state_in_words words k)) 64
    (λ k h.
    let within = state_by-lt (λ p. word_column (get_or words p 0) k) in
    c.select_by_state.ensures k h ∙ spread (state_in_words words k) k within h)
