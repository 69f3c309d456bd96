use Rattle.cam6_view.proofs.StatesOfRows.{state_at_word}
use Rattle.cam6_view.proofs.columns.words_of.Goals as goal

pub returns : goal.returns
returns c k h = state_at_word c.args.rows.now c.args.k k h
