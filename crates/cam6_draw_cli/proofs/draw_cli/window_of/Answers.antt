use Rattle.std.proofs.Common.{◌∙◌, arith}
use Rattle.cam6_draw_cli.proofs.DrawValues.{window_is}
use Rattle.cam6_draw_cli.proofs.draw_cli.window_of.Goals as goal

pub returns-then-words-eq4 : goal.returns-then-words-eq4
returns-then-words-eq4 c =
    c.window_asked_for.ensures ∙ window_is c.args.words.now _ _ _ _ (omega arith)
