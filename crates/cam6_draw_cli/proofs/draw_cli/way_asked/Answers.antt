use Rattle.std.proofs.Common.{◌∙◌, ap}
use Rattle.clap.specs.Words.{found_of, rows_of}
use Rattle.cam6_draw_cli.specs.DrawWords.{is_true}
use Rattle.cam6_draw_cli.proofs.DrawAsked.{way_by}
use Rattle.cam6_draw_cli.proofs.draw_cli.way_asked.Goals as goal

pub returns : goal.returns
returns c =
    way_by (rows_of (found_of c.args.matches.now)) c.is_true.result c.is_true-2.result _ _
    c.way_of.ensures (c.is_true.ensures ∙ ap is_true c.text_at.ensures)
    (c.is_true-2.ensures ∙ ap is_true c.text_at-2.ensures) c.text_at-3.ensures
