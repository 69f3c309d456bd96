use Rattle.std.proofs.Common.{◌∙◌, ap}
use Rattle.clap.specs.Words.{found_of, rows_of}
use Rattle.cam6_draw_cli.specs.DrawWords.{palette_by, scale_by, window_by}
use Rattle.cam6_draw_cli.proofs.DrawAsked.{all_by}
use Rattle.cam6_draw_cli.proofs.draw_cli.options_of_matches.Goals as goal

pub returns : goal.returns
returns c =
    all_by (rows_of (found_of c.args.matches.now)) _ _ _ _ _ c.collect_options.ensures c.way_asked.ensures
    (c.palette_by.ensures ∙ ap palette_by c.text_at.ensures)
    (c.window_by.ensures ∙ ap window_by c.texts_at.ensures)
    (c.scale_by.ensures.scale ∙ ap scale_by c.text_at-2.ensures)
