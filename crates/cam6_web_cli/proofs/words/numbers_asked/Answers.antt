use Rattle.std.proofs.Common.{◌∙◌, ap}
use Rattle.clap.specs.Words.{found_of, rows_of}
use Rattle.cam6_arguments.specs.Values.{number_by}
use Rattle.cam6_web_cli.specs.Values.{side_by}
use Rattle.cam6_web_cli.proofs.Parts.{all_by}
use Rattle.cam6_web_cli.proofs.words.numbers_asked.Goals as goal

pub returns : goal.returns
returns c =
    all_by (rows_of (found_of c.args.matches.now)) _ _ _ _ _ c.collect_numbers.ensures
    (c.number_or_default.ensures.number ∙ ap (λ w. number_by w 1 65535 6007) c.text_at.ensures)
    (c.number_or_default-2.ensures.number ∙ ap (λ w. number_by w 1 1000 64) c.text_at-2.ensures)
    (c.side_by.ensures ∙ ap side_by c.text_at-3.ensures)
    (c.number_or_default-3.ensures.number
    ∙ ap (λ w. number_by w 0 18446744073709551615 0) c.text_at-4.ensures)
