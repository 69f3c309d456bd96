use Rattle.std.proofs.Common.{◌∙◌, ap₂}
use Rattle.std.proofs.lemmas.Result.{IfOk-weaker}
use Rattle.clap.specs.Words.{with_rule}
use Rattle.cam6_draw_cli.proofs.rle_cli.program.Goals as goal

pub returns : goal.returns
returns c =
    let sides = c.side_option.ensures.rule in
    let side = c.in_ok-arg.ensures.shape c.side_option.ensures.global
    ∙ ap₂ with_rule c.new_command.ensures sides.2 in
    let column = c.in_ok-arg-2.ensures.shape c.move_option.ensures.global
    ∙ ap₂ with_rule side c.move_option.ensures.rule in
    let row = c.in_ok-arg-3.ensures.shape c.move_option-2.ensures.global
    ∙ ap₂ with_rule column c.move_option-2.ensures.rule in
    let planes = c.in_ok-arg-4.ensures.shape c.planes_option.ensures.global
    ∙ ap₂ with_rule row c.planes_option.ensures.rule in
    let replies = c.in_ok-arg-5.ensures.shape c.replies_option.ensures.global
    ∙ ap₂ with_rule planes c.replies_option.ensures.rule in
    IfOk-weaker c.arg-6.result _ _ (λ command adds. (
      sides.0,
      sides.1,
      adds.shape c.rule_option.ensures.global ∙ ap₂ with_rule replies c.rule_option.ensures.rule,
    )) c.arg-6.ensures
