use Rattle.std.proofs.Common.{◌∙◌, ap₂}
use Rattle.std.proofs.lemmas.Result.{IfOk-weaker}
use Rattle.clap.specs.Words.{with_rule}
use Rattle.cam6_draw_cli.specs.DrawWords.{program}
use Rattle.cam6_draw_cli.proofs.draw_cli.program.Goals as goal

pub returns : goal.returns
unfolding program
returns c =
    let ppm = c.in_ok-arg.ensures.shape c.ppm_option.ensures.global
    ∙ ap₂ with_rule c.new_command.ensures c.ppm_option.ensures.rule in
    let text = c.in_ok-arg-2.ensures.shape c.text_option.ensures.global
    ∙ ap₂ with_rule ppm c.text_option.ensures.rule in
    let scale = c.in_ok-arg-3.ensures.shape c.scale_option.ensures.global
    ∙ ap₂ with_rule text c.scale_option.ensures.rule in
    let crop = c.in_ok-arg-4.ensures.shape c.crop_option.ensures.global
    ∙ ap₂ with_rule scale c.crop_option.ensures.rule in
    let palette = c.in_ok-arg-5.ensures.shape c.palette_option.ensures.global
    ∙ ap₂ with_rule crop c.palette_option.ensures.rule in
    IfOk-weaker c.arg-6.result _ _ (λ command adds.
    adds.shape c.frames_option.ensures.global ∙ ap₂ with_rule palette c.frames_option.ensures.rule)
    c.arg-6.ensures
