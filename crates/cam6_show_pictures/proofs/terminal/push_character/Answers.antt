use Rattle.std.proofs.Common.{◌++◌, ◌∙◌, ap}
use Rattle.cam6_show_pictures.specs.Terminal.{draw_in, hue}
use Rattle.cam6_show_pictures.proofs.Pushes.{pushed_thrice}
use Rattle.cam6_show_pictures.proofs.terminal.push_character.Goals as goal

pub returns : goal.returns
returns c =
    pushed_thrice c.extend_from_slice.result c.args.line.now.items _ _ _ _ _ _
    (c.in_ok-push_order.ensures
    ∙ ap (λ n. c.args.line.now.items ++ draw_in n) (c.hue.ensures ∙ ap hue c.light.ensures))
    c.in_ok-push_background.ensures c.extend_from_slice.ensures.items
