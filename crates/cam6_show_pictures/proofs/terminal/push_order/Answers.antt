use Rattle.cam6_show_pictures.proofs.Pushes.{pushed_thrice}
use Rattle.cam6_show_pictures.proofs.terminal.push_order.Goals as goal

pub returns : goal.returns
returns c =
    pushed_thrice c.extend_from_slice-2.result _ _ _ _ _ _ _ c.in_ok-extend_from_slice.ensures.items
    c.in_ok-push_decimal.ensures c.extend_from_slice-2.ensures.items
