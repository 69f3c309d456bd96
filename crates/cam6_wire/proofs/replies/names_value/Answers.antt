use Rattle.std.proofs.Common.{◌∙◌, ap}
use Rattle.serde_json.specs.Data.{string}
use Rattle.serde_json.specs.View.{view}
use Rattle.cam6_wire.proofs.Growing.{one_more_written}
use Rattle.cam6_wire.proofs.replies.names_value.Goals as goal

pub loop-name-preserved : goal.loop-name-preserved
loop-name-preserved c =
    let now = c.loop-name in
    one_more_written view string now.values.items c.push.new.self.items
    c.in_ok-try_from_str.field-0 c.as_slice-name-items.result.now now.name-index c.name-item.result
    c.loop-name-test.true
    (c.in_ok-try_from_str.ensures ∙ ap string (c.as_str.ensures.text ∙ c.name-item.is))
    c.in_ok-push.ensures.items now.invariant
