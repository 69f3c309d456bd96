use Rattle.std.proofs.Common.{◌∙◌, ap}
use Rattle.serde_json.specs.Data.{string}
use Rattle.serde_json.specs.View.{view}
use Rattle.cam6_wire.proofs.Growing.{one_more_written}
use Rattle.cam6_wire.proofs.replies.rows_value.Goals as goal

pub loop-row-preserved : goal.loop-row-preserved
loop-row-preserved c =
    let now = c.loop-row in
    one_more_written view string now.values.items c.push.new.self.items
    c.in_ok-try_from_str.field-0 c.as_slice-row-items.result.now now.row-index c.row-item.result
    c.loop-row-test.true
    (c.in_ok-try_from_str.ensures ∙ ap string (c.digits.ensures ∙ c.as_slice.ensures.digits ∙ c.row-item.is))
    c.in_ok-push.ensures.items now.invariant
