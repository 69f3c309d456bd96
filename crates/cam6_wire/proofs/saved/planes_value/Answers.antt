use Rattle.std.proofs.Common.{◌∙◌, ap, arith}
use Rattle.serde_json.specs.View.{view}
use Rattle.cam6_wire.specs.Saved.{rows_data}
use Rattle.cam6_wire.proofs.Growing.{one_more_written}
use Rattle.cam6_wire.proofs.saved.planes_value.Goals as goal

pub loop-rows-preserved : goal.loop-rows-preserved
loop-rows-preserved c =
    let now = c.loop-rows in
    one_more_written view rows_data now.values.items c.push.new.self.items c.in_ok-rows_value.field-0
    c.args.planes.now now.rows-index c.rows-item.result (omega arith) (c.in_ok-rows_value.ensures ∙ ap rows_data c.as_slice.ensures)
    c.in_ok-push.ensures.items now.invariant
