use Rattle.std.proofs.Common.{◌∙◌, ap, arith}
use Rattle.serde_json.specs.View.{view}
use Rattle.cam6_wire.specs.Saved.{entry_data}
use Rattle.cam6_wire.proofs.Growing.{one_more_written}
use Rattle.cam6_wire.proofs.saved.cycle_value.Goals as goal

pub loop-entry-preserved : goal.loop-entry-preserved
loop-entry-preserved c =
    let now = c.loop-entry in
    one_more_written view entry_data now.values.items c.push.new.self.items c.in_ok-entry_value.field-0
    c.args.entries.now now.entry-index c.entry-item.result (omega arith) (c.in_ok-entry_value.ensures ∙ ap entry_data c.entry-item.is)
    c.in_ok-push.ensures.items now.invariant
