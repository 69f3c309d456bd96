use Rattle.std.proofs.Common.{◌∙◌, ap, arith}
use Rattle.serde_json.specs.View.{view}
use Rattle.cam6_wire.specs.Saved.{rule_data}
use Rattle.cam6_wire.proofs.Growing.{one_more_written}
use Rattle.cam6_wire.proofs.saved.rules_value.Goals as goal

pub loop-rule-preserved : goal.loop-rule-preserved
loop-rule-preserved c =
    let now = c.loop-rule in
    one_more_written view rule_data now.values.items c.push.new.self.items c.in_ok-rule_value.field-0
    c.args.rules.now now.rule-index c.rule-item.result (omega arith) (c.in_ok-rule_value.ensures ∙ ap rule_data c.rule-item.is)
    c.in_ok-push.ensures.items now.invariant
