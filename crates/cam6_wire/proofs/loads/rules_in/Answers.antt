use Rattle.std.proofs.Common.{◌∙◌, sym, refl}
use Rattle.serde_json.specs.View.{items_view}
use Rattle.cam6_wire.specs.Loads.{rule_in, rules_in}
use Rattle.cam6_wire.proofs.Growing.{one_more_read}
use Rattle.cam6_wire.proofs.loads.rules_in.Goals as goal

pub loop-value-preserved : goal.loop-value-preserved
loop-value-preserved c =
    let now = c.loop-value in
    one_more_read rule_in rules_in (λ d ds. refl) c.args.values.now now.value-index
    c.value-item.result now.rules.items c.push.new.self.items c.in-Some.rule c.loop-value-test.true
    c.value-item.is (sym c.in_ok-rule.ensures ∙ c.in-Some.is) c.in_ok-push-in-Some.ensures.items
    (rules_in (items_view c.args.values.now)) now.invariant
