use Rattle.std.proofs.Common.{◌≡◌, map, take}
use Rattle.serde_json.specs.View.{view}
use Rattle.cam6_wire.specs.Saved.{rule_data}
use Rattle.cam6_wire.proofs.saved.rules_value.Given as goal

abbrev pub invariant-loop-rule : goal.invariant-loop-rule
invariant-loop-rule l = map view l.values.items ≡ map rule_data (take l.rule-index l.rules)
