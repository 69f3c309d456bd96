use Rattle.std.proofs.Common.{◌≡◌, ◌++◌, drop, option_map}
use Rattle.serde_json.specs.View.{items_view}
use Rattle.cam6_wire.specs.Loads.{rules_in}
use Rattle.cam6_wire.proofs.loads.rules_in.Given as goal

abbrev pub invariant-loop-value : goal.invariant-loop-value
invariant-loop-value l =
    let rest = rules_in (items_view (drop l.value-index l.values)) in
    option_map (λ rs. l.rules.items ++ rs) rest ≡ rules_in (items_view l.values)
