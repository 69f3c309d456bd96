use Rattle.std.proofs.Common.{◌≡◌, ◌++◌, drop, option_map}
use Rattle.serde_json.specs.View.{items_view}
use Rattle.cam6_wire.specs.Loads.{rows_of}
use Rattle.cam6_wire.proofs.loads.rows_of.Given as goal

abbrev pub invariant-loop-value : goal.invariant-loop-value
invariant-loop-value l =
    let rest = rows_of (items_view (drop l.value-index l.values)) in
    option_map (λ rs. l.rows.items ++ rs) rest ≡ rows_of (items_view l.values)
