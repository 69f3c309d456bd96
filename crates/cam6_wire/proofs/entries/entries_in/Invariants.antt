use Rattle.std.proofs.Common.{◌≡◌, ◌++◌, drop, option_map}
use Rattle.serde_json.specs.View.{items_view}
use Rattle.cam6_wire.specs.Entries.{entries_in}
use Rattle.cam6_wire.proofs.entries.entries_in.Given as goal

abbrev pub invariant-loop-value : goal.invariant-loop-value
invariant-loop-value l =
    let rest = entries_in (items_view (drop l.value-index l.values)) in
    option_map (λ es. l.entries.items ++ es) rest ≡ entries_in (items_view l.values)
