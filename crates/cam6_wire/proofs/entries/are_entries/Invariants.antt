use Rattle.std.proofs.Common.{◌≡◌, drop, is_some}
use Rattle.serde_json.specs.View.{items_view}
use Rattle.cam6_wire.specs.Entries.{entries_in}
use Rattle.cam6_wire.proofs.entries.are_entries.Given as goal

abbrev pub invariant-loop-value : goal.invariant-loop-value
invariant-loop-value l =
    is_some (entries_in (items_view (drop l.value-index l.values)))
    ≡ is_some (entries_in (items_view l.values))
