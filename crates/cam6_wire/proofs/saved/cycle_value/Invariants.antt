use Rattle.std.proofs.Common.{◌≡◌, map, take}
use Rattle.serde_json.specs.View.{view}
use Rattle.cam6_wire.specs.Saved.{entry_data}
use Rattle.cam6_wire.proofs.saved.cycle_value.Given as goal

abbrev pub invariant-loop-entry : goal.invariant-loop-entry
invariant-loop-entry l = map view l.values.items ≡ map entry_data (take l.entry-index l.entries)
