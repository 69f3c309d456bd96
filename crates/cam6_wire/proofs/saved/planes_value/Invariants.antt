use Rattle.std.proofs.Common.{◌≡◌, map, take}
use Rattle.serde_json.specs.View.{view}
use Rattle.cam6_wire.specs.Saved.{rows_data}
use Rattle.cam6_wire.proofs.saved.planes_value.Given as goal

abbrev pub invariant-loop-rows : goal.invariant-loop-rows
invariant-loop-rows l = map view l.values.items ≡ map rows_data (take l.rows-index l.planes)
