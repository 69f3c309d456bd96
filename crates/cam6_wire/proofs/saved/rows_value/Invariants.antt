use Rattle.std.proofs.Common.{◌≡◌, map, take}
use Rattle.hex.specs.Hex.{encode_lower}
use Rattle.serde_json.specs.Data.{string}
use Rattle.serde_json.specs.View.{view}
use Rattle.cam6_wire.proofs.saved.rows_value.Given as goal

abbrev pub invariant-loop-row : goal.invariant-loop-row
invariant-loop-row l =
    map view l.values.items ≡ map string (map encode_lower (take l.row-index l.rows))
