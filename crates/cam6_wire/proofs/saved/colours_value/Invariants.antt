use Rattle.std.proofs.Common.{◌≡◌, map, take}
use Rattle.serde_json.specs.View.{view}
use Rattle.cam6_wire.specs.Numbers.{natural}
use Rattle.cam6_wire.proofs.saved.colours_value.Given as goal

abbrev pub invariant-loop-colour : goal.invariant-loop-colour
invariant-loop-colour l = map view l.values.items ≡ map natural (take l.colour-index l.colours)
