-- A map's length is the count of its keys.
use Rattle.std.proofs.Common.{◌≡◌, List, [], ◌∷◌, length, String, Global, refl, arith}
use Rattle.serde_json.specs.View.{members_view}
use Rattle.serde_json.specs.declared.value.Value.{Value}
use Rattle.cam6_wire.specs.Fields.{count}

pub count-members_view : (es : List (String Global × Value)) → count (members_view es) ≡ length es
count-members_view [] = refl
count-members_view (e ∷ es) = omega (arith, count-members_view es)
