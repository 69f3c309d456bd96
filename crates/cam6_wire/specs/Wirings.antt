-- What a rule is written for, as an object says it.
use Rattle.std.specs.Prelude.{codes, Option, Some}
use Rattle.serde_json.specs.Data.{Data}
use Rattle.cam6_wiring.specs.Texts.{half_named, hood_named, minor_named}
use Rattle.cam6_wiring.specs.Wiring.{wired}
use Rattle.cam6_wiring.specs.declared.wirings.Wiring.{Wiring}
use Rattle.cam6_wire.specs.Fields.{text_at, ◌>>=◌}

-- what a rule is written for, of the keys half, hood and minor
unfoldable pub wiring_in : Data → Option Wiring
wiring_in d = do
  half ← text_at (codes "half") d >>= half_named
  hood ← text_at (codes "hood") d >>= hood_named
  minor ← text_at (codes "minor") d >>= minor_named
  Some (wired half hood minor)
