-- The texts of a machine.
use Rattle.std.specs.Prelude.{◌≡◌, ℕ, List, ⊤}
use Rattle.serde_json.specs.Data.{Data}
use Rattle.serde_json.specs.Written.{compact_text}
use Rattle.cam6_planes.specs.Side.{side_number}
use Rattle.cam6_model.specs.Machine.{Machine}
use Rattle.cam6_model.specs.Saved.{saved_of}
use Rattle.cam6_wire.specs.Saved.{saved_data, load_bytes}
use Rattle.cam6_wire.specs.declared.saved.Version.{Version}
use Rattle.cam6_wire.specs.declared.saved.Version.TheVariants.{First, Second}

-- a machine as a JSON value, in a version
abbrev pub saved : Machine → Version → Data
saved m version = saved_data version (saved_of m)

-- its text
unfoldable pub saved_text : Machine → Version → List ℕ
saved_text m version = compact_text (saved m version)

-- the line that loads it
abbrev pub load_line : Machine → Version → List ℕ
load_line m version = load_bytes version (saved_of m)

-- the first version has machines of side 256 alone
abbrev pub IsOfVersion : Version → Machine → Type 0
IsOfVersion First m = side_number m.side ≡ 256
IsOfVersion Second m = ⊤
