-- The entries of a cycle.
use Rattle.std.specs.Prelude.{ℕ, List, [], ◌∷◌, codes, if◌then◌else◌, Option, Some, None}
use Rattle.std.specs.Str.{bytes_eq}
use Rattle.serde_json.specs.Data.{Data, Items, no_items, item}
use Rattle.serde_json.specs.Find.{get, as_array}
use Rattle.cam6_commands.specs.declared.commands.NamedEntry.{NamedEntry}
use Rattle.cam6_wire.specs.Fields.{has_size, number_at, text_at, ◌>>=◌}
use Rattle.cam6_wiring.specs.Texts.{grid_named}

-- `-` names no rule
abbrev pub rule_name_in : List ℕ → Option (List ℕ)
rule_name_in text = if bytes_eq text (codes "-") then None else Some text

-- the entry of the keys a, b, grid and phase
abbrev pub entry_fields : Data → Option NamedEntry
entry_fields d = do
  a ← text_at (codes "a") d
  b ← text_at (codes "b") d
  grid ← text_at (codes "grid") d >>= grid_named
  phase ← number_at (codes "phase") d
  Some (record { a = rule_name_in a; b = rule_name_in b; grid = grid; phase = phase })

-- {"a":n,"b":n,"grid":g,"phase":f}
unfoldable pub entry_in : Data → Option NamedEntry
entry_in d = if has_size 4 d then entry_fields d else None

-- the entries of a list, if each item is one
abbrev pub entries_in : Items → Option (List NamedEntry)
entries_in no_items = Some []
entries_in (item d ds) = do
  entry ← entry_in d
  entries ← entries_in ds
  Some (entry ∷ entries)

-- the entries at a key
abbrev pub entries_at : List ℕ → Data → Option (List NamedEntry)
entries_at key d = do
  found ← get key d
  items ← as_array found
  entries_in items
