-- The saved machine that a JSON value shows.
use Rattle.std.specs.Prelude.{ℕ, List, [], ◌∷◌, length, codes, ◌==◌, if◌then◌else◌}
use Rattle.std.specs.Prelude.{Option, Some, None}
use Rattle.serde_json.specs.Data.{Data, Items, no_items, item}
use Rattle.serde_json.specs.Find.{get, as_str, as_array}
use Rattle.cam6_planes.specs.Digits.{bits_of_digits}
use Rattle.cam6_commands.specs.declared.saved.NamedRule.{NamedRule}
use Rattle.cam6_commands.specs.declared.saved.SavedMachine.{SavedMachine}
use Rattle.cam6_wire.specs.Fields.{has_size, number_at, colours_at, ◌>>=◌}
use Rattle.cam6_wire.specs.Entries.{entries_at}
use Rattle.cam6_wire.specs.Rules.{rule_fields}
use Rattle.cam6_wire.specs.declared.saved.Version.{Version}
use Rattle.cam6_wire.specs.declared.saved.Version.TheVariants.{First, Second}

-- the bytes of a row's digits
abbrev pub bits_in : Data → Option (List ℕ)
bits_in d = as_str d >>= bits_of_digits

-- a list of rows
abbrev pub rows_of : Items → Option (List (List ℕ))
rows_of no_items = Some []
rows_of (item d ds) = do
  row ← bits_in d
  rows ← rows_of ds
  Some (row ∷ rows)

abbrev pub rows_in : Data → Option (List (List ℕ))
rows_in d = as_array d >>= rows_of

-- a list of planes, each a list of rows
abbrev pub planes_of : Items → Option (List (List (List ℕ)))
planes_of no_items = Some []
planes_of (item d ds) = do
  rows ← rows_in d
  planes ← planes_of ds
  Some (rows ∷ planes)

-- four of them
abbrev pub of_four : List (List (List ℕ)) → Option (List (List (List ℕ)))
of_four planes = if length planes == 4 then Some planes else None

-- the four planes at a key
abbrev pub planes_at : List ℕ → Data → Option (List (List (List ℕ)))
planes_at key d = do
  found ← get key d
  items ← as_array found
  planes ← planes_of items
  of_four planes

-- {"half":h,"hood":o,"minor":m,"name":n,"text":t}
unfoldable pub rule_in : Data → Option NamedRule
rule_in d = if has_size 5 d then rule_fields d else None

-- a list of rules
abbrev pub rules_in : Items → Option (List NamedRule)
rules_in no_items = Some []
rules_in (item d ds) = do
  rule ← rule_in d
  rules ← rules_in ds
  Some (rule ∷ rules)

-- the rules at a key
abbrev pub rules_at : List ℕ → Data → Option (List NamedRule)
rules_at key d = do
  found ← get key d
  items ← as_array found
  rules_in items

-- the version of a number
abbrev pub version_of : ℕ → Option Version
version_of n = if n == 1 then Some First else if n == 2 then Some Second else None

abbrev pub version_in : Data → Option Version
version_in d = number_at (codes "version") d >>= version_of

-- the side, which is 256 in the first version; each version has its number of keys
abbrev pub side_in : Version → Data → Option ℕ
side_in First d = if has_size 6 d then Some 256 else None
side_in Second d = if has_size 7 d then number_at (codes "side") d else None

-- the saved machine of this side, from the keys colours, cycle, planes, position and rules
abbrev pub saved_fields : ℕ → Data → Option SavedMachine
saved_fields side d = do
  colours ← colours_at (codes "colours") d
  cycle ← entries_at (codes "cycle") d
  planes ← planes_at (codes "planes") d
  position ← number_at (codes "position") d
  rules ← rules_at (codes "rules") d
  Some (record {
    colours = colours;
    cycle = cycle;
    planes = planes;
    position = position;
    rules = rules;
    side = side;
  })

-- the saved machine that a value shows, in either version
unfoldable pub saved_in : Data → Option SavedMachine
saved_in d = do
  version ← version_in d
  side ← side_in version d
  saved_fields side d
