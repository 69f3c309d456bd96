-- Whole numbers and texts as JSON values.
use Rattle.std.specs.Prelude.{ℕ, List, map}
use Rattle.serde_json.specs.Data.{Data, string, number, unsigned, Items}
use Rattle.serde_json.specs.View.{items_of}

-- a whole number
abbrev pub natural : ℕ → Data
natural n = number (unsigned n)

-- a list of whole numbers
abbrev pub naturals : List ℕ → Items
naturals numbers = items_of (map natural numbers)

-- texts as JSON strings
abbrev pub texts : List (List ℕ) → Items
texts rows = items_of (map string rows)
