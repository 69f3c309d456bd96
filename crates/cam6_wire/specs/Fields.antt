-- What stands at a key of a JSON object.
use Rattle.std.specs.Prelude.{ℕ, ◌+◌, List, [], ◌∷◌, length, Bool, false, ◌==◌}
use Rattle.std.specs.Prelude.{Option, Some, None, if◌then◌else◌}
use Rattle.std.specs.Prelude.{option_and_then}
use Rattle.std.specs.Option.{option_map_or}
use Rattle.cam6_planes.specs.Digits.{bits_of_digits}
use Rattle.serde_json.specs.Data.{Data, Items, no_items, item, Members, no_members, member}
use Rattle.serde_json.specs.Find.{get, as_number, as_u64, as_str, as_array, as_object}
use Rattle.cam6_commands.specs.Limits.{cell_states}

-- the second step, if the first gave a value
infixl 10 ◌>>=◌
abbrev pub ◌>>=◌ : {A B : Type 0} → Option A → (A → Option B) → Option B
x >>= f = option_and_then f x

-- how many keys there are
abbrev pub count : Members → ℕ
count no_members = 0
count (member key d members) = count members + 1

-- an object of exactly n keys
abbrev pub has_size : ℕ → Data → Bool
has_size n d = option_map_or (λ members. count members == n) (as_object d) false

-- a value that is a whole number from 0 to 18,446,744,073,709,551,615
abbrev pub number_in : Data → Option ℕ
number_in d = option_and_then as_u64 (as_number d)

-- the number at a key
abbrev pub number_at : List ℕ → Data → Option ℕ
number_at key d = option_and_then number_in (get key d)

-- a list of such numbers
abbrev pub numbers_of : Items → Option (List ℕ)
numbers_of no_items = Some []
numbers_of (item d ds) = do
  n ← number_in d
  numbers ← numbers_of ds
  Some (n ∷ numbers)

-- a colour for each of the sixteen states
abbrev pub of_states : List ℕ → Option (List ℕ)
of_states numbers = if length numbers == cell_states then Some numbers else None

-- the colours at a key
abbrev pub colours_at : List ℕ → Data → Option (List ℕ)
colours_at key d = do
  found ← get key d
  items ← as_array found
  numbers ← numbers_of items
  of_states numbers

-- the text at a key
abbrev pub text_at : List ℕ → Data → Option (List ℕ)
text_at key d = option_and_then as_str (get key d)

-- the bytes of a row's digits at a key
abbrev pub bits_at : List ℕ → Data → Option (List ℕ)
bits_at key d = option_and_then bits_of_digits (text_at key d)
