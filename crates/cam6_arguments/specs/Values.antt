-- What a word says, and what the option of a name says.
use Rattle.std.specs.Prelude.{ℕ, List, codes, Option, Some, None, if◌then◌else◌, option_and_then}
use Rattle.std.specs.Str.Parse.{digits_value, without_leading_plus}
use Rattle.clap.specs.ValueTests.{is_unsigned_in}
use Rattle.clap.specs.Words.{Row, Text, first_of}
use Rattle.cam6_planes.specs.Side.{side_named}
use Rattle.cam6_planes.specs.declared.sides.Side.{Side}

-- a whole number from a least to a most one, as a word
abbrev pub number_said : ℕ → ℕ → Text → Option ℕ
number_said least most word = if is_unsigned_in least most word
    then Some (digits_value 10 (without_leading_plus word)) else None

-- the number that is said, or else the default one
abbrev pub number_by : Option Text → ℕ → ℕ → ℕ → Option ℕ
number_by None least most default = Some default
number_by (Some word) least most default = number_said least most word

-- the number at the option of a name, and the side at `--side`, in clap's matches
abbrev pub number_at : Text → ℕ → ℕ → List Row → Option ℕ
number_at name least most rows = option_and_then (number_said least most) (first_of name rows)

abbrev pub side_at : List Row → Option Side
side_at rows = option_and_then side_named (first_of (codes "side") rows)

-- the second step, if the first gave a value
infixl 10 ◌>>=◌
abbrev pub ◌>>=◌ : {A B : Type 0} → Option A → (A → Option B) → Option B
x >>= f = option_and_then f x
