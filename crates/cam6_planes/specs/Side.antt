-- The sides that a torus may have.
use Rattle.std.specs.Prelude.{ℕ, ◌==◌, List, [], ◌∷◌, codes, Option, Some, None, if◌then◌else◌}
use Rattle.std.specs.Str.{bytes_eq}
use Rattle.cam6_planes.specs.declared.sides.Side.{Side}
use Rattle.cam6_planes.specs.declared.sides.Side.TheVariants.{S128, S256, S512}

-- the number of rows and columns of a side
abbrev pub side_number : Side → ℕ
side_number S128 = 128
side_number S256 = 256
side_number S512 = 512

-- the side of n rows and columns, if n is 128, 256 or 512
abbrev pub side_of : ℕ → Option Side
side_of n =
    if n == 128 then Some S128
    else (if n == 256 then Some S256 else (if n == 512 then Some S512 else None))

-- a side's number as a text
abbrev pub side_text : Side → List ℕ
side_text S128 = codes "128"
side_text S256 = codes "256"
side_text S512 = codes "512"

-- those of all sides, from the smallest on
abbrev pub side_texts : List (List ℕ)
side_texts = side_text S128 ∷ side_text S256 ∷ side_text S512 ∷ []

-- the side of a text, if it is one
abbrev pub side_named : List ℕ → Option Side
side_named text = if bytes_eq text (side_text S128) then Some S128
    else (if bytes_eq text (side_text S256) then Some S256
    else (if bytes_eq text (side_text S512) then Some S512 else None))
