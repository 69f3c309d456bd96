-- The limits of lines.
use Rattle.std.specs.Prelude.{ℕ, List, Bool, codes, if◌then◌else◌, eqb}
use Rattle.std.specs.List.{starts_with}

-- the most bytes of a line, without its LF
abbrev pub max_line : ℕ
max_line = 16384

-- the most bytes of one that begins as a load does
abbrev pub max_load_line : ℕ
max_load_line = 2097152

-- the bytes with which a load begins
abbrev pub load_head : List ℕ
load_head = codes "{\"do\":\"load\","

-- whether a line begins as a load does
unfoldable pub begins_load : List ℕ → Bool
begins_load line = starts_with eqb line load_head

-- the most bytes of this line, by how it begins
abbrev pub limit_of : List ℕ → ℕ
limit_of line = if begins_load line then max_load_line else max_line
