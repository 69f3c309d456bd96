-- The rows of a band.
use Rattle.std.specs.Prelude.{ℕ}

-- rows of a band
abbrev pub height : ℕ
height = 16
