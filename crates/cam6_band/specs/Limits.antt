-- The limit of a band.
use Rattle.std.specs.Prelude.{ℕ}

-- rows of a band
abbrev pub band : ℕ
band = 16
