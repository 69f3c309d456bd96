-- The limits of a cache and of its keys.
use Rattle.std.specs.Prelude.{ℕ}

-- the most bytes of a rule's text
abbrev pub max_text : ℕ
max_text = 8192

-- the most tables that a cache keeps
abbrev pub max_capacity : ℕ
max_capacity = 64
