-- The sizes of programs.
use Rattle.std.specs.Prelude.{ℕ}

-- steps of a program at most
abbrev pub max_steps : ℕ
max_steps = 128

-- slots of a program at most
abbrev pub max_slots : ℕ
max_slots = 48
