-- The limits of a rule that runs.
use Rattle.std.specs.Prelude.{ℕ}

-- the most values on a stack
abbrev pub max_values : ℕ
max_values = 32

-- the largest value
abbrev pub max_value : ℕ
max_value = 65535

-- the most instructions that a rule's code has, and so the most steps that it takes
abbrev pub max_eval_steps : ℕ
max_eval_steps = 4096
