-- The limits of a machine, and of those who share boards.
use Rattle.std.specs.Prelude.{ℕ}

-- the most rules, and the most bytes of a rule's name
abbrev pub max_rules : ℕ
max_rules = 16

abbrev pub max_name : ℕ
max_name = 24

-- the most steps of one command
abbrev pub max_steps : ℕ
max_steps = 65535

-- a cell's state is a bit of each of four planes; so many states, and the largest colour of one
abbrev pub cell_states : ℕ
cell_states = 16

abbrev pub max_colour : ℕ
max_colour = 15

-- the set of all states, as a mask
abbrev pub max_mask : ℕ
max_mask = 65535

-- the most users who share boards, and the most boards
abbrev pub max_users : ℕ
max_users = 32

abbrev pub max_boards : ℕ
max_boards = 8
