-- How long one session may go on.
use Rattle.std.specs.Prelude.{ℕ}

-- the looks at standard input, at most
abbrev pub max_reads : ℕ
max_reads = 1099511627776
