-- How much a host has.
use Rattle.std.specs.Prelude.{ℕ, ◌<◌, ◌≤◌}
use Rattle.cam6_cache.specs.Limits.{max_capacity}
use Rattle.cam6_commands.specs.Limits.{max_users, max_boards}
use Rattle.cam6_planes.specs.declared.sides.Side.{Side}

-- so many users, boards, and tables that are cached; the largest side that a machine may have; so
-- many connections, or 0 for connections without end; and how many seconds a client with a seat may
-- be silent, or 0 for no limit
pub record Served : Type 0 where
  pub users : ℕ
  pub boards : ℕ
  pub cache : ℕ
  pub limit : Side
  pub connections : ℕ
  pub idle : ℕ

-- of users, boards and tables there is one at least, and no more than a host can have
abbrev pub IsWithin : Served → Type 0
IsWithin s =
    (0 < s.users) × (s.users ≤ max_users) × (0 < s.boards) × (s.boards ≤ max_boards)
    × (0 < s.cache) × (s.cache ≤ max_capacity)
