-- How many share how much.
use Rattle.std.specs.Prelude.{ℕ, ◌<◌, ◌≤◌}
use Rattle.cam6_cache.specs.Limits.{max_capacity}
use Rattle.cam6_commands.specs.Limits.{max_users, max_boards}

-- so many users, boards, and tables that a cache keeps
pub record Shared : Type 0 where
  pub users : ℕ
  pub boards : ℕ
  pub cache : ℕ

-- of each there is one at least, and no more than a core can have
abbrev pub IsWithin : Shared → Type 0
IsWithin s =
    (0 < s.users) × (s.users ≤ max_users) × (0 < s.boards) × (s.boards ≤ max_boards)
    × (0 < s.cache) × (s.cache ≤ max_capacity)
