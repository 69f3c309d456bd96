-- Users are served in rounds.
use Rattle.std.specs.Prelude.{ℕ, ◌<◌, ◌≤◌, List, length}
use Rattle.cam6_pool.specs.Rounds.{Take, AreNextUsers, AreWithout}

-- in a list of takes in turn, if no round takes a user or passes over them, there are fewer takes
-- than users
abbrev pub UsersAreServedInRounds : Type 0
UsersAreServedInRounds =
    (users row user : ℕ) (takes : List Take) → 0 < user → user ≤ users →
    AreNextUsers users row takes → AreWithout users row user takes → length takes < users
