-- Boards that fail at the calls of a list.
use Rattle.std.specs.Prelude.{ℕ, ◌+◌, ◌-◌, ◌==◌, Bool, List, map, nat_lt, if◌then◌else◌}
use Rattle.std.specs.List.{list_any}
use Rattle.cam6_board.specs.Held.{Load}

-- what the board holds, the calls at which it fails, and how often it failed. Calls are counted from
-- the next one, which is 1; one that has been is 0
pub record Flaky : Type 0 where
  pub load : Load
  pub due : List ℕ
  pub faults : ℕ

-- the next call is one of them
abbrev pub is_due : List ℕ → Bool
is_due due = list_any (λ call. call == 1) due

-- the calls, once another one has been
abbrev pub later : List ℕ → List ℕ
later due = map (λ call. call - 1) due

-- how often it failed then
abbrev pub faults_after : List ℕ → ℕ → ℕ
faults_after due faults = if is_due due then faults + 1 else faults

-- calls that haven't been yet
abbrev pub is_to_come : ℕ → Bool
is_to_come call = nat_lt 0 call
