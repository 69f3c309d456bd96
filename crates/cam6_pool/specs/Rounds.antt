-- How a worker's looks go round all users.
use Rattle.std.specs.Prelude.{◌≡◌, ◌≢◌, ◌<◌, ◌+◌, ◌%◌, ℕ, List, [], ◌∷◌, ⊤}

-- the user in turn when a round has passed over so many, from the user of a row on; rows are
-- counted from 0, and users from 1
abbrev pub next_user : ℕ → ℕ → ℕ → ℕ
next_user users row passed = (row + passed) % users + 1

-- a round that ends with a take: how many users it passed over, and the user who is taken
pub record Take : Type 0 where
  pub passed : ℕ
  pub user : ℕ

-- from this row on, the user who is taken is the one in turn, and nobody was passed over twice
abbrev pub IsNextUser : ℕ → ℕ → Take → Type 0
IsNextUser users row take =
    (take.passed < users) × (take.user ≡ next_user users row take.passed)

-- takes one after another, from this row on; the number of a user is the row of the user after
-- them, where the next round begins
abbrev pub AreNextUsers : ℕ → ℕ → List Take → Type 0
AreNextUsers users row [] = ⊤
AreNextUsers users row (take ∷ later) = IsNextUser users row take × AreNextUsers users take.user later

-- from this row on, a round neither takes a user nor passes over them
abbrev pub IsWithout : ℕ → ℕ → ℕ → Take → Type 0
IsWithout users row user take =
    (take.user ≢ user)
    × ((passed : ℕ) → passed < take.passed → next_user users row passed ≢ user)

-- no round of these takes takes the user or passes over them
abbrev pub AreWithout : ℕ → ℕ → ℕ → List Take → Type 0
AreWithout users row user [] = ⊤
AreWithout users row user (take ∷ later) =
    IsWithout users row user take × AreWithout users take.user user later
