-- Planes in the middle of a step: the first rows are new, and the others old.
use Rattle.std.specs.Prelude.{ℕ, ◌≡◌, ◌<◌, ◌≤◌, ◌-◌, ◌⊎◌, List, [], ◌∷◌}
use Rattle.std.specs.List.{AllByRecursion}
use Rattle.cam6_planes.specs.Cells.{Cells, cells, IsRow}
use Rattle.cam6_planes.specs.Stored.{Stored, width}

-- a row of all four planes that is saved, with its number
pub record SavedRow : Type 0 where
  pub number : ℕ
  pub row : List (List ℕ)

-- the planes, how many of their rows are new, and what is saved beside them
pub record Mid : Type 0 where
  pub planes : Stored
  pub done : ℕ
  pub saved : List SavedRow

-- each saved row is the row of planes f with its number, at their s columns
abbrev pub AreRowsOf : ℕ → Cells → List SavedRow → Type 0
AreRowsOf s f saved = AllByRecursion (λ row. IsRow s f row.number row.row) saved

-- a row of this number is saved
abbrev pub IsSaved : ℕ → List SavedRow → Type 0
IsSaved number [] = ⊥
IsSaved number (row ∷ saved) = (row.number ≡ number) ⊎ IsSaved number saved

-- the step from planes o to planes p is partly done. The rows that are done are those of p, and the
-- others those of o. The saved rows are rows of o. Once a row is done, the first row and the one
-- done last are among them
pub record Partway (o p : Cells) (mid : Mid) : Type 0 where
  pub new : (q x y : ℕ) → q < 4 → x < width mid.planes → y < mid.done →
      cells mid.planes q x y ≡ p q x y
  pub old : (q x y : ℕ) → q < 4 → x < width mid.planes → mid.done ≤ y → y < width mid.planes →
      cells mid.planes q x y ≡ o q x y
  pub saved : AreRowsOf (width mid.planes) o mid.saved
  pub first : 0 < mid.done → IsSaved 0 mid.saved
  pub last : 0 < mid.done → IsSaved (mid.done - 1) mid.saved
