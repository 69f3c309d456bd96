-- Sets of lanes, which are masks.
use Rattle.std.specs.Prelude.{◌≡◌, ◌⊎◌, ℕ, Bool, IsTrue, List, slice_index}
use Rattle.cam6_table.specs.declared.sets.TheConstants.{IN}

-- a lane is in a set
abbrev pub IsIn : List ℕ → ℕ → Type 0
IsIn set lane = slice_index set lane ≡ IN

-- a lane is not in a set
abbrev pub IsOut : List ℕ → ℕ → Type 0
IsOut set lane = slice_index set lane ≡ 0

-- what stands for a lane says that it is not in another set and that something holds
pub record IsOther (place other : ℕ) (holds : Bool) : Type 0 where
  pub each : (place ≡ IN) ⊎ (place ≡ 0)
  pub holds_in : place ≡ IN → IsTrue holds
  pub outside : place ≡ IN → other ≡ 0

-- a set has two parts, and a lane is in one of them if it is in the set
pub record IsInOnePart (set first second : ℕ) : Type 0 where
  pub each : (set ≡ IN) ⊎ (set ≡ 0)
  pub each_first : (first ≡ IN) ⊎ (first ≡ 0)
  pub each_second : (second ≡ IN) ⊎ (second ≡ 0)
  pub one : set ≡ IN → (first ≡ IN) ⊎ (second ≡ IN)
  pub first_in : first ≡ IN → set ≡ IN
  pub first_only : first ≡ IN → second ≡ 0
  pub second_in : second ≡ IN → set ≡ IN
  pub second_only : second ≡ IN → first ≡ 0
  pub none_first : set ≡ 0 → first ≡ 0
  pub none_second : set ≡ 0 → second ≡ 0
