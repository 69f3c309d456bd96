-- A band that is made in the midst of a step: the rows that are old before, and new after it.
use Rattle.std.specs.Prelude.{ℕ, ◌≡◌, ◌<◌, ◌≤◌, ◌+◌, ◌⊎◌, List, Option}
use Rattle.cam6_planes.specs.Cells.{Cells, torus, IsRow}
use Rattle.cam6_planes.specs.Row.{west_of}
use Rattle.cam6_wiring.specs.Name.{plane_of}
use Rattle.cam6_wiring.specs.declared.names.Level.{Level}
use Rattle.cam6_wiring.specs.declared.neighbours.Setting.{Setting}
use Rattle.cam6_band.specs.ByTables.{HalfEntries, bit_by_table}
use Rattle.cam6_band.specs.Limits.{band}

-- row v is none of the sixteen rows from row y on
abbrev pub IsOutside : ℕ → ℕ → Type 0
IsOutside y v = (v < y) ⊎ (y + band ≤ v)

-- planes g show the rows of planes f from row y on. Beside them are kept the row to the north of
-- row y and row 0
pub record AreOldRows (s : ℕ) (f : Cells) (y : ℕ) (g : Cells) (north_row first_row : List (List ℕ))
    : Type 0 where
  pub rows : (p x v : ℕ) → p < 4 → x < s → y ≤ v → v < s → g p x v ≡ f p x v
  pub north : IsRow s f (west_of s y) north_row
  pub first : IsRow s f 0 first_row

-- planes g have, in the sixteen rows from row y on, a half's new bits of planes f
abbrev pub HasNewBits : ℕ → Cells → Setting → Option HalfEntries → ℕ → Cells → Type 0
HasNewBits s f setting table y g =
    (level : Level) (x r : ℕ) → x < s → r < band →
    g (plane_of setting.half level) x (y + r)
    ≡ bit_by_table s (torus s f) setting table level x (y + r)
