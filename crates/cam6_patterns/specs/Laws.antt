-- The law of run-length texts.
use Rattle.std.specs.Prelude.{◌≡◌, ◌<◌, ◌≤◌, ℕ, List, length, get_or, All, Ok, []}
use Rattle.std.specs.List.{AllByRecursion}
use Rattle.cam6_patterns.specs.Pattern.{Pattern, state_in, most_cells, most_states}
use Rattle.cam6_patterns.specs.Reading.{pattern_in}
use Rattle.cam6_patterns.specs.Writing.{pattern_text}

-- rows of one width, no more and no wider than a torus of this side, of so many states
pub record AreRowsWithin (side states : ℕ) (rows : List (List ℕ)) : Type 0 where
  pub high : length rows ≤ side
  pub wide : length (get_or rows 0 []) ≤ side
  pub even : All (λ row. length row ≡ length (get_or rows 0 [])) rows
  pub few : All (AllByRecursion (λ state. state < states)) rows

-- a pattern with these cells at its upper left corner
abbrev pub HasCells : List (List ℕ) → Pattern → Type 0
HasCells rows p =
    (p.width ≡ length (get_or rows 0 [])) × (p.height ≡ length rows) ×
    (p.column ≡ 0) × (p.row ≡ 0) × ((x y : ℕ) → state_in p.rows x y ≡ state_in rows x y)

-- a rule's name is on one line
abbrev pub IsOneLine : List ℕ → Type 0
IsOneLine rule = All (λ b. (b ≡ 10) → ⊥) rule

-- the text of rows of so many states is read as a pattern with their cells, if there may be as many
-- states or more
abbrev pub TextIsReadBack : Type 0
TextIsReadBack =
    (side states most : ℕ) (rule : List ℕ) (rows : List (List ℕ)) → side ≤ most_cells →
    0 < states → states ≤ most → most ≤ most_states → IsOneLine rule →
    AreRowsWithin side states rows →
    (p : Pattern) × (pattern_in side most (pattern_text states rule rows) ≡ Ok p) ×
    HasCells rows p
