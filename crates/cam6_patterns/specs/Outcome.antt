-- What the code's parts return while a text is read. If an allocation fails, nothing is said.
use Rattle.std.specs.Prelude.{◌≡◌, ◌<◌, ◌⊎◌, ℕ, ◌%◌, [], Option, Some, None, Result, Ok, Err, ⊤, List, Vec, ◌+◌, ◌∷◌, ◌++◌}
use Rattle.std.specs.declared.alloc.Global.{Global}
use Rattle.cam6_patterns.specs.Pattern.{Pattern, most_cells}
use Rattle.cam6_patterns.specs.Body.{Bounds, Read, nothing_read, Step, more, over, whole_rows}
use Rattle.cam6_patterns.specs.Reading.{Stage, before, within, with_rows}
use Rattle.cam6_patterns.specs.Writing.{filled, row_by_row}
use Rattle.cam6_patterns.specs.Placing.{set_line, bit_placed}
use Rattle.cam6_patterns.specs.declared.bodies.Going.{Going}
use Rattle.cam6_patterns.specs.declared.bodies.Going.TheVariants.{More, Over}
use Rattle.cam6_patterns.specs.declared.headers.Extent.{Extent}
use Rattle.cam6_patterns.specs.declared.headers.Head.{Head}
use Rattle.cam6_patterns.specs.declared.headers.Head.TheVariants.{Before, Within}
use Rattle.cam6_patterns.specs.declared.faults.PatternFault.{PatternFault}
use Rattle.cam6_patterns.specs.declared.reading.Unread.{Unread}
use Rattle.cam6_patterns.specs.declared.reading.Unread.TheVariants.{Fault, NoMemory}

-- a number that stands for n, however large n is: it equals n modulo most_cells, and n itself
-- unless both are above most_cells
pub record StandsFor (n number : ℕ) : Type 0 where
  pub ring : number % most_cells ≡ n % most_cells
  pub size : (number ≡ n) ⊎ ((most_cells < number) × (most_cells < n))

-- the width and the height are missing from both, or those of the second stand for those of the
-- first
abbrev pub AreExtents : Option (ℕ × ℕ) → Option (ℕ × ℕ) → Type 0
AreExtents None None = ⊤
AreExtents None (Some extents) = ⊥
AreExtents (Some said) None = ⊥
AreExtents (Some said) (Some extents) = StandsFor said.0 extents.0 × StandsFor said.1 extents.1

-- the cells after a step, whether it was the last one, or its fault
abbrev pub StepsTo : Result Step PatternFault → Read → Result Going Unread → Type 0
StepsTo step new (Ok More) = step ≡ Ok (more new)
StepsTo step new (Ok Over) = step ≡ Ok (over (whole_rows new))
StepsTo step new (Err (Fault f)) = step ≡ Err f
StepsTo step new (Err NoMemory) = ⊤

-- a pattern's box without its rows
abbrev pub boxed : Extent → Pattern
boxed e = record { width = e.width; height = e.height; column = e.column; row = e.row; rows = [] }

-- as many columns and rows as a box has, and so many states
abbrev pub bounds_of : Extent → ℕ → Bounds
bounds_of e states = record { width = e.width; height = e.height; states = states }

-- how far a line before the cells leads, or its fault
abbrev pub LeadsTo : ℕ → Result Stage PatternFault → Result Head PatternFault → Type 0
LeadsTo states stage (Ok (Before corner)) = stage ≡ Ok (before corner)
LeadsTo states stage (Ok (Within e)) =
    stage ≡ Ok (within (boxed e) (bounds_of e states) nothing_read)
LeadsTo states stage (Err f) = stage ≡ Err f

-- the rows of a pattern that was read, or the text's fault
abbrev pub RowsOf : Result Pattern PatternFault → Pattern → Result (Vec (List ℕ) Global) Unread
    → Type 0
RowsOf said p (Ok rows) = said ≡ Ok (with_rows p rows.items)
RowsOf said p (Err (Fault f)) = said ≡ Err f
RowsOf said p (Err NoMemory) = ⊤

-- the lines of a pattern's row y from bit k on, with its first column at `first` and its first row
-- at `top`
abbrev pub lines_of_row : ℕ → ℕ → ℕ → Pattern → ℕ → ℕ → List ℕ → List ℕ
lines_of_row side first top p y k [] = []
lines_of_row side first top p y k (plane ∷ planes) =
    set_line side plane ((top + y) % side) (bit_placed side first p k y)
    ++ lines_of_row side first top p y (k + 1) planes

-- these parts were pushed after a text with `used` bytes in its last line; the last line now has
-- `after` bytes, whatever parts come next
abbrev pub Fills : List ℕ → ℕ → List (List ℕ) → List ℕ → ℕ → Type 0
Fills old used parts new after =
    (more : List (List ℕ)) → old ++ filled used (parts ++ more) ≡ new ++ filled after more

-- the same for a row and the row ends before it; `left` row ends aren't pushed yet, whatever rows
-- come next
abbrev pub FillsRow : List ℕ → ℕ → ℕ → ℕ → List ℕ → List ℕ → ℕ → ℕ → Type 0
FillsRow old used states ends row new after left =
    (rows : List (List ℕ)) → old ++ filled used (row_by_row states ends (row ∷ rows))
    ≡ new ++ filled after (row_by_row states left rows)
