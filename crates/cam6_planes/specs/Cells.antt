-- Planes as a set of cells: a truth value at each plane, column and row, wrapped round both ways.
use Rattle.std.specs.Prelude.{ℕ, ◌%◌, ◌<◌, ◌≡◌, Bool, false, List, [], slice_index_or}
use Rattle.std.specs.Prelude.{nat_lt, ◌==◌, ◌&&◌, if◌then◌else◌}
use Rattle.cam6_planes.specs.Row.{column_bit}
use Rattle.cam6_planes.specs.Side.{side_number}
use Rattle.cam6_planes.specs.Stored.{Stored}

-- the bit of a plane at a column of a row, in this order
abbrev pub Cells : Type 0
Cells = ℕ → ℕ → ℕ → Bool

-- four planes of s by s cells: the bits of f, with coordinates taken modulo s
abbrev pub torus : ℕ → Cells → Cells
torus s f p x y = nat_lt p 4 && f p (x % s) (y % s)

-- no cell is set
abbrev pub no_cells : Cells
no_cells p x y = false

-- the same cells but for row y of plane p, which is this row
abbrev pub with_row : ℕ → Cells → ℕ → ℕ → (ℕ → Bool) → Cells
with_row s f p y row = torus s (λ q u v. if (q == p) && (v == y) then row u else f q u v)

-- the same cells but for plane p, in which no cell is set
abbrev pub without_plane : ℕ → Cells → ℕ → Cells
without_plane s f p = torus s (λ q x y. if q == p then false else f q x y)

-- the bit that the words hold
abbrev pub stored_bit : List (List (List ℕ)) → Cells
stored_bit rows p x y = column_bit (slice_index_or (slice_index_or rows y []) p []) x

-- the cells that stored planes show
abbrev pub cells : Stored → Cells
cells v = torus (side_number v.side) (stored_bit v.rows)

-- these rows are row y of each of the planes f, at their s columns
abbrev pub IsRow : ℕ → Cells → ℕ → List (List ℕ) → Type 0
IsRow s f y rows = (p x : ℕ) → p < 4 → x < s → column_bit (slice_index_or rows p []) x ≡ f p x y
