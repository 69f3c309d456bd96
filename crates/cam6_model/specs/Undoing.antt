-- Blocks of cells, and one step undone.
use Rattle.std.specs.Prelude.{ℕ, ◌+◌, ◌%◌, Bool, Option, Some, None, ⊤}
use Rattle.std.specs.Option.{option_map}
use Rattle.cam6_planes.specs.Cells.{Cells, torus}
use Rattle.cam6_planes.specs.Row.{bit_number}
use Rattle.cam6_wiring.specs.Block.{block_of, corner_of}
use Rattle.cam6_wiring.specs.Name.{plane_of, on_plane}
use Rattle.cam6_wiring.specs.declared.blocks.Corner.{Corner}
use Rattle.cam6_wiring.specs.declared.blocks.Corner.TheVariants.{UpperLeft, UpperRight}
use Rattle.cam6_wiring.specs.declared.blocks.Corner.TheVariants.{LowerRight, LowerLeft}
use Rattle.cam6_wiring.specs.declared.blocks.Grid.{Grid}
use Rattle.cam6_wiring.specs.declared.names.Half.{Half}
use Rattle.cam6_wiring.specs.declared.names.Level.{Level}
use Rattle.cam6_wiring.specs.declared.names.Phase.{Phase}
use Rattle.cam6_block.specs.Blocks.{state_of, corner_bit, is_right, is_low}
use Rattle.cam6_block.specs.BlockMaps.{reading_of, block_map, preimage, IsReversible}
use Rattle.cam6_model.specs.Rules.{Rule}
use Rattle.cam6_model.specs.Cycles.{EntryRules, rule_for}

-- the column of a corner of the block in which column x lies, on a torus of s columns, and the row
-- of a corner of the block in which row y lies
abbrev pub column_at : ℕ → Grid → ℕ → ℕ → ℕ
column_at s grid x corner = (block_of s grid x + bit_number (is_right corner)) % s

abbrev pub row_at : ℕ → Grid → ℕ → ℕ → ℕ
row_at s grid y corner = (block_of s grid y + bit_number (is_low corner)) % s

-- the state of the block in which the cell at column x of row y lies
unfoldable pub block_state_at : ℕ → Cells → Half → Grid → ℕ → ℕ → ℕ
block_state_at s f half grid x y =
    state_of (λ level corner.
    f (plane_of half level) (column_at s grid x corner) (row_at s grid y corner))

-- the number of a cell's corner of its block
abbrev pub corner_number : Corner → ℕ
corner_number UpperLeft = 0
corner_number UpperRight = 1
corner_number LowerRight = 2
corner_number LowerLeft = 3

-- the corner of the cell at column x of row y in its block
abbrev pub corner_in_block : Grid → ℕ → ℕ → ℕ
corner_in_block grid x y = corner_number (corner_of grid x y)

-- the new bit of a plane of a half at a cell of f: the cell's bit in the state that its block's
-- state changes to. Without a change the bit stays
abbrev pub changed_cell :
    ℕ → Cells → Grid → Half → Option (ℕ → ℕ) → Level → ℕ → ℕ → Bool
changed_cell s f grid half None level x y = f (plane_of half level) x y
changed_cell s f grid half (Some change) level x y =
    corner_bit (change (block_state_at s f half grid x y)) level (corner_in_block grid x y)

-- planes with their blocks on a grid changed, each half's by its change of states
unfoldable pub blockwise : ℕ → Grid → (Half → Option (ℕ → ℕ)) → Cells → Cells
blockwise s grid changes f =
    torus s (λ p x y. on_plane p (λ half level.
    changed_cell s f grid half (changes half) level x y))

-- how a rule changes a block's state, and the rule undone: to the least state that becomes this one
abbrev pub done_by : Phase → Option Rule → Option (ℕ → ℕ)
done_by phase rule = option_map (λ r. block_map (reading_of r.wiring r.text) phase) rule

abbrev pub undone_by : Phase → Option Rule → Option (ℕ → ℕ)
undone_by phase rule =
    option_map (λ r. preimage (block_map (reading_of r.wiring r.text) phase)) rule

-- one step by an entry undone: each block of its grid becomes the least state that becomes this one
-- by the half's rule at the entry's phase. A half without a rule keeps its planes
abbrev pub unstep : ℕ → EntryRules → Cells → Cells
unstep s entry f =
    blockwise s entry.grid (λ half. undone_by entry.phase (rule_for half entry)) f

-- a rule can be undone, if there is one: its blocks see only themselves, and no two of their states
-- become one
abbrev pub IsReversibleRule : Option Rule → Type 0
IsReversibleRule None = ⊤
IsReversibleRule (Some rule) =
    IsReversible (reading_of rule.wiring rule.text) rule.wiring.hood rule.wiring.minor

-- both rules of an entry can be
abbrev pub IsReversibleEntry : EntryRules → Type 0
IsReversibleEntry entry = IsReversibleRule entry.a × IsReversibleRule entry.b
