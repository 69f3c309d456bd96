-- The laws that tie what is seen to the address that it makes, the table of rotations to the block,
-- and texts to what they name. Also the laws of what is the same.
use Rattle.std.specs.Prelude.{◌≡◌, ◌<◌, ℕ, ◌*◌, true, false, List, Option, Some, None, get_or}
use Rattle.cam6_planes.specs.Cells.{Cells}
use Rattle.cam6_wiring.specs.Block.{corner_of, in_block, rotated, block_of}
use Rattle.cam6_wiring.specs.declared.blocks.Grid.{Grid}
use Rattle.cam6_wiring.specs.declared.names.Name.{Name}
use Rattle.cam6_wiring.specs.declared.names.Rotation.{Rotation}
use Rattle.cam6_wiring.specs.declared.wirings.Hood.{Hood}
use Rattle.cam6_wiring.specs.declared.wirings.Minor.{Minor}
use Rattle.cam6_wiring.specs.Name.{is_same_name}
use Rattle.cam6_wiring.specs.declared.wirings.Wiring.{Wiring}
use Rattle.cam6_wiring.specs.Wiring.{line_of, names_of}
use Rattle.cam6_wiring.specs.Same.{is_same_wiring}
use Rattle.cam6_wiring.specs.Texts.{half_text, hood_text, minor_text, grid_text}
use Rattle.cam6_wiring.specs.Texts.{half_named, hood_named, minor_named, grid_named}
use Rattle.cam6_wiring.specs.Seen.{Sees, address_of, shown, column_beside, row_beside}
use Rattle.cam6_wiring.specs.Seen.{seen_in_block}

-- the address of what is seen shows, on the line of each name, what is seen under the name
abbrev pub ShowsWhatIsSeen : Type 0
ShowsWhatIsSeen =
    (hood : Hood) (minor : Minor) (sees : Sees) (name : Name) (line : ℕ) →
    line_of hood minor name ≡ Some line → shown (address_of hood minor sees) line ≡ sees name

-- and 0 on each line without a name
abbrev pub ShowsNothingElse : Type 0
ShowsNothingElse =
    (hood : Hood) (minor : Minor) (sees : Sees) (line : ℕ) →
    get_or (names_of hood minor) line None ≡ None →
    shown (address_of hood minor sees) line ≡ false

-- the line of a name and the names of the lines agree
abbrev pub LinesAreNamed : Type 0
LinesAreNamed =
    (hood : Hood) (minor : Minor) (name : Name) (line : ℕ) →
    (line_of hood minor name ≡ Some line → get_or (names_of hood minor) line None ≡ Some name) ×
    (get_or (names_of hood minor) line None ≡ Some name → line_of hood minor name ≡ Some line)

-- a name is the same as itself, and as no other
abbrev pub IsItselfAlone : Type 0
IsItselfAlone =
    (first second : Name) →
    (is_same_name first second ≡ true → first ≡ second) ×
    (first ≡ second → is_same_name first second ≡ true)

-- a wiring is the same as itself, and as no other
abbrev pub WiringsAreThemselves : Type 0
WiringsAreThemselves =
    (first second : Wiring) →
    (is_same_wiring first second ≡ true → first ≡ second) ×
    (first ≡ second → is_same_wiring first second ≡ true)

-- each text names what it is the text of, and no other text does
abbrev pub NamesExactly : {A : Type 0} → (A → List ℕ) → (List ℕ → Option A) → Type 0
NamesExactly {A} text_of named =
    ((a : A) → named (text_of a) ≡ Some a) ×
    ((text : List ℕ) (a : A) → named text ≡ Some a → text ≡ text_of a)

-- so do the texts of halves, neighbourhoods, minor assignments and grids
abbrev pub TextsNameWhatTheyAreOf : Type 0
TextsNameWhatTheyAreOf =
    NamesExactly half_text half_named × NamesExactly hood_text hood_named ×
    NamesExactly minor_text minor_named × NamesExactly grid_text grid_named

-- on a torus of even side, each rotation leads to a cell of the same block, which is one, two or
-- three corners further clockwise
abbrev pub RotationsInTheBlock : Type 0
RotationsInTheBlock =
    (half_side : ℕ) (f : Cells) (grid : Grid) (rotation : Rotation) (p x y : ℕ) → 0 < half_side →
    let s = 2 * half_side in
    let there = in_block (corner_of grid x y) rotation in
    let column = column_beside s there x in
    let row = row_beside s there y in
    (seen_in_block s f grid rotation p x y ≡ f p column row) ×
    (corner_of grid column row ≡ rotated rotation (corner_of grid x y)) ×
    (block_of s grid column ≡ block_of s grid x) × (block_of s grid row ≡ block_of s grid y)
