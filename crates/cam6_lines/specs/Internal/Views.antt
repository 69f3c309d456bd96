-- In which part, and from which row of it on, each line's unit is seen.
use Rattle.std.specs.Prelude.{ℕ, ◌≡◌, ◌<◌, ◌≤◌, ◌*◌, ◌==◌, Bool, true, false}
use Rattle.std.specs.Prelude.{List, [], length}
use Rattle.std.specs.Int.{bit_at}
use Rattle.std.specs.Prelude.{Option, Some, None, take, drop, replicate, slice_index_or}
use Rattle.cam6_wiring.specs.declared.names.Compass.{Compass}
use Rattle.cam6_wiring.specs.declared.names.Compass.TheVariants.{Center, North, South, West}
use Rattle.cam6_wiring.specs.declared.names.Compass.TheVariants.{East, NorthWest, NorthEast}
use Rattle.cam6_wiring.specs.declared.names.Compass.TheVariants.{SouthWest, SouthEast}
use Rattle.cam6_wiring.specs.declared.names.Name.{Name}
use Rattle.cam6_wiring.specs.declared.names.Name.TheVariants as name
use Rattle.cam6_wiring.specs.declared.wirings.TheConstants.{LINES}
use Rattle.cam6_lines.specs.declared.units.TheConstants.{UNIT}
use Rattle.cam6_lines.specs.declared.views.View.{View}
use Rattle.cam6_lines.specs.declared.views.Needed.{Needed}

-- where the part looks in which a line is seen that looks in this direction
abbrev pub part_beside : Compass → Compass
part_beside Center = Center
part_beside North = Center
part_beside South = Center
part_beside West = West
part_beside East = East
part_beside NorthWest = West
part_beside NorthEast = East
part_beside SouthWest = West
part_beside SouthEast = East

-- the name for which the part is made in which a line with this name is seen
abbrev pub part_name : Name → Name
part_name (name.Beside compass level) = name.Beside (part_beside compass) level
part_name name = name

-- the first row of the part that is seen, by where the line looks
abbrev pub seen_beside_from : Compass → ℕ
seen_beside_from Center = 1
seen_beside_from North = 0
seen_beside_from South = 2
seen_beside_from West = 1
seen_beside_from East = 1
seen_beside_from NorthWest = 0
seen_beside_from NorthEast = 0
seen_beside_from SouthWest = 2
seen_beside_from SouthEast = 2

-- the first row of the part that is seen under a name
abbrev pub seen_from : Name → ℕ
seen_from (name.Beside compass level) = seen_beside_from compass
seen_from _ = 1

-- the part is one of so many, and from this row on it has a whole unit of rows
abbrev pub IsInside : ℕ → View → Type 0
IsInside parts view = (view.part < parts) × (view.row ≤ 2)

-- the unit that is seen in parts with so many words in a row; zeros without a view
abbrev pub unit_of : List (List ℕ) → ℕ → Option View → List ℕ
unit_of parts words None = replicate UNIT 0
unit_of parts words (Some view) =
    take UNIT (drop (words * view.row) (slice_index_or parts view.part []))

-- the part at this place is needed, and made for this name
abbrev pub IsPartFor : Needed → Name → ℕ → Type 0
IsPartFor needed name place =
    (place < needed.count) × (slice_index_or needed.names place None ≡ Some name)

-- all parts of the first are parts of the second, at the same places
abbrev pub HasParts : Needed → Needed → Type 0
HasParts first second =
    (place : ℕ) (name : Name) → IsPartFor first name place → IsPartFor second name place

-- how a line is seen, if it is asked for and has a name: in the part for that name, from its row on
abbrev pub IsSeen : Needed → Bool → Option Name → Option View → Type 0
IsSeen needed false known view = view ≡ None
IsSeen needed true None view = view ≡ None
IsSeen needed true (Some name) None = ⊥
IsSeen needed true (Some name) (Some view) =
    IsPartFor needed (part_name name) view.part × (view.row ≡ seen_from name)

-- how lines with these names are seen, if a mask asks for them
abbrev pub AreViews : ℕ → List (Option Name) → Needed → List (Option View) → Type 0
AreViews asked names needed views =
    (length views ≡ LINES) × ((k : ℕ) → k < LINES →
    IsSeen needed (bit_at asked k == 1) (slice_index_or names k None)
    (slice_index_or views k None))
