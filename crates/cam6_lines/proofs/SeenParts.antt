-- The part in which a line is seen is made under a name that looks there from the row beside.
use Rattle.std.proofs.Common.{◌≡◌, ℕ, ◌+◌, ◌-◌, ◌<◌, ◌≤◌, Bool, true, false}
use Rattle.std.proofs.Common.{Option, Some, None, ◌∙◌, ap, arith}
use Rattle.std.specs.Option.{IfSome}
use Rattle.cam6_planes.specs.Cells.{Cells, torus}
use Rattle.cam6_planes.specs.Row.{west_of, east_of}
use Rattle.cam6_planes.proofs.WordByWord.{west_of-suc}
use Rattle.cam6_wiring.specs.Lines.{sees_at}
use Rattle.cam6_wiring.specs.Name.{plane_of}
use Rattle.cam6_wiring.specs.Wiring.{is_at}
use Rattle.cam6_wiring.specs.declared.names.Compass.TheVariants.{Center, North, South, West}
use Rattle.cam6_wiring.specs.declared.names.Compass.TheVariants.{East, NorthWest, NorthEast}
use Rattle.cam6_wiring.specs.declared.names.Compass.TheVariants.{SouthWest, SouthEast}
use Rattle.cam6_wiring.specs.declared.names.Name.{Name}
use Rattle.cam6_wiring.specs.declared.names.Name.TheVariants as name
use Rattle.cam6_wiring.specs.declared.neighbours.Setting.{Setting}
use Rattle.cam6_wiring.proofs.Named.{itself_alone}
use Rattle.cam6_lines.proofs.RowsAbove.{above_two}
use Rattle.cam6_lines.specs.Internal.Parts.{first_row}
use Rattle.cam6_lines.specs.Internal.Views.{part_name, seen_from, IsSeen, IsInside, HasParts}
use Rattle.cam6_lines.specs.declared.views.View.{View}
use Rattle.cam6_lines.specs.declared.views.Needed.{Needed}

pub at_name : (name : Name) (known : Option Name) → is_at name known ≡ true → known ≡ Some name
at_name name None e = cc
at_name name (Some known) e = ap Some ((itself_alone known name).0 e)

-- a line is seen from rows of its part that are made
pub rows_made : (name : Name) (r : ℕ) → r < 16 →
    (first_row (part_name name) ≤ r + seen_from name)
    × (r + seen_from name < 18 - first_row (part_name name))
rows_made (name.Beside Center l) r h = (omega arith, omega (arith, h))
rows_made (name.Beside North l) r h = (omega arith, omega (arith, h))
rows_made (name.Beside South l) r h = (omega arith, omega (arith, h))
rows_made (name.Beside West l) r h = (omega arith, omega (arith, h))
rows_made (name.Beside East l) r h = (omega arith, omega (arith, h))
rows_made (name.Beside NorthWest l) r h = (omega arith, omega (arith, h))
rows_made (name.Beside NorthEast l) r h = (omega arith, omega (arith, h))
rows_made (name.Beside SouthWest l) r h = (omega arith, omega (arith, h))
rows_made (name.Beside SouthEast l) r h = (omega arith, omega (arith, h))
rows_made (name.InBlock c l) r h = (omega arith, omega (arith, h))
rows_made (name.Phase l) r h = (omega arith, omega (arith, h))
rows_made name.Horz r h = (omega arith, omega (arith, h))
rows_made name.Vert r h = (omega arith, omega (arith, h))
rows_made (name.MinorCenter l) r h = (omega arith, omega (arith, h))
rows_made (name.MinorPhase l) r h = (omega arith, omega (arith, h))
rows_made name.MinorHorz r h = (omega arith, omega (arith, h))
rows_made name.MinorVert r h = (omega arith, omega (arith, h))

here : (s first r : ℕ) → first + 16 ≤ s → r < 16 → west_of s (first + (r + 1)) ≡ first + r
here s first r within h =
    let e : first + (r + 1) ≡ first + r + 1 = omega arith in
    ap (west_of s) e ∙ west_of-suc s (first + r) (omega (arith, within, h))

north : (s first r : ℕ) → west_of s (first + (r + 0)) ≡ west_of s (first + r)
north s first r = let e : first + (r + 0) ≡ first + r = omega arith in ap (west_of s) e

south : (s first r : ℕ) → first + 16 ≤ s → west_of s (first + (r + 2)) ≡ east_of s (first + r)
south s first r within =
    let e : first + (r + 2) ≡ first + r + 2 = omega arith in
    ap (west_of s) e ∙ above_two s (first + r) (omega (arith, within))

-- what the part shows in that row is what the line sees in its own
pub seen_part : (s : ℕ) (f : Cells) (setting : Setting) (x first r : ℕ) (name : Name) →
    first + 16 ≤ s → r < 16 →
    sees_at s f setting x (west_of s (first + (r + seen_from name))) (part_name name)
    ≡ sees_at s f setting x (first + r) name
seen_part s f setting x first r (name.Beside Center l) within h =
    ap (torus s f (plane_of setting.half l) x) (here s first r within h)
seen_part s f setting x first r (name.Beside North l) within h =
    ap (torus s f (plane_of setting.half l) x) (north s first r)
seen_part s f setting x first r (name.Beside South l) within h =
    ap (torus s f (plane_of setting.half l) x) (south s first r within)
seen_part s f setting x first r (name.Beside West l) within h =
    ap (torus s f (plane_of setting.half l) (west_of s x)) (here s first r within h)
seen_part s f setting x first r (name.Beside East l) within h =
    ap (torus s f (plane_of setting.half l) (east_of s x)) (here s first r within h)
seen_part s f setting x first r (name.Beside NorthWest l) within h =
    ap (torus s f (plane_of setting.half l) (west_of s x)) (north s first r)
seen_part s f setting x first r (name.Beside NorthEast l) within h =
    ap (torus s f (plane_of setting.half l) (east_of s x)) (north s first r)
seen_part s f setting x first r (name.Beside SouthWest l) within h =
    ap (torus s f (plane_of setting.half l) (west_of s x)) (south s first r within)
seen_part s f setting x first r (name.Beside SouthEast l) within h =
    ap (torus s f (plane_of setting.half l) (east_of s x)) (south s first r within)
seen_part s f setting x first r (name.InBlock c l) within h =
    ap (λ y. sees_at s f setting x y (name.InBlock c l)) (here s first r within h)
seen_part s f setting x first r (name.Phase l) within h =
    ap (λ y. sees_at s f setting x y (name.Phase l)) (here s first r within h)
seen_part s f setting x first r name.Horz within h =
    ap (λ y. sees_at s f setting x y name.Horz) (here s first r within h)
seen_part s f setting x first r name.Vert within h =
    ap (λ y. sees_at s f setting x y name.Vert) (here s first r within h)
seen_part s f setting x first r (name.MinorCenter l) within h =
    ap (λ y. sees_at s f setting x y (name.MinorCenter l)) (here s first r within h)
seen_part s f setting x first r (name.MinorPhase l) within h =
    ap (λ y. sees_at s f setting x y (name.MinorPhase l)) (here s first r within h)
seen_part s f setting x first r name.MinorHorz within h =
    ap (λ y. sees_at s f setting x y name.MinorHorz) (here s first r within h)
seen_part s f setting x first r name.MinorVert within h =
    ap (λ y. sees_at s f setting x y name.MinorVert) (here s first r within h)

pub from_most : (name : Name) → seen_from name ≤ 2
from_most (name.Beside Center l) = omega arith
from_most (name.Beside North l) = omega arith
from_most (name.Beside South l) = omega arith
from_most (name.Beside West l) = omega arith
from_most (name.Beside East l) = omega arith
from_most (name.Beside NorthWest l) = omega arith
from_most (name.Beside NorthEast l) = omega arith
from_most (name.Beside SouthWest l) = omega arith
from_most (name.Beside SouthEast l) = omega arith
from_most _ = omega arith

-- a view that is seen stays within the parts
pub view_inside : (needed : Needed) (parts : ℕ) (asked : Bool) (known : Option Name)
    (view : Option View) → needed.count ≤ parts → IsSeen needed asked known view →
    IfSome view (IsInside parts)
view_inside needed parts asked known None room seen = tt
view_inside needed parts false known (Some view) room seen = cc seen
view_inside needed parts true None (Some view) room seen = cc seen
view_inside needed parts true (Some name) (Some view) room seen =
    (omega (arith, seen.0.0, room), omega (arith, seen.1, from_most name))

-- what is seen in parts is seen in them with more parts beside them
pub still_seen : (first second : Needed) (asked : Bool) (known : Option Name) (view : Option View) →
    HasParts first second → IsSeen first asked known view → IsSeen second asked known view
still_seen first second false known view have seen = seen
still_seen first second true None view have seen = seen
still_seen first second true (Some name) None have seen = absurd seen
still_seen first second true (Some name) (Some view) have seen =
    (have view.part (part_name name) seen.0, seen.1)
