-- Images that boards work on.
use Rattle.std.specs.Prelude.{ℕ, ◌≡◌, ◌<◌, ◌+◌, Bool, true, false}
use Rattle.cam6_planes.specs.Cells.{Cells, cells}
use Rattle.cam6_planes.specs.Stored.{Stored, width, AreAlike}
use Rattle.cam6_band.specs.Limits.{band}
use Rattle.cam6_band.specs.Partway.{Partway}
use Rattle.cam6_board.specs.declared.images.Image.{Image}
use Rattle.cam6_board.specs.declared.images.Image.TheVariants.{Rest, Mid}

-- the planes of an image, whatever they show
abbrev pub planes_in : Image → Stored
planes_in (Rest rest) = rest.planes
planes_in (Mid mid) = mid.planes

-- the rows of a step that are done
abbrev pub rows_of : Image → ℕ
rows_of (Rest rest) = 0
rows_of (Mid mid) = mid.done

abbrev pub is_rest : Image → Bool
is_rest (Rest rest) = true
is_rest (Mid mid) = false

-- an image that shows planes o, or that is partway from them to planes p
abbrev pub IsOnTheWay : Cells → Cells → Image → Type 0
IsOnTheWay o p (Rest rest) = cells rest.planes ≡ o
IsOnTheWay o p (Mid mid) = Partway o p mid

-- an image that shows planes p, or that is partway to them from planes o
abbrev pub IsAfterBand : Cells → Cells → Image → Type 0
IsAfterBand o p (Rest rest) = cells rest.planes ≡ p
IsAfterBand o p (Mid mid) = Partway o p mid

-- sixteen rows more are done, and some are left or none. Side and limit stay
abbrev pub GoesOn : Image → Image → Type 0
GoesOn before (Rest rest) =
    AreAlike (planes_in before) rest.planes × (rows_of before + band ≡ width (planes_in before))
GoesOn before (Mid mid) =
    AreAlike (planes_in before) mid.planes × (mid.done ≡ rows_of before + band)
    × (rows_of before + band < width (planes_in before))
