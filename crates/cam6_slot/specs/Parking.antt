-- What is parked beside a command that waits for a board.
use Rattle.std.specs.Prelude.{ℕ, ◌≡◌, ◌<◌, ◌≤◌, ◌%◌, ⊤}
use Rattle.cam6_planes.specs.Cells.{Cells, cells}
use Rattle.cam6_planes.specs.Side.{side_number}
use Rattle.cam6_planes.specs.Stored.{Stored, width, AreAlike}
use Rattle.cam6_band.specs.Limits.{band}
use Rattle.cam6_band.specs.Partway.{Partway}
use Rattle.cam6_board.specs.declared.images.Image.{Image}
use Rattle.cam6_board.specs.declared.images.Image.TheVariants as image
use Rattle.cam6_slot.specs.declared.parked.Parked.{Parked}
use Rattle.cam6_slot.specs.declared.parked.Parked.TheVariants.{Spare, Step}
use Rattle.cam6_slot.specs.Works.{StoredWork, IsWork}

-- steps under way, and what is parked
pub record StoredQueued : Type 0 where
  pub work : StoredWork
  pub parked : Parked

-- the rows of the parked step that are done
abbrev pub rows_parked : Parked → ℕ
rows_parked (Spare spare) = 0
rows_parked (Step mid) = mid.done

-- those are whole bands, fewer than the step has
abbrev pub IsWithinStep : Parked → Type 0
IsWithinStep (Spare spare) = ⊤
IsWithinStep (Step mid) = (mid.done < width mid.planes) × (mid.done % band ≡ 0)

-- without a parked step all that is done is at home, and spare planes lie beside it; a parked step
-- has the side and the limit of the image at home, and rows that are done
abbrev pub IsBeside : StoredWork → Parked → Type 0
IsBeside w (Spare spare) = (w.reached ≡ w.base) × (spare.planes.limit ≡ w.kept.limit)
IsBeside w (Step mid) = AreAlike w.home mid.planes × (0 < mid.done)

-- a parked step is partway from planes o to planes p
abbrev pub IsParkedBetween : Cells → Cells → Parked → Type 0
IsParkedBetween o p (Spare spare) = ⊤
IsParkedBetween o p (Step mid) = Partway o p mid

-- a step at least is to be done, and what is parked belongs beside the image at home; the rows of a
-- parked step that are done are whole bands, fewer than the step has
pub record IsQueued (q : StoredQueued) : Type 0 where
  pub work : IsWork q.work
  pub some : q.work.reached.steps < q.work.total
  pub parked : IsBeside q.work q.parked
  pub within : IsWithinStep q.parked

-- spare planes have room for what the image at home shows
abbrev pub HasRoomFor : Stored → Parked → Type 0
HasRoomFor home (Spare spare) = width home ≤ side_number spare.planes.limit
HasRoomFor home (Step mid) = ⊤

-- what leaves is the parked step, or else the spare planes, which show what the image at home shows
abbrev pub LeavesAs : Stored → Parked → Image → Type 0
LeavesAs home (Spare spare) (image.Rest rest) =
    (cells rest.planes ≡ cells home) × (rest.planes.side ≡ home.side)
    × (rest.planes.limit ≡ spare.planes.limit)
LeavesAs home (Spare spare) (image.Mid mid) = ⊥
LeavesAs home (Step mid) (image.Rest rest) = ⊥
LeavesAs home (Step mid) (image.Mid out) = out ≡ mid
