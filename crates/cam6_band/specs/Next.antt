-- What a band leaves.
use Rattle.std.specs.Prelude.{ℕ, ◌≡◌, ◌<◌, ◌+◌}
use Rattle.cam6_planes.specs.Cells.{Cells, cells}
use Rattle.cam6_planes.specs.Stored.{Stored, width}
use Rattle.cam6_band.specs.Limits.{band}
use Rattle.cam6_band.specs.Partway.{Partway}
use Rattle.cam6_band.specs.declared.bands.Next.{Next}
use Rattle.cam6_band.specs.declared.bands.Next.TheVariants.{More, Whole}

-- the step from planes o to planes p is still partly done, or is done
abbrev pub IsNext : Cells → Cells → Next → Type 0
IsNext o p (More mid) = Partway o p mid
IsNext o p (Whole rest) = cells rest.planes ≡ p

-- sixteen more rows are done, of whatever step, and some are left or none. Side and limit stay
abbrev pub GoesOn : Stored → ℕ → Next → Type 0
GoesOn planes done (More mid) =
    (mid.planes.side ≡ planes.side) × (mid.planes.limit ≡ planes.limit)
    × (mid.done ≡ done + band) × (done + band < width planes)
GoesOn planes done (Whole rest) =
    (rest.planes.side ≡ planes.side) × (rest.planes.limit ≡ planes.limit)
    × (done + band ≡ width planes)
