-- A command that a board takes: its job fits the lease, and both stand for what the command stood for.
use Rattle.std.proofs.Common.{◌≡◌, ◌∙◌, ◌≤◌, ◌+◌, ℕ, refl, sym, ap, subst}
use Rattle.cam6_planes.specs.Cells.{Cells}
use Rattle.cam6_planes.specs.Side.{side_number}
use Rattle.cam6_planes.specs.Stored.{width, AreAlike}
use Rattle.cam6_planes.specs.declared.sides.Side.{Side}
use Rattle.cam6_band.specs.Partway.{Partway}
use Rattle.cam6_board.specs.declared.images.Image.{Image}
use Rattle.cam6_board.specs.declared.images.Image.TheVariants as image
use Rattle.cam6_board.specs.Images.{planes_in, IsOnTheWay}
use Rattle.cam6_board.specs.Jobs.{StoredJob}
use Rattle.cam6_commands.specs.declared.commands.Command.{Command}
use Rattle.cam6_model.specs.Machine.{Machine}
use Rattle.cam6_model.specs.Moves.{moved}
use Rattle.cam6_slot.specs.declared.parked.Parked.{Parked}
use Rattle.cam6_slot.specs.declared.parked.Parked.TheVariants.{Spare, Step}
use Rattle.cam6_slot.specs.Works.{StoredWork, IsWork}
use Rattle.cam6_slot.specs.Parking.{rows_parked, IsBeside, LeavesAs}
use Rattle.cam6_slot.specs.Parking.{HasRoomFor, IsParkedBetween}
use Rattle.cam6_slot.specs.Leases.{StoredLease, ImageFits, JobFits}
use Rattle.cam6_slot.specs.Stands.{IsUnderWay, Stands, StandsOut}

-- what belongs beside the image at home has room for what it shows
pub has_room : (w : StoredWork) (parked : Parked) → IsWork w → IsBeside w parked →
    width w.home ≤ side_number w.home.limit → HasRoomFor w.home parked
has_room w (Spare spare) is beside room =
    subst (λ (l : Side). width w.home ≤ side_number l) (is.limit ∙ sym beside.1) room
has_room w (Step mid) is beside room = tt

module _ (w : StoredWork) (is : IsWork w) where
  -- what leaves is like the image at home, at the row of what was parked
  pub leaves_fitting : (parked : Parked) (out : Image) → IsBeside w parked →
      LeavesAs w.home parked out → ImageFits w (rows_parked parked) out
  leaves_fitting (Spare spare) (image.Rest rest) beside leaves = record {
    alike = record { side = leaves.1; limit = leaves.2 ∙ beside.1 ∙ sym is.limit };
    row = refl;
  }
  leaves_fitting (Spare spare) (image.Mid mid) beside leaves = absurd leaves
  leaves_fitting (Step mid) (image.Rest rest) beside leaves = absurd leaves
  leaves_fitting (Step mid) (image.Mid out) beside leaves = record {
    alike = subst (λ o. AreAlike w.home (planes_in (image.Mid o))) (sym leaves) beside.0;
    row = (ap (λ o. rows_parked (Step o)) leaves, beside.1);
  }

  -- what leaves is on the way from the planes that are reached
  leaves_on_the_way : (parked : Parked) (out : Image) (m : Machine) (c : Command) →
      IsBeside w parked → LeavesAs w.home parked out → IsUnderWay w m c → (p : Cells) →
      IsParkedBetween (moved w.direction w.reached.steps m).planes p parked →
      IsOnTheWay (moved w.direction w.reached.steps m).planes p out
  leaves_on_the_way (Spare spare) (image.Rest rest) m c beside leaves under p between =
      leaves.0 ∙ under.home ∙
      ap (λ a. (moved w.direction a.steps m).planes) (sym beside.0)
  leaves_on_the_way (Spare spare) (image.Mid mid) m c beside leaves under p between =
      absurd leaves
  leaves_on_the_way (Step mid) (image.Rest rest) m c beside leaves under p between =
      absurd leaves
  leaves_on_the_way (Step mid) (image.Mid out) m c beside leaves under p between =
      subst (Partway (moved w.direction w.reached.steps m).planes p) (sym leaves) between

  module _ (parked : Parked) (out : Image) (beside : IsBeside w parked)
      (leaves : LeavesAs w.home parked out) (board : ℕ) (job : StoredJob) (image : job.image ≡ out)
      (cycle : job.cycle ≡ w.kept.cycle) (direction : job.direction ≡ w.direction)
      (position : job.position ≡ w.reached.position)
      (steps : job.steps + w.reached.steps ≡ w.total) where
    abbrev lease : StoredLease
    lease = record { work = w; rows = rows_parked parked; board = board }

    pub job_fits : JobFits lease job
    job_fits = record {
      image = subst (ImageFits w (rows_parked parked)) (sym image)
          (leaves_fitting parked out beside leaves);
      cycle = cycle;
      direction = direction;
      position = position;
      steps = steps;
    }

    pub goes_out : (m : Machine) (c : Command) →
        Stands (record { work = w; parked = parked }) m c → StandsOut lease job m c
    goes_out m c stands =
        let fits = job_fits in
        let side : (planes_in out).side ≡ m.side =
        ap (λ i. (planes_in i).side) (sym image) ∙ fits.image.alike.side ∙
        ap (λ (x : Machine). x.side) stands.work.kept in
        let way = leaves_on_the_way parked out m c beside leaves stands.work _ stands.parked in
        record {
          work = stands.work;
          fits = fits;
          on = record {
            side = ap (λ i. (planes_in i).side) image ∙ side;
            position = position ∙ stands.position ∙
                ap (λ d. (moved d w.reached.steps m).position) (sym direction);
            planes = subst (λ d. IsOnTheWay (moved d w.reached.steps m).planes
                (moved d (w.reached.steps + 1) m).planes job.image) (sym direction)
                (subst (IsOnTheWay (moved w.direction w.reached.steps m).planes
                (moved w.direction (w.reached.steps + 1) m).planes) (sym image) way);
          };
        }
