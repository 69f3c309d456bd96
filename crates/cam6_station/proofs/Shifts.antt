-- What the calls of a station make of a lease and of what its board holds.
use Rattle.std.proofs.Common.{◌≡◌, ◌∙◌, ◌<◌, ◌+◌, ℕ, List, Some, refl, sym, ap, subst, arith}
use Rattle.cam6_band.specs.declared.images.AtRest.{AtRest}
use Rattle.cam6_board.specs.Bands.{Moves}
use Rattle.cam6_board.specs.Held.{Load, empty, loaded as holds, MovesHeld, GivesBack}
use Rattle.cam6_board.specs.Held.{IsOfLimit}
use Rattle.cam6_board.specs.Images.{planes_in}
use Rattle.cam6_board.specs.Jobs.{StoredJob}
use Rattle.cam6_board.specs.declared.boards.BandEnd.{BandEnd}
use Rattle.cam6_board.specs.declared.images.Image.{Image}
use Rattle.cam6_board.specs.declared.images.Image.TheVariants as image
use Rattle.cam6_commands.specs.declared.commands.Command.{Command}
use Rattle.cam6_model.specs.Machine.{Machine}
use Rattle.cam6_planes.specs.declared.sides.Side.{Side}
use Rattle.cam6_slot.specs.Finished.{StoredFinished, IsDone}
use Rattle.cam6_slot.specs.Leases.{StoredLease, IsLease, JobFits, TablesFit}
use Rattle.cam6_slot.specs.Lefts.{lease_left, lease_home, queued_left, queued_home, bands_of_lease}
use Rattle.cam6_slot.specs.Lefts.{home_after}
use Rattle.cam6_slot.specs.Parking.{StoredQueued}
use Rattle.cam6_slot.specs.Stands.{Stands, StandsOut}
use Rattle.cam6_station.specs.declared.stations.Post.{Post}
use Rattle.cam6_station.specs.declared.stations.Post.TheVariants.{Loaded}
use Rattle.cam6_station.specs.declared.stations.Banded.TheVariants.{More, Last, Lost}
use Rattle.cam6_station.specs.declared.stations.Preempted.TheVariants as off
use Rattle.cam6_station.specs.Held.{Manned, idle, dead}
use Rattle.cam6_station.specs.Calls.{BandGives, PreemptGives, FailGives, GoesHome}
use Rattle.cam6_station.specs.Internal.Posts.{manned, IsManned}

-- a board holds a job that fits a lease
abbrev HoldsJobOf : StoredLease → Load → Type 0
HoldsJobOf l empty = ⊥
HoldsJobOf l (holds job tables) = JobFits l job

module _ (u : ℕ) (l : StoredLease) where
  -- a lease after a band
  module _ (k : StoredLease)
      (stands : (m : Machine) (c : Command) (before after : StoredJob) (end : BandEnd)
      (tables : List (List ℕ)) → TablesFit l.work tables → StandsOut l before m c →
      Moves tables before end after → StandsOut k after m c)
      (fits : (before after : StoredJob) (end : BandEnd) (tables : List (List ℕ)) →
      JobFits l before → Moves tables before end after → JobFits k after)
      (still : (tables : List (List ℕ)) → TablesFit l.work tables → TablesFit k.work tables)
      (left : lease_left k + 1 ≡ lease_left l) (home : lease_home k ≡ lease_home l)
      (end : BandEnd) where
    -- with bands left it is held with its job
    pub keeps : (load after : Load) → IsManned (Loaded u l) load → MovesHeld load end after →
        0 < lease_left k → IsLease k → IsManned (Loaded u k) after
    keeps empty after is moves some lease = absurd is
    keeps (holds job tables) empty is moves some lease = absurd moves
    keeps (holds job tables) (holds later kept) is moves some lease = record {
      lease = lease;
      job = fits job later end tables is.job moves.0;
      left = some;
      tables = subst (TablesFit k.work) (sym moves.1) (still tables is.tables);
    }

    pub goes_on : (load after : Load) (n : ℕ) → IsManned (Loaded u l) load →
        MovesHeld load end after → n ≡ lease_left k → 0 < lease_left k → IsLease k →
        k.board ≡ l.board →
        BandGives (manned (Loaded u l) load) (More n) (manned (Loaded u k) after)
    goes_on empty after n is moves told some lease board = absurd is
    goes_on (holds job tables) empty n is moves told some lease board = absurd moves
    goes_on (holds job tables) (holds later kept) n is moves told some lease board = (
      refl,
      told,
      record {
        left = left;
        some = some;
        home = home;
        fits = keeps (holds job tables) (holds later kept) is moves some lease;
        board = board;
        stands = λ m c st. stands m c job later end tables is.tables st moves.0;
      },
    )

    -- the job that is held then fits it
    pub fits_on : (load after : Load) → IsManned (Loaded u l) load → MovesHeld load end after →
        HoldsJobOf k after
    fits_on empty after is moves = absurd is
    fits_on (holds job tables) empty is moves = absurd moves
    fits_on (holds job tables) (holds later kept) is moves = fits job later end tables is.job moves.0

    pub ends : (load after : Load) (out : Image) (rest : AtRest) (f : StoredFinished) →
        ((m : Machine) (c : Command) (job : StoredJob) → StandsOut k job m c →
        job.image ≡ image.Rest rest → IsDone f m c) →
        IsManned (Loaded u l) load → MovesHeld load end after → GivesBack after out →
        out ≡ image.Rest rest → lease_left k ≡ 0 →
        BandGives (manned (Loaded u l) load) (Last u f) idle
    ends empty after out rest f done is moves back at none = absurd is
    ends (holds job tables) empty out rest f done is moves back at none = absurd moves
    ends (holds job tables) (holds later kept) out rest f done is moves back at none = (
      refl,
      omega (arith, left, none),
      λ m c st. done m c later (stands m c job later end tables is.tables st moves.0)
          (sym back ∙ at),
    )

    -- the image is lost as it comes off the board
    pub ends_lost : (load after : Load) (q : StoredQueued) →
        ((m : Machine) (c : Command) (job : StoredJob) → StandsOut k job m c → Stands q m c) →
        queued_left q ≡ lease_home k → queued_home q ≡ lease_home k →
        IsManned (Loaded u l) load → MovesHeld load end after →
        BandGives (manned (Loaded u l) load) (Lost u q) dead
    ends_lost empty after q back at_left at_home is moves = absurd is
    ends_lost (holds job tables) empty q back at_left at_home is moves = absurd moves
    ends_lost (holds job tables) (holds later kept) q back at_left at_home is moves = (
      refl,
      record {
        left = at_left ∙ home;
        home = at_home ∙ home;
        stands = λ m c st. back m c later (stands m c job later end tables is.tables st moves.0);
      },
    )

  -- a command that is taken off its board, and one that is lost
  pub comes_off : (load : Load) (out : Image) (q : StoredQueued) → IsManned (Loaded u l) load →
      GivesBack load out →
      ((m : Machine) (c : Command) (job : StoredJob) → StandsOut l job m c →
      job.image ≡ out → Stands q m c) →
      queued_left q ≡ lease_left l →
      queued_home q ≡ home_after (bands_of_lease l) (lease_left l) (lease_home l) →
      PreemptGives (manned (Loaded u l) load) (off.Back u q) idle
  comes_off empty out q is back stands left home = absurd is
  comes_off (holds job tables) out q is back stands left home = (
    refl,
    record {
      left = left;
      home = home;
      stands = λ m c st. stands m c job st (sym back);
    },
  )

  pub goes_home : (load : Load) (q : StoredQueued) → IsManned (Loaded u l) load →
      ((m : Machine) (c : Command) (job : StoredJob) → StandsOut l job m c → Stands q m c) →
      queued_left q ≡ lease_home l → queued_home q ≡ lease_home l →
      BandGives (manned (Loaded u l) load) (Lost u q) dead
      × PreemptGives (manned (Loaded u l) load) (off.Lost u q) dead
      × FailGives (manned (Loaded u l) load) (Some (u, q))
  goes_home empty q is stands left home = absurd is
  goes_home (holds job tables) q is stands left home =
      let comes : GoesHome (record { lease = l; job = job; tables = tables }) q = record {
        left = left;
        home = home;
        stands = λ m c st. stands m c job st;
      } in
      ((refl, comes), (refl, comes), (refl, comes))

-- planes of the limit of what is held have that of the planes at home
pub limit_lost : (l : StoredLease) (load : Load) (limit : Side) → HoldsJobOf l load →
    IsOfLimit load limit → limit ≡ l.work.home.limit
limit_lost l empty limit fits of = absurd of
limit_lost l (holds job tables) limit fits of = of ∙ fits.image.alike.limit

-- and so does the image that is given back
pub limit_back : (l : StoredLease) (load : Load) (out : Image) → HoldsJobOf l load →
    GivesBack load out → (planes_in out).limit ≡ l.work.home.limit
limit_back l empty out fits back = absurd back
limit_back l (holds job tables) out fits back =
    ap (λ i. (planes_in i).limit) back ∙ fits.image.alike.limit

-- with the post known, before a call and after it
pub as_known : (Gives : Manned → Manned → Type 0) (p q : Post) (load : Load) (s now : Manned)
    (after : Manned) → p ≡ q → manned p load ≡ s → now ≡ after → Gives (manned q load) after →
    Gives s now
as_known Gives p q load s now after same seen ends gives =
    subst (Gives s) (sym ends)
    (subst (λ (y : Manned). Gives y after) (ap (λ (x : Post). manned x load) (sym same) ∙ seen) gives)
