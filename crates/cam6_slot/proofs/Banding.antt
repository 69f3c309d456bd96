-- A lease after a band: with the job after it, it stands for what it stood for.
use Rattle.std.proofs.Common.{◌≡◌, ◌∙◌, ◌<◌, ◌≤◌, ◌+◌, ℕ, List, length, refl, sym, ap, subst, arith}
use Rattle.cam6_planes.specs.Side.{side_number}
use Rattle.cam6_planes.specs.Stored.{Stored, width}
use Rattle.cam6_band.specs.Limits.{band}
use Rattle.cam6_cycle.specs.Along.{position_after}
use Rattle.cam6_cycle.specs.declared.entries.Entry.{Entry}
use Rattle.cam6_cycle.specs.declared.tables.Direction.{Direction}
use Rattle.cam6_cycle.specs.declared.tables.Direction.TheVariants.{Forward, Backward}
use Rattle.cam6_board.specs.declared.boards.BandEnd.{BandEnd}
use Rattle.cam6_board.specs.declared.images.Image.{Image}
use Rattle.cam6_board.specs.declared.images.Image.TheVariants.{Rest, Mid}
use Rattle.cam6_board.specs.Images.{planes_in, rows_of, GoesOn}
use Rattle.cam6_board.specs.Jobs.{StoredJob}
use Rattle.cam6_board.specs.Bands.{Counts, Moves}
use Rattle.cam6_board.specs.Standing.{GoesAlong, IsStepsOn, steps_after}
use Rattle.cam6_board.proofs.Following.{bands_follow, one_more_after}
use Rattle.cam6_commands.specs.declared.commands.Command.{Command}
use Rattle.cam6_model.specs.Machine.{Machine, IsReversibleCycle}
use Rattle.cam6_model.specs.Moves.{CanMove}
use Rattle.cam6_model.specs.Rules.{Rule}
use Rattle.cam6_rules.specs.Filled.{AreTablesOf}
use Rattle.cam6_rules.specs.Numbers.{named_entries, AreNumbered}
use Rattle.cam6_machine.specs.Stored.{machine_over}
use Rattle.cam6_slot.specs.Works.{StoredWork, IsWork, one_on}
use Rattle.cam6_slot.specs.Leases.{StoredLease, IsAtRow, ImageFits, JobFits, TablesFit}
use Rattle.cam6_slot.specs.Stands.{StandsOut}

-- where a machine can move this way, so can it with other planes
pub can_move_there : (direction : Direction) (m : Machine) (w : StoredWork) (planes : Stored) →
    record (machine_over w.home w.kept) { planes = m.planes } ≡ m →
    CanMove direction (machine_over planes w.kept) → CanMove direction m
can_move_there Forward m w planes kept can = tt
can_move_there Backward m w planes kept can = subst IsReversibleCycle kept can

-- a job that fits a lease goes along the cycle of the machine for which it stands
pub goes_along : (l : StoredLease) (job : StoredJob) (m : Machine) (c : Command)
    (tables : List (List ℕ)) → IsWork l.work → TablesFit l.work tables → StandsOut l job m c →
    GoesAlong m tables job
goes_along l job m c tables is true_tables stands =
    let w = l.work in
    let kept = stands.work.kept in
    let fits = stands.fits in
    let rules : w.kept.rules ≡ m.rules = ap (λ (x : Machine). x.rules) kept in
    let cycle : named_entries w.kept.rules w.kept.cycle ≡ m.cycle =
    ap (λ (x : Machine). x.cycle) kept in
    record {
      numbered = subst (λ (k : List Entry). AreNumbered m.rules k) (sym fits.cycle)
          (subst (λ (r : List Rule). AreNumbered r w.kept.cycle) rules is.kept.numbered);
      cycle = sym cycle ∙ ap (λ (r : List Rule). named_entries r w.kept.cycle) rules ∙
          ap (named_entries m.rules) (sym fits.cycle);
      within = subst (λ p. p < length job.cycle) (sym fits.position)
          (subst (λ (k : List Entry). w.reached.position < length k) (sym fits.cycle) is.within);
      can = subst (λ d. CanMove d m) (sym fits.direction)
          (can_move_there w.direction m w w.home kept (is.can w.home));
      true_tables = subst (λ d. AreTablesOf d m.rules job.cycle tables) (sym fits.direction)
          (subst (λ (k : List Entry). AreTablesOf w.direction m.rules k tables) (sym fits.cycle)
          (subst (λ (r : List Rule). AreTablesOf w.direction r w.kept.cycle tables) rules
          true_tables));
    }

row_at : (rows : ℕ) (image : Image) → IsAtRow rows image → rows_of image ≡ rows
row_at rows (Rest rest) at = sym at
row_at rows (Mid mid) at = at.0

module _ (l : StoredLease) (before after : StoredJob) (end : BandEnd) (tables : List (List ℕ))
    (fits : JobFits l before) (moves : Moves tables before end after) where
  width_before : width (planes_in before.image) ≡ width l.work.home
  width_before = ap side_number fits.image.alike.side

  -- the lease within a step, and after one
  abbrev pub inside : StoredLease
  inside = record l { rows = l.rows + band }

  abbrev pub later : StoredLease
  later = record l { work = one_on l.work; rows = 0 }

  still_cycle : after.cycle ≡ l.work.kept.cycle
  still_cycle = moves.cycle ∙ fits.cycle

  still_direction : after.direction ≡ l.work.direction
  still_direction = moves.direction ∙ fits.direction

  image_inside : (image : Image) → l.rows + band < width l.work.home →
      GoesOn before.image image → Counts image before end after →
      ImageFits l.work (l.rows + band) image × (after.position ≡ before.position)
      × (after.steps ≡ before.steps) × ((n : ℕ) → steps_after end n ≡ n)
  image_inside (Rest rest) room goes_on counts =
      absurd (omega (
        arith,
        room,
        goes_on.1,
        row_at l.rows before.image fits.image.row,
        width_before,
      ))
  image_inside (Mid mid) room goes_on counts = (
    record {
      alike = record {
        side = goes_on.0.side ∙ fits.image.alike.side;
        limit = goes_on.0.limit ∙ fits.image.alike.limit;
      };
      row = (
        goes_on.1 ∙ ap (λ r. r + band) (row_at l.rows before.image fits.image.row),
        omega arith,
      );
    },
    counts.1,
    counts.2,
    λ n. ap (λ e. steps_after e n) counts.0,
  )

  image_after : (image : Image) → width l.work.home ≤ l.rows + band →
      GoesOn before.image image → Counts image before end after →
      ImageFits l.work 0 image
      × (after.position
      ≡ position_after before.direction (length before.cycle) before.position)
      × (after.steps + 1 ≡ before.steps) × ((n : ℕ) → steps_after end n ≡ n + 1)
  image_after (Mid mid) room goes_on counts =
      absurd (omega (
        arith,
        room,
        goes_on.2,
        row_at l.rows before.image fits.image.row,
        width_before,
      ))
  image_after (Rest rest) room goes_on counts = (
    record {
      alike = record {
        side = goes_on.0.side ∙ fits.image.alike.side;
        limit = goes_on.0.limit ∙ fits.image.alike.limit;
      };
      row = refl;
    },
    counts.1,
    counts.2,
    λ n. ap (λ e. steps_after e n) counts.0 ∙ one_more_after after.steps n,
  )

  pub fits_inside : l.rows + band < width l.work.home → JobFits inside after
  fits_inside room =
      let on = image_inside after.image room moves.goes_on moves.counts in
      record {
        image = on.0;
        cycle = still_cycle;
        direction = still_direction;
        position = on.1 ∙ fits.position;
        steps = ap (λ k. k + l.work.reached.steps) on.2 ∙ fits.steps;
      }

  pub fits_after : width l.work.home ≤ l.rows + band → JobFits later after
  fits_after room =
      let on = image_after after.image room moves.goes_on moves.counts in
      let len = length l.work.kept.cycle in
      record {
        image = record {
          alike = on.0.alike;
          row = on.0.row;
        };
        cycle = still_cycle;
        direction = still_direction;
        position = on.1 ∙
            ap (λ d. position_after d (length before.cycle) before.position) fits.direction ∙
            ap (λ (k : List Entry). position_after l.work.direction (length k) before.position)
            fits.cycle ∙
            ap (position_after l.work.direction len) fits.position;
        steps = omega (arith, on.2, fits.steps);
      }

  module _ (m : Machine) (c : Command) (is : IsWork l.work) (true_tables : TablesFit l.work tables)
      (stands : StandsOut l before m c) where
    followed : IsStepsOn m (steps_after end l.work.reached.steps) after
    followed = (bands_follow m tables l.work.reached.steps before after end stands.work.machine
        (goes_along l before m c tables is true_tables stands) stands.on moves).1

    pub stands_inside : l.rows + band < width l.work.home → StandsOut inside after m c
    stands_inside room =
        let on = image_inside after.image room moves.goes_on moves.counts in
        record {
          work = stands.work;
          fits = fits_inside room;
          on = subst (λ k. IsStepsOn m k after) (on.3 l.work.reached.steps) followed;
        }

    pub stands_after : width l.work.home ≤ l.rows + band → StandsOut later after m c
    stands_after room =
        let on = image_after after.image room moves.goes_on moves.counts in
        record {
          work = record {
            machine = stands.work.machine;
            work = stands.work.work;
            kept = stands.work.kept;
            home = stands.work.home;
            position = stands.work.position;
          };
          fits = fits_after room;
          on = subst (λ k. IsStepsOn m k after) (on.3 l.work.reached.steps) followed;
        }
