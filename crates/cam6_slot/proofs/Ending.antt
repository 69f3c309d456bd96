-- Bands that are left, and a lease of which none are.
use Rattle.std.proofs.Common.{◌≡◌, ◌∙◌, ◌<◌, ◌≤◌, ◌-◌, ◌*◌, ◌/◌, ◌%◌, ◌==◌, ℕ, zero, suc, refl, sym, ap}
use Rattle.std.proofs.Common.{subst, arith, lit≤, false}
use Rattle.std.proofs.Math.Dec.{eqb-suc-zero}
use Rattle.std.proofs.Math.Nat.{suc-mul}
use native.Mathlib.Decide.{dec_lt}
use Rattle.cam6_planes.specs.Cells.{Cells, cells}
use Rattle.cam6_planes.specs.Side.{side_number}
use Rattle.cam6_planes.specs.declared.sides.Side.{Side}
use Rattle.cam6_planes.specs.declared.sides.Side.TheVariants.{S128, S256, S512}
use Rattle.cam6_band.specs.Limits.{band}
use Rattle.cam6_band.specs.declared.images.AtRest.{AtRest}
use Rattle.cam6_board.specs.declared.images.Image.{Image}
use Rattle.cam6_board.specs.declared.images.Image.TheVariants.{Rest}
use Rattle.cam6_board.specs.Images.{planes_in, IsOnTheWay}
use Rattle.cam6_board.specs.Jobs.{StoredJob}
use Rattle.cam6_commands.specs.declared.commands.Command.{Command}
use Rattle.cam6_model.specs.Machine.{Machine}
use Rattle.cam6_model.specs.Moves.{moved}
use Rattle.cam6_slot.specs.Works.{StoredWork}
use Rattle.cam6_slot.specs.Leases.{StoredLease, IsLease}
use Rattle.cam6_slot.specs.Stands.{StandsOut}
use Rattle.cam6_slot.specs.Finished.{finished_with, IsDone}
use Rattle.cam6_slot.specs.Lefts.{bands_of_step, left_of, lease_left}
use Rattle.cam6_slot.proofs.Done.{is_done}

some_band : 0 < band
some_band = lit≤ tt

-- the rows of a step are those of its bands
pub rows_of_bands : (side : Side) → bands_of_step side * band ≡ side_number side
rows_of_bands S128 = refl
rows_of_bands S256 = refl
rows_of_bands S512 = refl

-- fewer rows than a step has are fewer bands
pub fewer_bands : (side : Side) (rows : ℕ) → rows < side_number side →
    rows / band < bands_of_step side
fewer_bands S128 rows few = omega (arith, few)
fewer_bands S256 rows few = omega (arith, few)
fewer_bands S512 rows few = omega (arith, few)

-- a step has a band at least
pub some_bands : (side : Side) → 0 < bands_of_step side
some_bands S128 = lit≤ tt
some_bands S256 = lit≤ tt
some_bands S512 = lit≤ tt

-- some steps have the bands of one at least
pub one_at_least : (steps b : ℕ) → 0 < steps → b ≤ steps * b
one_at_least zero b some = absurd (omega (arith, some))
one_at_least (suc steps) b some = omega (arith, suc-mul steps b)

-- where a step is to be done, and fewer of its rows are done than it has, a band is left
pub some_left : (w : StoredWork) (rows : ℕ) → w.reached.steps < w.total →
    rows < side_number w.home.side → 0 < left_of w rows
some_left w rows some few =
    let steps = w.total - w.reached.steps in
    let b = bands_of_step w.home.side in
    let one : 0 < steps = omega (arith, some) in
    omega (arith, fewer_bands w.home.side rows few, one_at_least steps b one)

-- where none is left all steps are done
none_left : (w : StoredWork) (rows : ℕ) → w.reached.steps ≤ w.total →
    rows < side_number w.home.side → left_of w rows ≡ 0 → w.reached.steps ≡ w.total
none_left w rows most few none = elim (dec_lt w.reached.steps w.total) [
  | Prim.yes less ↦ absurd (omega (arith, none, some_left w rows less few))
  | Prim.no all ↦ omega (arith, most, all)
]

-- the planes that an image at rest shows
shown_at_rest : (o p : Cells) (out : Image) (rest : AtRest) → out ≡ Rest rest →
    IsOnTheWay o p out → cells rest.planes ≡ o
shown_at_rest o p out rest is on = subst (IsOnTheWay o p) is on

-- a lease of which no band is left is done with the image of its job
pub finishes : (l : StoredLease) (rest : AtRest) (m : Machine) (c : Command) (job : StoredJob) →
    IsLease l → lease_left l ≡ 0 → StandsOut l job m c → job.image ≡ Rest rest →
    IsDone (finished_with l.work rest.planes) m c
finishes l rest m c job is none stands image =
    let w = l.work in
    let n = w.reached.steps in
    let d = w.direction in
    let all : n ≡ w.total = none_left w l.rows is.work.most is.rows none in
    let there : moved job.direction n m ≡ moved d w.total m =
    ap (λ e. moved e n m) stands.fits.direction ∙ ap (λ k. moved d k m) all in
    is_done w rest.planes m c stands.work
    (sym (ap (λ i. (planes_in i).side) image) ∙ stands.on.side)
    (shown_at_rest _ _ job.image rest image stands.on.planes ∙
    ap (λ (x : Machine). x.planes) there)
    (sym stands.fits.position ∙ stands.on.position ∙ ap (λ (x : Machine). x.position) there)

not_zero : (n : ℕ) → 0 < n → (n == 0) ≡ false
not_zero zero h = absurd (omega (arith, h))
not_zero (suc n) h = eqb-suc-zero n

-- in the middle of a step the bands left are no whole steps
pub part_left : (side : Side) (steps rows : ℕ) → 0 < steps → 0 < rows → rows < side_number side →
    rows % band ≡ 0 →
    ((steps * bands_of_step side - rows / band) % bands_of_step side == 0) ≡ false
part_left S128 steps rows some begun within whole =
    not_zero ((steps * 8 - rows / 16) % 8) (omega (arith, some, begun, within, whole))
part_left S256 steps rows some begun within whole =
    not_zero ((steps * 16 - rows / 16) % 16) (omega (arith, some, begun, within, whole))
part_left S512 steps rows some begun within whole =
    not_zero ((steps * 32 - rows / 16) % 32) (omega (arith, some, begun, within, whole))
