-- A worker's seat and its station, from call to call.
use Rattle.std.proofs.Common.{◌≡◌, ◌∙◌, ◌<◌, ◌≤◌, ℕ, Bool, true, false, refl, sym, ap, subst, arith}
use Rattle.cam6_handoff.specs.Holding.{BoardStance, Holding, nothing, holding, emptied}
use Rattle.cam6_handoff.specs.Seats.{Accepts}
use Rattle.cam6_board.specs.Jobs.{StoredJob}
use Rattle.cam6_board.specs.declared.images.Image.{Image}
use Rattle.cam6_commands.specs.declared.commands.Command.{Command}
use Rattle.cam6_model.specs.Machine.{Machine}
use Rattle.cam6_slot.specs.Leases.{StoredLease}
use Rattle.cam6_slot.specs.Parking.{StoredQueued}
use Rattle.cam6_slot.specs.Stands.{Stands, StandsOut}
use Rattle.cam6_station.specs.declared.stations.Banded.TheVariants.{More}
use Rattle.cam6_station.specs.Calls.{BandGives, GoesHome, Rises}
use Rattle.cam6_station.specs.Held.{Manned, Stationed, Held, idle, loaded, dead, is_loaded, is_dead}
use Rattle.cam6_station.specs.Held.{IsLoaded}
use Rattle.cam6_pool.specs.Serving.{Serves}
use Rattle.cam6_pool.specs.Internal.Served.{Carries, ServesOn, measure_of}
use Rattle.cam6_pool.proofs.Serving.{holds_nothing, serves_as}

-- a station that is loaded with a lease serves its place, and what is lost of it goes back there
serves_loaded : (p : Holding) (w : ℕ) (h : Held) → Carries p h.lease h.job →
    Serves p (loaded w h)
serves_loaded nothing w h has = absurd has
serves_loaded (holding u v) w h has = has.2

pub accepts_home : (p : Holding) (h : Held) (q : StoredQueued) → Carries p h.lease h.job →
    GoesHome h q → Accepts p q
accepts_home nothing h q has home = absurd has
accepts_home (holding u v) h q has home = λ m c st. home.stands m c (has.2 m c st)

-- a command that is given back before a board has begun with it
pub accepts_unbegun : (p : Holding) (l : StoredLease) (job : StoredJob) (image : Image)
    (q : StoredQueued) → Carries p l job → image ≡ job.image →
    ((m : Machine) (c : Command) (begun : StoredJob) → StandsOut l begun m c →
    begun.image ≡ image → Stands q m c) → Accepts p q
accepts_unbegun nothing l job image q has same stands = absurd has
accepts_unbegun (holding u v) l job image q has same stands =
    λ m c st. stands m c job (has.2 m c st) (sym same)

module _ (b later : BoardStance) (s after : Stationed) where
  -- the seat is as it was
  pub goes_on : later ≡ b → Serves b.holds after.at → Rises (is_dead after.at) s.faults after.faults →
      ServesOn b s later after
  goes_on same serves rises = record {
    serves = subst (λ (x : BoardStance). Serves x.holds after.at) (sym same) serves;
    alike = ap emptied same;
    faults = rises;
  }

  -- the seat is empty, and so is the board
  pub free : later ≡ emptied b → after.at ≡ idle → Rises false s.faults after.faults →
      ServesOn b s later after
  free out is rises = record {
    serves = serves_as later.holds nothing after.at idle
        (ap (λ (x : BoardStance). x.holds) out) is tt;
    alike = ap emptied out;
    faults = subst (λ (y : Manned). Rises (is_dead y) s.faults after.faults) (sym is) rises;
  }

  pub failed : later ≡ emptied b → after.at ≡ dead → Rises true s.faults after.faults →
      ServesOn b s later after
  failed out is rises = record {
    serves = serves_as later.holds nothing after.at dead
        (ap (λ (x : BoardStance). x.holds) out) is tt;
    alike = ap emptied out;
    faults = subst (λ (y : Manned). Rises (is_dead y) s.faults after.faults) (sym is) rises;
  }

-- the board was loaded with a lease of the seat's place
pub loads : (b : BoardStance) (s after : Stationed) (w : ℕ) (h : Held) → after.at ≡ loaded w h →
    Carries b.holds h.lease h.job → Rises false s.faults after.faults → ServesOn b s b after
loads b s after w h is has rises =
    goes_on b b s after refl (serves_as b.holds b.holds after.at (loaded w h) refl is
    (serves_loaded b.holds w h has))
    (subst (λ (y : Manned). Rises (is_dead y) s.faults after.faults) (sym is) rises)

-- with the board free the seat is empty
pub emptied_then : (b later : BoardStance) (s after : Stationed) → ServesOn b s later after →
    is_loaded after.at ≡ false → later ≡ emptied b
emptied_then b later s after on is =
    sym (same later.holds (holds_nothing later.holds after.at on.serves is)) ∙ on.alike where
      same : (h : Holding) → h ≡ nothing → record later { holds = nothing } ≡ record later { holds = h }
      same h none = ap (λ (x : Holding). record later { holds = x }) (sym none)

-- the board is alive where it is loaded
alive : (y : Manned) → is_loaded y ≡ true → is_dead y ≡ false
alive idle is = refl
alive (loaded u h) is = refl
alive dead is = cc is

rises : (failed : Bool) (before mid after : ℕ) → before ≤ mid → Rises failed mid after →
    Rises failed before after
rises true before mid after first then = omega (arith, first, then)
rises false before mid after first then = omega (arith, first, then)

pub on_and_on : (b c d : BoardStance) (s t u : Stationed) → ServesOn b s c t →
    is_loaded t.at ≡ true → ServesOn c t d u → ServesOn b s d u
on_and_on b c d s t u first is next = record {
  serves = next.serves;
  alike = next.alike ∙ first.alike;
  faults = rises (is_dead u.at) s.faults t.faults u.faults
      (subst (λ (x : Bool). Rises x s.faults t.faults) (alive t.at is) first.faults) next.faults;
}

pub is_loaded_then : (y : Manned) → is_loaded y ≡ true → IsLoaded y
is_loaded_then idle is = cc is
is_loaded_then (loaded u h) is = tt
is_loaded_then dead is = cc is

-- a board that isn't loaded any more has a smaller measure
pub none_left : (y after : Manned) → IsLoaded y → is_loaded after ≡ false →
    measure_of after < measure_of y
none_left idle after is free = absurd is
none_left dead after is free = absurd is
none_left (loaded u h) idle is free = omega arith
none_left (loaded u h) dead is free = omega arith
none_left (loaded u h) (loaded v k) is free = cc free

pub fewer_left : (y after : Manned) (left : ℕ) → BandGives y (More left) after →
    measure_of after < measure_of y
fewer_left idle after left gives = absurd gives
fewer_left dead after left gives = absurd gives
fewer_left (loaded u h) idle left gives = absurd gives
fewer_left (loaded u h) dead left gives = absurd gives
fewer_left (loaded u h) (loaded v k) left gives = omega (arith, gives.2.left)

-- a band that goes on leaves the board alive
pub more_rises : (y after : Manned) (left before beyond : ℕ) → BandGives y (More left) after →
    Rises false before beyond → Rises (is_dead after) before beyond
more_rises y (loaded v k) left before beyond gives rises = rises
more_rises y idle left before beyond gives rises = rises
more_rises (loaded u h) dead left before beyond gives rises = absurd gives
more_rises idle dead left before beyond gives rises = absurd gives
more_rises dead dead left before beyond gives rises = absurd gives
