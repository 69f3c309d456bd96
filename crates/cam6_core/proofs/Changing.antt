-- One board of a core, changed in its place.
use Rattle.std.proofs.Common.{◌≡◌, ◌∙◌, ℕ, zero, suc, ◌<◌, List, [], ◌∷◌, length, set, Option, Some}
use Rattle.std.proofs.Common.{None, sym, refl, ap, subst, slice_index_or}
use Rattle.std.specs.List.{slice_get}
use mathlib.Core.Logic.{dite}
use native.Mathlib.Decide.{ℕ_discrete}
use Rattle.cam6_slot.specs.Parking.{StoredQueued}
use Rattle.cam6_station.specs.Calls.{BandGives, PreemptGives, FailGives}
use Rattle.cam6_station.specs.Held.{Manned, idle, loaded, dead, IsLoaded, IsAlive}
use Rattle.cam6_station.specs.declared.stations.Banded.{Banded}
use Rattle.cam6_station.specs.declared.stations.Banded.TheVariants.{More, Last, Lost}
use Rattle.cam6_station.specs.declared.stations.Preempted.TheVariants as off
use Rattle.cam6_core.specs.State.{IsNumber, IsHeldWithin, AreHeldWithin, or_dead}
use Rattle.cam6_core.specs.Internal.Returning.{IsOfUser, IsOfUserIf}
use Rattle.cam6_core.proofs.Numbers.{one_of, within, set_here, set_else}

-- a board that is loaded is there, and so is one that isn't dead
loaded_is : (o : Option Manned) → IsLoaded (or_dead o) → o ≡ Some (or_dead o)
loaded_is None is = absurd is
loaded_is (Some y) is = refl

alive_is : (o : Option Manned) → IsAlive (or_dead o) → o ≡ Some (or_dead o)
alive_is None is = absurd is
alive_is (Some y) is = refl

pub loaded_there : (bs : List Manned) (b : ℕ) → IsLoaded (or_dead (slice_get bs b)) →
    slice_get bs b ≡ Some (or_dead (slice_get bs b))
loaded_there bs b is = loaded_is (slice_get bs b) is

pub alive_there : (bs : List Manned) (b : ℕ) → IsAlive (or_dead (slice_get bs b)) →
    slice_get bs b ≡ Some (or_dead (slice_get bs b))
alive_there bs b is = alive_is (slice_get bs b) is

index_is : (bs : List Manned) (b : ℕ) (x d : Manned) → slice_get bs b ≡ Some x →
    slice_index_or bs b d ≡ x
index_is [] b x d at = cc at
index_is (y ∷ bs) zero x d at = cc at
index_is (y ∷ bs) (suc b) x d at = index_is bs b x d at

-- the board that is looked at
pub seen : (bs : List Manned) (b : ℕ) (x y : Manned) → slice_get bs b ≡ Some x →
    y ≡ slice_index_or bs b y → y ≡ x
seen bs b x y at is = is ∙ index_is bs b x y at

-- the board that stands there then
pub stands_there : (bs : List Manned) (b : ℕ) (x y : Manned) → slice_get bs b ≡ Some x →
    or_dead (slice_get (set bs b y) b) ≡ y
stands_there bs b x y at = ap or_dead (set_here bs b y (within bs b x at))

-- boards are loaded for users, of whom one changes
pub held_with : (n : ℕ) (bs : List Manned) (b : ℕ) (y : Manned) → AreHeldWithin n bs →
    IsHeldWithin n y → b < length bs → AreHeldWithin n (set bs b y)
held_with n bs b y are is there d z at = dite (ℕ_discrete d b)
    (λ same. subst (IsHeldWithin n)
    (one_of (slice_get (set bs b y) b) y z (set_here bs b y there)
    (ap (slice_get (set bs b y)) (sym same) ∙ at)) is)
    (λ apart. are d z (sym (set_else bs b d y apart) ∙ at))

-- a band leaves a board for its user, and so do a preempt and a fail
pub band_held : (n : ℕ) (y : Manned) (r : Banded) (new : Manned) → IsHeldWithin n y →
    BandGives y r new → IsHeldWithin n new × IsOfUser n r
band_held n (loaded u h) (More left) (loaded v k) is gives =
    (subst (IsNumber n) (sym gives.0) is, tt)
band_held n (loaded u h) (Last v f) idle is gives =
    (tt, subst (IsNumber n) (sym gives.0) is)
band_held n (loaded u h) (Lost v q) dead is gives =
    (tt, subst (IsNumber n) (sym gives.0) is)
band_held n y r new is gives = absurd gives

pub preempt_held : (n : ℕ) (y : Manned) (v : ℕ) (q : StoredQueued) → IsHeldWithin n y →
    PreemptGives y (off.Back v q) idle → IsNumber n v
preempt_held n (loaded u h) v q is gives = subst (IsNumber n) (sym gives.0) is
preempt_held n y v q is gives = absurd gives

pub fail_held : (n : ℕ) (y : Manned) (back : Option (ℕ × StoredQueued)) → IsHeldWithin n y →
    FailGives y back → IsOfUserIf n back
fail_held n (loaded u h) (Some back) is gives = subst (IsNumber n) (sym gives.0) is
fail_held n idle None is gives = tt
fail_held n y back is gives = absurd gives
