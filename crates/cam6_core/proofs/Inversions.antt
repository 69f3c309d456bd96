-- What the model has of a user or a board that is known.
use Rattle.std.proofs.Common.{◌≡◌, ◌∙◌, ℕ, List, refl, ap}
use Rattle.cam6_commands.specs.declared.commands.Command.{Command}
use Rattle.cam6_machine.specs.Stored.{StoredMachine, machine_of as machine_stored}
use Rattle.cam6_model.specs.Machine.{Machine}
use Rattle.cam6_slot.specs.Finished.{StoredFinished, IsDone}
use Rattle.cam6_slot.specs.Lefts.{queued_left, queued_home}
use Rattle.cam6_slot.specs.Parking.{StoredQueued}
use Rattle.cam6_slot.specs.Stands.{Stands}
use Rattle.cam6_station.specs.Held.{Held, StandsHeld, held_left, held_home}
use Rattle.cam6_station.specs.Held as board
use Rattle.cam6_core.specs.Model.{dead, Stage, resting, queued, out, finished, Seat, idle, loaded}
use Rattle.cam6_core.specs.Model.{User, user, machine_of}
use Rattle.cam6_core.specs.Good.{UserFits, IsOutWith, BoardFits}
use Rattle.cam6_core.specs.declared.parts.Whereabouts.TheVariants as whereabouts

pub at_rest : (m : Machine) (r : StoredMachine) (stage : Stage) →
    UserFits m (whereabouts.Resting r) stage → (stage ≡ resting) × (machine_stored r ≡ m)
at_rest m r resting fits = (refl, fits)
at_rest m r stage fits = absurd fits

pub in_queue : (m : Machine) (q : StoredQueued) (stage : Stage) →
    UserFits m (whereabouts.Queued q) stage →
    (c : Command) × (stage ≡ queued c (queued_left q) (queued_home q)) × Stands q m c
in_queue m q (queued c left home) fits =
    (c, ap (λ n. queued c n home) fits.1 ∙ ap (queued c (queued_left q)) fits.2, fits.0)
in_queue m q stage fits = absurd fits

pub at_end : (m : Machine) (f : StoredFinished) (stage : Stage) →
    UserFits m (whereabouts.Finished f) stage →
    (c : Command) × (stage ≡ finished c) × IsDone f m c
at_end m f (finished c) fits = (c, refl, fits)
at_end m f stage fits = absurd fits

is_out : (m : Machine) (b : ℕ) (h : Held) (stage : Stage) → IsOutWith m b h stage →
    (c : Command) × (stage ≡ out b c) × StandsHeld h m c × (h.lease.board ≡ b)
is_out m b h (out d c) held = (c, ap (λ (k : ℕ). out k c) held.0, held.1, held.3)
is_out m b h stage held = absurd held

pub at_work : (us : List User) (b u : ℕ) (h : Held) (t : Seat) →
    BoardFits us b (board.loaded u h) t →
    (t ≡ loaded u (held_left h) (held_home h)) ×
    ((c : Command) × ((user us u).stage ≡ out b c) × StandsHeld h (machine_of (user us u)) c
    × (h.lease.board ≡ b))
at_work us b u h (loaded v left home) fits = (
  ap (λ k. loaded k left home) fits.0 ∙ ap (λ n. loaded u n home) fits.1 ∙
      ap (loaded u (held_left h)) fits.2,
  is_out (machine_of (user us u)) b h (user us u).stage fits.3,
)
at_work us b u h t fits = absurd fits

pub at_idle : (us : List User) (b : ℕ) (t : Seat) → BoardFits us b board.idle t → t ≡ idle
at_idle us b idle fits = refl
at_idle us b t fits = absurd fits

pub at_death : (us : List User) (b : ℕ) (t : Seat) → BoardFits us b board.dead t → t ≡ dead
at_death us b dead fits = refl
at_death us b t fits = absurd fits
