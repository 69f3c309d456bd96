-- A collect.
use Rattle.std.proofs.Common.{◌≡◌, ◌∙◌, ℕ, ◌∷◌, Some, sym, refl, ap, subst}
use Rattle.cam6_commands.specs.declared.commands.Command.{Command}
use Rattle.cam6_machine.specs.Stored.{StoredMachine, machine_of as machine_stored}
use Rattle.cam6_slot.specs.Finished.{StoredFinished}
use Rattle.cam6_core.specs.State.{State, at_number, with_user}
use Rattle.cam6_core.specs.Model.{Stage, resting, User, user, machine_of, collect}
use Rattle.cam6_core.specs.Good.{Good}
use Rattle.cam6_core.specs.Goes.{Moves, Spares}
use Rattle.cam6_core.specs.declared.parts.Whereabouts.{Whereabouts}
use Rattle.cam6_core.specs.declared.parts.Whereabouts.TheVariants as whereabouts
use Rattle.cam6_commands.specs.declared.events.Event.TheVariants as event
use Rattle.cam6_commands.specs.declared.outcomes.Outcome.TheVariants.{Collected}
use Rattle.cam6_core.proofs.Numbers.{is_number, else_with}
use Rattle.cam6_core.proofs.Frames.{IsOnNone, user_moves}
use Rattle.cam6_core.proofs.Inversions.{at_end}

pub collect_spares : (s : State) (u : ℕ) (x : Whereabouts) →
    Spares (event.Collect u) s (with_user s u x)
collect_spares s u x = ((λ v apart. else_with s.users u v x apart), refl, refl)

-- the user has a machine like that of what is finished
pub collected_as : (s : State) (u : ℕ) (f : StoredFinished) (r : StoredMachine) →
    at_number s.users u ≡ Some (whereabouts.Finished f) →
    machine_stored r ≡ machine_stored f.machine →
    Moves s (event.Collect u) (Collected f.told) (with_user s u (whereabouts.Resting r))
collected_as s u f r at same a good =
    let p : User = user a.users u in
    let ends = at_end (machine_of p) f p.stage (good.users u (whereabouts.Finished f) at) in
    let c : Command = ends.0 in
    subst (λ (t : Stage).
    (Collected f.told ≡ (collect a u p t).1)
    × Good (with_user s u (whereabouts.Resting r)) (collect a u p t).0) (sym ends.1) (
      ap Collected ends.2.told,
      user_moves s a good u (whereabouts.Resting r)
          (record p { done = c ∷ p.done; stage = resting })
          (is_number s.users u (whereabouts.Finished f) at) (subst IsOnNone (sym ends.1) tt) tt
          (same ∙ ends.2.machine),
    )

pub collected : (s : State) (u : ℕ) (f : StoredFinished) (r : StoredMachine) →
    at_number s.users u ≡ Some (whereabouts.Finished f) → r ≡ f.machine →
    Moves s (event.Collect u) (Collected f.told) (with_user s u (whereabouts.Resting r))
collected s u f r at same = collected_as s u f r at (ap machine_stored same)
