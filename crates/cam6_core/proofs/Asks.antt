-- An ask.
use Rattle.std.proofs.Common.{◌==◌, ◌≡◌, ◌∙◌, ℕ, ◌<◌, cond, Bool, Some, sym, refl, ap, subst, arith}
use Rattle.std.proofs.Common.{true, false, Option}
use Rattle.std.proofs.Common.{ne_eqb}
use Rattle.cam6_commands.specs.declared.commands.Command.{Command}
use Rattle.cam6_machine.specs.Stored.{StoredMachine, machine_of as machine_stored}
use Rattle.cam6_model.specs.Machine.{Machine}
use Rattle.cam6_model.specs.Memory.{may_want_memory}
use Rattle.cam6_slot.specs.Finished.{StoredFinished, IsDone}
use Rattle.cam6_slot.specs.Lefts.{bands_of, queued_left, queued_home}
use Rattle.cam6_slot.specs.Parking.{StoredQueued, IsQueued}
use Rattle.cam6_slot.specs.Stands.{Stands}
use Rattle.cam6_core.specs.State.{State, at_number, with_user}
use Rattle.cam6_core.specs.Model.{Stage, queued, finished, User, user, at_stage, begun, machine_of}
use Rattle.cam6_core.specs.Model.{ask}
use Rattle.cam6_core.specs.Good.{UserFits, Good}
use Rattle.cam6_core.specs.Goes.{Moves, Spares, MayWant, WantsMemory}
use Rattle.cam6_core.specs.declared.parts.Whereabouts.{Whereabouts}
use Rattle.cam6_core.specs.declared.parts.Whereabouts.TheVariants as whereabouts
use Rattle.cam6_commands.specs.declared.events.Event.TheVariants as event
use Rattle.cam6_commands.specs.declared.outcomes.Outcome.TheVariants.{Asked}
use Rattle.cam6_core.proofs.Numbers.{is_number, else_with, twice_with, again_with}
use Rattle.cam6_core.proofs.Frames.{IsOnNone, user_moves}
use Rattle.cam6_core.proofs.Inversions.{at_rest}

-- a command that begins is on no board
begun_rests : (c : Command) (n : ℕ) → IsOnNone (begun c n)
begun_rests c n = by_test (n == 0)
  where
    by_test : (b : Bool) → IsOnNone (cond b (finished c) (queued c n n))
    by_test true = tt
    by_test false = tt

begun_with : (c : Command) (n : ℕ) → 0 < n → begun c n ≡ queued c n n
begun_with c n some =
    ap (λ (b : Bool). cond b (finished c) (queued c n n)) (ne_eqb n 0 (λ e. omega (arith, e, some)))

pub replaced : (s : State) (u : ℕ) (x y : Whereabouts) →
    with_user (with_user s u x) u y ≡ with_user s u y
replaced s u x y = ap (λ xs. record s { users = xs }) (twice_with s.users u x y)

pub as_it_was : (s : State) (u : ℕ) (x : Whereabouts) → at_number s.users u ≡ Some x →
    with_user s u x ≡ s
as_it_was s u x at = ap (λ xs. record s { users = xs }) (again_with s.users u x at)

wanted : (b : Bool) → (b ≡ false → ⊥) → b ≡ true
wanted true nay = refl
wanted false nay = absurd (nay refl)

-- where there was no memory it may have been wanted
pub was_wanted : (s : State) (u : ℕ) (c : Command) (r : StoredMachine) →
    at_number s.users u ≡ Some (whereabouts.Resting r) →
    (may_want_memory (machine_stored r) c ≡ false → ⊥) → WantsMemory s (event.Ask u c)
was_wanted s u c r at nay =
    subst (λ (o : Option Whereabouts). MayWant o c) (sym at)
    (wanted (may_want_memory (machine_stored r) c) nay)

pub ask_spares : (s : State) (u : ℕ) (c : Command) (x : Whereabouts) →
    Spares (event.Ask u c) s (with_user s u x)
ask_spares s u c x = ((λ v apart. else_with s.users u v x apart), refl, refl)

module _ (s : State) (u : ℕ) (c : Command) (r : StoredMachine)
    (at : at_number s.users u ≡ Some (whereabouts.Resting r)) where
  asked : (n : ℕ) (y : Whereabouts) → n ≡ bands_of (machine_stored r) c →
      UserFits (machine_stored r) y (begun c n) →
      Moves s (event.Ask u c) (Asked n) (with_user s u y)
  asked n y is fits a good =
      let p : User = user a.users u in
      let m = machine_of p in
      let rests = at_rest m r p.stage (good.users u (whereabouts.Resting r) at) in
      let same : n ≡ bands_of m c = is ∙ ap (λ (k : Machine). bands_of k c) rests.1 in
      subst (λ (t : Stage).
      (Asked n ≡ (ask a u c p t).1) × Good (with_user s u y) (ask a u c p t).0) (sym rests.0) (
        ap Asked same,
        user_moves s a good u y (at_stage p (begun c (bands_of m c)))
            (is_number s.users u (whereabouts.Resting r) at) (subst IsOnNone (sym rests.0) tt)
            (begun_rests c (bands_of m c))
            (subst (λ (k : Machine). UserFits k y (begun c (bands_of m c))) rests.1
            (subst (λ k. UserFits (machine_stored r) y (begun c k)) same fits)),
      )

  pub finished_at_once : (f : StoredFinished) → IsDone f (machine_stored r) c →
      bands_of (machine_stored r) c ≡ 0 →
      Moves s (event.Ask u c) (Asked 0) (with_user s u (whereabouts.Finished f))
  finished_at_once f is none = asked 0 (whereabouts.Finished f) (sym none) is

  pub put_in_queue : (q : StoredQueued) → IsQueued q → Stands q (machine_stored r) c →
      queued_left q ≡ bands_of (machine_stored r) c →
      queued_home q ≡ bands_of (machine_stored r) c → 0 < bands_of (machine_stored r) c →
      Moves s (event.Ask u c) (Asked (queued_left q)) (with_user s u (whereabouts.Queued q))
  put_in_queue q waits stands left home some =
      asked (queued_left q) (whereabouts.Queued q) left
      (subst (UserFits (machine_stored r) (whereabouts.Queued q))
      (sym (begun_with c (queued_left q) (omega (arith, left, some))))
      (stands, refl, left ∙ sym home, waits))
