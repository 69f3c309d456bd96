-- What a step's event makes of its user and its board.
use Rattle.std.proofs.Common.{◌≡◌, ◌∙◌, ℕ, Bool, Some, None, set, sym, ap, subst}
use Rattle.std.proofs.Common.{option_map}
use Rattle.std.specs.List.{slice_get}
use Rattle.cam6_commands.specs.declared.events.Event.{Event}
use Rattle.cam6_commands.specs.declared.outcomes.Outcome.{Outcome}
use Rattle.cam6_core.specs.Model.{Stage, User, Seat, Model, user, seat, or_nobody, or_none}
use Rattle.cam6_core.specs.Model.{machine_of, transition}
use Rattle.cam6_core.specs.Refusals.{refusal}
use Rattle.cam6_core.specs.Runs.{status_of, posture_of, model_standing}
use Rattle.cam6_core.specs.State.{with_number}
use Rattle.cam6_core.proofs.Numbers.{is_number, here_with, within, set_here}
use Rattle.cam6_handoff.specs.Rule.{Slot}
use Rattle.cam6_handoff_laws.specs.Says.{Says}
use Rattle.cam6_handoff_laws.specs.Steps.{HasUser, HasSeat, LeadsTo}

module _ (a : Model) where
  pub user_is : (u : ℕ) (p : User) → HasUser a u p → user a.users u ≡ p
  user_is u p has = ap or_nobody has

  pub seat_is : (b : ℕ) (s : Seat) → HasSeat a b s → seat a.boards b ≡ s
  seat_is b s has = ap or_none has

  -- where they stand, and where a board does
  pub stands : (u : ℕ) (p : User) (stage : Stage) (no_table : Bool) → HasUser a u p →
      p.stage ≡ stage → (model_standing a no_table).user u ≡ Some (status_of stage)
  stands u p stage no_table has is =
      ap (λ o. option_map (λ (p : User). status_of p.stage) o) has ∙
      ap (λ (s : Stage). Some (status_of s)) is

  pub is_at : (b : ℕ) (s : Seat) (no_table : Bool) → HasSeat a b s →
      (model_standing a no_table).board b ≡ Some (posture_of s)
  is_at b s no_table has = ap (λ o. option_map posture_of o) has

  -- a user who was changed, and a board
  pub changed : (u : ℕ) (p y : User) → HasUser a u p → user (with_number a.users u y) u ≡ y
  changed u p y has = ap or_nobody (here_with a.users u y (is_number a.users u p has))

  pub put_there : (b : ℕ) (s t : Seat) → HasSeat a b s → slice_get (set a.boards b t) b ≡ Some t
  put_there b s t has = set_here a.boards b t (within a.boards b s has)

  -- what an event comes to is told by the model after it
  pub led : (e : Event) (r : Outcome) (u word : ℕ) (slot : Slot) (new : Model) (y : User) →
      ((no_table : Bool) → refusal (model_standing a no_table) e ≡ None) → transition a e ≡ (new, r) →
      user new.users u ≡ y → Says (machine_of y) word slot y.stage → LeadsTo a e r u word slot
  led e r u word slot new y accepted is theirs says = record {
    accepted = accepted;
    comes = ap (λ (t : Model × Outcome). t.1) is;
    says =
        let theirs' : user (transition a e).0.users u ≡ y =
        ap (λ (t : Model × Outcome). user t.0.users u) is ∙ theirs in
        subst (λ (z : User). Says (machine_of z) word slot z.stage) (sym theirs') says;
  }
