-- The steps of a board's seat: take, back and done.
use Rattle.std.proofs.Common.{◌≡◌, ◌∙◌, ◌+◌, ℕ, suc, Bool, Option, [], ◌∷◌, Some, None, not}
use Rattle.std.proofs.Common.{sym, refl, ap, subst}
use Rattle.std.specs.List.{slice_get}
use Rattle.atomic_table.specs.Table.{Step}
use Rattle.cam6_commands.specs.declared.commands.Command.{Command}
use Rattle.cam6_commands.specs.declared.events.Event.{Event}
use Rattle.cam6_commands.specs.declared.events.Event.TheVariants as event
use Rattle.cam6_commands.specs.declared.outcomes.Outcome.{Outcome}
use Rattle.cam6_commands.specs.declared.outcomes.Outcome.TheVariants as outcome
use Rattle.cam6_commands.specs.declared.refused.Refused.{Refused}
use Rattle.cam6_commands.specs.declared.refused.Refused.TheVariants as why
use Rattle.cam6_slot.specs.Finished.{StoredFinished, IsDone}
use Rattle.cam6_slot.specs.Lefts.{bands_of_step, home_after, queued_left, queued_home}
use Rattle.cam6_slot.specs.Parking.{StoredQueued}
use Rattle.cam6_slot.specs.Stands.{Stands}
use Rattle.cam6_slot.specs.declared.resting.Place.TheVariants.{Queued, Finished}
use Rattle.cam6_core.specs.Model.{Stage, queued, out, finished, Seat, idle, loaded, dead}
use Rattle.cam6_core.specs.Model.{User, Model, machine_of, at_stage, back, over, with_both}
use Rattle.cam6_core.specs.Model.{lease, band, preempt, fail, transition}
use Rattle.cam6_core.specs.Refusals.{Status, Posture, first, refusal, loaded_refusal}
use Rattle.cam6_core.specs.Refusals.{is_missing, is_dead, is_idle, is_queued}
use Rattle.cam6_core.specs.Refusals as stands
use Rattle.cam6_core.specs.Runs.{model_standing}
use Rattle.cam6_handoff.specs.Rule.{Slot, Seated}
use Rattle.cam6_handoff.specs.Steps.{board_in, TakeTells, GiveTells, BackTells, DoneTells}
use Rattle.cam6_handoff.specs.declared.rule.View.TheVariants.{Idle, Holds}
use Rattle.cam6_handoff_laws.specs.Says.{Says}
use Rattle.cam6_handoff_laws.specs.Steps.{user_of, HasUser, HasSeat, LeadsAt}
use Rattle.cam6_handoff_laws.specs.Steps.{IsTakenOff, IsFromHome}
use Rattle.cam6_handoff_laws.proofs.Said as said
use Rattle.cam6_handoff_laws.proofs.Leading as leading

module _ (a : Model) (p : User) (u b : ℕ) (has : HasUser a u p) where
  -- a lease of a command that waits
  pub leases : (c : Command) (left home : ℕ) → p.stage ≡ queued c left home →
      transition a (event.Lease u b) ≡
      (with_both a u (at_stage p (out b c)) b (loaded u left home), outcome.Leased left)
  leases c left home is =
      ap (λ (x : User). lease a u b x x.stage) (leading.user_is a u p has) ∙ ap (lease a u b p) is

  module _ (left home : ℕ) (seat : HasSeat a b (loaded u left home)) (c : Command)
      (is : p.stage ≡ out b c) where
    -- a board that has their command is freed of it
    pub preempts :
        let after = home_after (bands_of_step (machine_of p).side) left home in
        transition a (event.Preempt b) ≡
        (with_both a u (at_stage p (queued c left after)) b idle, outcome.Preempted left)
    preempts =
        let after = home_after (bands_of_step (machine_of p).side) left home in
        ap (preempt a b) (leading.seat_is a b (loaded u left home) seat) ∙
        ap (λ (x : User).
        let home = home_after (bands_of_step (machine_of x).side) left home in
        (with_both a u (at_stage x (back left home x.stage)) b idle, outcome.Preempted left))
        (leading.user_is a u p has) ∙
        ap (λ (s : Stage).
        (with_both a u (at_stage p (back left after s)) b idle, outcome.Preempted left)) is

    pub fails : transition a (event.Fail b) ≡
        (with_both a u (at_stage p (queued c home home)) b dead, outcome.Failed (Some home))
    fails =
        ap (fail a b) (leading.seat_is a b (loaded u left home) seat) ∙
        ap (λ (x : User).
        (with_both a u (at_stage x (back home home x.stage)) b dead, outcome.Failed (Some home)))
        (leading.user_is a u p has) ∙
        ap (λ (s : Stage).
        (with_both a u (at_stage p (back home home s)) b dead, outcome.Failed (Some home))) is

  -- the last band
  pub finishes : (home : ℕ) (c : Command) → HasSeat a b (loaded u 1 home) → p.stage ≡ out b c →
      transition a (event.Band b) ≡
      (with_both a u (at_stage p (finished c)) b idle, outcome.Banded 0)
  finishes home c seat is =
      ap (band a b) (leading.seat_is a b (loaded u 1 home) seat) ∙
      ap (λ (x : User). (with_both a u (at_stage x (over x.stage)) b idle, outcome.Banded 0))
      (leading.user_is a u p has) ∙
      ap (λ (s : Stage). (with_both a u (at_stage p (over s)) b idle, outcome.Banded 0)) is

  -- what the event comes to, at the user and at the board
  led_at : (e : Event) (r : Outcome) (word : ℕ) (slot : Slot) (y : User) (old new : Seat) →
      HasSeat a b old → ((no_table : Bool) → refusal (model_standing a no_table) e ≡ None) →
      transition a e ≡ (with_both a u y b new, r) → Says (machine_of y) word slot y.stage →
      LeadsAt a e r u word slot b new
  led_at e r word slot y old new seat accepted is says = record {
    leads = leading.led a e r u word slot (with_both a u y b new) y accepted is
        (leading.changed a u p y has) says;
    seat = ap (λ (t : Model × Outcome). slice_get t.0.boards b) is ∙
        leading.put_there a b old new seat;
  }

-- why a lease is refused, by where the user and the board stand
abbrev pub lease_reason : Option Status → Option Posture → Option Refused
lease_reason o k = first
    ((is_missing o, why.NoSuchNumber) ∷ (is_missing k, why.NoSuchNumber)
    ∷ (is_dead k, why.BoardIsDead) ∷ (not (is_idle k), why.BoardIsNotIdle)
    ∷ (not (is_queued o), why.UserIsNotQueued) ∷ [])

abbrev pub fail_reason : Option Posture → Option Refused
fail_reason k = first ((is_missing k, why.NoSuchNumber) ∷ (is_dead k, why.BoardIsDead) ∷ [])

pub take_is_lease : (a : Model) (p : User) (b : ℕ) (q : StoredQueued) (step : Step Slot)
    (before after : Seated) (found : ℕ) → HasUser a (user_of step) p → HasSeat a b idle →
    Says (machine_of p) found (Some (Queued q)) p.stage → before.0 ≡ Idle b →
    TakeTells step before found after →
    LeadsAt a (event.Lease (user_of step) b) (outcome.Leased (queued_left q)) (user_of step)
    step.second None b (loaded (user_of step) (queued_left q) (queued_home q))
take_is_lease a p b q step before after found has seat says at tells =
    let u = user_of step in
    let w = said.waits (machine_of p) found q p.stage says in
    let left = queued_left q in
    let home = queued_home q in
    let second : step.second ≡ suc (suc (suc b)) =
    (tells.0 w.word).2 ∙ ap (λ v. 3 + board_in v) at ∙ said.three b in
    led_at a p u b has (event.Lease u b) (outcome.Leased left) step.second None
    (at_stage p (out b w.command)) idle (loaded u left home) seat
    (λ (no_table : Bool).
    subst (λ (o : Option Status). lease_reason o ((model_standing a no_table).board b) ≡ None)
    (sym (leading.stands a u p (queued w.command left home) no_table has w.stage_is))
    (subst (λ (k : Option Posture). lease_reason (Some stands.queued) k ≡ None)
    (sym (leading.is_at a b idle no_table seat)) refl))
    (leases a p u b has w.command left home w.stage_is)
    (subst (λ (k : ℕ). Says (machine_of p) k None (out b w.command)) (sym second) refl)

module _ (a : Model) (p : User) (b : ℕ) (taken : StoredQueued) (step : Step Slot)
    (before after : Seated) (found : ℕ) (has : HasUser a (user_of step) p)
    (says : Says (machine_of p) found None p.stage) (at : before.0 ≡ Holds b step.word taken) where
  -- the word that a board's seat found says that it has the command
  theirs : (n : ℕ) → GiveTells n step before found after → (c : Command) × (p.stage ≡ out b c)
  theirs n tells = said.is_out (machine_of p) found b p.stage
      (tells.0 ∙ ap (λ v. 3 + board_in v) at) says

  pub back_is_preempt : (left home : ℕ) (q : StoredQueued) →
      HasSeat a b (loaded (user_of step) left home) → BackTells step before found after →
      ((c : Command) → p.stage ≡ out b c → Stands q (machine_of p) c) →
      IsTakenOff (bands_of_step (machine_of p).side) left home q →
      LeadsAt a (event.Preempt b) (outcome.Preempted left) (user_of step) step.first
      (Some (Queued q)) b idle
  back_is_preempt left home q seat tells stands off =
      let u = user_of step in
      let out_with = theirs 1 tells in
      let c = out_with.0 in
      let later = home_after (bands_of_step (machine_of p).side) left home in
      led_at a p u b has (event.Preempt b) (outcome.Preempted left) step.first (Some (Queued q))
      (at_stage p (queued c left later)) (loaded u left home) idle seat
      (λ (no_table : Bool). subst (λ (k : Option Posture). loaded_refusal k ≡ None)
      (sym (leading.is_at a b (loaded u left home) no_table seat)) refl)
      (preempts a p u b has left home seat c out_with.1)
      (subst (λ (k : ℕ). Says (machine_of p) k (Some (Queued q)) (queued c left later))
      (sym tells.2) (stands c out_with.1, sym off.left, sym off.home))

  pub back_from_home_is_fail : (left home : ℕ) (q : StoredQueued) →
      HasSeat a b (loaded (user_of step) left home) → BackTells step before found after →
      ((c : Command) → p.stage ≡ out b c → Stands q (machine_of p) c) → IsFromHome home q →
      LeadsAt a (event.Fail b) (outcome.Failed (Some home)) (user_of step) step.first
      (Some (Queued q)) b dead
  back_from_home_is_fail left home q seat tells stands from =
      let u = user_of step in
      let out_with = theirs 1 tells in
      let c = out_with.0 in
      led_at a p u b has (event.Fail b) (outcome.Failed (Some home)) step.first
      (Some (Queued q)) (at_stage p (queued c home home)) (loaded u left home) dead seat
      (λ (no_table : Bool). subst (λ (k : Option Posture). fail_reason k ≡ None)
      (sym (leading.is_at a b (loaded u left home) no_table seat)) refl)
      (fails a p u b has left home seat c out_with.1)
      (subst (λ (k : ℕ). Says (machine_of p) k (Some (Queued q)) (queued c home home))
      (sym tells.2) (stands c out_with.1, sym from.left, sym from.home))

  pub done_is_last_band : (home : ℕ) (f : StoredFinished) →
      HasSeat a b (loaded (user_of step) 1 home) → DoneTells step before found after →
      ((c : Command) → p.stage ≡ out b c → IsDone f (machine_of p) c) →
      LeadsAt a (event.Band b) (outcome.Banded 0) (user_of step) step.first (Some (Finished f)) b idle
  done_is_last_band home f seat tells done =
      let u = user_of step in
      let out_with = theirs 2 tells in
      let c = out_with.0 in
      led_at a p u b has (event.Band b) (outcome.Banded 0) step.first (Some (Finished f))
      (at_stage p (finished c)) (loaded u 1 home) idle seat
      (λ (no_table : Bool). subst (λ (k : Option Posture). loaded_refusal k ≡ None)
      (sym (leading.is_at a b (loaded u 1 home) no_table seat)) refl)
      (finishes a p u b has home c seat out_with.1)
      (subst (λ (k : ℕ). Says (machine_of p) k (Some (Finished f)) (finished c)) (sym tells.2)
      (done c out_with.1))
