-- What boards do.
use Rattle.std.proofs.Common.{◌≡◌, ◌≢◌, ◌∙◌, ℕ, suc, ◌+◌, ◌<◌, List, [], ◌∷◌}
use Rattle.std.proofs.Common.{length, set, Option, Some, None, sym, refl, ap, subst, arith}
use Rattle.std.specs.List.{slice_get}
use Rattle.std.specs.Option.{option_map}
use mathlib.Core.Option.{some, none}
use Rattle.cam6_commands.specs.declared.commands.Command.{Command}
use Rattle.cam6_commands.specs.declared.events.Event.TheVariants as event
use Rattle.cam6_commands.specs.declared.outcomes.Outcome.{Outcome}
use Rattle.cam6_commands.specs.declared.outcomes.Outcome.TheVariants as outcome
use Rattle.cam6_model.specs.Machine.{Machine}
use Rattle.cam6_slot.specs.Laws.{PlacesHaveTheSide}
use Rattle.cam6_slot.specs.Lefts.{bands_of_step, home_after, queued_left, queued_home}
use Rattle.cam6_slot.specs.Parking.{StoredQueued}
use Rattle.cam6_slot.specs.declared.resting.Place.TheVariants.{Queued, Finished}
use Rattle.cam6_station.specs.Held.{Manned, Held, HeldFits, StandsHeld, held_left, held_home}
use Rattle.cam6_station.specs.Held as board
use Rattle.cam6_handoff.specs.Holding.{holding}
use Rattle.cam6_handoff.specs.Seats.{IsLeaseOf}
use Rattle.cam6_core.specs.Goes.{Moves}
use Rattle.cam6_core.specs.Model.{Stage, queued, out, finished, idle, loaded, dead}
use Rattle.cam6_core.specs.Model.{User, Model, user, seat, machine_of, at_stage, with_both}
use Rattle.cam6_core.specs.Model.{transition}
use Rattle.cam6_core.specs.Refusals.{status, posture, loaded_refusal}
use Rattle.cam6_core.specs.State.{State, at_number, with_number, with_user, with_board, IsNumber}
use Rattle.cam6_core.specs.declared.parts.Whereabouts.{Whereabouts}
use Rattle.cam6_core.specs.declared.parts.Whereabouts.TheVariants as whereabouts
use Rattle.cam6_core.proofs.Boards.{band_last, preempted, failed}
use Rattle.cam6_core.proofs.Inversions.{in_queue, at_work}
use Rattle.cam6_core.proofs.Leases.{lease_moves}
use Rattle.cam6_core.proofs.Numbers.{within, set_here}
use Rattle.cam6_handoff.specs.Rule.{Rule, asked_machine, asked_command}
use Rattle.cam6_handoff.specs.declared.rule.View.{View}
use Rattle.cam6_handoff.specs.declared.rule.View.TheVariants.{Waits, Idle, Holds}
use Rattle.cam6_handoff.proofs.Keeps.{take_keeps, back_keeps, done_keeps}
use Rattle.cam6_handoff_laws.specs.Actions.{leased, Takes, PutsBack, Loses, PutsDone, Bands}
use Rattle.cam6_handoff_laws.specs.Actions as act
use Rattle.cam6_handoff_laws.specs.Configurations.{Configuration, WordIs, SlotHas, WordSays, IsLoadedWith}
use Rattle.cam6_handoff_laws.specs.Configurations.{IsAtModel, command_at}
use Rattle.cam6_handoff_laws.specs.Executions.{AreEvents, put_by, told_by}
use Rattle.cam6_handoff_laws.specs.Steps.{HasUser, HasSeat}
use Rattle.cam6_handoff_laws.proofs.Awaited.{AreAwaited, restaged_awaited, view_awaited}
use Rattle.cam6_handoff_laws.proofs.Boards.{leases, preempts, fails, finishes, lease_reason, fail_reason}
use Rattle.cam6_handoff_laws.proofs.Going.{goes_on, has_user, has_seat, by_event}
use Rattle.cam6_handoff_laws.proofs.Tables.{gives_it, takes_it, word_here, word_else}
use Rattle.cam6_handoff_laws.proofs.Tables.{home_here, home_else, one_slot, one_queued}
use Rattle.cam6_handoff_laws.proofs.Words.{is_of_row, user_of_row, said_with, others_stay}
use Rattle.cam6_handoff_laws.proofs.Words.{idle_is_nobodys, loaded_is_one_users}

-- the side of a place is that of the machine for which it stands
sides : PlacesHaveTheSide
sides m c = (
  (λ q stands. ap (λ (k : Machine). k.side) stands.work.kept),
  (λ l job stands. ap (λ (k : Machine). k.side) stands.work.kept),
)

idle_waits_not : (b row : ℕ) (asked : StoredQueued) → Idle b ≡ Waits row asked → ⊥
idle_waits_not b row asked e = cc e

holds_waits_not : (b u : ℕ) (q : StoredQueued) (row : ℕ) (asked : StoredQueued) →
    Holds b u q ≡ Waits row asked → ⊥
holds_waits_not b u q row asked e = cc e

module _ (users : ℕ) (k next : Configuration) (a : Model) (b row : ℕ) (at : IsAtModel users k a)
    (small : row < users) where
  abbrev u : ℕ
  u = suc row

  abbrev p : User
  p = user a.users u

  theirs : HasUser a u p
  theirs = has_user k.held a at.good row (omega (arith, small, at.said.long))

  number : IsNumber (length a.users) u
  number = is_of_row (length a.users) row users (sym at.good.users_long ∙ at.said.long) small

  held_number : IsNumber (length k.held.users) u
  held_number = is_of_row (length k.held.users) row users at.said.long small

  -- a word of 1 with this in the slot says that this waits
  waiting_there : (q : StoredQueued) → WordIs k row 1 → SlotHas k row (Some (Queued q)) →
      at_number k.held.users u ≡ Some (whereabouts.Queued q)
  waiting_there q one slot =
      let x = user_of_row k.held.users users row at.said.long small in
      x.1 ∙ ap Some (by_word x.0 (at.said.says row x.0 x.1))
    where
      by_word : (x : Whereabouts) → WordSays k row x → x ≡ whereabouts.Queued q
      by_word (whereabouts.Resting r) says = absurd (omega (arith, says, one))
      by_word (whereabouts.Queued o) says =
          ap whereabouts.Queued (one_queued o q
          (one_slot k.table.homes row (Some (Queued o)) (Some (Queued q)) says.1 slot))
      by_word whereabouts.Out says = absurd (let w = says.2 in omega (arith, w, one))
      by_word (whereabouts.Finished f) says = absurd (let w = says.0 in omega (arith, w, one))

  -- all other users' boards stay, if this one changes, which is no other user's
  other_boards : (t : State) (old new : Manned) → next.held ≡ t → t.boards ≡ set k.held.boards b new →
      slice_get k.held.boards b ≡ Some old →
      ((j : ℕ) (h : Held) → j ≢ row → old ≡ board.loaded (suc j) h → ⊥) →
      (j d : ℕ) (h : Held) → j ≢ row → IsLoadedWith k j d h → IsLoadedWith next j d h
  other_boards t old new held is there nay j d h apart on =
      ap (λ (s : State). slice_get s.boards d) held ∙ ap (λ bs. slice_get bs d) is ∙
      others_stay k.held.boards b row old new there nay j d h apart on

  -- the user's command stays while the user's stage changes, and so does what desks wait for
  restaged : (seat : ℕ) (view : View) (stage : Stage) → next.table.views ≡ set k.table.views seat view →
      ((r : ℕ) (asked : StoredQueued) → view ≡ Waits r asked → ⊥) →
      command_at stage ≡ command_at p.stage →
      AreAwaited next.table.views (with_number a.users u (at_stage p stage))
  restaged seat view stage views nay same =
      subst (λ (vs : List View). AreAwaited vs (with_number a.users u (at_stage p stage)))
      (sym views)
      (view_awaited k.table.views (with_number a.users u (at_stage p stage)) seat view nay
      (restaged_awaited k.table.views a.users u (at_stage p stage) number refl same at.awaited))

  wide : row < length k.table.words
  wide = omega (arith, small, at.said.rule.words)

  wide' : row < length k.table.homes
  wide' = omega (arith, small, at.said.rule.slots)

  pub takes : Takes k b row next →
      (rs : List Outcome) × AreEvents users a (event.Lease u b ∷ []) rs
      (λ v. put_by v (act.take b row)) (λ v. told_by v (act.take b row)) next
  takes does =
      let q = does.place in
      let h = does.taken in
      let there = waiting_there q does.found does.step.valid in
      let waits = in_queue (machine_of p) q p.stage
      (at.good.users u (whereabouts.Queued q) there) in
      let c : Command = waits.0 in
      let left = queued_left q in
      let home = queued_home q in
      let lease : IsLeaseOf q b h.lease h.job =
      subst (λ (n : ℕ). IsLeaseOf q n h.lease h.job) does.number
      (subst (λ (v : StoredQueued). IsLeaseOf v does.before.number h.lease h.job)
      (one_held does.call.0 q (sym (ap (λ s. s.holds) does.call.1) ∙ does.holds)) does.call.2) in
      let fits : HeldFits h =
      record { lease = does.lease; job = lease.fits; left = lease.some; tables = does.tables } in
      let moves : Moves k.held (event.Lease u b) (outcome.Leased left) next.held =
      subst (λ (t : State). Moves k.held (event.Lease u b) (outcome.Leased left) t) (sym does.held)
      (lease_moves k.held u b q h k.held.cache there does.idle lease.stands lease.left lease.home fits
      lease.board at.good.tables) in
      let goes = goes_on k.held next.held (event.Lease u b) (outcome.Leased left)
      (subst (λ (o : Option Whereabouts). lease_reason (option_map status o)
      (option_map posture (slice_get k.held.boards b)) ≡ None) (sym there)
      (subst (λ (o : Option Manned). lease_reason (Some (status (whereabouts.Queued q)))
      (option_map posture o) ≡ None) (sym does.idle) refl)) moves in
      let leads : (transition a (event.Lease u b)).0
      ≡ with_both a u (at_stage p (out b c)) b (loaded u left home) =
      ap (λ (t : Model × Outcome). t.0) (leases a p u b theirs c left home waits.1) in
      let to = takes_it k.table next.table row (3 + b) does.seat (Idle b) (Holds b row q)
      (Some (Queued q)) does.step in
      let rule : Rule users next.table =
      subst (Rule users) (sym does.step.after)
      (take_keeps users k.table at.said.rule row does.seat b (3 + b) q refl small does.step.at
      does.found does.step.valid) in
      let y : Manned = board.loaded u h in
      let said = said_with users k next row whereabouts.Out at.said small rule
      (ap (λ (t : State). t.users) does.held) (
        b,
        h,
        word_here k.table next.table row (3 + b) does.seat (Holds b row q) none to wide,
        ap (λ (t : State). slice_get t.boards b) does.held ∙
            set_here k.held.boards b y (within k.held.boards b board.idle does.idle),
      )
      (word_else k.table next.table row (3 + b) does.seat (Holds b row q) none to)
      (home_else k.table next.table row (3 + b) does.seat (Holds b row q) none to)
      (other_boards (leased k.held u b h) board.idle y does.held refl does.idle
      (idle_is_nobodys row)) in
      let awaited = restaged does.seat (Holds b row q) (out b c) to.views (holds_waits_not b row q)
      (sym (ap command_at waits.1)) in (
        outcome.Leased left ∷ [],
        by_event users k next a (with_both a u (at_stage p (out b c)) b (loaded u left home))
            (event.Lease u b) (outcome.Leased left) at goes refl leads said awaited,
      )
    where
      one_held : (v q : StoredQueued) → holding u v ≡ holding u q → v ≡ q
      one_held v q e = cc e

  -- the board is loaded for the user, in the model too
  module _ (on : Held) (loads : IsLoadedWith k row b on) where
    working :
        (seat a.boards b ≡ loaded u (held_left on) (held_home on))
        × ((c : Command) × (p.stage ≡ out b c) × StandsHeld on (machine_of p) c
        × (on.lease.board ≡ b))
    working = at_work a.users b u on (seat a.boards b)
        (at.good.boards b (board.loaded u on) loads)

    has : HasSeat a b (loaded u (held_left on) (held_home on))
    has = has_seat k.held a at.good b (within k.held.boards b (board.loaded u on) loads) ∙
        ap Some working.0

    isnt_refused : loaded_refusal (option_map posture (slice_get k.held.boards b)) ≡ None
    isnt_refused = subst (λ (o : Option Manned). loaded_refusal (option_map posture o) ≡ None)
        (sym loads) refl

  pub backs : PutsBack k b row next →
      (rs : List Outcome) × AreEvents users a (event.Preempt b ∷ []) rs
      (λ v. put_by v (act.back b row)) (λ v. told_by v (act.back b row)) next
  backs does =
      let q = does.place in
      let on = does.on in
      let left = held_left on in
      let home = held_home on in
      let work = (working on does.loaded).1 in
      let c : Command = work.0 in
      let r = outcome.Preempted (queued_left q) in
      let t : State = with_user (with_board k.held b board.idle) u (whereabouts.Queued q) in
      let goes = goes_on k.held next.held (event.Preempt b) r (isnt_refused on does.loaded)
      (subst (λ (s : State). Moves k.held (event.Preempt b) r s) (sym does.held)
      (preempted k.held b u on does.loaded sides held_number q does.waits does.call.1)) in
      let then = home_after (bands_of_step (machine_of p).side) left home in
      let y : User = at_stage p (queued c left then) in
      let leads : (transition a (event.Preempt b)).0 ≡ with_both a u y b idle =
      ap (λ (t : Model × Outcome). t.0)
      (preempts a p u b theirs left home (has on does.loaded) c work.1) in
      let to = gives_it k.table next.table row 1 does.seat (Holds b row does.taken) (Idle b)
      (Some (Queued q)) does.step in
      let rule : Rule users next.table =
      subst (Rule users) (sym does.step.after)
      (back_keeps users k.table at.said.rule row does.seat b 1 does.taken q refl small
      (λ asked stands. does.accepts (asked_machine asked) (asked_command asked) stands)
      does.step.at) in
      let said = said_with users k next row (whereabouts.Queued q) at.said small rule
      (ap (λ (s : State). s.users) does.held) (
        word_here k.table next.table row 1 does.seat (Idle b) (some (Some (Queued q))) to wide,
        home_here k.table next.table row 1 does.seat (Idle b) (some (Some (Queued q))) to wide',
      )
      (word_else k.table next.table row 1 does.seat (Idle b) (some (Some (Queued q))) to)
      (home_else k.table next.table row 1 does.seat (Idle b) (some (Some (Queued q))) to)
      (other_boards t (board.loaded u on) board.idle does.held refl does.loaded
      (loaded_is_one_users row on)) in
      let awaited = restaged does.seat (Idle b) (queued c left then) to.views (idle_waits_not b)
      (sym (ap command_at work.1)) in (
        r ∷ [],
        by_event users k next a (with_both a u y b idle) (event.Preempt b) r at goes refl leads said
            awaited,
      )

  pub loses : Loses k b row next →
      (rs : List Outcome) × AreEvents users a (event.Fail b ∷ []) rs
      (λ v. put_by v (act.lose b row)) (λ v. told_by v (act.lose b row)) next
  loses does =
      let q = does.place in
      let on = does.on in
      let left = held_left on in
      let home = held_home on in
      let work = (working on does.loaded).1 in
      let c : Command = work.0 in
      let r = outcome.Failed (Some (queued_left q)) in
      let t : State = with_user (with_board k.held b board.dead) u (whereabouts.Queued q) in
      let goes = goes_on k.held next.held (event.Fail b) r
      (subst (λ (o : Option Manned). fail_reason (option_map posture o) ≡ None)
      (sym does.loaded) refl)
      (subst (λ (s : State). Moves k.held (event.Fail b) r s) (sym does.held)
      (failed k.held b u on does.loaded held_number q does.waits does.call)) in
      let y : User = at_stage p (queued c home home) in
      let leads : (transition a (event.Fail b)).0 ≡ with_both a u y b dead =
      ap (λ (t : Model × Outcome). t.0)
      (fails a p u b theirs left home (has on does.loaded) c work.1) in
      let to = gives_it k.table next.table row 1 does.seat (Holds b row does.taken) (Idle b)
      (Some (Queued q)) does.step in
      let rule : Rule users next.table =
      subst (Rule users) (sym does.step.after)
      (back_keeps users k.table at.said.rule row does.seat b 1 does.taken q refl small
      (λ asked stands. does.accepts (asked_machine asked) (asked_command asked) stands)
      does.step.at) in
      let said = said_with users k next row (whereabouts.Queued q) at.said small rule
      (ap (λ (s : State). s.users) does.held) (
        word_here k.table next.table row 1 does.seat (Idle b) (some (Some (Queued q))) to wide,
        home_here k.table next.table row 1 does.seat (Idle b) (some (Some (Queued q))) to wide',
      )
      (word_else k.table next.table row 1 does.seat (Idle b) (some (Some (Queued q))) to)
      (home_else k.table next.table row 1 does.seat (Idle b) (some (Some (Queued q))) to)
      (other_boards t (board.loaded u on) board.dead does.held refl does.loaded
      (loaded_is_one_users row on)) in
      let awaited = restaged does.seat (Idle b) (queued c home home) to.views (idle_waits_not b)
      (sym (ap command_at work.1)) in (
        r ∷ [],
        by_event users k next a (with_both a u y b dead) (event.Fail b) r at goes refl leads said
            awaited,
      )

  pub dones : PutsDone k b row next →
      (rs : List Outcome) × AreEvents users a (event.Band b ∷ []) rs
      (λ v. put_by v (act.done b row)) (λ v. told_by v (act.done b row)) next
  dones does =
      let f = does.place in
      let on = does.on in
      let home = held_home on in
      let work = (working on does.loaded).1 in
      let c : Command = work.0 in
      let r = outcome.Banded 0 in
      let t : State = with_user (with_board k.held b board.idle) u (whereabouts.Finished f) in
      let goes = goes_on k.held next.held (event.Band b) r (isnt_refused on does.loaded)
      (subst (λ (s : State). Moves k.held (event.Band b) r s) (sym does.held)
      (band_last k.held b u on does.loaded held_number f does.call.1 does.call.2)) in
      let y : User = at_stage p (finished c) in
      let one : HasSeat a b (loaded u 1 home) =
      subst (λ (n : ℕ). HasSeat a b (loaded u n home)) does.call.1 (has on does.loaded) in
      let leads : (transition a (event.Band b)).0 ≡ with_both a u y b idle =
      ap (λ (t : Model × Outcome). t.0) (finishes a p u b theirs home c one work.1) in
      let to = gives_it k.table next.table row 2 does.seat (Holds b row does.taken) (Idle b)
      (Some (Finished f)) does.step in
      let rule : Rule users next.table =
      subst (Rule users) (sym does.step.after)
      (done_keeps users k.table at.said.rule row does.seat b 2 does.taken f refl small
      (λ asked stands. does.accepts (asked_machine asked) (asked_command asked) stands)
      does.step.at) in
      let said = said_with users k next row (whereabouts.Finished f) at.said small rule
      (ap (λ (s : State). s.users) does.held) (
        word_here k.table next.table row 2 does.seat (Idle b) (some (Some (Finished f))) to wide,
        home_here k.table next.table row 2 does.seat (Idle b) (some (Some (Finished f))) to wide',
      )
      (word_else k.table next.table row 2 does.seat (Idle b) (some (Some (Finished f))) to)
      (home_else k.table next.table row 2 does.seat (Idle b) (some (Some (Finished f))) to)
      (other_boards t (board.loaded u on) board.idle does.held refl does.loaded
      (loaded_is_one_users row on)) in
      let awaited = restaged does.seat (Idle b) (finished c) to.views (idle_waits_not b)
      (sym (ap command_at work.1)) in (
        r ∷ [],
        by_event users k next a (with_both a u y b idle) (event.Band b) r at goes refl leads said
            awaited,
      )
