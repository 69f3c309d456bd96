-- What desks do.
use Rattle.std.proofs.Common.{◌≡◌, ◌≢◌, ◌∙◌, ◌==◌, ℕ, suc, ◌<◌, cond, List, [], ◌∷◌, length}
use Rattle.std.proofs.Common.{Option, Some, None, sym, refl, ap, subst, arith, slice_index}
use Rattle.std.proofs.lemmas.List.{append-nil}
use Rattle.std.specs.List.{slice_get}
use Rattle.std.specs.Option.{option_map}
use mathlib.Core.Option.{some, none}
use mathlib.Core.Logic.{dite}
use native.Mathlib.Decide.{ℕ_discrete}
use lib.ListN.{get_elem?}
use Rattle.cam6_commands.specs.declared.commands.Command.{Command}
use Rattle.cam6_commands.specs.declared.events.Event.TheVariants as event
use Rattle.cam6_commands.specs.declared.outcomes.Outcome.{Outcome}
use Rattle.cam6_commands.specs.declared.outcomes.Outcome.TheVariants as outcome
use Rattle.cam6_commands.specs.declared.replies.Reply.{Reply}
use Rattle.cam6_machine.specs.Stored.{machine_of as machine_stored}
use Rattle.cam6_model.specs.Machine.{Machine}
use Rattle.cam6_slot.specs.Finished.{StoredFinished, IsDone}
use Rattle.cam6_slot.specs.Lefts.{bands_of, queued_left}
use Rattle.cam6_slot.specs.Parking.{StoredQueued}
use Rattle.cam6_slot.specs.Stands.{Stands}
use Rattle.cam6_slot.specs.declared.resting.Place.TheVariants.{Queued, Finished}
use Rattle.cam6_station.specs.Held.{Held}
use Rattle.cam6_core.specs.Goes.{Moves}
use Rattle.cam6_core.specs.Good.{Good}
use Rattle.cam6_core.specs.Model.{resting, queued, finished, User, Model, user, machine_of}
use Rattle.cam6_core.specs.Model.{at_stage, with_user as model_with_user, transition}
use Rattle.cam6_core.specs.Refusals.{status}
use Rattle.cam6_core.specs.Runs.{after_one}
use Rattle.cam6_core.specs.State.{State, at_number, with_number, with_user, IsNumber}
use Rattle.cam6_core.specs.declared.parts.Whereabouts.{Whereabouts}
use Rattle.cam6_core.specs.declared.parts.Whereabouts.TheVariants as whereabouts
use Rattle.cam6_core.proofs.Asks.{put_in_queue, finished_at_once, replaced}
use Rattle.cam6_core.proofs.Chains.{one_goes}
use Rattle.cam6_core.proofs.Collects.{collected_as}
use Rattle.cam6_core.proofs.Frames.{user_here, user_else}
use Rattle.cam6_core.proofs.Inversions.{at_rest, at_end}
use Rattle.cam6_core.proofs.Numbers.{here_with}
use Rattle.cam6_handoff.specs.Rule.{Shared, Rule, At, StandsForAsked, IsAskedDone}
use Rattle.cam6_handoff.specs.Desks.{CollectGives}
use Rattle.cam6_handoff.specs.Rule.{asked_machine, asked_command}
use Rattle.cam6_handoff.specs.Standing.{standing, waiting}
use Rattle.cam6_handoff.specs.declared.rule.View.{View}
use Rattle.cam6_handoff.specs.declared.rule.View.TheVariants.{Rests, Waits}
use Rattle.cam6_handoff.proofs.Keeps.{put_keeps, collect_keeps, done_row}
use Rattle.cam6_handoff.proofs.Rows.{self_eqb}
use Rattle.cam6_handoff_laws.specs.Actions.{Answers, Puts, Collects}
use Rattle.cam6_handoff_laws.specs.Configurations.{Configuration, WordIs, SlotHas, WordSays, IsLoadedWith}
use Rattle.cam6_handoff_laws.specs.Configurations.{IsAtModel, IsAwaited}
use Rattle.cam6_handoff_laws.specs.Executions.{AreEvents, put_by, told_by}
use Rattle.cam6_handoff_laws.specs.Actions as act
use Rattle.cam6_handoff_laws.specs.Steps.{HasUser}
use Rattle.cam6_handoff_laws.proofs.Awaited.{AreAwaited, other_awaited}
use Rattle.cam6_handoff_laws.proofs.Desks.{asks, asks_at_once, collects, ask_reason, collect_reason}
use Rattle.cam6_handoff_laws.proofs.Events.{two_events}
use Rattle.cam6_handoff_laws.proofs.Going.{goes_on, has_user, by_event}
use Rattle.cam6_handoff_laws.proofs.Tables.{gives_it, takes_it, word_here, word_else, home_here, home_else}
use Rattle.cam6_handoff_laws.proofs.Tables.{one_slot, one_finished, nobody_waits}
use Rattle.cam6_handoff_laws.proofs.Words.{is_of_row, user_of_row, said_with}

module _ (users : ℕ) (k next : Configuration) (a : Model) (row : ℕ) (at : IsAtModel users k a)
    (small : row < users) where
  abbrev u : ℕ
  u = suc row

  abbrev p : User
  p = user a.users u

  theirs : HasUser a u p
  theirs = has_user k.held a at.good row (omega (arith, small, at.said.long))

  number : IsNumber (length a.users) u
  number = is_of_row (length a.users) row users (sym at.good.users_long ∙ at.said.long) small

  -- all other users' boards stay, if no board changes
  same_boards : (t : State) → next.held ≡ t → t.boards ≡ k.held.boards → (j b : ℕ) (h : Held) →
      j ≢ row → IsLoadedWith k j b h → IsLoadedWith next j b h
  same_boards t held same j b h apart on =
      ap (λ (s : State). slice_get s.boards b) held ∙ ap (λ bs. slice_get bs b) same ∙ on

  pub puts : (c : Command) → Puts k row c next →
      (rs : List Outcome) × AreEvents users a (event.Ask u c ∷ []) rs
      (λ v. put_by v (act.put row c)) (λ v. told_by v (act.put row c)) next
  puts c does =
      let s = does.before in
      let q = does.asked in
      let n = queued_left q in
      let rest = at_rest (machine_of p) s p.stage
      (at.good.users u (whereabouts.Resting s) does.rests) in
      let all : n ≡ bands_of (machine_stored s) c = does.call.1.3 in
      let left : n ≡ bands_of (machine_of p) c =
      all ∙ ap (λ (m : Machine). bands_of m c) rest.1 in
      let any : 0 < n = (let few = does.call.0 in omega (arith, all, few)) in
      let begun : Stands q (machine_stored s) c =
      subst (λ (m : Machine). Stands q m c) does.call.1.1
      (subst (λ (d : Command). Stands q (asked_machine q) d) does.call.1.2 does.stands) in
      let y : User = at_stage p (queued c n n) in
      let moves : Moves k.held (event.Ask u c) (outcome.Asked n) next.held =
      subst (λ (t : State). Moves k.held (event.Ask u c) (outcome.Asked n) t) (sym does.held)
      (put_in_queue k.held u c s does.rests q does.waits begun all does.call.1.4 does.call.0) in
      let goes = goes_on k.held next.held (event.Ask u c) (outcome.Asked n)
      (subst (λ (o : Option Whereabouts). ask_reason (option_map status o) ≡ None)
      (sym does.rests) refl) moves in
      let leads : (transition a (event.Ask u c)).0 ≡ model_with_user a u y =
      ap (λ (t : Model × Outcome). t.0) (asks a p u theirs c rest.0 n left any) in
      let to = gives_it k.table next.table row 1 does.seat (Rests row) (Waits row q)
      (Some (Queued q)) does.step in
      let wide : row < length k.table.words = omega (arith, small, at.said.rule.words) in
      let wide' : row < length k.table.homes = omega (arith, small, at.said.rule.slots) in
      let rule : Rule users next.table =
      subst (Rule users) (sym does.step.after)
      (put_keeps users k.table at.said.rule row does.seat 1 q refl small does.stands does.step.at) in
      let said = said_with users k next row (whereabouts.Queued q) at.said small rule
      (ap (λ (t : State). t.users) does.held) (
        word_here k.table next.table row 1 does.seat (Waits row q) (some (Some (Queued q))) to wide,
        home_here k.table next.table row 1 does.seat (Waits row q) (some (Some (Queued q))) to wide',
      )
      (word_else k.table next.table row 1 does.seat (Waits row q) (some (Some (Queued q))) to)
      (home_else k.table next.table row 1 does.seat (Waits row q) (some (Some (Queued q))) to)
      (same_boards (with_user k.held u (whereabouts.Queued q)) does.held refl) in
      let rests : slice_index k.table.words row ≡ 0 =
      at.said.says row (whereabouts.Resting s) does.rests in
      let awaited : AreAwaited next.table.views (with_number a.users u y) =
      subst (λ (vs : List View). AreAwaited vs (with_number a.users u y)) (sym to.views)
      (other_awaited k.table.views a.users row does.seat (Waits row q) y number
      (λ j asked apart there. nobody_waits k.table.words k.table.homes k.table.views row
      (at.said.rule.rows row small) rests j asked there)
      (λ r asked e. waits_for r asked e y (user_here a.users u y number)
      (record { machine = does.call.1.1 ∙ rest.1; command = ap Some does.call.1.2 }))
      at.awaited) in (
        outcome.Asked n ∷ [],
        by_event users k next a (model_with_user a u y) (event.Ask u c) (outcome.Asked n) at goes refl
            leads said awaited,
      )
    where
      waits_for : (r : ℕ) (asked : StoredQueued) → Waits row does.asked ≡ Waits r asked → (y : User) →
          user (with_number a.users u y) u ≡ y → IsAwaited does.asked y →
          IsAwaited asked (user (with_number a.users u y) (suc r))
      waits_for r asked e y here is =
          let er : row ≡ r = cc e in
          let eq : does.asked ≡ asked = cc e in
          subst (λ (i : ℕ). IsAwaited asked (user (with_number a.users u y) (suc i))) er
          (subst (IsAwaited asked) (sym here) (subst (λ (z : StoredQueued). IsAwaited z y) eq is))

  -- a word of 2 with this in the slot says that this is finished
  finished_there : (f : StoredFinished) → WordIs k row 2 → SlotHas k row (Some (Finished f)) →
      at_number k.held.users u ≡ Some (whereabouts.Finished f)
  finished_there f two slot =
      let x = user_of_row k.held.users users row at.said.long small in
      x.1 ∙ ap Some (by_word x.0 (at.said.says row x.0 x.1))
    where
      by_word : (x : Whereabouts) → WordSays k row x → x ≡ whereabouts.Finished f
      by_word (whereabouts.Resting r) says = absurd (omega (arith, says, two))
      by_word (whereabouts.Queued q) says = absurd (let w = says.0 in omega (arith, w, two))
      by_word whereabouts.Out says = absurd (let w = says.2 in omega (arith, w, two))
      by_word (whereabouts.Finished g) says =
          ap whereabouts.Finished (one_finished g f
          (one_slot k.table.homes row (Some (Finished g)) (Some (Finished f)) says.1 slot))

  -- what is collected is what the desk waits for
  pub collected_is_given : (r : Reply) → (does : Collects k row r next) →
      CollectGives (waiting u does.asked) (Some r) (standing u does.then)
  collected_is_given r does =
      let ended = done_row k.table.words k.table.homes k.table.views row does.seat does.asked
      does.step.at does.found (at.said.rule.rows row small) in
      let same : ended.0 ≡ does.place = one_finished ended.0 does.place
      (one_slot k.table.homes row (Some (Finished ended.0)) (Some (Finished does.place)) ended.1
      does.step.valid) in
      let is : IsAskedDone does.asked does.place =
      subst (λ (z : StoredFinished). IsAskedDone does.asked z) same ended.2 in
      (does.told ∙ is.told, (refl, does.machine ∙ is.machine))

  pub collected : (r : Reply) → Collects k row r next →
      (rs : List Outcome) × AreEvents users a (event.Collect u ∷ []) rs
      (λ v. put_by v (act.collect row r)) (λ v. told_by v (act.collect row r)) next
  collected r does =
      let f = does.place in
      let t = does.then in
      let asked = does.asked in
      let ended = done_row k.table.words k.table.homes k.table.views row does.seat asked
      does.step.at does.found (at.said.rule.rows row small) in
      let there = finished_there f does.found does.step.valid in
      let end = at_end (machine_of p) f p.stage (at.good.users u (whereabouts.Finished f) there) in
      let told : f.told ≡ r = sym does.told in
      let y : User = record p { done = end.0 ∷ p.done; stage = resting } in
      let moves : Moves k.held (event.Collect u) (outcome.Collected f.told) next.held =
      subst (λ (t : State). Moves k.held (event.Collect u) (outcome.Collected f.told) t)
      (sym does.held)
      (collected_as k.held u f t there does.machine) in
      let goes = goes_on k.held next.held (event.Collect u) (outcome.Collected f.told)
      (subst (λ (o : Option Whereabouts). collect_reason (option_map status o) ≡ None)
      (sym there) refl) moves in
      let leads : (transition a (event.Collect u)).0 ≡ model_with_user a u y =
      ap (λ (t : Model × Outcome). t.0) (collects a p u theirs end.0 end.1) in
      let to = takes_it k.table next.table row 0 does.seat (Waits row asked) (Rests row)
      (Some (Finished f)) does.step in
      let wide : row < length k.table.words = omega (arith, small, at.said.rule.words) in
      let rule : Rule users next.table =
      subst (Rule users) (sym does.step.after)
      (collect_keeps users k.table at.said.rule row does.seat 0 asked (Some (Finished f)) refl
      small does.step.at does.found) in
      let said = said_with users k next row (whereabouts.Resting t) at.said small rule
      (ap (λ (t : State). t.users) does.held)
      (word_here k.table next.table row 0 does.seat (Rests row) none to wide)
      (word_else k.table next.table row 0 does.seat (Rests row) none to)
      (home_else k.table next.table row 0 does.seat (Rests row) none to)
      (same_boards (with_user k.held u (whereabouts.Resting t)) does.held refl) in
      let awaited : AreAwaited next.table.views (with_number a.users u y) =
      subst (λ (vs : List View). AreAwaited vs (with_number a.users u y)) (sym to.views)
      (other_awaited k.table.views a.users row does.seat (Rests row) y number
      (λ j other apart here. apart (ended.3 j (Waits row other) here (self_eqb row)))
      (λ v other e. rests_on v other e) at.awaited) in (
        outcome.Collected f.told ∷ [],
        subst (λ (x : Reply). AreEvents users a (event.Collect u ∷ [])
            (outcome.Collected f.told ∷ []) (λ v. []) (λ v. cond (u == v) (x ∷ []) []) next) told
            (by_event users k next a (model_with_user a u y) (event.Collect u)
            (outcome.Collected f.told) at goes refl leads said awaited),
      )
    where
      rests_on : (v : ℕ) (other : StoredQueued) → Rests row ≡ Waits v other → {A : Type 0} → A
      rests_on v other e = cc e

  -- a command that is answered at once is asked and collected
  pub answers : (c : Command) (r : Reply) → Answers k row c r next →
      (rs : List Outcome) × AreEvents users a (event.Ask u c ∷ event.Collect u ∷ []) rs
      (λ v. put_by v (act.answer row c r)) (λ v. told_by v (act.answer row c r)) next
  answers c r does =
      let s = does.before in
      let t = does.then in
      let f : StoredFinished = record { machine = t; told = r } in
      let mid : State = with_user k.held u (whereabouts.Finished f) in
      let rest = at_rest (machine_of p) s p.stage
      (at.good.users u (whereabouts.Resting s) does.rests) in
      let done : IsDone f (machine_stored s) c =
      record { machine = does.call.2.1; told = does.call.1 } in
      let asked = goes_on k.held mid (event.Ask u c) (outcome.Asked 0)
      (subst (λ (o : Option Whereabouts). ask_reason (option_map status o) ≡ None)
      (sym does.rests) refl)
      (finished_at_once k.held u c s does.rests f done does.call.0) in
      let there : at_number mid.users u ≡ Some (whereabouts.Finished f) =
      here_with k.held.users u (whereabouts.Finished f)
      (is_of_row (length k.held.users) row users at.said.long small) in
      let is : next.held ≡ with_user mid u (whereabouts.Resting t) =
      does.held ∙ sym (replaced k.held u (whereabouts.Finished f) (whereabouts.Resting t)) in
      let collect = goes_on mid next.held (event.Collect u) (outcome.Collected r)
      (subst (λ (o : Option Whereabouts). collect_reason (option_map status o) ≡ None)
      (sym there) refl)
      (subst (λ (x : State). Moves mid (event.Collect u) (outcome.Collected r) x) (sym is)
      (collected_as mid u f t there refl)) in
      let first = one_goes k.held (event.Ask u c) mid a at.good (outcome.Asked 0) asked in
      let b = after_one a (event.Ask u c) (outcome.Asked 0) in
      let then = one_goes mid (event.Collect u) next.held b first.1 (outcome.Collected r) collect in
      let none : bands_of (machine_of p) c ≡ 0 =
      ap (λ (m : Machine). bands_of m c) (sym rest.1) ∙ does.call.0 in
      let y : User = at_stage p (finished c) in
      let z : User = record p { done = c ∷ p.done; stage = resting } in
      let one : b ≡ model_with_user a u y =
      ap (λ (t : Model × Outcome). t.0) (asks_at_once a p u theirs c rest.0 none) in
      let here : HasUser (model_with_user a u y) u y = here_with a.users u y number in
      let two : (transition (model_with_user a u y) (event.Collect u)).0
      ≡ model_with_user (model_with_user a u y) u z =
      ap (λ (t : Model × Outcome). t.0)
      (collects (model_with_user a u y) y u here c refl) in
      let both : after_one b (event.Collect u) (outcome.Collected r)
      ≡ model_with_user (model_with_user a u y) u z =
      ap (λ (m : Model). (transition m (event.Collect u)).0) one ∙ two in
      let said = said_with users k next row (whereabouts.Resting t) at.said small
      (subst (Rule users) (sym does.table) at.said.rule) (ap (λ (t : State). t.users) does.held)
      (ap (λ (t : Shared). slice_index t.words row) does.table ∙
      at.said.says row (whereabouts.Resting s) does.rests)
      (λ j apart. ap (λ (t : Shared). slice_index t.words j) does.table)
      (λ j apart. ap (λ (t : Shared). get_elem? t.homes j) does.table)
      (same_boards (with_user k.held u (whereabouts.Resting t)) does.held refl) in
      let rests : slice_index k.table.words row ≡ 0 =
      at.said.says row (whereabouts.Resting s) does.rests in
      let awaited : AreAwaited next.table.views (with_number (with_number a.users u y) u z) =
      (λ j v other waits.
      let old : At k.table.views j (Waits v other) =
      subst (λ (t : Shared). At t.views j (Waits v other)) does.table waits in
      dite (ℕ_discrete v row)
      (λ same. absurd (nobody_waits k.table.words k.table.homes k.table.views row
      (at.said.rule.rows row small) rests j other
      (subst (λ (i : ℕ). At k.table.views j (Waits i other)) same old)))
      (λ apart.
      let ne : suc v ≢ u = (λ e. apart (omega (arith, e))) in
      subst (IsAwaited other)
      (sym (user_else (with_number a.users u y) u (suc v) z ne ∙
      user_else a.users u (suc v) y ne)) (at.awaited j v other old))) in (
        outcome.Asked 0 ∷ outcome.Collected r ∷ [],
        two_events users a (event.Ask u c) (event.Collect u) (outcome.Asked 0) (outcome.Collected r)
            next (λ v. put_by v (act.answer row c r)) (λ v. told_by v (act.answer row c r)) first.0
            then.0
            (subst (IsAtModel users next) (sym both)
            (record { said = said; good = subst (Good next.held) both then.1; awaited = awaited }))
            (λ v. append-nil (put_by v (act.answer row c r))) (λ v. refl),
      )
