-- Bands, and what is no event.
use Rattle.std.proofs.Common.{◌≡◌, ◌∙◌, ◌==◌, ◌-◌, ℕ, suc, ◌+◌, ◌<◌, Bool, false, cond, List, []}
use Rattle.std.proofs.Common.{◌∷◌, ◌++◌, ⊎_elim, length, set, Option, Some, None, sym, refl, ap}
use Rattle.std.proofs.Common.{subst, arith, ne_eqb, not, slice_index}
use Rattle.std.specs.List.{slice_get}
use Rattle.std.specs.Option.{option_map}
use mathlib.Core.Option.{none}
use mathlib.Core.Logic.{dite}
use native.Mathlib.Decide.{ℕ_discrete}
use lib.ListN.{get_elem?}
use Rattle.atomic_table.proofs.Lists.{at_snoc}
use Rattle.cam6_commands.specs.declared.events.Event.TheVariants as event
use Rattle.cam6_commands.specs.declared.outcomes.Outcome.{Outcome}
use Rattle.cam6_commands.specs.declared.outcomes.Outcome.TheVariants as outcome
use Rattle.cam6_commands.specs.declared.refused.Refused.{Refused}
use Rattle.cam6_commands.specs.declared.refused.Refused.TheVariants as why
use Rattle.cam6_slot.specs.Parking.{StoredQueued}
use Rattle.cam6_station.specs.Calls.{GoesOn}
use Rattle.cam6_station.specs.Held.{Manned, Held, held_left, held_home}
use Rattle.cam6_station.specs.Held as board
use Rattle.cam6_core.specs.Goes.{Moves}
use Rattle.cam6_core.specs.Good.{Good}
use Rattle.cam6_core.specs.Model.{Seat, idle, loaded, User, Model, user, seat, at_stage, over}
use Rattle.cam6_core.specs.Model.{with_both, with_seat, band, transition}
use Rattle.cam6_core.specs.Refusals.{Posture, posture, first, is_missing, is_dead, loaded_refusal}
use Rattle.cam6_core.specs.State.{State, at_number, with_board}
use Rattle.cam6_core.specs.declared.parts.Whereabouts.{Whereabouts}
use Rattle.cam6_core.specs.declared.parts.Whereabouts.TheVariants as whereabouts
use Rattle.cam6_core.proofs.Boards.{band_more, repaired}
use Rattle.cam6_core.proofs.Inversions.{at_work}
use Rattle.cam6_core.proofs.Numbers.{one_of, within, set_here, set_else}
use Rattle.cam6_handoff.specs.Rule.{Shared, Rule, At}
use Rattle.cam6_handoff.specs.declared.rule.View.{View}
use Rattle.cam6_handoff.specs.declared.rule.View.TheVariants.{First, Unseated, Rests, Waits, Idle}
use Rattle.cam6_handoff.proofs.Keeps.{sit_keeps, unseated_row, cuts_desk, cuts_board}
use Rattle.cam6_handoff_laws.specs.Actions.{IsCut, Bands, Repairs, Caches, CutsDesk, CutsBoard, Sits}
use Rattle.cam6_handoff_laws.specs.Actions as act
use Rattle.cam6_handoff_laws.specs.Configurations.{Configuration, WordSays, IsLoadedWith}
use Rattle.cam6_handoff_laws.specs.Configurations.{IsSaid, IsAtModel}
use Rattle.cam6_handoff_laws.specs.Executions.{AreEvents, put_by, told_by}
use Rattle.cam6_handoff_laws.proofs.Awaited.{AreAwaited, view_awaited}
use Rattle.cam6_handoff_laws.proofs.Going.{goes_on, by_event}
use Rattle.cam6_handoff_laws.proofs.Tables.{takes_it, word_here, word_else, home_else}
use Rattle.cam6_handoff_laws.proofs.Words.{stays_said}

abbrev repair_reason : Option Posture → Option Refused
repair_reason k = first
    ((is_missing k, why.NoSuchNumber) ∷ (not (is_dead k), why.BoardIsNotDead) ∷ [])

module _ (users : ℕ) (k next : Configuration) (a : Model) (at : IsAtModel users k a) where
  -- the table and the users stay, and each user's board
  table_stays : next.table ≡ k.table → next.held.users ≡ k.held.users →
      ((row b : ℕ) (h : Held) → IsLoadedWith k row b h → (g : Held) × IsLoadedWith next row b g) →
      IsSaid users next
  table_stays table same boards = record {
    rule = subst (Rule users) (sym table) at.said.rule;
    long = ap length same ∙ at.said.long;
    says = λ row x there. stays_said k next row x
        (ap (λ (t : Shared). slice_index t.words row) table)
        (ap (λ (t : Shared). get_elem? t.homes row) table) (boards row)
        (at.said.says row x (ap (λ us. at_number us (suc row)) (sym same) ∙ there));
  }

  same_awaited : next.table ≡ k.table → AreAwaited next.table.views a.users
  same_awaited table =
      subst (λ (t : Shared). AreAwaited t.views a.users) (sym table) at.awaited

  -- one board changes, and stays loaded for whom it was loaded
  board_stays : (b : ℕ) (old new : Manned) → next.held ≡ with_board k.held b new →
      slice_get k.held.boards b ≡ Some old →
      ((row : ℕ) (h : Held) → old ≡ board.loaded (suc row) h →
      (g : Held) × (new ≡ board.loaded (suc row) g)) →
      (row d : ℕ) (h : Held) → IsLoadedWith k row d h → (g : Held) × IsLoadedWith next row d g
  board_stays b old new held there law row d h on = dite (ℕ_discrete d b)
      (λ same.
      let theirs = law row h (one_of (slice_get k.held.boards b) old (board.loaded (suc row) h) there
      (subst (λ (i : ℕ). slice_get k.held.boards i ≡ Some (board.loaded (suc row) h)) same on)) in (
        theirs.0,
        ap (λ (s : State). slice_get s.boards d) held ∙
            ap (slice_get (set k.held.boards b new)) same ∙
            set_here k.held.boards b new (within k.held.boards b old there) ∙ ap Some theirs.1,
      ))
      (λ apart. (
        h,
        ap (λ (s : State). slice_get s.boards d) held ∙
            set_else k.held.boards b d new apart ∙ on,
      ))

  pub bands : (b : ℕ) → Bands k b next →
      (rs : List Outcome) × AreEvents users a (event.Band b ∷ []) rs
      (λ v. put_by v (act.band b)) (λ v. told_by v (act.band b)) next
  bands b does =
      let v = does.user in
      let on = does.on in
      let then = does.then in
      let goes_further : GoesOn on then = does.call.2 in
      let p : User = user a.users v in
      let r = outcome.Banded (held_left then) in
      let work = at_work a.users b v on (seat a.boards b)
      (at.good.boards b (board.loaded v on) does.loaded) in
      let goes = goes_on k.held next.held (event.Band b) r
      (subst (λ (o : Option Manned). loaded_refusal (option_map posture o) ≡ None)
      (sym does.loaded) refl)
      (subst (λ (s : State). Moves k.held (event.Band b) r s) (sym does.held)
      (band_more k.held b v on does.loaded then goes_further)) in
      let some : 0 < held_left then = goes_further.some in
      let less : held_left then + 1 ≡ held_left on = goes_further.left in
      let not_last : (held_left on == 1) ≡ false =
      ne_eqb (held_left on) 1 (λ e. omega (arith, e, less, some)) in
      let m = with_seat a b (loaded v (held_left on - 1) (held_home on)) in
      let leads : (transition a (event.Band b)).0 ≡ m =
      ap (λ (t : Seat). (band a b t).0) work.0 ∙
      ap (λ (z : Bool). (cond {A = Model × Outcome} z
      (with_both a v (at_stage p (over p.stage)) b idle, outcome.Banded 0)
      (m, outcome.Banded (held_left on - 1))).0) not_last in
      let said = table_stays does.table (ap (λ (s : State). s.users) does.held)
      (board_stays b (board.loaded v on) (board.loaded v then) does.held does.loaded
      (λ row h e. still_theirs row h v on then e)) in (
        r ∷ [],
        by_event users k next a m (event.Band b) r at goes refl leads said (same_awaited does.table),
      )
    where
      still_theirs : (row : ℕ) (h : Held) (v : ℕ) (on then : Held) →
          board.loaded v on ≡ board.loaded (suc row) h →
          (g : Held) × (board.loaded v then ≡ board.loaded (suc row) g)
      still_theirs row h v on then e =
          let same : v ≡ suc row = cc e in (then, ap (λ (n : ℕ). board.loaded n then) same)

  pub repairs : (b : ℕ) → Repairs k b next →
      (rs : List Outcome) × AreEvents users a (event.Repair b ∷ []) rs
      (λ v. put_by v (act.repair b)) (λ v. told_by v (act.repair b)) next
  repairs b does =
      let goes = goes_on k.held next.held (event.Repair b) outcome.Repaired
      (subst (λ (o : Option Manned). repair_reason (option_map posture o) ≡ None)
      (sym does.dead) refl)
      (subst (λ (s : State). Moves k.held (event.Repair b) outcome.Repaired s) (sym does.held)
      (repaired k.held b does.dead)) in
      let said = table_stays does.table (ap (λ (s : State). s.users) does.held)
      (board_stays b board.dead board.idle does.held does.dead (λ row h e. nobodys row h e)) in (
        outcome.Repaired ∷ [],
        by_event users k next a (with_seat a b idle) (event.Repair b) outcome.Repaired at goes refl
            refl said (same_awaited does.table),
      )
    where
      nobodys : (row : ℕ) (h : Held) → board.dead ≡ board.loaded (suc row) h →
          (g : Held) × (board.idle ≡ board.loaded (suc row) g)
      nobodys row h e = cc e

  pub caches : Caches k next → IsAtModel users next a
  caches does = record {
    said = table_stays does.table (ap (λ (s : State). s.users) does.held)
        (λ row b h on. (h, ap (λ (s : State). slice_get s.boards b) does.held ∙ on));
    good = subst (λ (s : State). Good s a) (sym does.held) (record {
      users_long = at.good.users_long;
      boards_long = at.good.boards_long;
      users = at.good.users;
      boards = at.good.boards;
      out = at.good.out;
      tables = does.true_ones;
    });
    awaited = same_awaited does.table;
  }

  -- a cut changes no word, no slot and no user
  cut_is_none : (seat : ℕ) (old new cut : View) → IsCut k.table seat old new cut next.table →
      Rule users next.table → next.held ≡ k.held →
      ((row : ℕ) (asked : StoredQueued) → new ≡ Waits row asked → ⊥) →
      ((row : ℕ) (asked : StoredQueued) → cut ≡ Waits row asked → ⊥) → IsAtModel users next a
  cut_is_none seat old new cut does rule held nay neither = record {
    said = record {
      rule = rule;
      long = ap (λ (s : State). length s.users) held ∙ at.said.long;
      says = λ row x there. stays_said k next row x
          (ap (λ (t : Shared). slice_index t.words row) does.after)
          (ap (λ (t : Shared). get_elem? t.homes row) does.after)
          (λ b h on. (h, ap (λ (s : State). slice_get s.boards b) held ∙ on))
          (at.said.says row x
          (ap (λ (s : State). at_number s.users (suc row)) (sym held) ∙ there));
    };
    good = subst (λ (s : State). Good s a) (sym held) at.good;
    awaited = λ j row asked there.
        let here : At (set k.table.views seat new ++ cut ∷ []) j (Waits row asked) =
        subst (λ (t : Shared). At t.views j (Waits row asked)) does.after there in
        ⊎_elim (λ before. view_awaited k.table.views a.users seat new nay at.awaited j row asked before)
        (λ last. absurd (neither row asked last))
        (at_snoc (set k.table.views seat new) cut (Waits row asked) j here);
  }

  first_waits_not : (d b row : ℕ) (asked : StoredQueued) → First d b ≡ Waits row asked → ⊥
  first_waits_not d b row asked e = cc e

  unseated_waits_not : (v row : ℕ) (asked : StoredQueued) → Unseated v ≡ Waits row asked → ⊥
  unseated_waits_not v row asked e = cc e

  idle_waits_not : (b row : ℕ) (asked : StoredQueued) → Idle b ≡ Waits row asked → ⊥
  idle_waits_not b row asked e = cc e

  rests_waits_not : (v row : ℕ) (asked : StoredQueued) → Rests v ≡ Waits row asked → ⊥
  rests_waits_not v row asked e = cc e

  pub cuts_a_desk : (row : ℕ) → CutsDesk k row next → IsAtModel users next a
  cuts_a_desk row does =
      cut_is_none does.seat (First row does.boards) (First (row + 1) does.boards) (Unseated row)
      does.cut
      (subst (Rule users) (sym does.cut.after)
      (cuts_desk users does.seat does.boards row k.table at.said.rule does.cut.at)) does.held
      (first_waits_not (row + 1) does.boards) (unseated_waits_not row)

  pub cuts_a_board : (b : ℕ) → CutsBoard k b next → IsAtModel users next a
  cuts_a_board b does =
      cut_is_none does.seat (First does.desks b) (First does.desks (b + 1)) (Idle b) does.cut
      (subst (Rule users) (sym does.cut.after)
      (cuts_board users does.seat does.desks b (b + 1) b k.table at.said.rule does.cut.at)) does.held
      (first_waits_not does.desks (b + 1)) (idle_waits_not b)

  pub sits : (row : ℕ) → row < users → Sits k row next → IsAtModel users next a
  sits row small does =
      let n = slice_index k.table.words row in
      let to = takes_it k.table next.table row n does.seat (Unseated row) (Rests row) None does.step in
      let wide : row < length k.table.words = omega (arith, small, at.said.rule.words) in
      let new = unseated_row k.table.words k.table.homes k.table.views row does.seat does.step.at
      (at.said.rule.rows row small) in
      let here : slice_index next.table.words row ≡ n =
      word_here k.table next.table row n does.seat (Rests row) none to wide in record {
        said = record {
          rule = subst (Rule users) (sym does.step.after)
              (sit_keeps users k.table at.said.rule row does.seat small does.step.at);
          long = ap (λ (s : State). length s.users) does.held ∙ at.said.long;
          says = λ j x there.
              let old : at_number k.held.users (suc j) ≡ Some x =
              ap (λ (s : State). at_number s.users (suc j)) (sym does.held) ∙ there in
              dite (ℕ_discrete j row)
              (λ same. rests_there j x (ap (slice_index k.table.words) same ∙ new.0)
              (ap (slice_index next.table.words) same ∙ here ∙ new.0) (at.said.says j x old))
              (λ apart. stays_said k next j x
              (word_else k.table next.table row n does.seat (Rests row) none to j apart)
              (home_else k.table next.table row n does.seat (Rests row) none to j apart)
              (λ b h on. (h, ap (λ (s : State). slice_get s.boards b) does.held ∙ on))
              (at.said.says j x old));
        };
        good = subst (λ (s : State). Good s a) (sym does.held) at.good;
        awaited = subst (λ (vs : List View). AreAwaited vs a.users) (sym to.views)
            (view_awaited k.table.views a.users does.seat (Rests row) (rests_waits_not row)
            at.awaited);
      }
    where
      rests_there : (j : ℕ) (x : Whereabouts) → slice_index k.table.words j ≡ 0 →
          slice_index next.table.words j ≡ 0 → WordSays k j x → WordSays next j x
      rests_there j (whereabouts.Resting r) old new says = new
      rests_there j (whereabouts.Queued q) old new says =
          absurd (let w = says.0 in omega (arith, w, old))
      rests_there j whereabouts.Out old new says =
          absurd (let w = says.2 in omega (arith, w, old))
      rests_there j (whereabouts.Finished f) old new says =
          absurd (let w = says.0 in omega (arith, w, old))
