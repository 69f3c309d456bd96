-- Each kind of step keeps the rule.
use Rattle.std.proofs.Common.{◌≡◌, ◌≢◌, ℕ, zero, suc, ◌+◌, ◌<◌, Bool, true, false, eqb, List, []}
use Rattle.std.proofs.Common.{◌∷◌, ◌++◌, map, replicate, take, ◌≤◌, length, get_or, set, Some, None}
use Rattle.std.proofs.Common.{le_refl, sym, refl, ap, ◌∙◌, subst, arith, length-set}
use Rattle.std.proofs.Common.{get_or-set_same, ◌⊎◌, inl, inr, ⊎_elim, ne_eqb}
use mathlib.Core.Option.{some, none, some-injective, some-ne-none}
use mathlib.Core.Option as maybe
use mathlib.Core.Logic.{dite}
use native.Mathlib.Decide.{ℕ_discrete}
use lib.ListN.{get_elem?}
use prog.Atomic.{either}
use Rattle.atomic_table.specs.Table.{step, stepped, Allows, opening, Splits, Valid, carried_after}
use Rattle.atomic_table.specs.Table.{keeps, takes, gives}
use Rattle.atomic_table.proofs.Lists.{at_set, set_here, set_else, set_again, at_last, at_snoc}
use Rattle.atomic_table.proofs.Lists.{exchanged}
use Rattle.cam6_slot.specs.Finished.{StoredFinished as FinishedPlace}
use Rattle.cam6_slot.specs.Parking.{StoredQueued as QueuedPlace}
use Rattle.cam6_slot.specs.declared.resting.Place.TheVariants.{Queued, Finished}
use Rattle.cam6_handoff.specs.Rule.{Slot, Shared, Seated, At, NoOne, Only, Desk, Row, uncut}
use Rattle.cam6_handoff.specs.Rule.{unseated, resting, queued, out, finished, Rule, is_first}
use Rattle.cam6_handoff.specs.Rule.{is_desk_of, is_board_of, StandsForAsked, IsAskedDone}
use Rattle.cam6_handoff.specs.Steps.{PutTells, TakeTells, BackTells, DoneTells, CollectTells}
use Rattle.cam6_handoff.specs.Steps.{SitTells}
use Rattle.cam6_handoff.specs.declared.rule.View.{View}
use Rattle.cam6_handoff.specs.declared.rule.View.TheVariants.{First, Unseated, Rests, Waits, Idle}
use Rattle.cam6_handoff.specs.declared.rule.View.TheVariants.{Holds}
use Rattle.cam6_handoff.proofs.Rows.{clash, self_eqb, one_at, moved, Changes, same_set, same_snoc}
use Rattle.cam6_handoff.proofs.Rows.{same_after, SameBy, only, no_one, carry}

other_eqb : (u x : ℕ) → x ≢ u → eqb u x ≡ false
other_eqb u x ne = ne_eqb u x (λ e. ne (sym e))

set_get : (ws : List ℕ) (u : ℕ) → set ws u (get_or ws u 0) ≡ ws
set_get [] u = refl
set_get (x ∷ xs) zero = refl
set_get (x ∷ xs) (suc u) = ap (λ (l : List ℕ). x ∷ l) (set_get xs u)

at_end : (vs : List View) (w v : View) (j : ℕ) → At (vs ++ w ∷ []) j v → At vs j v ⊎ (j ≡ length vs)
at_end [] w v zero e = inr refl
at_end [] w v (suc j) e = absurd (some-ne-none v (sym e))
at_end (x ∷ xs) w v zero e = inl e
at_end (x ∷ xs) w v (suc j) e = ⊎_elim inl (λ is. inr (ap suc is)) (at_end xs w v j e)

at_here : (vs : List View) (i : ℕ) (v w : View) → At vs i v → At (set vs i w) i w
at_here [] i v w e = absurd (some-ne-none v (sym e))
at_here (x ∷ xs) zero v w e = refl
at_here (x ∷ xs) (suc i) v w e = at_here xs i v w e

-- how a change of one view moves who is picked
module _ (p : View → Bool) (vs : List View) (id : ℕ) (w : View) where
  only_kept : (d : ℕ) → Only p vs d → id ≡ d → Only p (set vs id w) id
  only_kept d one is j y a e = ⊎_elim (λ t. t.0) (λ t. one j y t.1 e ∙ sym is)
      (at_set vs id j w y a)

  only_new : NoOne p vs → Only p (set vs id w) id
  only_new nobody j y a e = ⊎_elim (λ t. t.0) (λ t. absurd (nobody j y t.1 e))
      (at_set vs id j w y a)

  none_kept : NoOne p vs → p w ≡ false → NoOne p (set vs id w)
  none_kept nobody f j y a e = ⊎_elim (λ t. clash (p w) (ap p t.1 ∙ e) f) (λ t. nobody j y t.1 e)
      (at_set vs id j w y a)

  none_left : (d : ℕ) → Only p vs d → id ≡ d → p w ≡ false → NoOne p (set vs id w)
  none_left d one is f j y a e = ⊎_elim (λ t. clash (p w) (ap p t.1 ∙ e) f)
      (λ t. t.0 (one j y t.1 e ∙ sym is)) (at_set vs id j w y a)

  only_else : (v : View) (d : ℕ) → At vs id v → p v ≡ false → p w ≡ false → Only p vs d →
      Only p (set vs id w) d
  only_else v d at nv nw = only p vs (set vs id w) d (same_set p vs id v w at nv nw)

-- what the row is, where a view or the word is known
module _ (ws : List ℕ) (hs : List (maybe.Option Slot)) (vs : List View) (u id : ℕ) where
  abbrev pub Mine : Type 0
  Mine = (get_or ws u 0 ≡ 0) × (get_elem? hs u ≡ some none) × Only (is_desk_of u) vs id ×
      NoOne (is_board_of u) vs

  pub rests_row : At vs id (Rests u) → Row ws hs vs u → Mine
  rests_row at (uncut w h nd nb) = absurd (nd id (Rests u) at (self_eqb u))
  rests_row at (unseated d w h k nb) =
      absurd (let e = one_at vs d id (Unseated u) (Rests u) k.0 at
      (k.1 id (Rests u) at (self_eqb u)) in cc)
  rests_row at (resting d w h k nb) =
      (w, h, subst (Only (is_desk_of u) vs) (sym (k.1 id (Rests u) at (self_eqb u))) k.1, nb)
  rests_row at (queued d asked q w h st k nb) =
      absurd (let e = one_at vs d id (Waits u asked) (Rests u) k.0 at
      (k.1 id (Rests u) at (self_eqb u)) in cc)
  rests_row at (out d e b asked q w h st k l) =
      absurd (let e = one_at vs d id (Waits u asked) (Rests u) k.0 at
      (k.1 id (Rests u) at (self_eqb u)) in cc)
  rests_row at (finished d asked f w h st k nb) =
      absurd (let e = one_at vs d id (Waits u asked) (Rests u) k.0 at
      (k.1 id (Rests u) at (self_eqb u)) in cc)

  abbrev pub New : Type 0
  New = (get_or ws u 0 ≡ 0) × (get_elem? hs u ≡ some (some None)) × Only (is_desk_of u) vs id ×
      NoOne (is_board_of u) vs

  pub unseated_row : At vs id (Unseated u) → Row ws hs vs u → New
  unseated_row at (uncut w h nd nb) = absurd (nd id (Unseated u) at (self_eqb u))
  unseated_row at (resting d w h k nb) =
      absurd (let e = one_at vs d id (Rests u) (Unseated u) k.0 at
      (k.1 id (Unseated u) at (self_eqb u)) in cc)
  unseated_row at (unseated d w h k nb) =
      (w, h, subst (Only (is_desk_of u) vs) (sym (k.1 id (Unseated u) at (self_eqb u))) k.1, nb)
  unseated_row at (queued d asked q w h st k nb) =
      absurd (let e = one_at vs d id (Waits u asked) (Unseated u) k.0 at
      (k.1 id (Unseated u) at (self_eqb u)) in cc)
  unseated_row at (out d e b asked q w h st k l) =
      absurd (let e = one_at vs d id (Waits u asked) (Unseated u) k.0 at
      (k.1 id (Unseated u) at (self_eqb u)) in cc)
  unseated_row at (finished d asked f w h st k nb) =
      absurd (let e = one_at vs d id (Waits u asked) (Unseated u) k.0 at
      (k.1 id (Unseated u) at (self_eqb u)) in cc)

  abbrev pub Ready : Type 0
  Ready = (d : ℕ) × (asked : QueuedPlace) × (q : QueuedPlace) ×
      (get_elem? hs u ≡ some (some (Some (Queued q)))) × StandsForAsked asked q ×
      Desk ws hs vs u d (Waits u asked) × NoOne (is_board_of u) vs

  pub ready_row : get_or ws u 0 ≡ 1 → Row ws hs vs u → Ready
  ready_row one (uncut w h nd nb) = absurd (omega arith)
  ready_row one (unseated d w h k nb) = absurd (omega arith)
  ready_row one (resting d w h k nb) = absurd (omega arith)
  ready_row one (queued d asked q w h st k nb) = (d, asked, q, h, st, k, nb)
  ready_row one (out d e b asked q w h st k l) = absurd (omega arith)
  ready_row one (finished d asked f w h st k nb) = absurd (omega arith)

  abbrev pub Out : ℕ → QueuedPlace → Type 0
  Out b q = (get_elem? hs u ≡ some none) × (get_or ws u 0 ≡ 3 + b) × Only (is_board_of u) vs id ×
      ((d : ℕ) × (asked : QueuedPlace) × StandsForAsked asked q × Desk ws hs vs u d (Waits u asked))

  pub holds_row : (b : ℕ) (q : QueuedPlace) → At vs id (Holds b u q) → Row ws hs vs u → Out b q
  holds_row b q at (uncut w h nd nb) = absurd (nb id (Holds b u q) at (self_eqb u))
  holds_row b q at (unseated d w h k nb) = absurd (nb id (Holds b u q) at (self_eqb u))
  holds_row b q at (resting d w h k nb) = absurd (nb id (Holds b u q) at (self_eqb u))
  holds_row b q at (queued d asked q' w h st k nb) = absurd (nb id (Holds b u q) at (self_eqb u))
  holds_row b q at (out d e b' asked q' w h st k l) = let same = l.1 id (Holds b u q) at
      (self_eqb u) in let is = one_at vs e id (Holds b' u q') (Holds b u q) l.0 at same in
      let sb : b' ≡ b = cc in let sq : q' ≡ q = cc in (
        h,
        w ∙ ap (λ (z : ℕ). 3 + z) sb,
        subst (Only (is_board_of u) vs) (sym same) l.1,
        (d, asked, subst (λ (z : QueuedPlace). StandsForAsked asked z) sq st, k),
      )
  holds_row b q at (finished d asked f w h st k nb) = absurd (nb id (Holds b u q) at (self_eqb u))

  abbrev pub Ended : QueuedPlace → Type 0
  Ended asked = (f : FinishedPlace) × (get_elem? hs u ≡ some (some (Some (Finished f)))) ×
      IsAskedDone asked f × Only (is_desk_of u) vs id × NoOne (is_board_of u) vs

  pub done_row : (asked : QueuedPlace) → At vs id (Waits u asked) → get_or ws u 0 ≡ 2 → Row ws hs vs u →
      Ended asked
  done_row asked at two (uncut w h nd nb) = absurd (omega arith)
  done_row asked at two (unseated d w h k nb) = absurd (omega arith)
  done_row asked at two (resting d w h k nb) = absurd (omega arith)
  done_row asked at two (queued d asked' q w h st k nb) = absurd (omega arith)
  done_row asked at two (out d e b asked' q w h st k l) = absurd (omega arith)
  done_row asked at two (finished d asked' f w h st k nb) = let same = k.1 id (Waits u asked) at
      (self_eqb u) in let is = one_at vs d id (Waits u asked') (Waits u asked) k.0 at same in
      let sa : asked' ≡ asked = cc in (
        f,
        h,
        subst (λ (z : QueuedPlace). IsAskedDone z f) sa st,
        subst (Only (is_desk_of u) vs) (sym same) k.1,
        nb,
      )

put_changes : (u : ℕ) (asked : QueuedPlace) → Changes u (Rests u) (Waits u asked)
put_changes u asked = record {
  desk = λ x. refl;
  others = λ x ne.
      (other_eqb u x ne, refl, refl);
  not_first = (refl, refl);
}

collect_changes : (u : ℕ) (asked : QueuedPlace) → Changes u (Waits u asked) (Rests u)
collect_changes u asked =
    record {
      desk = λ x. refl;
      others = λ x ne. (other_eqb u x ne, refl, refl);
      not_first =
          (refl, refl);
    }

sit_changes : (u : ℕ) → Changes u (Unseated u) (Rests u)
sit_changes u = record {
  desk = λ x. refl;
  others = λ x ne.
      (other_eqb u x ne, refl, refl);
  not_first = (refl, refl);
}

take_changes : (b u : ℕ) (q : QueuedPlace) → Changes u (Idle b) (Holds b u q)
take_changes b u q = record {
  desk = λ x. refl;
  others = λ x ne.
      (refl, refl, other_eqb u x ne);
  not_first = (refl, refl);
}

give_changes : (b u : ℕ) (q : QueuedPlace) → Changes u (Holds b u q) (Idle b)
give_changes b u q = record {
  desk = λ x. refl;
  others = λ x ne.
      (refl, other_eqb u x ne, refl);
  not_first = (refl, refl);
}

-- the desk's view stays where a board's changes
other_desk : (s : Shared) (id b u : ℕ) (q : QueuedPlace) (d : ℕ) (asked : QueuedPlace) (w : View) →
    At s.views id (Holds b u q) → is_desk_of u w ≡ false → Desk s.words s.homes s.views u d
    (Waits u asked)
    → At (set s.views id w) d (Waits u asked) × Only (is_desk_of u) (set s.views id w) d
other_desk s id b u q d asked w at nw k = (
  set_else s.views id d w (λ is. let e = one_at s.views id d (Holds b u q) (Waits u asked) at k.0
      is in cc) ∙ k.0,
  only_else (is_desk_of u) s.views id w (Holds b u q) d at refl nw k.1,
)

module _ (users : ℕ) where
  -- what a step makes of a table, as `Allows` asks it
  abbrev Goes : Shared → ℕ → ℕ → Seated → (Seated → Type 0) → ℕ → Type 0
  Goes s u id me then n = (w : View) × (a : _) × Valid s.homes me.1 a ×
      Rule users (stepped s u n id me.1 w a) × then (w, carried_after me.1 a)

  stays : (s : Shared) (r : Rule users s) (u id : ℕ) (me : Seated) (then : Seated → Type 0) →
      At s.views id me.0 → then me → Goes s u id me then (get_or s.words u 0)
  stays s r u id me then at t = (
    me.0,
    keeps,
    tt,
    subst (λ (z : List ℕ × List View). Rule users record {
      words = z.0;
      homes = s.homes;
      views =
          z.1;
    }) (λ i. (sym (set_get s.words u) i, sym (set_again s.views id me.0 at) i)) r,
    t,
  )

  pub put_keeps : (s : Shared) → Rule users s → (u id n : ℕ) (q : QueuedPlace) → n ≡ 1 → u < users →
      StandsForAsked q q → At s.views id (Rests u) →
      Rule users (stepped s u n id ((u, Some (Queued q)) ∷ []) (Waits u q) gives)
  put_keeps s r u id n q is small st at = let w : View = Waits u q in let row =
      rests_row s.words s.homes s.views u id at (r.rows u small) in
      let wide : u < length s.words = (let e = r.words in omega arith) in
      let wide' : u < length s.homes = (let e = r.slots in omega arith) in
      moved users s r u n id (Rests u) w (set s.homes u (some (Some (Queued q)))) at
      (put_changes u q) (length-set s.homes u _) (λ j ne. set_else s.homes u j _ ne)
      (queued id q q (get_or-set_same s.words u n 0 wide ∙ is) (set_here s.homes u _ wide') st
      (at_here s.views id (Rests u) w at, only_kept (is_desk_of u) s.views id w id row.2 refl)
      (none_kept (is_board_of u) s.views id w row.3 refl))

  pub puts : (slots u id n : ℕ) (q : QueuedPlace) → n ≡ 1 → u < users → StandsForAsked q q
      → Allows (Rule users) slots id (Rests u, (u, Some (Queued q)) ∷ []) u (λ _. n)
      (PutTells (step slots u n 0 none) (Rests u, (u, Some (Queued q)) ∷ []))
  puts slots u id n q is small st s r _ at _ = let row =
      rests_row s.words s.homes s.views u id at (r.rows u small) in (
        Waits u q,
        gives,
        tt,
        put_keeps s r u id n q is small st at,
        (
          row.0,
          (λ q' e. let head : ◌≡◌ {A = ℕ × Slot} (u, Some (Queued q)) (u, Some (Queued q')) =
              cc in let part : ◌≡◌ {A = Slot} (Some (Queued q)) (Some (Queued q')) =
              ap (λ (z : ℕ × Slot). z.1) head in let same : q ≡ q' = cc in λ i.
              (Waits u (same i), [])),
          is,
        ),
      )

  pub back_keeps : (s : Shared) → Rule users s → (u id b n : ℕ) (q q' : QueuedPlace) → n ≡ 1 →
      u < users → ((asked : QueuedPlace) → StandsForAsked asked q → StandsForAsked asked q') →
      At s.views id (Holds b u q) →
      Rule users (stepped s u n id ((u, Some (Queued q')) ∷ []) (Idle b) gives)
  back_keeps s r u id b n q q' is small law at = let row = holds_row s.words s.homes s.views u
      id b q at (r.rows u small) in let t = row.3 in
      let wide : u < length s.words = (let e = r.words in omega arith) in
      let wide' : u < length s.homes = (let e = r.slots in omega arith) in
      moved users s r u n id (Holds b u q) (Idle b) (set s.homes u (some (Some (Queued q')))) at
      (give_changes b u q) (length-set s.homes u _) (λ j ne. set_else s.homes u j _ ne)
      (queued t.0 t.1 q' (get_or-set_same s.words u n 0 wide ∙ is)
      (set_here s.homes u _ wide') (law t.1 t.2)
      (other_desk s id b u q t.0 t.1 (Idle b) at refl t.3)
      (none_left (is_board_of u) s.views id (Idle b) id row.2 refl refl))

  pub backs : (slots u id b n : ℕ) (q q' : QueuedPlace) → n ≡ 1 → u < users →
      ((asked : QueuedPlace) → StandsForAsked asked q → StandsForAsked asked q')
      → Allows (Rule users) slots id (Holds b u q, (u, Some (Queued q')) ∷ []) u (λ _. n)
      (BackTells (step slots u n 0 none) (Holds b u q, (u, Some (Queued q')) ∷ []))
  backs slots u id b n q q' is small law s r _ at _ = let row = holds_row s.words s.homes s.views
      u id b q at (r.rows u small) in (
        Idle b,
        gives,
        tt,
        back_keeps s r u id b n q q' is small law at,
        (row.1, refl, is),
      )

  pub done_keeps : (s : Shared) → Rule users s → (u id b n : ℕ) (q : QueuedPlace) (f : FinishedPlace) →
      n ≡ 2 → u < users → ((asked : QueuedPlace) → StandsForAsked asked q → IsAskedDone asked f) →
      At s.views id (Holds b u q) →
      Rule users (stepped s u n id ((u, Some (Finished f)) ∷ []) (Idle b) gives)
  done_keeps s r u id b n q f is small law at = let row = holds_row s.words s.homes s.views
      u id b q at (r.rows u small) in let t = row.3 in
      let wide : u < length s.words = (let e = r.words in omega arith) in
      let wide' : u < length s.homes = (let e = r.slots in omega arith) in
      moved users s r u n id (Holds b u q) (Idle b) (set s.homes u (some (Some (Finished f)))) at
      (give_changes b u q) (length-set s.homes u _) (λ j ne. set_else s.homes u j _ ne)
      (finished t.0 t.1 f (get_or-set_same s.words u n 0 wide ∙ is)
      (set_here s.homes u _ wide') (law t.1 t.2)
      (other_desk s id b u q t.0 t.1 (Idle b) at refl t.3)
      (none_left (is_board_of u) s.views id (Idle b) id row.2 refl refl))

  pub finishes : (slots u id b n : ℕ) (q : QueuedPlace) (f : FinishedPlace) → n ≡ 2 → u < users →
      ((asked : QueuedPlace) → StandsForAsked asked q → IsAskedDone asked f)
      → Allows (Rule users) slots id (Holds b u q, (u, Some (Finished f)) ∷ []) u (λ _. n)
      (DoneTells (step slots u n 0 none) (Holds b u q, (u, Some (Finished f)) ∷ []))
  finishes slots u id b n q f is small law s r _ at _ = let row = holds_row s.words s.homes s.views
      u id b q at (r.rows u small) in (
        Idle b,
        gives,
        tt,
        done_keeps s r u id b n q f is small law at,
        (row.1, refl, is),
      )

  pub take_keeps : (s : Shared) → Rule users s → (u id b n : ℕ) (q : QueuedPlace) → n ≡ 3 + b →
      u < users → At s.views id (Idle b) → get_or s.words u 0 ≡ 1 →
      get_elem? s.homes u ≡ some (some (Some (Queued q))) →
      Rule users (stepped s u n id [] (Holds b u q) (takes u (Some (Queued q))))
  take_keeps s r u id b n q is small at one home =
      let wide : u < length s.words = (let e = r.words in omega arith) in
      let row = ready_row s.words s.homes s.views u id one (r.rows u small) in
      let k = row.5 in
      let same : row.2 ≡ q = there row.2 (sym row.3 ∙ home) in
      moved users s r u n id (Idle b) (Holds b u q) (set s.homes u none) at (take_changes b u q)
      (length-set s.homes u _) (λ j ne. set_else s.homes u j _ ne)
      (out row.0 id b row.1 q (get_or-set_same s.words u n 0 wide ∙ is)
      (set_here s.homes u none (let e = r.slots in omega arith))
      (subst (λ (z : QueuedPlace). StandsForAsked row.1 z) same row.4) (
        set_else s.views id row.0 _
            (λ same. let e = one_at s.views id row.0 (Idle b) (Waits u row.1) at k.0 same in
            cc) ∙ k.0,
        only_else (is_desk_of u) s.views id (Holds b u q) (Idle b) row.0 at refl
            refl k.1,
      ) (
        at_here s.views id (Idle b) _ at,
        only_new (is_board_of u) s.views id
            (Holds b u q) row.6,
      ))
    where
      there : (p : QueuedPlace) → some (some (Some (Queued p))) ≡ some (some (Some (Queued q))) →
          p ≡ q
      there p e =
          let part : ◌≡◌ {A = Slot} (Some (Queued p)) (Some (Queued q)) =
          some-injective (Some (Queued p)) (Some (Queued q))
          (some-injective (some (Some (Queued p))) (some (Some (Queued q))) e) in cc

  pub took : (slots u id b old n : ℕ) → old ≡ 1 → n ≡ 3 + b → u < users
      → Allows (Rule users) slots id (Idle b, []) u (λ x. either (eqb x old) n x)
      (TakeTells (step slots u old n none) (Idle b, []))
  took slots u id b old n was is small s r _ at _ = let x : ℕ = get_or s.words u 0 in
      exchanged x old n (Goes s u id (Idle b, [])
      (TakeTells (step slots u old n none) (Idle b, []) x))
      (λ hit. let row = ready_row s.words s.homes s.views u id (hit ∙ was) (r.rows u small) in
      let q = row.2 in (
        Holds b u q,
        takes u (Some (Queued q)),
        row.3,
        take_keeps s r u id b n q is small at (hit ∙ was) row.3,
        ((λ _. (q, refl, is)), λ miss. absurd (miss (hit ∙ was))),
      ))
      (λ miss. stays s r u id (Idle b, []) (TakeTells (step slots u old n none) (Idle b, []) x) at
      ((λ hit. absurd (miss (hit ∙ sym was))), λ _. refl))

  pub collect_keeps : (s : Shared) → Rule users s → (u id n : ℕ) (asked : QueuedPlace)
      (slot : Slot) → n ≡ 0 → u < users → At s.views id (Waits u asked) → get_or s.words u 0 ≡ 2 →
      Rule users (stepped s u n id [] (Rests u) (takes u slot))
  collect_keeps s r u id n asked slot is small at two =
      let wide : u < length s.words = (let e = r.words in omega arith) in
      let row = done_row s.words s.homes s.views u id asked at two (r.rows u small) in
      moved users s r u n id (Waits u asked) (Rests u) (set s.homes u none) at
      (collect_changes u asked) (length-set s.homes u _) (λ j ne. set_else s.homes u j _ ne)
      (resting id (get_or-set_same s.words u n 0 wide ∙ is)
      (set_here s.homes u none (let e = r.slots in omega arith)) (
        at_here s.views id (Waits u asked) _ at,
        only_kept (is_desk_of u) s.views id
            (Rests u) id row.3 refl,
      )
      (none_kept (is_board_of u) s.views id (Rests u) row.4 refl))

  pub collects : (slots u id old n : ℕ) (asked : QueuedPlace) → old ≡ 2 → n ≡ 0 → u < users
      → Allows (Rule users) slots id (Waits u asked, []) u (λ x. either (eqb x old) n x)
      (CollectTells (step slots u old n none) (Waits u asked, []))
  collects slots u id old n asked was is small s r _ at _ = let x : ℕ = get_or s.words u 0 in
      exchanged x old n (Goes s u id (Waits u asked, [])
      (CollectTells (step slots u old n none) (Waits u asked, []) x))
      (λ hit. let row = done_row s.words s.homes s.views u id asked at (hit ∙ was)
      (r.rows u small) in let f = row.0 in (
        Rests u,
        takes u (Some (Finished f)),
        row.1,
        collect_keeps s r u id n asked (Some (Finished f)) is small at (hit ∙ was),
        (
          (λ _. (
            f,
            (λ other e. let sa : asked ≡ other = cc in
                subst (λ (z : QueuedPlace). IsAskedDone z f) sa row.2),
            refl,
            is,
          )),
          λ miss.
              absurd (miss (hit ∙ was)),
        ),
      ))
      (λ miss. stays s r u id (Waits u asked, [])
      (CollectTells (step slots u old n none) (Waits u asked, []) x) at
      ((λ hit. absurd (miss (hit ∙ sym was))), λ _. refl))

  pub sit_keeps : (s : Shared) → Rule users s → (u id : ℕ) → u < users →
      At s.views id (Unseated u) →
      Rule users (stepped s u (get_or s.words u 0) id [] (Rests u) (takes u None))
  sit_keeps s r u id small at = let x : ℕ = get_or s.words u 0 in
      let wide : u < length s.words = (let e = r.words in omega arith) in let row =
      unseated_row s.words s.homes s.views u id at (r.rows u small) in
      moved users s r u x id (Unseated u) (Rests u) (set s.homes u none) at (sit_changes u)
      (length-set s.homes u _) (λ j ne. set_else s.homes u j _ ne)
      (resting id (get_or-set_same s.words u x 0 wide ∙ row.0)
      (set_here s.homes u none (let e = r.slots in omega arith)) (
        at_here s.views id (Unseated u) _ at,
        only_kept (is_desk_of u) s.views id
            (Rests u) id row.2 refl,
      ) (none_kept (is_board_of u) s.views id (Rests u) row.3 refl))

  pub sits : (slots u id : ℕ) → u < users → Allows (Rule users) slots id (Unseated u, []) u (λ x. x)
      (SitTells (step slots u 0 0 none) (Unseated u, []))
  sits slots u id small s r _ at _ = let row =
      unseated_row s.words s.homes s.views u id at (r.rows u small) in (
        Rests u,
        takes u None,
        row.1,
        sit_keeps s r u id small at,
        refl,
      )

  -- cutting a seat: all but the first view, which counts down, and the new one stay
  after_cut : (p : View → Bool) (s : Shared) (id : ℕ) (v w z : View) → At s.views id v →
      p v ≡ false → p w ≡ false → p z ≡ false → SameBy p s.views (set s.views id w ++ z ∷ [])
  after_cut p s id v w z at nv nw nz = same_after p s.views (set s.views id w)
      (set s.views id w ++ z ∷ []) (same_set p s.views id v w at nv nw)
      (same_snoc p (set s.views id w) z nz)

  no_other_first : (s : Shared) (r : Rule users s) (id d b : ℕ) (w z : View) →
      At s.views id (First d b) → is_first z ≡ false → (j d' b' : ℕ) →
      At (set s.views id w ++ z ∷ []) j (First d' b') → (j ≡ id) × (w ≡ First d' b')
  no_other_first s r id d b w z at nz j d' b' a = ⊎_elim
      (λ old. ⊎_elim (λ t. t)
      (λ t. absurd (t.0 (r.one_first j id (First d' b') (First d b) t.1 at refl refl)))
      (at_set s.views id j w (First d' b') old))
      (λ last. absurd (clash (is_first z) (ap is_first last) nz))
      (at_snoc (set s.views id w) z (First d' b') j a)

  two_firsts : (s : Shared) (r : Rule users s) (id d b d₂ b₂ : ℕ) (z : View) →
      At s.views id (First d b) → is_first z ≡ false → (i j : ℕ) (v y : View)
      → At (set s.views id (First d₂ b₂) ++ z ∷ []) i v →
      At (set s.views id (First d₂ b₂) ++ z ∷ []) j y → is_first v ≡ true → is_first y ≡ true →
      i ≡ j
  two_firsts s r id d b d₂ b₂ z at nz i j v y a e fv fy = first_at i v a fv ∙
      sym (first_at j y e fy) where
        first_at : (i : ℕ) (v : View) → At (set s.views id (First d₂ b₂) ++ z ∷ []) i v →
            is_first v ≡ true → i ≡ id
        first_at i v a fv = ⊎_elim
            (λ old. ⊎_elim (λ t. t.0) (λ t. r.one_first i id v (First d b) t.1 at fv refl)
            (at_set s.views id i (First d₂ b₂) v old))
            (λ last. absurd (clash (is_first z) (ap is_first last ∙ fv) nz))
            (at_snoc (set s.views id (First d₂ b₂)) z v i a)

  cut_row : (s : Shared) (id b u : ℕ) → At s.views id (First u b) → NoOne (is_desk_of u) s.views →
      Row s.words s.homes s.views u → Row s.words s.homes
      (set s.views id (First (u + 1) b) ++ Unseated u ∷ []) u
  cut_row s id b u at nobody (uncut w h nd nb) = let vs : List View =
      set s.views id (First (u + 1) b) in let quiet : NoOne (is_desk_of u) vs =
      none_kept (is_desk_of u) s.views id (First (u + 1) b) nd refl in
      unseated (length vs) w h (
        at_last vs (Unseated u) (length vs) refl,
        λ j y a e. ⊎_elim (λ old. absurd (quiet j y old e)) (λ is. is)
            (at_end vs (Unseated u) y j a),
      ) (no_one (is_board_of u) s.views (vs ++ Unseated u ∷ [])
      (after_cut (is_board_of u) s id (First u b) (First (u + 1) b) (Unseated u) at refl refl
      refl) nb)
  cut_row s id b u at nobody (unseated e w h k nb) = absurd (nobody e _ k.0 (self_eqb u))
  cut_row s id b u at nobody (resting e w h k nb) = absurd (nobody e _ k.0 (self_eqb u))
  cut_row s id b u at nobody (queued e asked q w h st k nb) = absurd (nobody e _ k.0 (self_eqb u))
  cut_row s id b u at nobody (out e e' b' asked q w h st k l) = absurd (nobody e _ k.0 (self_eqb u))
  cut_row s id b u at nobody (finished e asked f w h st k nb) = absurd (nobody e _ k.0 (self_eqb u))

  pub cuts_desk : (id b u : ℕ) → Splits (Rule users) id (First u b) (First (u + 1) b) (Unseated u)
  cuts_desk id b u s r at = let vs : List View = set s.views id (First (u + 1) b) in record {
    words = r.words;
    slots = r.slots;
    rows = λ x small. dite (ℕ_discrete x u)
        (λ same. subst (λ (z : ℕ). Row s.words s.homes (vs ++ Unseated u ∷ []) z) (sym same)
        (cut_row s id b u at (r.uncut_yet id u b at u (le_refl u))
        (r.rows u (subst (λ (z : ℕ). z < users) same small))))
        (λ ne. carry s.words s.homes s.views s.words s.homes (vs ++ Unseated u ∷ []) x
        (r.rows x small) refl refl
        (after_cut (is_desk_of x) s id (First u b) (First (u + 1) b) (Unseated u) at refl refl
        (other_eqb u x ne)) (after_cut (is_board_of x) s id (First u b) (First (u + 1) b)
        (Unseated u) at refl refl refl));
    uncut_yet = λ j d' b' a x small. let o = no_other_first s r id u b (First (u + 1) b)
        (Unseated u) at refl j d' b' a in let same : u + 1 ≡ d' = cc in
        no_one (is_desk_of x) s.views (vs ++ Unseated u ∷ [])
        (after_cut (is_desk_of x) s id (First u b) (First (u + 1) b) (Unseated u) at refl refl
        (other_eqb u x (λ e. let f : x ≡ u = e in omega arith)))
        (r.uncut_yet id u b at x (omega arith));
    one_first = two_firsts s r id u b (u + 1) b (Unseated u) at refl;
  }

  pub cuts_board : (id d b n k : ℕ) → Splits (Rule users) id (First d b) (First d n) (Idle k)
  cuts_board id d b n k s r at = let vs : List View = set s.views id (First d n) in record {
    words = r.words;
    slots = r.slots;
    rows = λ x small. carry s.words s.homes s.views s.words s.homes (vs ++ Idle k ∷ []) x
        (r.rows x small) refl refl
        (after_cut (is_desk_of x) s id (First d b) (First d n) (Idle k) at refl refl refl)
        (after_cut (is_board_of x) s id (First d b) (First d n) (Idle k) at refl refl refl);
    uncut_yet = λ j d' b' a x small. let o = no_other_first s r id d b (First d n) (Idle k) at refl
        j d' b' a in let same : d ≡ d' = cc in
        no_one (is_desk_of x) s.views (vs ++ Idle k ∷ [])
        (after_cut (is_desk_of x) s id (First d b) (First d n) (Idle k) at refl refl refl)
        (r.uncut_yet id d b at x (omega arith));
    one_first = two_firsts s r id d b d n (Idle k) at refl;
  }

  pub zeros_at : (n u : ℕ) → ◌≡◌ {A = ℕ} (get_or (replicate n 0) u 0) 0
  zeros_at zero u = refl
  zeros_at (suc n) zero = refl
  zeros_at (suc n) (suc u) = zeros_at n u

  vacant_at : (n u : ℕ) → u < n → get_elem? (map (λ (x : Slot). some x) (replicate n None)) u ≡ some
      (some None)
  vacant_at zero u small = absurd (omega arith)
  vacant_at (suc n) zero small = refl
  vacant_at (suc n) (suc u) small = vacant_at n u (omega arith)

  vacant_length : (n : ℕ) → length (map (λ (x : Slot). some x) (replicate n None)) ≡ n
  vacant_length zero = refl
  vacant_length (suc n) = ap suc (vacant_length n)

  zeros_length : (n : ℕ) → length {A = ℕ} (replicate n 0) ≡ n
  zeros_length zero = refl
  zeros_length (suc n) = ap suc (zeros_length n)

  quiet_first : (p : View → Bool) → p (First 0 0) ≡ false → NoOne p (First 0 0 ∷ [])
  quiet_first p f zero v a e = absurd (clash (p v) e (ap p (sym (some-injective _ v a)) ∙ f))
  quiet_first p f (suc j) v a e = absurd (some-ne-none v (sym a))

  only_first : (i : ℕ) (v : View) → At (First 0 0 ∷ []) i v → i ≡ 0
  only_first zero v a = refl
  only_first (suc i) v a = absurd (some-ne-none v (sym a))

  pub opens : Rule users (opening (replicate users 0) (replicate users None) (First 0 0))
  opens = record {
    words = zeros_length users;
    slots = vacant_length users;
    rows = λ u small. uncut (zeros_at users u) (vacant_at users u small)
        (quiet_first (is_desk_of u) refl) (quiet_first (is_board_of u) refl);
    uncut_yet = λ id d b at u le. quiet_first (is_desk_of u) refl;
    one_first = λ i j v w a b _ _. only_first i v a ∙ sym (only_first j w b);
  }

pub take_zeros : (n m : ℕ) → n ≤ m → take {A = ℕ} n (replicate m 0) ≡ replicate n 0
take_zeros zero m le = refl
take_zeros (suc n) zero le = absurd (omega arith)
take_zeros (suc n) (suc m) le = ap (λ (l : List ℕ). 0 ∷ l) (take_zeros n m (omega arith))
