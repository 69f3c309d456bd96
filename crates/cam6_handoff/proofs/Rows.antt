-- A step of one user leaves what holds of the others.
use Rattle.std.proofs.Common.{◌≡◌, ◌≢◌, ℕ, Bool, true, false, eqb, List, [], ◌∷◌, ◌++◌, length}
use Rattle.std.proofs.Common.{get_or, set, sym, refl, ap, ◌∙◌, subst, length-set, get_or-set_other}
use Rattle.std.proofs.Common.{⊎_elim, eq-eqb}
use mathlib.Core.Option.{some, none, some-injective, some-ne-none}
use mathlib.Core.Option as maybe
use mathlib.Core.Logic.{dite}
use native.Mathlib.Decide.{ℕ_discrete}
use lib.ListN.{get_elem?}
use Rattle.atomic_table.proofs.Lists.{at_set, set_else, at_longer, at_snoc}
use Rattle.cam6_handoff.specs.Rule.{Slot, Shared, At, NoOne, Only, Row, uncut, unseated, resting}
use Rattle.cam6_handoff.specs.Rule.{queued, out, finished, Rule, is_first, is_desk_of, is_board_of}
use Rattle.cam6_handoff.specs.declared.rule.View.{View}
use Rattle.cam6_handoff.specs.declared.rule.View.TheVariants.{First}

pub clash : (b : Bool) → b ≡ true → b ≡ false → ⊥
clash b t f = cc

pub self_eqb : (n : ℕ) → eqb n n ≡ true
self_eqb n = eq-eqb n n refl

pub one_at : (vs : List View) (i j : ℕ) (v w : View) → At vs i v → At vs j w → j ≡ i → w ≡ v
one_at vs i j v w a b is = some-injective w v (sym b ∙ ap (get_elem? vs) is ∙ a)

-- the views that p picks are the same in both lists
abbrev pub SameBy : (View → Bool) → List View → List View → Type 0
SameBy p vs ws = ((id : ℕ) (v : View) → At vs id v → p v ≡ true → At ws id v) ×
    ((id : ℕ) (v : View) → At ws id v → p v ≡ true → At vs id v)

pub same_set : (p : View → Bool) (vs : List View) (id : ℕ) (v w : View) → At vs id v → p v ≡ false →
    p w ≡ false → SameBy p vs (set vs id w)
same_set p vs id v w at nv nw = (
  (λ j x a e. dite (ℕ_discrete j id)
      (λ is. absurd (clash (p v) (ap p (sym (one_at vs id j v x at a is)) ∙ e) nv))
      (λ ne. set_else vs id j w ne ∙ a)),
  (λ j x a e. ⊎_elim (λ t. absurd (clash (p w) (ap p t.1 ∙ e) nw)) (λ t. t.1)
      (at_set vs id j w x a)),
)

pub same_snoc : (p : View → Bool) (vs : List View) (w : View) → p w ≡ false →
    SameBy p vs (vs ++ w ∷ [])
same_snoc p vs w nw = (
  (λ j x a e. at_longer vs (w ∷ []) j x a),
  (λ j x a e. ⊎_elim (λ t. t) (λ is. absurd (clash (p w) (ap p is ∙ e) nw)) (at_snoc vs w x j a)),
)

pub same_after : (p : View → Bool) (a b c : List View) → SameBy p a b → SameBy p b c → SameBy p a c
same_after p a b c x y =
    ((λ j v at e. y.0 j v (x.0 j v at e) e), λ j v at e. x.1 j v (y.1 j v at e) e)

pub no_one : (p : View → Bool) (vs ws : List View) → SameBy p vs ws → NoOne p vs → NoOne p ws
no_one p vs ws same nobody j v a e = nobody j v (same.1 j v a e) e

pub only : (p : View → Bool) (vs ws : List View) (d : ℕ) → SameBy p vs ws → Only p vs d →
    Only p ws d
only p vs ws d same one j v a e = one j v (same.1 j v a e) e

module _ (ws : List ℕ) (hs : List (maybe.Option Slot)) (vs : List View) (ws' : List ℕ)
    (hs' : List (maybe.Option Slot)) (vs' : List View) (u : ℕ) where
  pub carry : Row ws hs vs u → get_or ws' u 0 ≡ get_or ws u 0 → get_elem? hs' u ≡ get_elem? hs u →
      SameBy (is_desk_of u) vs vs' → SameBy (is_board_of u) vs vs' → Row ws' hs' vs' u
  carry (uncut w h nd nb) ew eh sd sb = uncut (ew ∙ w) (eh ∙ h) (no_one (is_desk_of u) vs vs' sd nd)
      (no_one (is_board_of u) vs vs' sb nb)
  carry (unseated d w h k nb) ew eh sd sb = unseated d (ew ∙ w) (eh ∙ h)
      (sd.0 d _ k.0 (self_eqb u), only (is_desk_of u) vs vs' d sd k.1)
      (no_one (is_board_of u) vs vs' sb nb)
  carry (resting d w h k nb) ew eh sd sb = resting d (ew ∙ w) (eh ∙ h)
      (sd.0 d _ k.0 (self_eqb u), only (is_desk_of u) vs vs' d sd k.1)
      (no_one (is_board_of u) vs vs' sb nb)
  carry (queued d asked q w h st k nb) ew eh sd sb = queued d asked q (ew ∙ w) (eh ∙ h) st
      (sd.0 d _ k.0 (self_eqb u), only (is_desk_of u) vs vs' d sd k.1)
      (no_one (is_board_of u) vs vs' sb nb)
  carry (out d e b asked q w h st k l) ew eh sd sb = out d e b asked q (ew ∙ w) (eh ∙ h) st
      (sd.0 d _ k.0 (self_eqb u), only (is_desk_of u) vs vs' d sd k.1)
      (sb.0 e _ l.0 (self_eqb u), only (is_board_of u) vs vs' e sb l.1)
  carry (finished d asked f w h st k nb) ew eh sd sb = finished d asked f (ew ∙ w) (eh ∙ h) st
      (sd.0 d _ k.0 (self_eqb u), only (is_desk_of u) vs vs' d sd k.1)
      (no_one (is_board_of u) vs vs' sb nb)

-- what one step of the user u may change of a view
pub record Changes (u : ℕ) (v w : View) : Type 0 where
  pub desk : (x : ℕ) → is_desk_of x w ≡ is_desk_of x v
  pub others : (x : ℕ) → x ≢ u → (is_desk_of x v ≡ false) × (is_board_of x v ≡ false) ×
      (is_board_of x w ≡ false)
  pub not_first : (is_first v ≡ false) × (is_first w ≡ false)

pub moved : (users : ℕ) (s : Shared) (r : Rule users s) (u n id : ℕ) (v w : View)
    (hs : List (maybe.Option Slot)) → At s.views id v → Changes u v w
    → length hs ≡ length s.homes → ((j : ℕ) → j ≢ u → get_elem? hs j ≡ get_elem? s.homes j)
    → Row (set s.words u n) hs (set s.views id w) u →
    Rule users record { words = set s.words u n; homes = hs; views = set s.views id w }
moved users s r u n id v w hs at t wide else row = record {
  words = length-set s.words u n ∙ r.words;
  slots = wide ∙ r.slots;
  rows = λ x small. dite (ℕ_discrete x u)
      (λ is. subst (λ (z : ℕ). Row (set s.words u n) hs (set s.views id w) z) (sym is) row)
      (λ ne. let f = t.others x ne in carry s.words s.homes s.views (set s.words u n) hs
      (set s.views id w) x (r.rows x small) (get_or-set_other s.words u x n 0 ne) (else x ne)
      (same_set (is_desk_of x) s.views id v w at f.0 (t.desk x ∙ f.0))
      (same_set (is_board_of x) s.views id v w at f.1 f.2));
  uncut_yet = λ j d b a x less. ⊎_elim
      (λ e. absurd (clash (is_first w) (ap is_first e.1) t.not_first.1))
      (λ e. λ k y here is. ⊎_elim
      (λ p. r.uncut_yet j d b e.1 x less id v at
      (sym (t.desk x) ∙ (ap (is_desk_of x) p.1 ∙ is)))
      (λ p. r.uncut_yet j d b e.1 x less k y p.1 is) (at_set s.views id k w y here))
      (at_set s.views id j w (First d b) a);
  one_first = let same = same_set is_first s.views id v w at t.not_first.0 t.not_first.1 in
      λ i j a b x y fx fy. r.one_first i j a b (same.1 i a x fx) (same.1 j b y fy) fx fy;
}
