-- What one step makes of the table.
use Rattle.std.proofs.Common.{◌≡◌, ◌≢◌, ◌∙◌, ℕ, ◌<◌, List, [], ◌∷◌, length, set, get_or}
use Rattle.std.proofs.Common.{Some, sym, ap, arith, get_or-set_same, get_or-set_other}
use Rattle.std.proofs.Common.{slice_index}
use mathlib.Core.Option.{some, none, some-injective, some-ne-none}
use mathlib.Core.Option as maybe
use lib.ListN.{get_elem?}
use Rattle.atomic_table.specs.Table.{takes, gives}
use Rattle.atomic_table.proofs.Lists.{set_here, set_else}
use Rattle.cam6_slot.specs.Finished.{StoredFinished}
use Rattle.cam6_slot.specs.Parking.{StoredQueued}
use Rattle.cam6_slot.specs.declared.resting.Place.TheVariants.{Queued, Finished}
use Rattle.cam6_handoff.specs.Rule.{Slot, Shared, Seated, At, NoOne, Row, is_desk_of}
use Rattle.cam6_handoff.specs.Rule as row
use Rattle.cam6_handoff.specs.declared.rule.View.{View}
use Rattle.cam6_handoff.specs.declared.rule.View.TheVariants.{Unseated, Rests, Waits}
use Rattle.cam6_handoff.proofs.Rows.{self_eqb, one_at}
use Rattle.cam6_handoff_laws.specs.Actions.{IsStep}

-- a row's word and slot, and a seat's view, are these
pub record Changes (s t : Shared) (u n seat : ℕ) (view : View) (home : maybe.Option Slot) : Type 0 where
  pub words : t.words ≡ set s.words u n
  pub homes : t.homes ≡ set s.homes u home
  pub views : t.views ≡ set s.views seat view

pub gives_it : (s t : Shared) (u n seat : ℕ) (old view : View) (slot : Slot) →
    IsStep s u n seat (old, (u, slot) ∷ []) view gives t →
    Changes s t u n seat view (some slot)
gives_it s t u n seat old view slot step = record {
  words = ap (λ (x : Shared). x.words) step.after;
  homes = ap (λ (x : Shared). x.homes) step.after;
  views = ap (λ (x : Shared). x.views) step.after;
}

pub takes_it : (s t : Shared) (u n seat : ℕ) (old view : View) (slot : Slot) →
    IsStep s u n seat (old, []) view (takes u slot) t → Changes s t u n seat view none
takes_it s t u n seat old view slot step = record {
  words = ap (λ (x : Shared). x.words) step.after;
  homes = ap (λ (x : Shared). x.homes) step.after;
  views = ap (λ (x : Shared). x.views) step.after;
}

module _ (s t : Shared) (u n seat : ℕ) (view : View) (home : maybe.Option Slot)
    (to : Changes s t u n seat view home) where
  pub word_here : u < length s.words → slice_index t.words u ≡ n
  word_here small = ap (λ ws. get_or ws u 0) to.words ∙ get_or-set_same s.words u n 0 small

  pub word_else : (j : ℕ) → j ≢ u → slice_index t.words j ≡ slice_index s.words j
  word_else j ne = ap (λ ws. get_or ws j 0) to.words ∙ get_or-set_other s.words u j n 0 ne

  pub home_here : u < length s.homes → get_elem? t.homes u ≡ some home
  home_here small = ap (λ hs. get_elem? hs u) to.homes ∙ set_here s.homes u home small

  pub home_else : (j : ℕ) → j ≢ u → get_elem? t.homes j ≡ get_elem? s.homes j
  home_else j ne = ap (λ hs. get_elem? hs j) to.homes ∙ set_else s.homes u j home ne

-- two places at one home are one
pub one_slot : (homes : List (maybe.Option Slot)) (u : ℕ) (x y : Slot) →
    get_elem? homes u ≡ some (some x) → get_elem? homes u ≡ some (some y) → x ≡ y
one_slot homes u x y a b =
    some-injective x y (some-injective (some x) (some y) (sym a ∙ b))

pub one_queued : (p q : StoredQueued) → ◌≡◌ {A = Slot} (Some (Queued p)) (Some (Queued q)) → p ≡ q
one_queued p q e = cc e

pub one_finished : (f g : StoredFinished) →
    ◌≡◌ {A = Slot} (Some (Finished f)) (Some (Finished g)) → f ≡ g
one_finished f g e = cc e

-- at a row whose word is 0 no desk waits
pub nobody_waits : (ws : List ℕ) (hs : List (maybe.Option Slot)) (vs : List View) (u : ℕ) →
    Row ws hs vs u → slice_index ws u ≡ 0 → (j : ℕ) (asked : StoredQueued) →
    At vs j (Waits u asked) → ⊥
nobody_waits ws hs vs u (row.uncut w h nd nb) zero j asked at =
    nd j (Waits u asked) at (self_eqb u)
nobody_waits ws hs vs u (row.unseated d w h k nb) zero j asked at =
    let e = one_at vs d j (Unseated u) (Waits u asked) k.0 at
    (k.1 j (Waits u asked) at (self_eqb u)) in cc e
nobody_waits ws hs vs u (row.resting d w h k nb) zero j asked at =
    let e = one_at vs d j (Rests u) (Waits u asked) k.0 at
    (k.1 j (Waits u asked) at (self_eqb u)) in cc e
nobody_waits ws hs vs u (row.queued d other q w h s k nb) zero j asked at =
    absurd (omega (arith, w, zero))
nobody_waits ws hs vs u (row.out d e b other q w h s k o) zero j asked at =
    absurd (omega (arith, w, zero))
nobody_waits ws hs vs u (row.finished d other f w h s k nb) zero j asked at =
    absurd (omega (arith, w, zero))
