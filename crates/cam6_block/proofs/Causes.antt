-- What is refused is refused for its cause, and what has no cause is reversible.
use Rattle.std.proofs.Common.{◌≡◌, ◌≢◌, inl, inr, ℕ, zero, suc, ◌+◌, ◌<◌, ◌≤◌, ◌==◌, Bool, true}
use Rattle.std.proofs.Common.{false}
use Rattle.std.proofs.Common.{Option, Some, None, if◌then◌else◌, nat_lt, refl, sym, ◌∙◌, ap, arith}
use Rattle.std.proofs.lemmas.Bool.{eqb-true, eq-eqb, ltb-true, ltb-false, lt-ltb}
use Rattle.std.proofs.lemmas.Bool.Decides.{eqb_tells}
use native.Mathlib.Decide.{dec_lt}
use Rattle.cam6_wiring.specs.Name.{phase_number}
use Rattle.cam6_wiring.specs.declared.names.Phase.{Phase}
use Rattle.cam6_wiring.specs.declared.names.Phase.TheVariants.{P0, P1, P2, P3}
use Rattle.cam6_wiring.specs.declared.wirings.Hood.{Hood}
use Rattle.cam6_wiring.specs.declared.wirings.Minor.{Minor}
use Rattle.cam6_wiring.specs.declared.wirings.Minor.TheVariants.{Centers, Phases, HorzVert}
use Rattle.cam6_wiring.specs.Wiring.{is_margolus}
use Rattle.cam6_block.specs.BlockMaps.{Reading, block_map, preimage, first_from}
use Rattle.cam6_block.specs.BlockMaps.{IsOneToOne, IsReversible}
use Rattle.cam6_block.specs.Refusals.{IsMeeting, IsRefused, has_met, meeting_of, or_at_later_phase}
use Rattle.cam6_block.specs.Refusals.{first_meeting, centres_or, cause_of}
use Rattle.cam6_block.specs.Laws.{CauseIsFound}
use Rattle.cam6_block.specs.declared.refusals.NotReversible.{NotReversible}
use Rattle.cam6_block.specs.declared.refusals.NotReversible.TheVariants as cause
use Rattle.cam6_block.proofs.Preimages.{preimage_is}

-- the first number at which p holds
first_hit : (p : ℕ → Bool) (n k s : ℕ) (here : Bool) → p k ≡ here → k ≤ s → s < k + n →
    p s ≡ true → ((i : ℕ) → i < s → p i ≡ false) → first_from p n k ≡ s
first_hit p zero k s here is low high holds none = absurd (omega (arith, low, high))
first_hit p (suc n) k s here is low high holds none =
    elim (dec_lt k s) [
      | Prim.yes less ↦
          ap (λ b. if b then k else first_from p n (suc k)) (none k less) ∙
          first_hit p n (suc k) s (p (suc k)) refl (omega (arith, less)) (omega (arith, high)) holds
          none
      | Prim.no more ↦
          let same : s ≡ k = omega (arith, more, low) in
          ap (λ b. if b then k else first_from p n (suc k)) (ap p (sym same) ∙ holds) ∙ sym same
    ]

-- where p holds at none of them, the number after them all
first_past : (p : ℕ → Bool) (n k : ℕ) → ((i : ℕ) → i < k + n → p i ≡ false) →
    first_from p n k ≡ k + n
first_past p zero k none = omega arith
first_past p (suc n) k none =
    let rest : first_from p n (suc k) ≡ suc k + n =
    first_past p n (suc k) (λ i h. none i (omega (arith, h))) in
    let one : suc k + n ≡ k + suc n = omega arith in
    ap (λ b. if b then k else first_from p n (suc k)) (none k (omega arith)) ∙ rest ∙ one

-- p holds at no number before the first
none_before : (p : ℕ → Bool) (n k i : ℕ) (here : Bool) → p k ≡ here → k ≤ i → i < k + n →
    i < first_from p n k → p i ≡ false
none_before p zero k i here is low high before = absurd (omega (arith, low, high))
none_before p (suc n) k i true is low high before =
    let first : first_from p (suc n) k ≡ k =
    ap (λ b. if b then k else first_from p n (suc k)) is in absurd (omega (arith, first, before, low))
none_before p (suc n) k i false is low high before =
    let first : first_from p (suc n) k ≡ first_from p n (suc k) =
    ap (λ b. if b then k else first_from p n (suc k)) is in
    elim (dec_lt k i) [
      | Prim.yes less ↦
          none_before p n (suc k) i (p (suc k)) refl (omega (arith, less)) (omega (arith, high))
          (omega (arith, first, before))
      | Prim.no more ↦ let same : i ≡ k = omega (arith, more, low) in ap p same ∙ is
    ]

-- and it holds at the first
holds_there : (p : ℕ → Bool) (n k : ℕ) (here : Bool) → p k ≡ here → first_from p n k < k + n →
    p (first_from p n k) ≡ true
holds_there p zero k here is below = absurd (omega (arith, below))
holds_there p (suc n) k true is below =
    ap p (ap (λ b. if b then k else first_from p n (suc k)) is) ∙ is
holds_there p (suc n) k false is below =
    let first : first_from p (suc n) k ≡ first_from p n (suc k) =
    ap (λ b. if b then k else first_from p n (suc k)) is in
    ap p first ∙ holds_there p n (suc k) (p (suc k)) refl (omega (arith, first, below))

differs : (a b : ℕ) → a ≢ b → (a == b) ≡ false
differs a b ne = elim (eqb_tells a b) [ inl e ↦ absurd (ne e.1) | inr e ↦ e.0 ]

module _ (f : ℕ → ℕ) where
  -- the least state with a successor
  least_state : (a t : ℕ) → a < 256 → f a ≡ t → ((i : ℕ) → i < a → f i ≢ t) → preimage f t ≡ a
  unfolding preimage
  least_state a t h e none =
      first_hit (λ s. f s == t) 256 0 a (f 0 == t) refl (omega arith) (omega (arith, h))
      (eq-eqb _ _ e) (λ i l. differs (f i) t (none i l))

  -- is at most each state with the successor
  at_most : (s t : ℕ) → s < 256 → f s ≡ t → preimage f t ≤ s
  unfolding preimage
  at_most s t h e =
      elim (dec_lt s (first_from (λ s. f s == t) 256 0)) [
        | Prim.yes less ↦
            let never : (f s == t) ≡ false =
            none_before (λ s. f s == t) 256 0 s (f 0 == t) refl (omega arith) (omega (arith, h))
            less in
            let contrary : true ≡ false = sym (eq-eqb _ _ e) ∙ never in cc contrary
        | Prim.no more ↦ omega (arith, more)
      ]

  -- and has it
  has_successor : (t : ℕ) → preimage f t < 256 → f (preimage f t) ≡ t
  unfolding preimage
  has_successor t h = eqb-true _ _ (holds_there (λ s. f s == t) 256 0 (f 0 == t) refl h)

  -- what is told of the first state that meets a smaller one, if there is any
  abbrev found_at : ℕ → Bool → Option (ℕ × ℕ)
  found_at k c = if c then Some (preimage f (f k), k) else None

  -- two block states that meet are found
  pub found_meeting : (a b : ℕ) → IsMeeting f a b → meeting_of f ≡ Some (a, b)
  unfolding meeting_of
  found_meeting a b is =
      let a_lt : a < 256 = omega (arith, is.smaller, is.state) in
      let pre : preimage f (f b) ≡ a =
      least_state a (f b) a_lt is.meet
      (λ i l e. is.least i a l is.smaller (e ∙ sym is.meet)) in
      let met : has_met f b ≡ true = ap (λ k. nat_lt k b) pre ∙ lt-ltb a b is.smaller in
      let before : (i : ℕ) → i < b → has_met f i ≡ false =
      λ i l. by_test i l (has_met f i) refl in
      let first : first_from (has_met f) 256 0 ≡ b =
      first_hit (has_met f) 256 0 b (has_met f 0) refl (omega arith) (omega (arith, is.state)) met
      before in
      ap (λ k. found_at k (nat_lt k 256)) first ∙
      ap (found_at b) (lt-ltb b 256 is.state) ∙
      ap (λ k. Some (k, b)) pre
    where
      by_test : (i : ℕ) → i < b → (c : Bool) → has_met f i ≡ c → has_met f i ≡ false
      by_test i l false e = e
      by_test i l true e =
          let less : preimage f (f i) < i = ltb-true _ _ e in
          let in_range : preimage f (f i) < 256 = omega (arith, less, l, is.state) in
          absurd (is.least (preimage f (f i)) i less l (has_successor (f i) in_range))

  -- where no two have one successor, none is found
  pub no_meeting : IsOneToOne f → meeting_of f ≡ None
  unfolding meeting_of
  no_meeting one =
      let never : (i : ℕ) → i < 256 → has_met f i ≡ false =
      λ i h. ap (λ k. nat_lt k i) (preimage_is f i h one) ∙ not_below i in
      let past : first_from (has_met f) 256 0 ≡ 256 =
      first_past (has_met f) 256 0 (λ i h. never i (omega (arith, h))) in
      ap (λ k. found_at k (nat_lt k 256)) past
    where
      not_below : (i : ℕ) → nat_lt i i ≡ false
      not_below i = by_test (nat_lt i i) refl
        where
          by_test : (c : Bool) → nat_lt i i ≡ c → nat_lt i i ≡ false
          by_test false e = e
          by_test true e = absurd (omega (arith, ltb-true i i e))

  -- and where none is found, no two have one successor
  pub none_found : meeting_of f ≡ None → IsOneToOne f
  unfolding meeting_of
  none_found none a b ha hb e =
      elim (dec_lt a b) [
        | Prim.yes less ↦ absurd (smaller a b less hb e)
        | Prim.no ge ↦
            elim (dec_lt b a) [
              | Prim.yes less ↦ absurd (smaller b a less ha (sym e))
              | Prim.no le ↦ omega (arith, ge, le)
            ]
      ]
    where
      past : (c : Bool) → nat_lt (first_from (has_met f) 256 0) 256 ≡ c →
          found_at (first_from (has_met f) 256 0) c ≡ None →
          256 ≤ first_from (has_met f) 256 0
      past true is e = cc e
      past false is e = ltb-false _ _ is

      smaller : (a b : ℕ) → a < b → b < 256 → f a ≡ f b → ⊥
      smaller a b less h e =
          let long = past (nat_lt (first_from (has_met f) 256 0) 256) refl none in
          let low : preimage f (f b) ≤ a = at_most a (f b) (omega (arith, less, h)) e in
          let met : has_met f b ≡ true = lt-ltb _ _ (omega (arith, low, less)) in
          let never : has_met f b ≡ false =
          none_before (has_met f) 256 0 b (has_met f 0) refl (omega arith) (omega (arith, h))
          (omega (arith, long, h)) in
          let contrary : true ≡ false = sym met ∙ never in cc contrary

-- the meeting at the least phase
module _ (read : Reading) where
  abbrev meets : Phase → Option (ℕ × ℕ)
  meets phase = meeting_of (block_map read phase)

  abbrev at_phases : Option (ℕ × ℕ) → Option (ℕ × ℕ) → Option (ℕ × ℕ) → Option (ℕ × ℕ) →
      Option NotReversible
  at_phases a b c d = or_at_later_phase P0 a (or_at_later_phase P1 b (or_at_later_phase P2 c (or_at_later_phase P3 d None)))

  at_phase : (phase : Phase) (a b : ℕ) →
      ((before : Phase) → phase_number before < phase_number phase →
      IsOneToOne (block_map read before)) → IsMeeting (block_map read phase) a b →
      first_meeting read ≡ Some (cause.Meeting phase a b)
  at_phase P0 a b before is =
      ap (λ o. at_phases o (meets P1) (meets P2) (meets P3))
      (found_meeting (block_map read P0) a b is)
  at_phase P1 a b before is =
      ap (λ o. at_phases o (meets P1) (meets P2) (meets P3))
      (no_meeting (block_map read P0) (before P0 (omega arith))) ∙
      ap (λ o. at_phases None o (meets P2) (meets P3))
      (found_meeting (block_map read P1) a b is)
  at_phase P2 a b before is =
      ap (λ o. at_phases o (meets P1) (meets P2) (meets P3))
      (no_meeting (block_map read P0) (before P0 (omega arith))) ∙
      ap (λ o. at_phases None o (meets P2) (meets P3))
      (no_meeting (block_map read P1) (before P1 (omega arith))) ∙
      ap (λ o. at_phases None None o (meets P3))
      (found_meeting (block_map read P2) a b is)
  at_phase P3 a b before is =
      ap (λ o. at_phases o (meets P1) (meets P2) (meets P3))
      (no_meeting (block_map read P0) (before P0 (omega arith))) ∙
      ap (λ o. at_phases None o (meets P2) (meets P3))
      (no_meeting (block_map read P1) (before P1 (omega arith))) ∙
      ap (λ o. at_phases None None o (meets P3))
      (no_meeting (block_map read P2) (before P2 (omega arith))) ∙
      ap (λ o. at_phases None None None o)
      (found_meeting (block_map read P3) a b is)

  none_meets : ((phase : Phase) → IsOneToOne (block_map read phase)) → first_meeting read ≡ None
  none_meets one =
      ap (λ o. at_phases o (meets P1) (meets P2) (meets P3))
      (no_meeting (block_map read P0) (one P0)) ∙
      ap (λ o. at_phases None o (meets P2) (meets P3))
      (no_meeting (block_map read P1) (one P1)) ∙
      ap (λ o. at_phases None None o (meets P3)) (no_meeting (block_map read P2) (one P2)) ∙
      ap (λ o. at_phases None None None o) (no_meeting (block_map read P3) (one P3))

  neither : (phase : Phase) (o : Option (ℕ × ℕ)) (later : Option NotReversible) →
      or_at_later_phase phase o later ≡ None → (o ≡ None) × (later ≡ None)
  neither phase None later e = (refl, e)
  neither phase (Some pair) later e = cc e

  all_one : first_meeting read ≡ None → (phase : Phase) → IsOneToOne (block_map read phase)
  all_one none phase =
      let (a, later) = neither P0 (meets P0)
      (or_at_later_phase P1 (meets P1) (or_at_later_phase P2 (meets P2) (or_at_later_phase P3 (meets P3) None))) none in
      let (b, last) = neither P1 (meets P1)
      (or_at_later_phase P2 (meets P2) (or_at_later_phase P3 (meets P3) None)) later in
      let (c, end) = neither P2 (meets P2) (or_at_later_phase P3 (meets P3) None) last in
      let (d, nothing) = neither P3 (meets P3) None end in
      by_phase a b c d phase
    where
      by_phase : meets P0 ≡ None → meets P1 ≡ None → meets P2 ≡ None → meets P3 ≡ None →
          (phase : Phase) → IsOneToOne (block_map read phase)
      by_phase a b c d P0 = none_found (block_map read P0) a
      by_phase a b c d P1 = none_found (block_map read P1) b
      by_phase a b c d P2 = none_found (block_map read P2) c
      by_phase a b c d P3 = none_found (block_map read P3) d

other_centres : (minor : Minor) (later : Option NotReversible) → minor ≢ Centers →
    centres_or minor later ≡ later
other_centres Centers later other = absurd (other refl)
other_centres Phases later other = refl
other_centres HorzVert later other = refl

abbrev by_hood : Bool → Minor → Option NotReversible → Option NotReversible
by_hood margolus minor later = if margolus then centres_or minor later else Some cause.Hood

refused_for : (read : Reading) (hood : Hood) (minor : Minor) (c : NotReversible) →
    IsRefused read hood minor c → cause_of read hood minor ≡ Some c
refused_for read hood minor cause.Hood none =
    ap (λ b. by_hood b minor (first_meeting read)) none
refused_for read hood minor cause.Centres is =
    ap (λ b. by_hood b minor (first_meeting read)) is.0 ∙
    ap (λ m. centres_or m (first_meeting read)) is.1
refused_for read hood minor (cause.Meeting phase a b) is =
    ap (λ b. by_hood b minor (first_meeting read)) is.0 ∙
    other_centres minor (first_meeting read) is.1 ∙
    at_phase read phase a b is.2 is.3

without_cause : (read : Reading) (hood : Hood) (minor : Minor) →
    IsReversible read hood minor → cause_of read hood minor ≡ None
without_cause read hood minor is =
    ap (λ b. by_hood b minor (first_meeting read)) is.blocks ∙
    other_centres minor (first_meeting read) is.alone ∙ none_meets read is.one_to_one

is_reversible : (read : Reading) (hood : Hood) (minor : Minor) →
    cause_of read hood minor ≡ None → IsReversible read hood minor
is_reversible read hood minor none = by_test (is_margolus hood) refl none
  where
    by_minor : (m : Minor) → centres_or m (first_meeting read) ≡ None →
        (m ≢ Centers) × (first_meeting read ≡ None)
    by_minor Centers e = cc e
    by_minor Phases e = (λ same. cc same, e)
    by_minor HorzVert e = (λ same. cc same, e)

    by_test : (b : Bool) → is_margolus hood ≡ b → by_hood b minor (first_meeting read) ≡ None →
        IsReversible read hood minor
    by_test false is e = cc e
    by_test true is e =
        let (alone, none) = by_minor minor e in record {
          blocks = is;
          alone = alone;
          one_to_one = all_one read none;
        }

pub cause_is_found : CauseIsFound
cause_is_found read hood minor = (
  refused_for read hood minor,
  without_cause read hood minor,
  is_reversible read hood minor,
)
