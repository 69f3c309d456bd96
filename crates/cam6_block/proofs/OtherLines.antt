-- What lines 8 to 11 tell of corners: where two corners show the same there, so do the corners that
-- lie equally far clockwise of them. A test of every case.
use Rattle.std.proofs.Common.{◌≡◌, ℕ, zero, suc, ◌+◌, ◌-◌, ◌*◌, ◌/◌, ◌%◌, ◌<◌, ◌==◌, Bool, true}
use Rattle.std.proofs.Common.{false, ◌&&◌, ◌||◌, not, ◌∙◌, refl, sym, ap, arith}
use Rattle.std.proofs.lemmas.Bool.{eqb-true, eq-eqb}
use native.Mathlib.Decide.{dec_lt}
use Rattle.cam6_wiring.specs.Name.{phase_number}
use Rattle.cam6_wiring.specs.Seen.{number_of}
use Rattle.cam6_wiring.specs.declared.names.Phase.{Phase}
use Rattle.cam6_wiring.specs.declared.wirings.Hood.{Hood}
use Rattle.cam6_wiring.specs.declared.wirings.Hood.TheVariants.{Moore, VonNeumann, Margolus}
use Rattle.cam6_wiring.specs.declared.wirings.Hood.TheVariants.{MargolusPhase, MargolusHorzVert}
use Rattle.cam6_wiring.specs.declared.wirings.Minor.{Minor}
use Rattle.cam6_wiring.specs.declared.wirings.Minor.TheVariants.{Centers, Phases, HorzVert}
use Rattle.cam6_block.proofs.Lines.{other_lines}
use Rattle.cam6_block.proofs.Phases.{phase_of, phase_of-number, phase_number-lt}

and_left : (a b : Bool) → (a && b) ≡ true → a ≡ true
and_left true b e = refl
and_left false b e = e

and_right : (a b : Bool) → (a && b) ≡ true → b ≡ true
and_right true b e = e
and_right false b e = cc

abbrev all_below : (ℕ → Bool) → ℕ → Bool
all_below p zero = true
all_below p (suc n) = p n && all_below p n

all_below-at : (p : ℕ → Bool) (n i : ℕ) → i < n → all_below p n ≡ true → p i ≡ true
all_below-at p zero i h e = absurd (omega arith)
all_below-at p (suc n) i h e =
    elim (dec_lt i n) [
      | Prim.yes lt ↦ all_below-at p n i lt (and_right (p n) (all_below p n) e)
      | Prim.no ge ↦ let same : i ≡ n = omega arith in ap p same ∙ and_left (p n) (all_below p n) e
    ]

-- what corner i at one phase and corner j at another show, and the corners k further on
abbrev test : Hood → Minor → Phase → ℕ → Phase → ℕ → ℕ → Bool
test hood minor phase i other j k =
    not (number_of (other_lines hood minor phase i) == number_of (other_lines hood minor other j))
    || (number_of (other_lines hood minor phase (i + (4 - j) + k))
    == number_of (other_lines hood minor other k))

abbrev test_number : Hood → Minor → ℕ → Bool
test_number hood minor n =
    test hood minor (phase_of (n % 4)) (n / 4 % 4) (phase_of (n / 16 % 4)) (n / 64 % 4)
    (n / 256 % 4)

tested : (hood : Hood) (minor : Minor) → all_below (test_number hood minor) 1024 ≡ true
tested Moore Centers = refl
tested Moore Phases = refl
tested Moore HorzVert = refl
tested VonNeumann Centers = refl
tested VonNeumann Phases = refl
tested VonNeumann HorzVert = refl
tested Margolus Centers = refl
tested Margolus Phases = refl
tested Margolus HorzVert = refl
tested MargolusPhase Centers = refl
tested MargolusPhase Phases = refl
tested MargolusPhase HorzVert = refl
tested MargolusHorzVert Centers = refl
tested MargolusHorzVert Phases = refl
tested MargolusHorzVert HorzVert = refl

implied : (a b : Bool) → (not a || b) ≡ true → a ≡ true → b ≡ true
implied true b h e = h
implied false b h e = cc

-- two corners that show the same on these lines show the same when both are rotated
pub other_rotated : (hood : Hood) (minor : Minor) (phase other : Phase) (i j k : ℕ) →
    i < 4 → j < 4 → k < 4 →
    number_of (other_lines hood minor phase i) ≡ number_of (other_lines hood minor other j) →
    number_of (other_lines hood minor phase (i + (4 - j) + k))
    ≡ number_of (other_lines hood minor other k)
other_rotated hood minor phase other i j k hi hj hk e =
    let hp : phase_number phase < 4 = phase_number-lt phase in
    let ho : phase_number other < 4 = phase_number-lt other in
    let n = phase_number phase + 4 * i + 16 * phase_number other + 64 * j + 256 * k in
    let all : test_number hood minor n ≡ true =
    all_below-at (test_number hood minor) 1024 n (omega arith) (tested hood minor) in
    let np : n % 4 ≡ phase_number phase = omega arith in
    let ep : phase_of (n % 4) ≡ phase = ap phase_of np ∙ phase_of-number phase in
    let ei : n / 4 % 4 ≡ i = omega arith in
    let no : n / 16 % 4 ≡ phase_number other = omega arith in
    let eo : phase_of (n / 16 % 4) ≡ other = ap phase_of no ∙ phase_of-number other in
    let ej : n / 64 % 4 ≡ j = omega arith in
    let ek : n / 256 % 4 ≡ k = omega arith in
    let here : test hood minor phase i other j k ≡ true =
    sym (ap (λ a. test hood minor a (n / 4 % 4) (phase_of (n / 16 % 4)) (n / 64 % 4)
    (n / 256 % 4)) ep ∙
    ap (λ a. test hood minor phase a (phase_of (n / 16 % 4)) (n / 64 % 4) (n / 256 % 4)) ei ∙
    ap (λ a. test hood minor phase i a (n / 64 % 4) (n / 256 % 4)) eo ∙
    ap (λ a. test hood minor phase i other a (n / 256 % 4)) ej ∙
    ap (λ a. test hood minor phase i other j a) ek) ∙ all in
    eqb-true _ _
    (implied (number_of (other_lines hood minor phase i)
    == number_of (other_lines hood minor other j)) _ here (eq-eqb _ _ e))
