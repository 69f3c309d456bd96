-- A number by its bits.
use Rattle.std.proofs.Common.{◌≡◌, ℕ, zero, suc, ◌+◌, ◌-◌, ◌*◌, ◌/◌, ◌^◌, ◌<◌, ◌≤◌}
use Rattle.std.proofs.Common.{List, [], ◌∷◌, Bool, true, false, map, length, get_or}
use Rattle.std.proofs.Common.{drop, refl, sym, ◌∙◌, ap, arith, drop-cons, length-drop}
use Rattle.std.specs.Int.{bit_at}
use Rattle.std.proofs.lemmas.Nat.Bits.{bit_at-zero, bit_at-suc, bit_at_lowest}
use Rattle.std.proofs.lemmas.List.{length-map}
use Rattle.std.proofs.Math.Nat.{pow-suc}
use Rattle.std.proofs.Math.Pow.{pow_mono}
use Rattle.cam6_planes.specs.Row.{bit_number}
use Rattle.cam6_wiring.specs.Seen.{number_of}
use Rattle.cam6_wiring.specs.Wiring.{names_of}
use Rattle.cam6_wiring.specs.declared.wirings.Hood.{Hood}
use Rattle.cam6_wiring.specs.declared.wirings.Hood.TheVariants.{Moore, VonNeumann, Margolus}
use Rattle.cam6_wiring.specs.declared.wirings.Hood.TheVariants.{MargolusPhase, MargolusHorzVert}
use Rattle.cam6_wiring.specs.declared.wirings.Minor.{Minor}
use Rattle.cam6_wiring.specs.declared.wirings.Minor.TheVariants.{Centers, Phases, HorzVert}

-- so many bits make a number below that power of two
pub number_of-lt : (bits : List Bool) → number_of bits < 2 ^ length bits
number_of-lt [] = omega arith
number_of-lt (true ∷ bits) = omega (arith, number_of-lt bits, pow-suc 2 (length bits))
number_of-lt (false ∷ bits) = omega (arith, number_of-lt bits, pow-suc 2 (length bits))

-- one more bit, from the highest down
pub number_of-one_lower : {X : Type 0} (f : X → Bool) (xs : List X) (i n a : ℕ) (d : X)
    (b : Bool) → length xs ≡ n → i < n →
    a ≡ number_of (map f (drop (n - i) xs)) → b ≡ f (get_or xs (n - 1 - i) d) →
    2 * a + bit_number b ≡ number_of (map f (drop (n - (i + 1)) xs))
number_of-one_lower f xs i n a d b long within so_far next =
    let here : n - (i + 1) ≡ n - 1 - i = omega arith in
    let above : suc (n - 1 - i) ≡ n - i = omega arith in
    let split : drop (n - (i + 1)) xs ≡ get_or xs (n - 1 - i) d ∷ drop (n - i) xs =
    ap (λ j. drop j xs) here ∙ drop-cons xs (n - 1 - i) d (omega arith) ∙
    ap (λ j. get_or xs (n - 1 - i) d ∷ drop j xs) above in
    ap (λ v. 2 * v + bit_number b) so_far ∙
    ap (λ v. 2 * number_of (map f (drop (n - i) xs)) + bit_number v) next ∙
    ap (λ l. number_of (map f l)) (sym split)

pub number_of-below_4096 : {X : Type 0} (f : X → Bool) (xs : List X) → length xs ≤ 12 →
    number_of (map f xs) < 4096
number_of-below_4096 f xs h =
    let long : length (map f xs) ≡ length xs = length-map xs f in
    omega (arith, number_of-lt (map f xs), pow_mono {i = length (map f xs)} {j = 12} (omega arith))

-- what twelve lines show, from any of them on
pub number_of-lines : {X : Type 0} (f : X → Bool) (xs : List X) (k : ℕ) → length xs ≡ 12 →
    number_of (map f (drop k xs)) < 4096
number_of-lines f xs k h = number_of-below_4096 f (drop k xs) (omega (arith, length-drop k xs))

-- there are twelve lines
pub length-names_of : (hood : Hood) (minor : Minor) → length (names_of hood minor) ≡ 12
length-names_of Moore Centers = refl
length-names_of Moore Phases = refl
length-names_of Moore HorzVert = refl
length-names_of VonNeumann Centers = refl
length-names_of VonNeumann Phases = refl
length-names_of VonNeumann HorzVert = refl
length-names_of Margolus Centers = refl
length-names_of Margolus Phases = refl
length-names_of Margolus HorzVert = refl
length-names_of MargolusPhase Centers = refl
length-names_of MargolusPhase Phases = refl
length-names_of MargolusPhase HorzVert = refl
length-names_of MargolusHorzVert Centers = refl
length-names_of MargolusHorzVert Phases = refl
length-names_of MargolusHorzVert HorzVert = refl

bit_number-lt : (b : Bool) → bit_number b < 2
bit_number-lt true = omega arith
bit_number-lt false = omega arith

-- the bits of a number are those that it was made from
pub bit_at-number_of : (bits : List Bool) (i : ℕ) →
    bit_at (number_of bits) i ≡ bit_number (get_or bits i false)
bit_at-number_of [] i = bit_at-zero i
bit_at-number_of (b ∷ bits) zero =
    bit_at_lowest (number_of (b ∷ bits)) ∙ omega (arith, bit_number-lt b)
bit_at-number_of (b ∷ bits) (suc i) =
    let half : number_of (b ∷ bits) / 2 ≡ number_of bits = omega (arith, bit_number-lt b) in
    bit_at-suc (number_of (b ∷ bits)) i ∙ ap (λ n. bit_at n i) half ∙ bit_at-number_of bits i
