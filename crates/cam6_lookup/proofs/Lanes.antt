-- Words of four lanes of sixteen positions.
use Rattle.std.proofs.Common.{◌≡◌, ◌≢◌, ℕ, ◌+◌, ◌-◌, ◌*◌, ◌/◌, ◌%◌, ◌^◌, ◌<◌, ◌≤◌}
use Rattle.std.proofs.Common.{refl, ◌∙◌, ap, arith, nat_eq, bit_and, bit_or, max, List, get_or}
use Rattle.std.proofs.lemmas.Bool.{eqb-true}
use Rattle.std.proofs.lemmas.Nat.Bits.{bit_at_or, bit_at_and, bit_at-lt, bit_at_above, bit_at-zero}
use Rattle.std.specs.Int.{bit_at}
use native.Mathlib.Decide.{dec_lt}
use Rattle.cam6_planes.proofs.AllBelow.{at_each}
use Rattle.cam6_lookup.specs.Transposed.{lane_address}
use Rattle.cam6_lookup.proofs.Shifted.{shl_low, shl_high}

-- a byte in the lane that begins at position s: no bit below the lane and none above it
byte_below : (a s p : ℕ) → p < 64 → p < s → bit_at (a * 2 ^ s % 2 ^ 64) p ≡ 0
byte_below a s p h l = shl_low a s p h l

byte_in : (a s r : ℕ) → s + r < 64 → bit_at (a * 2 ^ s % 2 ^ 64) (s + r) ≡ bit_at a r
byte_in a s r h =
    let e : s + r - s ≡ r = omega arith in
    shl_high a s (s + r) h (omega arith) ∙ ap (bit_at a) e

byte_above : (a s p : ℕ) → a < 2 ^ 8 → p < 64 → s + 8 ≤ p →
    bit_at (a * 2 ^ s % 2 ^ 64) p ≡ 0
byte_above a s p small h l =
    shl_high a s p h (omega arith) ∙ bit_at_above a 8 (p - s) small (omega arith)

any_of_four : (w x y z p : ℕ) → bit_at (bit_or (bit_or (bit_or w x) y) z) p
    ≡ max (max (max (bit_at w p) (bit_at x p)) (bit_at y p)) (bit_at z p)
any_of_four w x y z p =
    bit_at_or (bit_or (bit_or w x) y) z p ∙
    ap (λ n. max n (bit_at z p)) (bit_at_or (bit_or w x) y p) ∙
    ap (λ n. max (max n (bit_at y p)) (bit_at z p)) (bit_at_or w x p)

-- four bytes, each in a lane
module _ (a b c d : ℕ) (ha : a < 2 ^ 8) (hb : b < 2 ^ 8) (hc : c < 2 ^ 8) where
  abbrev in_second : ℕ
  in_second = b * 2 ^ 16 % 2 ^ 64

  abbrev in_third : ℕ
  in_third = c * 2 ^ 32 % 2 ^ 64

  abbrev in_fourth : ℕ
  in_fourth = d * 2 ^ 48 % 2 ^ 64

  abbrev lanes : ℕ
  lanes = bit_or (bit_or (bit_or a in_second) in_third) in_fourth

  pub lane_first : (r : ℕ) → r < 16 → bit_at lanes r ≡ bit_at a r
  lane_first r h =
      any_of_four a in_second in_third in_fourth r ∙
      rw (
        byte_below b 16 r (omega arith) h,
        byte_below c 32 r (omega arith) (omega arith),
        byte_below d 48 r (omega arith) (omega arith),
      ) (omega arith)

  pub lane_second : (r : ℕ) → r < 16 → bit_at lanes (16 + r) ≡ bit_at b r
  lane_second r h =
      any_of_four a in_second in_third in_fourth (16 + r) ∙
      rw (
        bit_at_above a 8 (16 + r) ha (omega arith),
        byte_in b 16 r (omega arith),
        byte_below c 32 (16 + r) (omega arith) (omega arith),
        byte_below d 48 (16 + r) (omega arith) (omega arith),
      ) (omega arith)

  pub lane_third : (r : ℕ) → r < 16 → bit_at lanes (32 + r) ≡ bit_at c r
  lane_third r h =
      any_of_four a in_second in_third in_fourth (32 + r) ∙
      rw (
        bit_at_above a 8 (32 + r) ha (omega arith),
        byte_above b 16 (32 + r) hb (omega arith) (omega arith),
        byte_in c 32 r (omega arith),
        byte_below d 48 (32 + r) (omega arith) (omega arith),
      ) (omega arith)

  pub lane_fourth : (r : ℕ) → r < 16 → bit_at lanes (48 + r) ≡ bit_at d r
  lane_fourth r h =
      any_of_four a in_second in_third in_fourth (48 + r) ∙
      rw (
        bit_at_above a 8 (48 + r) ha (omega arith),
        byte_above b 16 (48 + r) hb (omega arith) (omega arith),
        byte_above c 32 (48 + r) hc (omega arith) (omega arith),
        byte_in d 48 r (omega arith),
      ) (omega arith)

-- the mask has the first position of each lane
first_positions : (p : ℕ) → p < 64 → bit_at 0x0001000100010001 p ≡ 1 - p % 16
first_positions p h = eqb-true _ _
    (at_each (λ p. nat_eq (bit_at 0x0001000100010001 p) (1 - p % 16)) 64 p h refl)

double_at : (w p : ℕ) → p < 64 → 0 < p → bit_at (w * 2 % 2 ^ 64) p ≡ bit_at w (p - 1)
double_at w p h some = shl_high w 1 p h (omega arith)

pub more_first : (w e p : ℕ) → p < 64 → p % 16 ≡ 0 → (0 < p → bit_at w (p - 1) ≡ 0) →
    bit_at (bit_or (w * 2 % 2 ^ 64) (bit_and e 0x0001000100010001)) p ≡ bit_at e p
more_first w e p h first none =
    let one : bit_at 0x0001000100010001 p ≡ 1 = omega (arith, first_positions p h, first) in
    let old : bit_at (w * 2 % 2 ^ 64) p ≡ 0 =
    elim (dec_lt 0 p) [
      | Prim.yes some ↦ double_at w p h some ∙ none some
      | Prim.no not ↦ shl_low w 1 p h (omega arith)
    ] in
    bit_at_or (w * 2 % 2 ^ 64) (bit_and e 0x0001000100010001) p ∙
    rw (old, bit_at_and e 0x0001000100010001 p, one) (omega (arith, bit_at-lt e p))

pub more_others : (w e p : ℕ) → p < 64 → p % 16 ≢ 0 →
    bit_at (bit_or (w * 2 % 2 ^ 64) (bit_and e 0x0001000100010001)) p ≡ bit_at w (p - 1)
more_others w e p h later =
    let none : bit_at 0x0001000100010001 p ≡ 0 = omega (arith, first_positions p h, later) in
    bit_at_or (w * 2 % 2 ^ 64) (bit_and e 0x0001000100010001) p ∙
    rw (double_at w p h (omega (arith, later)), bit_at_and e 0x0001000100010001 p, none)
    (omega (arith, bit_at-lt w (p - 1)))

-- so many rows from the last down are in the lanes, each lane's first position the latest; g says the
-- bit of a row's lane
pub record Has (g : ℕ → ℕ → ℕ) (word pass : ℕ) : Type 0 where
  pub there : (p : ℕ) → p < 64 → p % 16 < pass → bit_at word p ≡ g (16 - pass + p % 16) (p / 16)
  pub none : (p : ℕ) → p < 64 → pass ≤ p % 16 → bit_at word p ≡ 0

pub has_more : (g : ℕ → ℕ → ℕ) (word new entries pass : ℕ) → pass < 16 → Has g word pass →
    ((l : ℕ) → l < 4 → bit_at entries (16 * l) ≡ g (15 - pass) l) →
    ((p : ℕ) → p < 64 → p % 16 ≡ 0 → (0 < p → bit_at word (p - 1) ≡ 0) →
    bit_at new p ≡ bit_at entries p) →
    ((p : ℕ) → p < 64 → p % 16 ≢ 0 → bit_at new p ≡ bit_at word (p - 1)) → Has g new (pass + 1)
has_more g word new entries pass h has these first others = record {
  there = λ p l m. elim (dec_lt 0 (p % 16)) [
    | Prim.yes some ↦
        let below : (p - 1) % 16 < pass = omega arith in
        let row : 16 - pass + (p - 1) % 16 ≡ 16 - (pass + 1) + p % 16 = omega arith in
        let lane : (p - 1) / 16 ≡ p / 16 = omega arith in
        others p l (omega arith) ∙ has.there (p - 1) (omega arith) below ∙
        ap (λ n. g n ((p - 1) / 16)) row ∙ ap (g (16 - (pass + 1) + p % 16)) lane
    | Prim.no not ↦
        let z : p % 16 ≡ 0 = omega arith in
        let at : p ≡ 16 * (p / 16) = omega arith in
        let row : 15 - pass ≡ 16 - (pass + 1) + p % 16 = omega arith in
        first p l z (λ some. has.none (p - 1) (omega arith) (omega arith)) ∙
        ap (bit_at entries) at ∙ these (p / 16) (omega arith) ∙ ap (λ n. g n (p / 16)) row
  ];
  none = λ p l m. others p l (omega arith) ∙ has.none (p - 1) (omega arith) (omega arith);
}

pub has_none : (g : ℕ → ℕ → ℕ) → Has g 0 0
has_none g = record {
  there = λ p h l. absurd (omega arith);
  none = λ p h l. bit_at-zero p;
}

pub has_all : (g : ℕ → ℕ → ℕ) (word pass : ℕ) → Has g word pass → pass ≡ 16 → (p : ℕ) → p < 64 →
    bit_at word p ≡ g (p % 16) (p / 16)
has_all g word pass has all p h =
    let row : 16 - pass + p % 16 ≡ p % 16 = omega (arith, all) in
    has.there p h (omega (arith, all)) ∙ ap (λ n. g n (p / 16)) row

-- the bit of the entry at the address in lane l of word i of row k
abbrev pub bit_shown : List ℕ → List (List ℕ) → ℕ → ℕ → ℕ → ℕ → ℕ
bit_shown entries rows i bit k l = bit_at (get_or entries (lane_address rows k i l) 0) bit
