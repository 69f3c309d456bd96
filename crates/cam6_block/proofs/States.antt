-- States of a block and their bits.
use Rattle.std.proofs.Common.{◌≡◌, ℕ, zero, suc, ◌+◌, ◌%◌, ◌<◌, ◌==◌, Bool, true, false, List}
use Rattle.std.proofs.Common.{[], ◌∷◌, get_or, refl, ◌∙◌, ap, arith}
use Rattle.std.specs.Int.{bit_at}
use Rattle.std.proofs.lemmas.Nat.Bits.{bit_at-lt, same_from_bits_below}
use Rattle.cam6_wiring.specs.Seen.{number_of}
use Rattle.cam6_wiring.specs.declared.names.Level.{Level}
use Rattle.cam6_wiring.specs.declared.names.Level.TheVariants.{Lower, Upper}
use Rattle.cam6_wiring.specs.declared.names.Phase.{Phase}
use Rattle.cam6_wiring.proofs.Numbers.{number_of-lt, bit_at-number_of}
use Rattle.cam6_wiring.proofs.LinesOfNames.{bit_number-one}
use Rattle.cam6_entries.specs.NewBits.{bit_for}
use Rattle.cam6_block.specs.Blocks.{corner_bit, state_of, first_bit, corner_bits, corner_sees}
use Rattle.cam6_block.specs.BlockMaps.{Reading, block_map}

-- a number below 4 is one of four
pub four : (P : ℕ → Type 0) → P 0 → P 1 → P 2 → P 3 → (k : ℕ) → k < 4 → P k
four P p0 p1 p2 p3 zero h = p0
four P p0 p1 p2 p3 (suc zero) h = p1
four P p0 p1 p2 p3 (suc (suc zero)) h = p2
four P p0 p1 p2 p3 (suc (suc (suc zero))) h = p3
four P p0 p1 p2 p3 (suc (suc (suc (suc k)))) h = absurd (omega arith)

eight : (P : ℕ → Type 0) → P 0 → P 1 → P 2 → P 3 → P 4 → P 5 → P 6 → P 7 → (k : ℕ) → k < 8 → P k
eight P p0 p1 p2 p3 p4 p5 p6 p7 zero h = p0
eight P p0 p1 p2 p3 p4 p5 p6 p7 (suc zero) h = p1
eight P p0 p1 p2 p3 p4 p5 p6 p7 (suc (suc zero)) h = p2
eight P p0 p1 p2 p3 p4 p5 p6 p7 (suc (suc (suc zero))) h = p3
eight P p0 p1 p2 p3 p4 p5 p6 p7 (suc (suc (suc (suc k)))) h =
    four (λ k. P (suc (suc (suc (suc k))))) p4 p5 p6 p7 k (omega arith)

abbrev bits_of : (Level → ℕ → Bool) → List Bool
bits_of bit =
    bit Lower 0 ∷ bit Lower 1 ∷ bit Lower 2 ∷ bit Lower 3
    ∷ bit Upper 0 ∷ bit Upper 1 ∷ bit Upper 2 ∷ bit Upper 3 ∷ []

bit_of : (bit : Level → ℕ → Bool) (i : ℕ) →
    (bit_at (state_of bit) i == 1) ≡ get_or (bits_of bit) i false
unfolding state_of
bit_of bit i =
    ap (λ n. n == 1) (bit_at-number_of (bits_of bit) i) ∙
    bit_number-one (get_or (bits_of bit) i false)

-- the bits of a state that is made of bits
pub corner_bit-state_of : (bit : Level → ℕ → Bool) (level : Level) (k : ℕ) → k < 4 →
    corner_bit (state_of bit) level k ≡ bit level k
unfolding corner_bit
corner_bit-state_of bit Lower k h =
    four (λ k. corner_bit (state_of bit) Lower k ≡ bit Lower k)
    (bit_of bit 0) (bit_of bit 1) (bit_of bit 2) (bit_of bit 3) k h
corner_bit-state_of bit Upper k h =
    four (λ k. corner_bit (state_of bit) Upper k ≡ bit Upper k)
    (bit_of bit 4) (bit_of bit 5) (bit_of bit 6) (bit_of bit 7) k h

pub state_of-lt : (bit : Level → ℕ → Bool) → state_of bit < 256
unfolding state_of
state_of-lt bit = number_of-lt (bits_of bit)

-- corners are counted round and round
pub corner_bit-mod : (state : ℕ) (level : Level) (m n : ℕ) → m % 4 ≡ n % 4 →
    corner_bit state level m ≡ corner_bit state level n
unfolding corner_bit
corner_bit-mod state level m n e = ap (λ k. bit_at state (k + first_bit level) == 1) e

-- equal tests of a bit are equal bits
same_bit : (a b : ℕ) → a < 2 → b < 2 → (a == 1) ≡ (b == 1) → a ≡ b
same_bit zero zero h k e = refl
same_bit zero (suc zero) h k e = cc
same_bit (suc zero) zero h k e = cc
same_bit (suc zero) (suc zero) h k e = refl
same_bit (suc (suc a)) b h k e = absurd (omega arith)
same_bit a (suc (suc b)) h k e = absurd (omega arith)

-- two block states with the same bits are one
pub same_state : (s t : ℕ) → s < 256 → t < 256 →
    ((level : Level) (k : ℕ) → k < 4 → corner_bit s level k ≡ corner_bit t level k) → s ≡ t
unfolding corner_bit
same_state s t h k e =
    let bit = λ (i : ℕ) (p : (bit_at s i == 1) ≡ (bit_at t i == 1)).
    same_bit (bit_at s i) (bit_at t i) (bit_at-lt s i) (bit_at-lt t i) p in
    same_from_bits_below 8 s t h k
    (eight (λ i. bit_at s i ≡ bit_at t i)
    (bit 0 (e Lower 0 (omega arith))) (bit 1 (e Lower 1 (omega arith)))
    (bit 2 (e Lower 2 (omega arith))) (bit 3 (e Lower 3 (omega arith)))
    (bit 4 (e Upper 0 (omega arith))) (bit 5 (e Upper 1 (omega arith)))
    (bit 6 (e Upper 2 (omega arith))) (bit 7 (e Upper 3 (omega arith))))

-- the bits of what becomes of a state
pub corner_bit-block_map : (read : Reading) (phase : Phase) (state : ℕ) (level : Level) (k : ℕ) →
    k < 4 →
    corner_bit (block_map read phase state) level k
    ≡ bit_for level (read (corner_sees phase state k))
unfolding block_map
corner_bit-block_map read phase state level k h =
    corner_bit-state_of (λ level corner. bit_for level (read (corner_sees phase state corner))) level k
    h

pub block_map-lt : (read : Reading) (phase : Phase) (state : ℕ) → block_map read phase state < 256
unfolding block_map
block_map-lt read phase state =
    state_of-lt (λ level corner. bit_for level (read (corner_sees phase state corner)))

lower_of : (a b : Bool) → bit_for Lower (number_of (a ∷ b ∷ [])) ≡ a
lower_of true true = refl
lower_of true false = refl
lower_of false true = refl
lower_of false false = refl

upper_of : (a b : Bool) → bit_for Upper (number_of (a ∷ b ∷ [])) ≡ b
upper_of true true = refl
upper_of true false = refl
upper_of false true = refl
upper_of false false = refl

-- of a corner's two bits each is the state's
pub bit_for-corner_bits : (level : Level) (state corner : ℕ) →
    bit_for level (corner_bits state corner) ≡ corner_bit state level corner
unfolding corner_bits
bit_for-corner_bits Lower state corner =
    lower_of (corner_bit state Lower corner) (corner_bit state Upper corner)
bit_for-corner_bits Upper state corner =
    upper_of (corner_bit state Lower corner) (corner_bit state Upper corner)
