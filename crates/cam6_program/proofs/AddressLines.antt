-- Lines where each column shows its own address.
use Rattle.std.proofs.Common.{◌≡◌, ℕ, zero, suc, ◌+◌, ◌-◌, ◌*◌, ◌/◌, ◌^◌, ◌<◌, ◌≤◌, Bool, true}
use Rattle.std.proofs.Common.{false, List, [], ◌∷◌, length, get_or, nat_eq, ◌&&◌, refl, sym, ◌∙◌}
use Rattle.std.proofs.Common.{ap, arith, bit_and, set}
use Rattle.std.specs.Int.{bit_at}
use Rattle.std.proofs.lemmas.Bool.{eqb-true}
use Rattle.std.proofs.lemmas.List.{ext_get_or, get_or-map, length-map}
use Rattle.std.proofs.lemmas.List.{get_or-set_same, get_or-set_other}
use native.Mathlib.Decide.{dec_lt}
use Rattle.std.proofs.lemmas.Nat.Bits.{bit_at_cat_low, bit_at_cat_high, bit_at_ones, bit_at-zero}
use Rattle.std.proofs.lemmas.Nat.Bits.{bit_at-lt, bit_at-suc, bit_at_lowest, shr_and_one}
use Rattle.cam6_planes.specs.Row.{word_column, column_bit}
use Rattle.cam6_planes.proofs.AllBelow.{all_below, at_each}
use Rattle.cam6_wiring.specs.Lines.{at_column}
use Rattle.cam6_wiring.specs.Seen.{number_of, shown}
use Rattle.cam6_wiring.specs.declared.wirings.TheConstants.{LINES}
use Rattle.cam6_wiring.proofs.LinesOfNames.{bit_number-one}
use Rattle.cam6_wiring.proofs.Numbers.{bit_at-number_of, number_of-lt}
use Rattle.cam6_lines.specs.Units.{asked_for}
use Rattle.cam6_program.specs.declared.validating.TheConstants.{LOW_LINES}

-- whether a word has a bit of each of 64 numbers
abbrev has_bit : ℕ → ℕ → Bool
has_bit word line = all_below (λ c. nat_eq (bit_at word (63 - c)) (bit_at c line)) 64

low_bit : (line c : ℕ) → has_bit (get_or LOW_LINES line 0) line ≡ true → c < 64 →
    bit_at (get_or LOW_LINES line 0) (63 - c) ≡ bit_at c line
low_bit line c has h =
    eqb-true _ _
    (at_each (λ c. nat_eq (bit_at (get_or LOW_LINES line 0) (63 - c)) (bit_at c line)) 64 c h has)

-- the check computes these 384 bits
each_low_line : (line : ℕ) → line < 6 → has_bit (get_or LOW_LINES line 0) line ≡ true
each_low_line zero h = refl
each_low_line (suc zero) h = refl
each_low_line (suc (suc zero)) h = refl
each_low_line (suc (suc (suc zero))) h = refl
each_low_line (suc (suc (suc (suc zero)))) h = refl
each_low_line (suc (suc (suc (suc (suc zero))))) h = refl
each_low_line (suc (suc (suc (suc (suc (suc line)))))) h = absurd (omega (arith, h))

-- a low line shows the address within a word
pub low_line : (word line c : ℕ) → line < 6 → c < 64 →
    word_column (get_or LOW_LINES line 0) c ≡ shown (64 * word + c) line
unfolding word_column
low_line word line c low h =
    let place : word * 2 ^ 6 + c ≡ 64 * word + c = omega arith in
    ap (λ n. nat_eq n 1) (low_bit line c (each_low_line line low) h ∙
    sym (bit_at_cat_low word 6 c line low) ∙ ap (λ n. bit_at n line) place)

-- a high line shows the word's number
high_bit : (word line c : ℕ) → 6 ≤ line → c < 64 →
    bit_and (word / 2 ^ (line - 6)) 1 ≡ bit_at (64 * word + c) line
high_bit word line c high h =
    let place : word * 2 ^ 6 + c ≡ 64 * word + c = omega arith in
    shr_and_one word (line - 6) ∙ sym (bit_at_cat_high word 6 c line h high) ∙
    ap (λ n. bit_at n line) place

pub high_ones : (word line c : ℕ) → 6 ≤ line → c < 64 → bit_and (word / 2 ^ (line - 6)) 1 ≡ 1 →
    word_column 0xffffffffffffffff c ≡ shown (64 * word + c) line
unfolding word_column
high_ones word line c high h one =
    ap (λ n. nat_eq n 1)
    (bit_at_ones 64 (63 - c) (omega arith) ∙ sym one ∙ high_bit word line c high h)

pub high_zeros : (word line c : ℕ) → 6 ≤ line → c < 64 →
    (bit_and (word / 2 ^ (line - 6)) 1 ≡ 1 → ⊥) → word_column 0 c ≡ shown (64 * word + c) line
unfolding word_column
high_zeros word line c high h other =
    let none : bit_at (64 * word + c) line ≡ 0 =
    omega (arith, high_bit word line c high h, bit_at-lt (64 * word + c) line, other) in
    ap (λ n. nat_eq n 1) (bit_at-zero (63 - c) ∙ sym none)

-- a line that isn't asked for
pub not_shown : (mask line : ℕ) → (bit_and (mask / 2 ^ line) 1 ≡ 1 → ⊥) → (b : Bool) →
    false ≡ (shown mask line && b)
not_shown mask line other b =
    let none : bit_at mask line ≡ 0 =
    omega (arith, shr_and_one mask line, bit_at-lt mask line, other) in
    ap (λ n. nat_eq n 1 && b) (sym none)

-- of lines, those that are asked for

and_false : (b : Bool) → (b && false) ≡ false
and_false true = refl
and_false false = refl

length-asked_for : (mask : ℕ) (bits : List Bool) → length (asked_for mask bits) ≡ length bits
length-asked_for mask [] = refl
length-asked_for mask (bit ∷ bits) = ap suc (length-asked_for (mask / 2) bits)

asked_for-at : (mask : ℕ) (bits : List Bool) (line : ℕ) →
    get_or (asked_for mask bits) line false ≡ (shown mask line && get_or bits line false)
asked_for-at mask [] line = sym (and_false (shown mask line))
asked_for-at mask (bit ∷ bits) zero = ap (λ n. nat_eq n 1 && bit) (sym (bit_at_lowest mask))
asked_for-at mask (bit ∷ bits) (suc line) =
    asked_for-at (mask / 2) bits line ∙
    ap (λ n. nat_eq n 1 && get_or bits line false) (sym (bit_at-suc mask line))

-- lines that show the bits of each column's number show any bits at their number
pub asked_shown : (mask : ℕ) (lines : List (List ℕ)) → length lines ≡ LINES →
    ((line address : ℕ) → line < LINES → address < 2 ^ LINES →
    column_bit (get_or lines line []) address ≡ (shown mask line && shown address line)) →
    (bits : List Bool) → length bits ≡ LINES →
    at_column (number_of bits) lines ≡ asked_for mask bits
asked_shown mask lines twelve shows bits long =
    let address : ℕ = number_of bits in
    let below : address < 2 ^ LINES =
    omega (arith, number_of-lt bits, ap (λ n. 2 ^ n) long) in
    let whole : length (at_column address lines) ≡ LINES =
    length-map lines (λ line. column_bit line address) ∙ twelve in
    let asked : length (asked_for mask bits) ≡ LINES = length-asked_for mask bits ∙ long in
    ext_get_or false (at_column address lines) (asked_for mask bits) (whole ∙ sym asked)
    (λ line h.
    let within : line < LINES = omega (arith, h, whole) in
    get_or-map (λ line. column_bit line address) lines line [] false
    (omega (arith, within, twelve)) ∙ shows line address within below ∙
    ap (λ b. shown mask line && b)
    (ap (λ n. nat_eq n 1) (bit_at-number_of bits line) ∙ bit_number-one (get_or bits line false)) ∙
    sym (asked_for-at mask bits line))

-- one more line
pub one_more_line : (mask : ℕ) (lines : List (List ℕ)) (k : ℕ) (unit : List ℕ) → k < length lines →
    ((line address : ℕ) → line < k → address < 2 ^ LINES →
    column_bit (get_or lines line []) address ≡ (shown mask line && shown address line)) →
    ((address : ℕ) → address < 2 ^ LINES →
    column_bit unit address ≡ (shown mask k && shown address k)) →
    (line address : ℕ) → line < k + 1 → address < 2 ^ LINES →
    column_bit (get_or (set lines k unit) line []) address ≡ (shown mask line && shown address line)
one_more_line mask lines k unit room below here line address h within =
    elim (dec_lt line k) [
      | Prim.yes lt ↦
          ap (λ unit. column_bit unit address)
          (get_or-set_other lines k line unit [] (omega (arith, lt))) ∙ below line address lt within
      | Prim.no ge ↦
          let same : line ≡ k = omega arith in
          ap (λ n. column_bit (get_or (set lines k unit) n []) address) same ∙
          ap (λ unit. column_bit unit address) (get_or-set_same lines k unit [] room) ∙
          here address within ∙ ap (λ n. shown mask n && shown address n) (sym same)
    ]
