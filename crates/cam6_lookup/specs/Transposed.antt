-- How the bits of sixteen rows of words are transposed. Position p of a word is its bit p. A word
-- has four lanes of sixteen positions.
use Rattle.std.specs.Prelude.{ℕ, ◌+◌, ◌*◌, ◌-◌, ◌/◌, ◌%◌, ◌<◌, ◌≡◌, ◌^◌, List, [], slice_index}
use Rattle.std.specs.Prelude.{slice_index_or}
use Rattle.std.specs.Int.{bit_at}
use Rattle.std.specs.Int.Bits.{bit_and}
use Rattle.cam6_lookup.specs.declared.digits.Digit.{Digit}
use Rattle.cam6_lookup.specs.declared.digits.Digit.TheVariants.{One, Two, Four, Eight}

abbrev pub worth : Digit → ℕ
worth One = 1
worth Two = 2
worth Four = 4
worth Eight = 8

-- this binary digit of a number
abbrev pub digit_of : Digit → ℕ → ℕ
digit_of digit n = n / worth digit % 2

-- the bit at position p of word i of row k
unfoldable pub cell : List (List ℕ) → ℕ → ℕ → ℕ → ℕ
cell rows k i p = bit_at (slice_index (slice_index_or rows k []) i) p

-- the row k with position p's digit for its own, and the position p with row k's
abbrev pub swapped_row : Digit → ℕ → ℕ → ℕ
swapped_row digit k p = k + worth digit * digit_of digit p - worth digit * digit_of digit k

abbrev pub swapped_position : Digit → ℕ → ℕ → ℕ
swapped_position digit k p = p + worth digit * digit_of digit k - worth digit * digit_of digit p

-- in lane l of row k the rows have what the lines show at position 16 l + k, in words from w on
abbrev pub ShowAddresses : List (List ℕ) → List (List ℕ) → ℕ → Type 0
ShowAddresses rows lines w =
    (k i p : ℕ) → k < 16 → i < 2 → p < 64 → p % 16 < 12 →
    cell rows k i p ≡ cell lines (p % 16) (w + i) (p / 16 * 16 + k)

-- the address in lane l of word i of row k
abbrev pub lane_address : List (List ℕ) → ℕ → ℕ → ℕ → ℕ
lane_address rows k i l = bit_and (slice_index (slice_index_or rows k []) i / 2 ^ (16 * l)) 4095

-- the address that is shown for position p of word i
abbrev pub shown_at : List (List ℕ) → ℕ → ℕ → ℕ
shown_at rows i p = lane_address rows (p % 16) i (p / 16)
