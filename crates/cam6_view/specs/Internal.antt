-- The states of the cells of a row and of a word, and sets of states in words.
use Rattle.std.specs.Prelude.{ℕ, ◌+◌, ◌*◌, ◌<◌, ◌≡◌, List, [], slice_index, slice_index_or}
use Rattle.cam6_planes.specs.Row.{bit_number, word_column, column_bit}
use Rattle.cam6_view.specs.States.{state_by, is_in}

-- the state at column x of a row of all four planes
abbrev pub state_in_row : List (List ℕ) → ℕ → ℕ
state_in_row rows x = state_by (λ p. column_bit (slice_index_or rows p []) x)

-- the state at column c of a word of each plane
abbrev pub state_in_words : List ℕ → ℕ → ℕ
state_in_words words c = state_by (λ p. word_column (slice_index words p) c)

-- the part of that state that the planes 0 and 1 make
abbrev pub lower_state : List ℕ → ℕ → ℕ
lower_state words c =
    bit_number (word_column (slice_index words 0) c)
    + 2 * bit_number (word_column (slice_index words 1) c)

-- the word of each state has all columns if the state is in the set, and none if it isn't
abbrev pub AreSpread : ℕ → List ℕ → Type 0
AreSpread mask sets =
    (state c : ℕ) → state < 16 → c < 64 →
    word_column (slice_index sets state) c ≡ is_in mask state
