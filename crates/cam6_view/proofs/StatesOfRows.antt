-- The states of a row's cells, in its words and on the planes.
use Rattle.std.proofs.Common.{◌≡◌, ℕ, ◌+◌, ◌*◌, ◌<◌, Bool, List, [], ◌∷◌, get_or, refl, sym}
use Rattle.std.proofs.Common.{ap, arith, ◌++◌, ◌∙◌, map, set, take, length}
use Rattle.std.specs.List.{range_with_len}
use Rattle.std.proofs.lemmas.List.{take_more_set}
use Rattle.std.proofs.lemmas.List.FromFn.{map-range_with_len_more}
use Rattle.cam6_planes.specs.Cells.{Cells, IsRow}
use Rattle.cam6_planes.specs.Row.{word_column, column_bit}
use Rattle.cam6_planes.proofs.WordByWord.{column_bit-at}
use Rattle.cam6_view.specs.States.{state_by, state_at, row_colours}
use Rattle.cam6_view.specs.Internal.{state_in_row, state_in_words}
use Rattle.cam6_view.proofs.CountsBelow.{bit_number-le}

-- planes with the same four bits have the same state
pub state_by-same : (f g : ℕ → Bool) → f 0 ≡ g 0 → f 1 ≡ g 1 → f 2 ≡ g 2 → f 3 ≡ g 3 →
    state_by f ≡ state_by g
state_by-same f g h k l m = rw (h, k, l, m) refl

pub state_by-lt : (f : ℕ → Bool) → state_by f < 16
state_by-lt f =
    omega (
      arith,
      bit_number-le (f 0),
      bit_number-le (f 1),
      bit_number-le (f 2),
      bit_number-le (f 3),
    )

-- the words of a row have its states
pub state_at_word : (rows : List (List ℕ)) (k c : ℕ) → c < 64 →
    state_in_words (get_or (get_or rows 0 []) k 0 ∷ get_or (get_or rows 1 []) k 0
    ∷ get_or (get_or rows 2 []) k 0 ∷ get_or (get_or rows 3 []) k 0 ∷ []) c
    ≡ state_in_row rows (64 * k + c)
state_at_word rows k c h =
    let here : (p : ℕ) → word_column (get_or (get_or rows p []) k 0) c
    ≡ column_bit (get_or rows p []) (64 * k + c) =
    λ p. sym (column_bit-at (get_or rows p []) k c h) in
    rw (here 0, here 1, here 2, here 3) refl

-- a row that the planes have has their states
pub state_of_row : (s : ℕ) (f : Cells) (y : ℕ) (rows : List (List ℕ)) → IsRow s f y rows →
    (x : ℕ) → x < s → state_in_row rows x ≡ state_at f x y
state_of_row s f y rows row x h =
    state_by-same (λ p. column_bit (get_or rows p []) x) (λ p. f p x y) (row 0 x (omega arith) h)
    (row 1 x (omega arith) h) (row 2 x (omega arith) h) (row 3 x (omega arith) h)

-- the colours of no cell
pub no_colours : (map_of_states : List ℕ) (f : Cells) (y : ℕ) →
    [] ≡ row_colours 0 map_of_states f y
unfolding row_colours
no_colours map_of_states f y = refl

-- the colour of one cell more
pub one_colour : (map_of_states : List ℕ) (f : Cells) (y x colour : ℕ) (colours : List ℕ) →
    x < length colours → take x colours ≡ row_colours x map_of_states f y →
    colour ≡ get_or map_of_states (state_at f x y) 0 →
    take (x + 1) (set colours x colour) ≡ row_colours (x + 1) map_of_states f y
unfolding row_colours
one_colour map_of_states f y x colour colours h before here =
    take_more_set colours x colour h ∙ ap (λ l. l ++ colour ∷ []) before ∙
    ap (λ n. map (λ v. get_or map_of_states (state_at f v y) 0) (range_with_len 0 x) ++ n ∷ [])
    here ∙
    sym (map-range_with_len_more (λ v. get_or map_of_states (state_at f v y) 0) 0 x x
    (omega arith))
