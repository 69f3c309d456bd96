-- An address by its bits, two more words of a plane, and the twelve rows of lines one by one.
use Rattle.std.proofs.Common.{◌≡◌, ℕ, zero, suc, ◌+◌, ◌-◌, ◌*◌, ◌/◌, ◌%◌, ◌^◌, ◌<◌, ◌≤◌, Bool}
use Rattle.std.proofs.Common.{false, List, [], ◌∷◌, length, set, get_or, nat_eq, refl, sym, ◌∙◌, ap}
use Rattle.std.proofs.Common.{arith, bit_and, length-set}
use Rattle.std.proofs.lemmas.Nat.{and_le_r}
use Rattle.std.specs.Int.{bit_at}
use Rattle.std.proofs.lemmas.List.{ext_get_or, get_or-map, length-map}
use Rattle.std.proofs.lemmas.Nat.Bits.{bit_at_and, bit_at_ones, bit_at-lt, same_from_bits_below}
use Rattle.cam6_planes.specs.Row.{word_column, column_bit, bit_number}
use Rattle.cam6_planes.proofs.WordByWord.{row_more}
use Rattle.cam6_wiring.specs.Seen.{number_of}
use Rattle.cam6_wiring.proofs.Numbers.{bit_at-number_of, number_of-lt}
use Rattle.cam6_wiring.specs.Lines.{at_column, address_in}
use Rattle.cam6_lookup.specs.Transposed.{cell, ShowAddresses, shown_at}
use Rattle.cam6_lookup.specs.Entries.{entry_bit}
use Rattle.cam6_lookup.proofs.Shifted.{bit_shr}
use Rattle.cam6_lookup.proofs.Transposing.{below_three, below_four, by_fours}

bit_number_of_bit : (n : ℕ) → n < 2 → bit_number (nat_eq n 1) ≡ n
bit_number_of_bit zero h = refl
bit_number_of_bit (suc zero) h = refl
bit_number_of_bit (suc (suc n)) h = absurd (omega arith)

masked_bit : (w s r : ℕ) → r < 12 → bit_at (bit_and (w / 2 ^ s) 4095) r ≡ bit_at w (s + r)
masked_bit w s r h =
    let e : r + s ≡ s + r = omega arith in
    bit_at_and (w / 2 ^ s) 4095 r ∙ rw (bit_at_ones 12 r h)
    (omega (arith, bit_at-lt (w / 2 ^ s) r, bit_shr w s r ∙ ap (bit_at w) e))

masked-lt : (w : ℕ) → bit_and w 4095 < 4096
masked-lt w = let le : bit_and w 4095 ≤ 4095 = and_le_r w 4095 in omega (arith, le)

column_number : (row : List ℕ) (i c : ℕ) → c < 64 →
    bit_number (column_bit row (64 * i + c)) ≡ bit_at (get_or row i 0) (63 - c)
unfolding column_bit word_column
column_number row i c h =
    let q : (64 * i + c) / 64 ≡ i = omega arith in
    let r : (64 * i + c) % 64 ≡ c = omega arith in
    ap (λ n. bit_number (nat_eq (bit_at (get_or row n 0) (63 - (64 * i + c) % 64)) 1)) q ∙
    ap (λ n. bit_number (nat_eq (bit_at (get_or row i 0) (63 - n)) 1)) r ∙
    bit_number_of_bit (bit_at (get_or row i 0) (63 - c)) (bit_at-lt (get_or row i 0) (63 - c))

address_is : (lines : List (List ℕ)) (a i c : ℕ) → length lines ≡ 12 → a < 4096 → c < 64 →
    ((r : ℕ) → r < 12 → bit_at a r ≡ cell lines r i (63 - c)) → a ≡ address_in lines (64 * i + c)
unfolding cell
address_is lines a i c twelve below h bits =
    let x : ℕ = 64 * i + c in
    let long : length (at_column x lines) ≡ 12 =
    length-map lines (λ row. column_bit row x) ∙ twelve in
    same_from_bits_below 12 a (number_of (at_column x lines)) below
    (omega (arith, number_of-lt (at_column x lines), ap (λ n. 2 ^ n) long))
    (λ r l. bits r l ∙ sym (bit_at-number_of (at_column x lines) r ∙
    ap bit_number
    (get_or-map (λ row. column_bit row x) lines r [] false (omega (arith, l, twelve))) ∙
    column_number (get_or lines r []) i c h))

shown_is : (rows lines : List (List ℕ)) (w i c : ℕ) → length lines ≡ 12 → i < 2 → c < 64 →
    ShowAddresses rows lines w → shown_at rows i (63 - c) ≡ address_in lines (64 * (w + i) + c)
unfolding cell
shown_is rows lines w i c twelve two h shows =
    let p : ℕ = 63 - c in
    let word : ℕ = get_or (get_or rows (p % 16) []) i 0 in
    address_is lines (shown_at rows i p) (w + i) c twelve (masked-lt (word / 2 ^ (16 * (p / 16)))) h
    (λ r l.
    let q : ℕ = 16 * (p / 16) + r in
    let e : q % 16 ≡ r = omega arith in
    let f : q / 16 * 16 + p % 16 ≡ p = omega arith in
    masked_bit word (16 * (p / 16)) r l ∙
    shows (p % 16) i q (omega arith) two (omega arith) (omega (arith, e, l)) ∙
    ap (λ n. bit_at (get_or (get_or lines n []) (w + i) 0) (q / 16 * 16 + p % 16)) e ∙
    ap (λ n. bit_at (get_or (get_or lines r []) (w + i) 0) n) f)

-- the columns of a word that has the entries of the addresses shown
looked_up : (rows lines : List (List ℕ)) (table : List ℕ) (w i bit word : ℕ) → length lines ≡ 12 →
    i < 2 → ShowAddresses rows lines w →
    ((p : ℕ) → p < 64 → bit_at word p ≡ bit_at (get_or table (shown_at rows i p) 0) bit) →
    (c : ℕ) → c < 64 →
    word_column word c ≡ entry_bit table (address_in lines (64 * (w + i) + c)) bit
unfolding word_column
looked_up rows lines table w i bit word twelve two shows has c h =
    ap (λ n. nat_eq n 1) (has (63 - c) (omega arith) ∙
    ap (λ a. bit_at (get_or table a 0) bit) (shown_is rows lines w i c twelve two h shows))

-- two more words of a plane that has n
pub two_more : (rows lines : List (List ℕ)) (table out : List ℕ) (n chunk bit a b : ℕ) →
    length lines ≡ 12 → length out ≡ n → 2 * chunk + 2 ≤ n →
    ShowAddresses rows lines (2 * chunk) →
    ((x : ℕ) → x < 128 * chunk → column_bit out x ≡ entry_bit table (address_in lines x) bit) →
    ((p : ℕ) → p < 64 → bit_at a p ≡ bit_at (get_or table (shown_at rows 0 p) 0) bit) →
    ((p : ℕ) → p < 64 → bit_at b p ≡ bit_at (get_or table (shown_at rows 1 p) 0) bit) →
    (x : ℕ) → x < 128 * (chunk + 1) →
    column_bit (set (set out (2 * chunk) a) (2 * chunk + 1) b) x
    ≡ entry_bit table (address_in lines x) bit
two_more rows lines table out n chunk bit a b twelve long h shows below first second x l =
    let g : ℕ → Bool = λ x. entry_bit table (address_in lines x) bit in
    let i : ℕ = 2 * chunk in
    let e : i + 0 ≡ i = omega arith in
    row_more g (set out i a) (i + 1) b (omega (arith, length-set out i a, long))
    (row_more g out i a (omega (arith, long)) (λ x k. below x (omega arith))
    (λ c k. looked_up rows lines table i 0 bit a twelve (omega arith) shows first c k ∙
    ap (λ n. g (64 * n + c)) e))
    (λ c k. looked_up rows lines table i 1 bit b twelve (omega arith) shows second c k)
    x (omega arith)

abbrev rows_of : List (List ℕ) → List (List ℕ)
rows_of lines =
    get_or lines 0 [] ∷ get_or lines 1 [] ∷ get_or lines 2 [] ∷ get_or lines 3 []
    ∷ get_or lines 4 [] ∷ get_or lines 5 [] ∷ get_or lines 6 [] ∷ get_or lines 7 []
    ∷ get_or lines 8 [] ∷ get_or lines 9 [] ∷ get_or lines 10 [] ∷ get_or lines 11 [] ∷ []

-- the rows of twelve lines, one by one, are the lines
pub each_row : (lines : List (List ℕ)) → length lines ≡ 12 → rows_of lines ≡ lines
each_row lines twelve =
    let Same : ℕ → Type 0 = λ k. get_or (rows_of lines) k [] ≡ get_or lines k [] in
    ext_get_or [] (rows_of lines) lines (sym twelve) (λ k h.
    by_fours Same 3 (below_three (λ i. (j : ℕ) → j < 4 → Same (4 * i + j))
    (below_four (λ j. Same (4 * 0 + j)) refl refl refl refl)
    (below_four (λ j. Same (4 * 1 + j)) refl refl refl refl)
    (below_four (λ j. Same (4 * 2 + j)) refl refl refl refl)) k h)
