-- What inverted tables do, and that there is one.
use Rattle.std.proofs.Common.{◌≡◌, ◌≢◌, inl, inr, ℕ, suc, ◌+◌, ◌*◌, ◌/◌, ◌%◌, ◌<◌, List, []}
use Rattle.std.proofs.Common.{◌∷◌, length, get_or, refl, sym, ◌∙◌, ap, arith}
use Rattle.std.proofs.Math.Path.{fun_ext}
use Rattle.cam6_wiring.specs.Name.{phase_number}
use Rattle.cam6_wiring.specs.declared.names.Phase.{Phase}
use Rattle.cam6_wiring.specs.declared.wirings.Hood.{Hood}
use Rattle.cam6_wiring.specs.declared.wirings.Minor.{Minor}
use Rattle.cam6_entries.specs.NewBits.{bit_for}
use Rattle.cam6_table.proofs.TrueTables.{true_table}
use Rattle.cam6_block.specs.Blocks.{corner_address, corner_bits}
use Rattle.cam6_block.specs.BlockMaps.{Reading, by_table, made, block_map, preimage}
use Rattle.cam6_block.specs.Laws.{TrueTableHasTheBlockMap, CornersAgree, IsTheOnlyOne}
use Rattle.cam6_block.specs.Laws.{InvertedTakesPreimages, InvertedUndoes}
use Rattle.cam6_block.proofs.States.{corner_bit-block_map, block_map-lt, same_state}
use Rattle.cam6_block.proofs.States.{bit_for-corner_bits}
use Rattle.cam6_block.proofs.Pigeonhole.{found, takes_each}
use Rattle.cam6_block.proofs.Phases.{phase_of, phase_of-number, phase_number-lt}
use Rattle.cam6_block.proofs.Preimages.{preimage_is, preimage-lt}
use Rattle.cam6_block.proofs.Rotated.{table_reads, agree}

pub true_table_map : TrueTableHasTheBlockMap
true_table_map wiring parts entries phase state rule true =
    ap (λ (read : Reading). block_map read phase state)
    (fun_ext (λ sees. sym (ap made (true_table wiring parts entries sees rule true))))

pub corners_agree : CornersAgree
corners_agree hood minor entries reversible phase other s u i j hs hu hi hj same =
    let read = by_table hood minor entries in
    let f = block_map read phase in
    let g = block_map read other in
    let one = reversible.one_to_one in
    let (a, a_lt, a_is) = takes_each f (λ s _. block_map-lt read phase s) (one phase) s hs in
    let (b, b_lt, b_is) = takes_each g (λ s _. block_map-lt read other s) (one other) u hu in
    let before : preimage f s ≡ a = ap (preimage f) (sym a_is) ∙ preimage_is f a a_lt (one phase) in
    let after : preimage g u ≡ b = ap (preimage g) (sym b_is) ∙ preimage_is g b b_lt (one other) in
    ap (λ n. corner_bits n i) before ∙
    agree read hood minor (table_reads hood minor entries) reversible.blocks phase other a i b j
    hi b_lt hj (one other)
    (ap (λ n. corner_address hood minor phase n i) a_is ∙ same ∙
    ap (λ n. corner_address hood minor other n j) (sym b_is)) ∙
    ap (λ n. corner_bits n j) (sym after)

pub takes_preimages : InvertedTakesPreimages
unfolding corner_address
takes_preimages hood minor entries inverted phase state reversible is h =
    let read = by_table hood minor entries in
    let undo = by_table hood minor inverted in
    let before = preimage (block_map read phase) state in
    same_state (block_map undo phase state) before (block_map-lt undo phase state)
    (preimage-lt read phase state h (reversible.one_to_one phase))
    (λ level k h4.
    corner_bit-block_map undo phase state level k h4 ∙
    ap (bit_for level) (is.shown phase state k h h4) ∙ bit_for-corner_bits level before k)

pub undoes : InvertedUndoes
undoes hood minor entries inverted phase state reversible is h =
    let f = block_map (by_table hood minor entries) phase in
    takes_preimages hood minor entries inverted phase (f state) reversible is
    (block_map-lt (by_table hood minor entries) phase state) ∙
    preimage_is f state h (reversible.one_to_one phase)

same_list : (xs ys : List ℕ) → length xs ≡ length ys →
    ((i : ℕ) → i < length xs → get_or xs i 0 ≡ get_or ys i 0) → xs ≡ ys
same_list [] [] h e = refl
same_list [] (y ∷ ys) h e = absurd (omega arith)
same_list (x ∷ xs) [] h e = absurd (omega arith)
same_list (x ∷ xs) (y ∷ ys) h e =
    ap (λ n. n ∷ xs) (e 0 (omega arith)) ∙
    ap (λ l. y ∷ l) (same_list xs ys (omega arith) (λ i k. e (suc i) (omega arith)))

-- the addresses that corners show, one after another: 4 corners of 256 block states at 4 phases
abbrev pub phase_at : ℕ → Phase
phase_at n = phase_of (n / 1024)

abbrev pub state_numbered : ℕ → ℕ
state_numbered n = n / 4 % 256

abbrev pub corner_numbered : ℕ → ℕ
corner_numbered n = n % 4

abbrev shown_by : Hood → Minor → ℕ → ℕ
shown_by hood minor n = corner_address hood minor (phase_at n) (state_numbered n) (corner_numbered n)

-- each corner of each state at each phase is among them
shown_once : (hood : Hood) (minor : Minor) (phase : Phase) (state corner : ℕ) → state < 256 →
    corner < 4 →
    (n : ℕ) × (n < 4096) × (shown_by hood minor n ≡ corner_address hood minor phase state corner)
shown_once hood minor phase state corner hs hk =
    let n = 1024 * phase_number phase + 4 * state + corner in
    let hp : phase_number phase < 4 = phase_number-lt phase in
    let np : n / 1024 ≡ phase_number phase = omega arith in
    let ep : phase_at n ≡ phase = ap phase_of np ∙ phase_of-number phase in
    let es : state_numbered n ≡ state = omega arith in
    let ek : corner_numbered n ≡ corner = omega arith in (
      n,
      omega arith,
      ap (λ p. corner_address hood minor p (state_numbered n) (corner_numbered n)) ep ∙
          ap (λ s. corner_address hood minor phase s (corner_numbered n)) es ∙
          ap (corner_address hood minor phase state) ek,
    )

pub only_one : IsTheOnlyOne
only_one read hood minor first second is it =
    same_list first second (is.whole ∙ sym it.whole) (λ a h.
    let a_lt : a < 4096 = omega (arith, is.whole) in
    elim (found (shown_by hood minor) a 4096) [
      | inl w ↦
          let n = w.0 in
          let n_lt : n < 4096 = w.1 in
          ap (λ i. get_or first i 0) (sym (w.2)) ∙
          is.shown (phase_at n) (state_numbered n) (corner_numbered n) (omega arith) (omega arith) ∙
          sym (it.shown (phase_at n) (state_numbered n) (corner_numbered n) (omega arith) (omega arith)) ∙
          ap (λ i. get_or second i 0) (w.2)
      | inr none ↦
          let never : (phase : Phase) (state corner : ℕ) → state < 256 → corner < 4 →
          corner_address hood minor phase state corner ≢ a =
          λ phase state corner hs hk e.
          let there = shown_once hood minor phase state corner hs hk in
          none there.0 there.1 (there.2 ∙ e) in
          is.hidden a a_lt never ∙ sym (it.hidden a a_lt never)
    ])
