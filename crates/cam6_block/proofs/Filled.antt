-- A table that is filled corner by corner.
use Rattle.std.proofs.Common.{◌≡◌, ◌≢◌, inl, inr, ℕ, ◌+◌, ◌*◌, ◌/◌, ◌%◌, ◌<◌, true, List, length}
use Rattle.std.proofs.Common.{get_or, set, sym, ◌∙◌, ap, arith, length-set, subst}
use Rattle.std.proofs.lemmas.List.{get_or-set_same, get_or-set_other}
use Rattle.std.proofs.lemmas.Bool.Decides.{eqb_tells}
use native.Mathlib.Decide.{dec_lt}
use Rattle.cam6_wiring.specs.Name.{phase_number}
use Rattle.cam6_wiring.specs.declared.names.Phase.{Phase}
use Rattle.cam6_wiring.specs.declared.wirings.Hood.{Hood}
use Rattle.cam6_wiring.specs.declared.wirings.Minor.{Minor}
use Rattle.cam6_wiring.specs.Wiring.{is_margolus}
use Rattle.cam6_block.specs.Blocks.{corner_address, corner_bits}
use Rattle.cam6_block.specs.BlockMaps.{Reading, block_map, preimage, IsOneToOne}
use Rattle.cam6_block.specs.Inverted.{IsInverted}
use Rattle.cam6_block.proofs.States.{block_map-lt}
use Rattle.cam6_block.proofs.Pigeonhole.{takes_each}
use Rattle.cam6_block.proofs.Phases.{phase_of, phase_of-number, phase_number-lt}
use Rattle.cam6_block.proofs.Preimages.{preimage_is}
use Rattle.cam6_block.proofs.Rotated.{IsReading, agree}
use Rattle.cam6_block.proofs.Undoing.{phase_at, state_numbered, corner_numbered}

-- the first n values are written, each at its address, and all else is as at the start
pub record IsFilled (address value : ℕ → ℕ) (n : ℕ) (entries : List ℕ) : Type 0 where
  pub long : length entries ≡ 4096
  pub done : (m : ℕ) → m < n → get_or entries (address m) 0 ≡ value m
  pub rest : (a : ℕ) → a < 4096 → ((m : ℕ) → m < n → address m ≢ a) → get_or entries a 0 ≡ a % 4

pub none_filled : (address value : ℕ → ℕ) (entries : List ℕ) → length entries ≡ 4096 →
    ((a : ℕ) → a < 4096 → get_or entries a 0 ≡ a % 4) → IsFilled address value 0 entries
none_filled address value entries long e =
    record { long = long; done = λ m h. absurd (omega arith); rest = λ a h none. e a h }

-- one more value, which agrees with those that have its address
one_filled : (address value : ℕ → ℕ) (n : ℕ) (entries : List ℕ) (a v : ℕ) →
    IsFilled address value n entries →
    ((m : ℕ) → m < n → address m ≡ address n → value m ≡ value n) →
    a < 4096 → a ≡ address n → v ≡ value n →
    IsFilled address value (n + 1) (set entries a v)
one_filled address value n entries a v k agrees h ea ev = record {
  long = omega (arith, k.long, length-set entries a v);
  done = λ m l. elim (eqb_tells (address m) a) [
    | inl e ↦
        let here : get_or (set entries a v) (address m) 0 ≡ v =
        ap (λ i. get_or (set entries a v) i 0) (e.1) ∙
        get_or-set_same entries a v 0 (omega (arith, k.long)) in
        here ∙ ev ∙ elim (dec_lt m n) [
          | Prim.yes lt ↦ sym (agrees m lt (e.1 ∙ ea))
          | Prim.no ge ↦ let same : n ≡ m = omega arith in ap value same
        ]
    | inr e ↦
        elim (dec_lt m n) [
          | Prim.yes lt ↦ get_or-set_other entries a (address m) v 0 (e.1) ∙ k.done m lt
          | Prim.no ge ↦
              let same : m ≡ n = omega arith in absurd (e.1 (ap address same ∙ sym ea))
        ]
  ];
  rest = λ b l none.
      let ne : b ≢ a = λ e. none n (omega arith) (sym (e ∙ ea)) in
      get_or-set_other entries a b v 0 ne ∙ k.rest b l (λ m lt. none m (omega arith));
}

-- the address that a corner of a block's successor shows, and the bits that the corner had before
abbrev pub address_at : Reading → Hood → Minor → ℕ → ℕ
address_at read hood minor n =
    corner_address hood minor (phase_at n) (block_map read (phase_at n) (state_numbered n)) (corner_numbered n)

abbrev pub value_at : ℕ → ℕ
value_at n = corner_bits (state_numbered n) (corner_numbered n)

abbrev pub IsFilledTo : Reading → Hood → Minor → ℕ → List ℕ → Type 0
IsFilledTo read hood minor n entries = IsFilled (address_at read hood minor) value_at n entries

-- the number of a corner of a state at the phase with this number
module _ (k s p : ℕ) (hs : s < 256) (hp : p < 4) where
  phase_there : phase_at (1024 * k + 4 * s + p) ≡ phase_of k
  phase_there =
      let n = 1024 * k + 4 * s + p in
      let e : n / 1024 ≡ k = omega arith in
      ap phase_of e

  state_there : state_numbered (1024 * k + 4 * s + p) ≡ s
  state_there = omega arith

  corner_there : corner_numbered (1024 * k + 4 * s + p) ≡ p
  corner_there = omega arith

  address_there : (read : Reading) (hood : Hood) (minor : Minor) →
      address_at read hood minor (1024 * k + 4 * s + p)
      ≡ corner_address hood minor (phase_of k) (block_map read (phase_of k) s) p
  address_there read hood minor =
      let n = 1024 * k + 4 * s + p in
      ap (λ q. corner_address hood minor q (block_map read q (state_numbered n)) (corner_numbered n))
      phase_there ∙
      ap (λ q. corner_address hood minor (phase_of k) (block_map read (phase_of k) q) (corner_numbered n))
      state_there ∙
      ap (corner_address hood minor (phase_of k) (block_map read (phase_of k) s)) corner_there

  value_there : value_at (1024 * k + 4 * s + p) ≡ corner_bits s p
  value_there =
      ap (λ q. corner_bits q (corner_numbered (1024 * k + 4 * s + p))) state_there ∙
      ap (corner_bits s) corner_there

module _ (read : Reading) (hood : Hood) (minor : Minor) (reads : IsReading hood minor read)
    (blocks : is_margolus hood ≡ true)
    (one : (phase : Phase) → IsOneToOne (block_map read phase)) where
  -- one more corner
  pub next_filled : (k s p : ℕ) (entries : List ℕ) (a v : ℕ) → k < 4 → s < 256 → p < 4 →
      IsFilledTo read hood minor (1024 * k + 4 * s + p) entries → a < 4096 →
      a ≡ corner_address hood minor (phase_of k) (block_map read (phase_of k) s) p →
      v ≡ corner_bits s p →
      IsFilledTo read hood minor (1024 * k + 4 * s + (p + 1)) (set entries a v)
  next_filled k s p entries a v hk hs hp filled ha ea ev =
      let n = 1024 * k + 4 * s + p in
      let next : n + 1 ≡ 1024 * k + 4 * s + (p + 1) = omega arith in
      subst (λ (m : ℕ). IsFilledTo read hood minor m (set entries a v)) next
      (one_filled (address_at read hood minor) value_at n entries a v filled
      (λ m h e.
      agree read hood minor reads blocks (phase_at m) (phase_at n) (state_numbered m) (corner_numbered m)
      (state_numbered n) (corner_numbered n) (omega arith) (omega arith) (omega arith) (one (phase_at n)) e)
      ha (ea ∙ sym (address_there k s p hs hp read hood minor))
      (ev ∙ sym (value_there k s p hs hp)))

  pub all_filled : (entries : List ℕ) → IsFilledTo read hood minor 4096 entries →
      IsInverted read hood minor entries
  all_filled entries filled = record {
    whole = filled.long;
    shown = λ phase successor corner hi hp.
        let f = block_map read phase in
        let (s, s_lt, is) = takes_each f (λ i _. block_map-lt read phase i) (one phase) successor hi in
        let k = phase_number phase in
        let k_lt : k < 4 = phase_number-lt phase in
        let there = address_there k s corner s_lt hp read hood minor in
        let ea : address_at read hood minor (1024 * k + 4 * s + corner)
        ≡ corner_address hood minor phase successor corner =
        there ∙
        ap (λ q. corner_address hood minor q (block_map read q s) corner) (phase_of-number phase) ∙
        ap (λ q. corner_address hood minor phase q corner) is in
        let before : s ≡ preimage f successor =
        sym (preimage_is f s s_lt (one phase)) ∙ ap (preimage f) is in
        ap (λ a. get_or entries a 0) (sym ea) ∙
        filled.done (1024 * k + 4 * s + corner) (omega arith) ∙
        value_there k s corner s_lt hp ∙ ap (λ q. corner_bits q corner) before;
    hidden = λ a ha none.
        filled.rest a ha (λ m hm.
        none (phase_at m) (block_map read (phase_at m) (state_numbered m)) (corner_numbered m)
        (block_map-lt read (phase_at m) (state_numbered m)) (omega arith));
  }
