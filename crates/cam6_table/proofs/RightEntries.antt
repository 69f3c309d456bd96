-- A table is filled: an entry that is put where it is the result makes no other wrong.
use Rattle.std.proofs.Common.{◌≡◌, ◌∙◌, ◌<◌, ◌≤◌, ◌+◌, ℕ, List, Result, Ok, Err, length, IsOk}
use Rattle.std.proofs.Common.{slice_index, slice_set, bit_and, sym, ap, subst, arith, refl}
use Rattle.std.proofs.Common.{inl, inr}
use Rattle.std.proofs.lemmas.Bool.{cases_eq, cases_lt}
use Rattle.std.proofs.lemmas.Nat.{and_le_l, and_assoc}
use Rattle.std.proofs.lemmas.List.{get_or-set_same, get_or-set_other}
use Rattle.std.specs.Int.Bits.{and_self}
use Rattle.cam6_table.specs.declared.codes.Instruction.{Instruction}
use Rattle.cam6_table.specs.declared.faults.RuleFault.{RuleFault}
use Rattle.cam6_table.specs.Codes.{result_at}
use Rattle.cam6_table.specs.Tables.{Results, IsLeastStop}
use Rattle.cam6_table.specs.Internal.Filling.{IsRight, AreRightIfFilled, AreNext}
use Rattle.cam6_table.specs.Internal.Filling.{IsFirstStop, IsStopFrom}
use Rattle.cam6_table.specs.Internal.LinesRead.{IsMaskFor}
use Rattle.cam6_table.proofs.LinesRead.{masked_same}

abbrev ok_entry : ℕ → Result ℕ RuleFault
ok_entry v = Ok v

is_ok : (said : Result ℕ RuleFault) (v : ℕ) → said ≡ Ok v → IsOk said
is_ok (Ok w) v same = refl
is_ok (Err fault) v same = cc same

module _ (results : Results) (entries : List ℕ) (here entry : ℕ) (within : here < length entries)
    (said : Ok entry ≡ results here) where
  right_here : IsRight results (slice_set entries here entry) here
  right_here = sym said ∙ sym (ap ok_entry (get_or-set_same entries here entry 0 within))

  -- what was right is right still
  pub right_still : (a : ℕ) → IsRight results entries a →
      IsRight results (slice_set entries here entry) a
  right_still a right =
      elim (cases_eq a here) [
        | inl same ↦ subst (λ k. IsRight results (slice_set entries here entry) k) (sym same)
            right_here
        | inr other ↦ right ∙ sym (ap ok_entry (get_or-set_other entries here a entry 0 other))
      ]

  -- and so are all before one address more
  pub right_more : ((a : ℕ) → a < here → IsRight results entries a) →
      (a : ℕ) → a < here + 1 → IsRight results (slice_set entries here entry) a
  right_more before a below =
      elim (cases_eq a here) [
        | inl same ↦ subst (λ k. IsRight results (slice_set entries here entry) k) (sym same)
            right_here
        | inr other ↦ right_still a (before a (omega arith))
      ]

-- of the addresses in lanes, one that is lower stands before
stands_before : (mask from : ℕ) (entries some : List ℕ) (count end j k : ℕ) →
    AreNext mask from entries some count end → j < count →
    slice_index some j < slice_index some k → j < k
stands_before mask from entries some count end j k next counts lower =
    elim (cases_lt j k) [
      | inl before ↦ before
      | inr remaining ↦ elim (cases_eq k j) [
        | inl same ↦ omega (arith, lower, ap (slice_index some) same)
        | inr other ↦ omega (arith, lower, next.rising k j (omega arith) counts)
      ]
    ]

-- the first fault in lanes is the first of all that are not filled
pub stop_of_lanes : (code : List Instruction) (mask from : ℕ) (entries some : List ℕ)
    (count end address : ℕ) (fault : RuleFault) → end ≤ 4096 →
    AreRightIfFilled (result_at code) entries → AreNext mask from entries some count end →
    IsFirstStop some count (result_at code) address fault →
    IsStopFrom mask from (result_at code) address fault
stop_of_lanes code mask from entries some count end address fault within right next stop =
    let here = stop.position in
    let below_end : address < end =
    subst (λ a. a < end) stop.is (next.before here stop.counts) in
    record {
      within = omega arith;
      stops = stop.stops;
      least = λ a low below shows.
          elim (right a (omega arith)) [
            | inl unfilled ↦
                let among = next.all a low (omega arith) shows unfilled in
                let lower : slice_index some among.position < slice_index some here =
                omega (arith, among.is, stop.is) in
                subst (λ b. IsOk (result_at code b)) among.is
                (stop.before among.position
                (stands_before mask from entries some count end among.position here next
                among.counts lower))
            | inr done ↦ is_ok (result_at code a) (slice_index entries a) done
          ];
    }

-- a masked address shows nothing but lines of the mask
masked_shows : (a mask : ℕ) → bit_and (bit_and a mask) mask ≡ bit_and a mask
masked_shows a mask = and_assoc mask a mask ∙ ap (bit_and a) (and_self mask)

module _ (code : List Instruction) (mask : ℕ) (entries : List ℕ) (is : IsMaskFor mask code) where
  -- where the entries at masked addresses are right, each is the result at all that it stands for
  pub copied : ((a : ℕ) → a < 4096 → bit_and a mask ≡ a → IsRight (result_at code) entries a) →
      (a : ℕ) → a < 4096 → Ok (slice_index entries (bit_and a mask)) ≡ result_at code a
  copied right a within =
      sym (right (bit_and a mask) (omega (arith, and_le_l a mask)) (masked_shows a mask)) ∙
      sym (masked_same mask a (omega arith) code is)

  -- the first fault at an address that shows nothing but lines of the mask is the first of all
  pub stop_of_all : (from address : ℕ) (fault : RuleFault) →
      ((a : ℕ) → a < from → bit_and a mask ≡ a → IsRight (result_at code) entries a) →
      IsStopFrom mask from (result_at code) address fault →
      IsLeastStop (result_at code) address fault
  stop_of_all from address fault right stop = record {
    within = stop.within;
    stops = stop.stops;
    least = λ before below.
        let same = bit_and before mask in
        let shows = masked_shows before mask in
        let lower = and_le_l before mask in
        subst (λ said. IsOk said)
        (sym (masked_same mask before (omega (arith, stop.within)) code is))
        (elim (cases_lt same from) [
          | inl done ↦ is_ok (result_at code same) (slice_index entries same)
              (right same done shows)
          | inr later ↦ stop.least same later (omega (arith, lower)) shows
        ]);
  }
