-- What is left in each lane where flows meet.
use Rattle.std.proofs.Common.{◌≡◌, ◌∙◌, ◌⊎◌, ◌==◌, ◌&&◌, ◌<◌, ℕ, List, slice_index, ap, sym, inl, inr, arith, None}
use Rattle.cam6_table.specs.declared.codes.Instruction.{Instruction}
use Rattle.cam6_table.specs.declared.flows.Flow.{Flow}
use Rattle.cam6_table.specs.declared.flows.Places.{Places}
use Rattle.cam6_table.specs.declared.lanes.Lanes.{Lanes}
use Rattle.cam6_table.specs.declared.lane_values.TheConstants.{LANES}
use Rattle.cam6_table.specs.Internal.Lanes.{outcome_from, IsLeft, IsUntouched, AreLeft, AreLeftWith}
use Rattle.cam6_table.specs.Internal.Sets.{IsIn, IsOut, IsOther}
use Rattle.cam6_table.proofs.Parting.{left_there, remaining_there, top_there}

-- what is left to a lane stays where nothing is done in it
pub untouched_left : (address : ℕ) (code : List Instruction) (remaining top : ℕ) (lanes new : Lanes)
    (lane : ℕ) → IsUntouched lanes new lane →
    IsLeft address code remaining top lanes lane → IsLeft address code remaining top new lane
untouched_left address code remaining top lanes new lane same left = record {
  place = left.place;
  stands = same.stands top left.stands;
  left = ap (outcome_from address code (record { remaining = remaining; word = None })) (same.state top) ∙
      left.left;
}

-- the lanes of a flow wait, and the others do as before
pub all_left : (addresses : List ℕ) (code : List Instruction) (flow : Flow) (places new : Places)
    (lanes : Lanes) → AreLeftWith addresses code flow places lanes →
    ((lane : ℕ) → lane < LANES → IsIn flow.set.mask lane →
    slice_index new.remaining_by_lane lane ≡ flow.remaining) →
    ((lane : ℕ) → lane < LANES → IsIn flow.set.mask lane →
    slice_index new.tops lane ≡ lanes.stacks.len) →
    ((lane : ℕ) → lane < LANES → IsOut flow.set.mask lane →
    slice_index new.remaining_by_lane lane ≡ slice_index places.remaining_by_lane lane) →
    ((lane : ℕ) → lane < LANES → IsOut flow.set.mask lane →
    slice_index new.tops lane ≡ slice_index places.tops lane) →
    AreLeft addresses code new lanes
all_left addresses code flow places new lanes left remaining_by_lane tops others ends = λ lane below.
    elim (left.each lane below) [
      | inl inside ↦ left_there (slice_index addresses lane) code _ _ _ _ lanes lane
          (remaining_by_lane lane below inside) (tops lane below inside) (left.inside lane below inside)
      | inr outside ↦ left_there (slice_index addresses lane) code _ _ _ _ lanes lane
          (others lane below outside) (ends lane below outside) (left.outside lane below outside)
    ]

-- a lane of two sets that are put together
module _ (set those both : ℕ) (each : (set ≡ 65535) ⊎ (set ≡ 0))
    (inside : set ≡ 65535 → both ≡ 65535) (outside : set ≡ 0 → both ≡ those) where
  pub in_either : both ≡ 65535 → (set ≡ 65535) ⊎ (those ≡ 65535)
  in_either is =
      elim each [
        | inl first ↦ inl first
        | inr other ↦ inr (sym (outside other) ∙ is)
      ]

  pub out_of_set : both ≡ 0 → set ≡ 0
  out_of_set none =
      elim each [
        | inl first ↦ absurd (let is = inside first in omega arith)
        | inr other ↦ other
      ]

  pub out_of_those : both ≡ 0 → those ≡ 0
  out_of_those none = sym (outside (out_of_set none)) ∙ none

  pub each_both : (those ≡ 65535) ⊎ (those ≡ 0) → (both ≡ 65535) ⊎ (both ≡ 0)
  each_both each_those =
      elim each [
        | inl first ↦ inl (inside first)
        | inr other ↦
            elim each_those [
              | inl second ↦ inl (outside other ∙ second)
              | inr none ↦ inr (outside other ∙ none)
            ]
      ]

-- a lane of a set is not among others
pub not_among : (set those : ℕ) → (those ≡ 65535) ⊎ (those ≡ 0) → (those ≡ 65535 → set ≡ 0) →
    set ≡ 65535 → those ≡ 0
not_among set those each others inside =
    elim each [
      | inl among ↦ absurd (let is = others among in omega arith)
      | inr none ↦ none
    ]

module _ (addresses : List ℕ) (code : List Instruction) (flow : Flow) (places : Places)
    (lanes : Lanes) (left : AreLeftWith addresses code flow places lanes) where
  -- what is left to others at the place of the flow
  pub others_left : (remaining top there : ℕ) (those : List ℕ) → remaining ≡ flow.remaining →
      there ≡ top →
      ((lane : ℕ) → lane < LANES → IsOther (slice_index those lane)
      (slice_index flow.set.mask lane) (slice_index places.remaining_by_lane lane == remaining
      && slice_index places.tops lane == top)) →
      (lane : ℕ) → lane < LANES → IsIn those lane →
      IsLeft (slice_index addresses lane) code flow.remaining there lanes lane
  others_left remaining top there those here ends others lane below inside =
      let other = others lane below in
      let is = other.holds_in inside in
      let b = slice_index places.remaining_by_lane lane in
      let t = slice_index places.tops lane in
      let at = remaining_there b t remaining top is in
      let end = top_there b t remaining top is in
      left_there (slice_index addresses lane) code b t _ _ lanes lane (omega arith) (omega arith)
      (left.outside lane below (other.outside inside))
