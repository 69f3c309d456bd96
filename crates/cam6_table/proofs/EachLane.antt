-- What holds of the value in each lane so far holds in one lane more.
use Rattle.std.proofs.Common.{◌<◌, ◌+◌, ℕ, List, length, slice_index, slice_set, sym, subst}
use Rattle.std.proofs.Common.{arith, inl, inr}
use Rattle.std.proofs.lemmas.Bool.{cases_eq}
use Rattle.std.proofs.lemmas.List.{get_or-set_same, get_or-set_other}

pub one_lane_more : (P : ℕ → ℕ → Type 0) (values : List ℕ) (lane value : ℕ) →
    lane < length values → P lane value → ((k : ℕ) → k < lane → P k (slice_index values k)) →
    (k : ℕ) → k < lane + 1 → P k (slice_index (slice_set values lane value) k)
one_lane_more P values lane value within here before k below =
    elim (cases_eq k lane) [
      | inl same ↦ subst (λ j. P j (slice_index (slice_set values lane value) j)) (sym same)
          (subst (P lane) (sym (get_or-set_same values lane value 0 within)) here)
      | inr other ↦ subst (P k) (sym (get_or-set_other values lane k value 0 other))
          (before k (omega arith))
    ]
