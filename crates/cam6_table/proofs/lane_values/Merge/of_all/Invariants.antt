use Rattle.std.proofs.Common.{length, ◌≡◌, ◌<◌, ◌∷◌, ℕ, List, Ok, slice_index}
use Rattle.cam6_table.specs.Words.{on_stack}
use Rattle.cam6_table.specs.Internal.LaneValues.{Fits, stack_word}
use Rattle.cam6_table.specs.declared.lane_values.TheConstants.{LANES}
use Rattle.cam6_table.proofs.lane_values.Merge.of_all.Given as goal

abbrev pub invariant-loop-lane : goal.invariant-loop-lane
invariant-loop-lane l = record {
  lanes : length l.values ≡ LANES;
  each : (k : ℕ) → k < l.lane → (rest : List ℕ) →
      Fits l.self (slice_index l.a k) (slice_index l.b k) →
      on_stack (stack_word l.self) (slice_index l.b k ∷ slice_index l.a k ∷ rest)
      ≡ Ok (slice_index l.values k ∷ rest);
}
