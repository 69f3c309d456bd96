use Rattle.std.proofs.Common.{length, ◌-◌, ◌≡◌, ◌≤◌, drop, take}
use Rattle.std.specs.List.{slice_split}
use Rattle.cam6_forth.specs.Tokens.{is_space, with_front}
use Rattle.cam6_forth.proofs.tokens.run_len.Given as goal

abbrev pub invariant-loop-end : goal.invariant-loop-end
invariant-loop-end l = record {
  within : l.end ≤ length l.text;
  parts : slice_split is_space l.text
      ≡ with_front (take l.end l.text) (slice_split is_space (drop l.end l.text));
}

abbrev pub decreases-loop-end : goal.decreases-loop-end
decreases-loop-end l = length l.text - l.end
