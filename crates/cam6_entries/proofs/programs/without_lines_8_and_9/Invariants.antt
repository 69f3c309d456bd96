use Rattle.std.proofs.Common.{◌≡◌, ◌<◌, ℕ, length, slice_index}
use Rattle.cam6_entries.specs.Programs.{without_lines_8_and_9}
use Rattle.cam6_entries.proofs.programs.without_lines_8_and_9.Given as goal

abbrev pub invariant-loop-address : goal.invariant-loop-address
invariant-loop-address l = record {
  whole : length l.shown ≡ 4096;
  shown : (before : ℕ) → before < l.address →
      slice_index l.shown before ≡ slice_index l.entries (without_lines_8_and_9 before);
}
