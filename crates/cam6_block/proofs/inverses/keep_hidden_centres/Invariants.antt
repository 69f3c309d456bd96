use Rattle.std.proofs.Common.{◌≡◌, ◌<◌, ◌%◌, ℕ, length, slice_index}
use Rattle.cam6_block.proofs.inverses.keep_hidden_centres.Given as goal

abbrev pub invariant-loop-address : goal.invariant-loop-address
invariant-loop-address l = record {
  whole : length l.out ≡ 4096;
  entries : (before : ℕ) → before < l.address → slice_index l.out before ≡ before % 4;
}
