use Rattle.std.proofs.Common.{◌≡◌, ◌<◌, ◌≤◌, ℕ, ◌*◌, length, false}
use Rattle.cam6_planes.specs.Row.{column_bit}
use Rattle.cam6_planes.specs.declared.row.TheConstants.{WORDS}
use Rattle.cam6_planes.proofs.planes.Planes.row_words.Given as goal

abbrev pub invariant-loop-i : goal.invariant-loop-i
invariant-loop-i l = record {
  words : length l.row ≡ WORDS;
  copied : (x : ℕ) → x < 64 * l.i → column_bit l.row x ≡ column_bit l.kept x;
  past : (x : ℕ) → 64 * l.i ≤ x → column_bit l.row x ≡ false;
}
