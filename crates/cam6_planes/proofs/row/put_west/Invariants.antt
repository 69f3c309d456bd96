use Rattle.std.proofs.Common.{◌≡◌, ℕ, ◌<◌, ◌≤◌, ◌*◌, length}
use Rattle.cam6_planes.specs.Row.{column_bit, west_of}
use Rattle.cam6_planes.specs.declared.row.TheConstants.{WORDS}
use Rattle.cam6_planes.proofs.row.put_west.Given as goal

abbrev pub invariant-loop-i : goal.invariant-loop-i
invariant-loop-i l = record {
  words : length l.shifted ≡ WORDS;
  moved : (x : ℕ) → x < 64 * l.i →
      column_bit l.shifted x ≡ column_bit l.row (west_of (64 * l.words) x);
  past : (x : ℕ) → 64 * l.words ≤ x → column_bit l.shifted x ≡ column_bit l.fn.shifted x;
}
