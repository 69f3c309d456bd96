use Rattle.std.proofs.Common.{◌≡◌, ℕ, ◌<◌, ◌≤◌, ◌*◌, length}
use Rattle.cam6_planes.specs.Row.{column_bit}
use Rattle.cam6_wiring.proofs.MixedColumns.{mixed}
use Rattle.cam6_planes.specs.declared.row.TheConstants.{WORDS}
use Rattle.cam6_wiring.proofs.columns.put_odd_columns.Given as goal

abbrev pub invariant-loop-i : goal.invariant-loop-i
invariant-loop-i l = record {
  words : length l.row ≡ WORDS;
  done : (x : ℕ) → x < 64 * l.i → column_bit l.row x ≡ mixed l.odd l.fn.row x;
  rest : (x : ℕ) → 64 * l.i ≤ x → column_bit l.row x ≡ column_bit l.fn.row x;
}
