use Rattle.std.proofs.Common.{◌≡◌, ℕ, ◌<◌, ◌+◌, ◌-◌, ◌*◌}
use Rattle.cam6_planes.specs.Row.{word_column}
use Rattle.cam6_lookup.specs.Entries.{entry_bit}
use Rattle.cam6_program.proofs.validating.packed.Given as goal

abbrev pub invariant-loop-c : goal.invariant-loop-c
invariant-loop-c l = record {
  lower : (k : ℕ) → k < l.c →
      word_column l.lower (64 - l.c + k) ≡ entry_bit l.entries (64 * l.word + k) 0;
  upper : (k : ℕ) → k < l.c →
      word_column l.upper (64 - l.c + k) ≡ entry_bit l.entries (64 * l.word + k) 1;
}
