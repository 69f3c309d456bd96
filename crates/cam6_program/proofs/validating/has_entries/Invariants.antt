use Rattle.std.proofs.Common.{◌≡◌, ℕ, ◌<◌, ◌*◌}
use Rattle.cam6_planes.specs.Row.{column_bit}
use Rattle.cam6_lookup.specs.Entries.{entry_bit}
use Rattle.cam6_program.proofs.validating.has_entries.Given as goal

abbrev pub invariant-loop-word : goal.invariant-loop-word
invariant-loop-word l = record {
  lower : (address : ℕ) → address < 64 * l.word →
      column_bit l.lower address ≡ entry_bit l.entries address 0;
  upper : (address : ℕ) → address < 64 * l.word →
      column_bit l.upper address ≡ entry_bit l.entries address 1;
}
