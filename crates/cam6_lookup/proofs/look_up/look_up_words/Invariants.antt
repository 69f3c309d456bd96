use Rattle.std.proofs.Common.{◌≡◌, ℕ, ◌<◌, ◌*◌, length, map}
use Rattle.cam6_planes.specs.Row.{column_bit}
use Rattle.cam6_wiring.specs.Lines.{address_in}
use Rattle.cam6_lookup.specs.Entries.{entry_bit}
use Rattle.cam6_lookup.proofs.look_up.look_up_words.Given as goal

abbrev pub invariant-loop-chunk : goal.invariant-loop-chunk
invariant-loop-chunk g l = record {
  lower_words : length l.lower ≡ g.row.N;
  upper_words : length l.upper ≡ g.row.N;
  lower : (x : ℕ) → x < 128 * l.chunk →
      column_bit l.lower x ≡ entry_bit l.entries (address_in (map (λ line. line.now) l.lines) x) 0;
  upper : (x : ℕ) → x < 128 * l.chunk →
      column_bit l.upper x ≡ entry_bit l.entries (address_in (map (λ line. line.now) l.lines) x) 1;
}
