use Rattle.std.proofs.Common.{◌≡◌, ℕ, ◌<◌, ◌*◌, ◌+◌, ◌-◌}
use Rattle.cam6_planes.specs.Row.{word_column, byte_column}
use Rattle.cam6_planes.proofs.row.word_of_bytes.Given as goal

abbrev pub invariant-loop-k : goal.invariant-loop-k
invariant-loop-k l = (c : ℕ) → c < 8 * l.k →
    word_column l.word (64 - 8 * l.k + c) ≡ byte_column l.bytes (64 * l.i + c)
