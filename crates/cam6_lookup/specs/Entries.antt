-- The bits of a list of entries.
use Rattle.std.specs.Prelude.{ℕ, Bool, List, slice_index, ◌==◌}
use Rattle.std.specs.Int.{bit_at}

-- this bit of the entry at an address, bit 0 being the lowest
abbrev pub entry_bit : List ℕ → ℕ → ℕ → Bool
entry_bit entries address bit = bit_at (slice_index entries address) bit == 1
