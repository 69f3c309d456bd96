-- The table that undoes the blocks of a reading.
use Rattle.std.specs.Prelude.{◌≡◌, ◌≢◌, ◌<◌, ◌%◌, ℕ, List, length, slice_index}
use Rattle.cam6_wiring.specs.declared.names.Phase.{Phase}
use Rattle.cam6_wiring.specs.declared.wirings.Hood.{Hood}
use Rattle.cam6_wiring.specs.declared.wirings.Minor.{Minor}
use Rattle.cam6_entries.specs.Limits.{addresses}
use Rattle.cam6_block.specs.Blocks.{block_states, corner_bits, corner_address}
use Rattle.cam6_block.specs.BlockMaps.{Reading, block_map, preimage}

-- no corner shows this address, at any phase and of any state
abbrev pub IsHidden : Hood → Minor → ℕ → Type 0
IsHidden hood minor address =
    (phase : Phase) (state corner : ℕ) → state < block_states → corner < 4 →
    corner_address hood minor phase state corner ≢ address

-- the entry at the address that a corner shows is the corner's bits in the least state with this
-- successor. An address that no corner shows has its own two lowest bits
pub record IsInverted (read : Reading) (hood : Hood) (minor : Minor) (entries : List ℕ) :
    Type 0 where
  pub whole : length entries ≡ addresses
  pub shown : (phase : Phase) (state corner : ℕ) → state < block_states → corner < 4 →
      slice_index entries (corner_address hood minor phase state corner)
      ≡ corner_bits (preimage (block_map read phase) state) corner
  pub hidden : (address : ℕ) → address < addresses → IsHidden hood minor address →
      slice_index entries address ≡ address % 4
