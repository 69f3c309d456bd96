-- What follows of blocks and of the tables that undo them.
use Rattle.std.specs.Prelude.{◌≡◌, ◌<◌, ℕ, List, Some, None}
use Rattle.cam6_wiring.specs.declared.names.Phase.{Phase}
use Rattle.cam6_wiring.specs.declared.wirings.Hood.{Hood}
use Rattle.cam6_wiring.specs.declared.wirings.Minor.{Minor}
use Rattle.cam6_wiring.specs.declared.wirings.Wiring.{Wiring}
use Rattle.cam6_forth.specs.Tree.{Part, IsRule}
use Rattle.cam6_table.specs.Tables.{IsTrueTable}
use Rattle.cam6_block.specs.Blocks.{block_states, corner_bits, corner_address}
use Rattle.cam6_block.specs.BlockMaps.{Reading, by_table, by_words, block_map, preimage}
use Rattle.cam6_block.specs.BlockMaps.{IsOneToOne, IsReversible}
use Rattle.cam6_block.specs.Refusals.{IsRefused, cause_of}
use Rattle.cam6_block.specs.Inverted.{IsInverted}
use Rattle.cam6_block.specs.declared.refusals.NotReversible.{NotReversible}

-- the true table of a rule makes of a block what the rule's words make of it
abbrev pub TrueTableHasTheBlockMap : Type 0
TrueTableHasTheBlockMap =
    (wiring : Wiring) (parts : List Part) (entries : List ℕ) (phase : Phase) (state : ℕ) →
    IsRule wiring parts → IsTrueTable wiring parts entries →
    block_map (by_table wiring.hood wiring.minor entries) phase state
    ≡ block_map (by_words wiring parts) phase state

-- a one-to-one map of block states to block states takes each state
abbrev pub TakesEach : Type 0
TakesEach =
    (f : ℕ → ℕ) → ((state : ℕ) → state < block_states → f state < block_states) → IsOneToOne f →
    (successor : ℕ) → successor < block_states →
    (state : ℕ) × (state < block_states) × (f state ≡ successor)

-- two corners that show one address, of whatever block states and at whatever phases, take the
-- same bits
abbrev pub CornersAgree : Type 0
CornersAgree =
    (hood : Hood) (minor : Minor) (entries : List ℕ) →
    let read = by_table hood minor entries in
    IsReversible read hood minor →
    (phase other_phase : Phase) (state other_state corner other_corner : ℕ) →
    state < block_states → other_state < block_states → corner < 4 → other_corner < 4 →
    corner_address hood minor phase state corner
    ≡ corner_address hood minor other_phase other_state other_corner →
    corner_bits (preimage (block_map read phase) state) corner
    ≡ corner_bits (preimage (block_map read other_phase) other_state) other_corner

-- there is one inverted table
abbrev pub IsTheOnlyOne : Type 0
IsTheOnlyOne =
    (read : Reading) (hood : Hood) (minor : Minor) (first second : List ℕ) →
    IsInverted read hood minor first → IsInverted read hood minor second → first ≡ second

-- the inverted table makes of each state the least one with this successor
abbrev pub InvertedTakesPreimages : Type 0
InvertedTakesPreimages =
    (hood : Hood) (minor : Minor) (entries inverted : List ℕ) (phase : Phase) (state : ℕ) →
    let read = by_table hood minor entries in
    IsReversible read hood minor → IsInverted read hood minor inverted → state < block_states →
    block_map (by_table hood minor inverted) phase state ≡ preimage (block_map read phase) state

-- so what it makes of a block's successor is the block as it was
abbrev pub InvertedUndoes : Type 0
InvertedUndoes =
    (hood : Hood) (minor : Minor) (entries inverted : List ℕ) (phase : Phase) (state : ℕ) →
    let read = by_table hood minor entries in
    IsReversible read hood minor → IsInverted read hood minor inverted → state < block_states →
    block_map (by_table hood minor inverted) phase (block_map read phase state) ≡ state

-- what is refused is refused for its cause, and what is reversible has none; what has none is
-- reversible
abbrev pub CauseIsFound : Type 0
CauseIsFound =
    (read : Reading) (hood : Hood) (minor : Minor) →
    ((cause : NotReversible) → IsRefused read hood minor cause →
    cause_of read hood minor ≡ Some cause) ×
    (IsReversible read hood minor → cause_of read hood minor ≡ None) ×
    (cause_of read hood minor ≡ None → IsReversible read hood minor)
