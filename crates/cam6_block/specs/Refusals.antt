-- Why a table can't be inverted.
use Rattle.std.specs.Prelude.{◌≡◌, ◌≢◌, ◌<◌, ℕ, Bool, true, false, nat_lt}
use Rattle.std.specs.Prelude.{Option, Some, None, if◌then◌else◌}
use Rattle.cam6_wiring.specs.Name.{phase_number}
use Rattle.cam6_wiring.specs.declared.names.Phase.{Phase}
use Rattle.cam6_wiring.specs.declared.names.Phase.TheVariants.{P0, P1, P2, P3}
use Rattle.cam6_wiring.specs.declared.wirings.Hood.{Hood}
use Rattle.cam6_wiring.specs.declared.wirings.Minor.{Minor}
use Rattle.cam6_wiring.specs.declared.wirings.Minor.TheVariants.{Centers, Phases, HorzVert}
use Rattle.cam6_wiring.specs.Wiring.{is_margolus}
use Rattle.cam6_block.specs.Blocks.{block_states}
use Rattle.cam6_block.specs.BlockMaps.{Reading, block_map, preimage, first_from}
use Rattle.cam6_block.specs.BlockMaps.{IsOneToOne}
use Rattle.cam6_block.specs.declared.refusals.NotReversible.{NotReversible}
use Rattle.cam6_block.specs.declared.refusals.NotReversible.TheVariants as not_reversible

-- b is the least state that has the successor of a smaller one, and a is that smaller one
pub record IsMeeting (f : ℕ → ℕ) (a b : ℕ) : Type 0 where
  pub smaller : a < b
  pub state : b < block_states
  pub meet : f a ≡ f b
  pub least : (s t : ℕ) → s < t → t < b → f s ≢ f t

-- the cause: first the neighbourhood, then the minor assignment, then the least phase at which two
-- block states meet
abbrev pub IsRefused : Reading → Hood → Minor → NotReversible → Type 0
IsRefused read hood minor not_reversible.Hood = is_margolus hood ≡ false
IsRefused read hood minor not_reversible.Centres = (is_margolus hood ≡ true) × (minor ≡ Centers)
IsRefused read hood minor (not_reversible.Meeting phase a b) =
    (is_margolus hood ≡ true) × (minor ≢ Centers)
    × ((before : Phase) → phase_number before < phase_number phase →
    IsOneToOne (block_map read before))
    × IsMeeting (block_map read phase) a b

-- whether a smaller state has the same successor
abbrev pub has_met : (ℕ → ℕ) → ℕ → Bool
has_met f state = nat_lt (preimage f (f state)) state

-- the least state of which this is so, if there is any, and before it that smaller state
unfoldable pub meeting_of : (ℕ → ℕ) → Option (ℕ × ℕ)
meeting_of f =
    let b = first_from (has_met f) block_states 0 in
    if nat_lt b block_states then Some (preimage f (f b), b) else None

-- the meeting at a phase, or else the later cause
abbrev pub or_at_later_phase : Phase → Option (ℕ × ℕ) → Option NotReversible → Option NotReversible
or_at_later_phase phase None later = later
or_at_later_phase phase (Some pair) later = Some (not_reversible.Meeting phase pair.0 pair.1)

-- the meeting at the least phase that has one, if any has
abbrev pub first_meeting : Reading → Option NotReversible
first_meeting read =
    or_at_later_phase P0 (meeting_of (block_map read P0))
    (or_at_later_phase P1 (meeting_of (block_map read P1))
    (or_at_later_phase P2 (meeting_of (block_map read P2))
    (or_at_later_phase P3 (meeting_of (block_map read P3)) None)))

-- the other half's centres, or else the later cause
abbrev pub centres_or : Minor → Option NotReversible → Option NotReversible
centres_or Centers later = Some not_reversible.Centres
centres_or Phases later = later
centres_or HorzVert later = later

-- the cause, if there is one
abbrev pub cause_of : Reading → Hood → Minor → Option NotReversible
cause_of read hood minor =
    if is_margolus hood then centres_or minor (first_meeting read) else Some not_reversible.Hood

-- the number of the fault in replies, one for every cause
abbrev pub cause_number : NotReversible → ℕ
cause_number cause = 64
