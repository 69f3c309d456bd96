-- What code does at many addresses at once, each in a lane of its own. Lanes that are at one
-- place of the code and whose stacks end at one row are a flow, and go on together.
use Rattle.std.specs.Prelude.{◌≡◌, ◌<◌, ◌≤◌, ◌-◌, ◌+◌, ◌⊎◌, ◌==◌, if◌then◌else◌, MatchResult}
use Rattle.std.specs.Prelude.{ℕ, zero, suc, List, [], ◌∷◌, ◌++◌, length, slice_index}
use Rattle.std.specs.Prelude.{slice_index_or}
use Rattle.std.specs.Prelude.{Bool, Option, Some, None, Result, Ok}
use Rattle.cam6_wiring.specs.Seen.{shown}
use Rattle.cam6_forth.specs.declared.words.StackWord.{StackWord}
use Rattle.cam6_forth.specs.declared.words.Target.{Target}
use Rattle.cam6_table.specs.declared.codes.Instruction.{Instruction}
use Rattle.cam6_table.specs.declared.evaluation.Place.{Place}
use Rattle.cam6_table.specs.declared.faults.RuleFault.{RuleFault}
use Rattle.cam6_table.specs.declared.floors.Floors.{Floors}
use Rattle.cam6_table.specs.declared.flows.Flow.{Flow}
use Rattle.cam6_table.specs.declared.flows.Places.{Places}
use Rattle.cam6_table.specs.declared.lane_stacks.NotInAllLanes.{NotInAllLanes}
use Rattle.cam6_table.specs.declared.lanes.Lanes.{Lanes}
use Rattle.cam6_table.specs.declared.spans.Span.{Span}
use Rattle.cam6_table.specs.declared.lane_stacks.Stacks.{Stacks}
use Rattle.cam6_table.specs.declared.lane_stacks.TheConstants.{ROWS}
use Rattle.cam6_table.specs.declared.lane_values.TheConstants.{LANES}
use Rattle.cam6_table.specs.declared.outputs.State.{State}
use Rattle.cam6_table.specs.Limits.{max_values}
use Rattle.cam6_table.specs.Words.{Values, on_stack}
use Rattle.cam6_table.specs.Outputs.{untouched, written}
use Rattle.cam6_table.specs.Codes.{act, exec, go, last_of}
use Rattle.cam6_table.specs.Internal.Sets.{IsIn, IsOut}

-- what a row has in a lane
abbrev pub value_at : ℕ → List (List ℕ) → ℕ → ℕ
value_at lane rows row = slice_index (slice_index_or rows row []) lane

-- a lane's values in so many rows from one on, the last one first
abbrev pub values_from : ℕ → List (List ℕ) → ℕ → ℕ → Values
values_from lane rows floor zero = []
values_from lane rows floor (suc count) =
    value_at lane rows (floor + count) ∷ values_from lane rows floor count

-- a lane's stack that begins at one row and ends before another
abbrev pub column : ℕ → List (List ℕ) → ℕ → ℕ → Values
column lane rows floor top = values_from lane rows floor (top - floor)

-- where a lane's stack begins if all of its values are in place
abbrev pub floor_of : ℕ → Floors → ℕ
floor_of lane floors = slice_index floors.rows lane

-- the row from which on its values are in place
abbrev pub end_of : ℕ → Floors → ℕ
end_of lane floors = slice_index floors.ends lane

-- how far below their place the others lie
abbrev pub width_of : ℕ → Floors → ℕ
width_of lane floors = slice_index floors.widths lane

-- the values of a lane's stack that are not in place
abbrev pub below_gap : ℕ → List (List ℕ) → Floors → Values
below_gap lane rows floors =
    column lane rows (floor_of lane floors - width_of lane floors)
    (end_of lane floors - width_of lane floors)

-- a lane's stack that ends before a row
abbrev pub stack_at : ℕ → List (List ℕ) → Floors → ℕ → Values
stack_at lane rows floors top =
    column lane rows (end_of lane floors) top ++ below_gap lane rows floors

-- a lane's stack can lie so, and end before a row
pub record Stands (lane top : ℕ) (floors : Floors) : Type 0 where
  pub deep : width_of lane floors ≤ floor_of lane floors
  pub begins : floor_of lane floors ≤ end_of lane floors
  pub in_place : end_of lane floors ≤ top
  pub high : top ≤ floor_of lane floors + max_values
  pub within : top ≤ ROWS

-- stacks that all end at a row fit in a span
pub record Holds (span : Span) (len : ℕ) : Type 0 where
  pub low : span.floor ≤ len
  pub high : len ≤ span.room
  pub within : span.room ≤ ROWS

-- a stack that begins at a row is among those of a span
pub record IsFor (span : Span) (floor : ℕ) : Type 0 where
  pub low : floor ≤ span.floor
  pub full : span.room ≤ floor + max_values

-- a lane's stack lies so that it is among those of a span
pub record IsSpanned (span : Span) (lane : ℕ) (floors : Floors) : Type 0 where
  pub deep : width_of lane floors ≤ floor_of lane floors
  pub begins : floor_of lane floors ≤ end_of lane floors
  pub in_place : end_of lane floors ≤ span.floor
  pub bottom : floor_of lane floors ≤ span.bottom
  pub full : span.room ≤ floor_of lane floors + max_values

-- a span that serves for lanes of which another one serves for more
pub record IsWithin (after span : Span) : Type 0 where
  pub floor : after.floor ≤ span.floor
  pub bottom : after.bottom ≡ span.bottom
  pub room : after.room ≡ span.room

-- the bit that a value stands for, if any
abbrev pub bit_written : ℕ → Option Bool
bit_written v = if v == 2 then None else Some (v == 1)

-- a lane's state, if its stack ends before a row
abbrev pub state_at : ℕ → ℕ → Lanes → State
state_at lane top lanes = record {
  stack = stack_at lane lanes.stacks.rows lanes.floors top;
  lower = bit_written (slice_index lanes.lower lane);
  upper = bit_written (slice_index lanes.upper lane);
}

-- in each lane of a set a value comes on top, wherever its stack begins
abbrev pub Pushes : (set values : List ℕ) → Stacks → Stacks → Type 0
Pushes set values old new = (lane : ℕ) → lane < LANES → IsIn set lane →
    (floor : ℕ) → floor ≤ old.len → column lane new.rows floor new.len
    ≡ slice_index values lane ∷ column lane old.rows floor old.len

-- in each lane that is not in a set every stack stays
abbrev pub StayOut : List ℕ → Stacks → Stacks → Type 0
StayOut set old new = (lane : ℕ) → lane < LANES → IsOut set lane → (floor top : ℕ) →
    column lane new.rows floor top ≡ column lane old.rows floor top

-- no row below this one changes
abbrev pub StayBelow : ℕ → Stacks → Stacks → Type 0
StayBelow limit old new = (lane row : ℕ) → row < limit →
    value_at lane new.rows row ≡ value_at lane old.rows row

-- in each lane of a set a stack word left the new stack, or nothing was done; the other lanes stay
pub record LeavesIn (set : List ℕ) (span : Span) (said : StackWord) (old new : Stacks)
    (result : Result (Unit {0}) NotInAllLanes) : Type 0 where
  pub holds : Holds span new.len
  pub each : MatchResult result
      (λ _. (lane : ℕ) → lane < LANES → IsIn set lane → (floor : ℕ) → IsFor span floor →
      on_stack said (column lane old.rows floor old.len) ≡ Ok (column lane new.rows floor new.len))
      (λ _. new ≡ old)
  pub others : StayOut set old new
  pub below : StayBelow span.floor old new

-- in each lane of a set an output word made the new state, or nothing was done; the other lanes
-- stay
pub record WritesIn (set : List ℕ) (span : Span) (target : Target) (old new : Lanes)
    (result : Result (Unit {0}) NotInAllLanes) : Type 0 where
  pub holds : Holds span new.stacks.len
  pub floors : new.floors ≡ old.floors
  pub each : MatchResult result
      (λ _. (lane : ℕ) → lane < LANES → IsIn set lane →
      written target (state_at lane old.stacks.len old) ≡ Ok (state_at lane new.stacks.len new))
      (λ _. new ≡ old)
  pub others : (lane : ℕ) → lane < LANES → IsOut set lane → (top : ℕ) →
      state_at lane top new ≡ state_at lane top old

-- in each lane of a set an instruction made the new state, and the code passes so many
-- instructions, or nothing was done; the other lanes stay
pub record ActsIn (set : List ℕ) (span : Span) (addresses : List ℕ) (instruction : Instruction)
    (old new : Lanes) (result : Result ℕ NotInAllLanes) : Type 0 where
  pub holds : Holds span new.stacks.len
  pub floors : new.floors ≡ old.floors
  pub each : MatchResult result
      (λ passed. (lane : ℕ) → lane < LANES → IsIn set lane →
      act (shown (slice_index addresses lane)) None instruction (state_at lane old.stacks.len old)
      ≡ Ok (state_at lane new.stacks.len new, go passed None))
      (λ _. new ≡ old)
  pub others : (lane : ℕ) → lane < LANES → IsOut set lane → (top : ℕ) →
      state_at lane top new ≡ state_at lane top old

-- nothing was done in a lane
pub record IsUntouched (lanes new : Lanes) (lane : ℕ) : Type 0 where
  pub stands : (top : ℕ) → Stands lane top lanes.floors → Stands lane top new.floors
  pub spanned : (span : Span) → IsSpanned span lane lanes.floors → IsSpanned span lane new.floors
  pub state : (top : ℕ) → state_at lane top new ≡ state_at lane top lanes

-- in each lane of a set an instruction made the new state, and the code passes so many
-- instructions, or nothing was done; the span may be narrower then, and the other lanes stay
pub record StepsIn (set addresses : List ℕ) (instruction : Instruction) (span : Span) (old : Lanes)
    (after : Span) (new : Lanes) (result : Result ℕ NotInAllLanes) : Type 0 where
  pub holds : Holds after new.stacks.len
  pub narrows : IsWithin after span
  pub floors : (lane : ℕ) → lane < LANES → IsIn set lane → IsSpanned after lane new.floors
  pub each : MatchResult result
      (λ passed. (lane : ℕ) → lane < LANES → IsIn set lane →
      act (shown (slice_index addresses lane)) None instruction (state_at lane old.stacks.len old)
      ≡ Ok (state_at lane new.stacks.len new, go passed None))
      (λ _. new ≡ old)
  pub others : (lane : ℕ) → lane < LANES → IsOut set lane → IsUntouched old new lane

-- what code comes to from a place and a state on
abbrev pub outcome_from : ℕ → List Instruction → Place → State → Result State RuleFault
outcome_from address code place s =
    exec (shown address) (last_of place.remaining code) 0 place.word s

-- an instruction is the next one, where so many are left
abbrev pub IsNext : List Instruction → ℕ → Instruction → Type 0
IsNext code remaining instruction =
    last_of (remaining - 1 + 1) code ≡ instruction ∷ last_of (remaining - 1) code

-- the search for a word of a case leads to where so many instructions are left
abbrev pub LeadsTo : List Instruction → (from word remaining : ℕ) → Type 0
LeadsTo code from word remaining = (address : ℕ) (s : State) →
    outcome_from address code (record { remaining = remaining; word = None }) s
    ≡ outcome_from address code (record { remaining = from; word = Some word }) s

-- each lane of a set has the index of a word of a case, and so many instructions are left at its
-- word, as the search from the case's first head finds it; those of other lanes stay
pub record AreFound (code : List Instruction) (from count : ℕ) (set indices old remaining_by_lane : List ℕ)
    : Type 0 where
  pub below : (lane : ℕ) → lane < LANES → IsIn set lane → slice_index indices lane < count
  pub within : (lane : ℕ) → lane < LANES → IsIn set lane → slice_index remaining_by_lane lane ≤ length code
  pub found : (lane : ℕ) → lane < LANES → IsIn set lane →
      LeadsTo code from (slice_index indices lane) (slice_index remaining_by_lane lane)
  pub others : (lane : ℕ) → lane < LANES → IsOut set lane →
      slice_index remaining_by_lane lane ≡ slice_index old lane

-- where so many instructions are left to a lane and its stack ends before a row, there is left to
-- do what the code does from its start
pub record IsLeft (address : ℕ) (code : List Instruction) (remaining top : ℕ) (lanes : Lanes)
    (lane : ℕ) : Type 0 where
  pub place : remaining ≤ length code
  pub stands : Stands lane top lanes.floors
  pub left : outcome_from address code (record { remaining = remaining; word = None })
      (state_at lane top lanes) ≡ exec (shown address) code 0 None untouched

-- so it is in each lane, where it waits
abbrev pub AreLeft : List ℕ → List Instruction → Places → Lanes → Type 0
AreLeft addresses code places lanes = (lane : ℕ) → lane < LANES →
    IsLeft (slice_index addresses lane) code (slice_index places.remaining_by_lane lane)
    (slice_index places.tops lane) lanes lane

-- so it is in each lane of a set, where so many instructions are left, and in each other one, where
-- it waits
pub record AreLeftAt (addresses : List ℕ) (code : List Instruction) (set : List ℕ) (remaining : ℕ)
    (places : Places) (lanes : Lanes) : Type 0 where
  pub within : remaining ≤ length code
  pub each : (lane : ℕ) → lane < LANES → IsIn set lane ⊎ IsOut set lane
  pub inside : (lane : ℕ) → lane < LANES → IsIn set lane →
      IsLeft (slice_index addresses lane) code remaining lanes.stacks.len lanes lane
  pub outside : (lane : ℕ) → lane < LANES → IsOut set lane →
      IsLeft (slice_index addresses lane) code (slice_index places.remaining_by_lane lane)
      (slice_index places.tops lane) lanes lane

-- so it is in each lane of a flow, and in each other one, where it waits
pub record AreLeftWith (addresses : List ℕ) (code : List Instruction) (flow : Flow)
    (places : Places) (lanes : Lanes) : Type 0 where
  pub within : flow.remaining ≤ length code
  pub holds : Holds flow.span lanes.stacks.len
  pub floors : (lane : ℕ) → lane < LANES → IsIn flow.set.mask lane →
      IsSpanned flow.span lane lanes.floors
  pub each : (lane : ℕ) → lane < LANES → IsIn flow.set.mask lane ⊎ IsOut flow.set.mask lane
  pub inside : (lane : ℕ) → lane < LANES → IsIn flow.set.mask lane →
      IsLeft (slice_index addresses lane) code flow.remaining lanes.stacks.len lanes lane
  pub outside : (lane : ℕ) → lane < LANES → IsOut flow.set.mask lane →
      IsLeft (slice_index addresses lane) code (slice_index places.remaining_by_lane lane)
      (slice_index places.tops lane) lanes lane

-- a lane has its state, with a stack that ends before another row
pub record IsKept (top : ℕ) (lanes : Lanes) (after : ℕ) (new : Lanes) (lane : ℕ) : Type 0 where
  pub stands : Stands lane after new.floors
  pub same : state_at lane after new ≡ state_at lane top lanes

-- in each lane of a set there is left to do, where fewer instructions are left, what there was; in
-- the other lanes nothing was done
pub record GoOn (addresses : List ℕ) (code : List Instruction) (set : List ℕ) (remaining : ℕ)
    (lanes : Lanes) (after : ℕ) (new : Lanes) : Type 0 where
  pub inside : (lane : ℕ) → lane < LANES → IsIn set lane →
      IsLeft (slice_index addresses lane) code remaining lanes.stacks.len lanes lane →
      IsLeft (slice_index addresses lane) code after new.stacks.len new lane
  pub outside : (lane : ℕ) → lane < LANES → IsOut set lane → IsUntouched lanes new lane

-- the lanes of a flow part: so many instructions are left in those of one part, and so many in
-- those of the other
pub record AreParted (addresses : List ℕ) (code : List Instruction) (flow : Flow)
    (first second : List ℕ) (remaining target : ℕ) (places : Places) (lanes : Lanes) : Type 0 where
  pub within : remaining ≤ length code
  pub floors : (lane : ℕ) → lane < LANES → IsIn flow.set.mask lane →
      IsSpanned flow.span lane lanes.floors
  pub zeros : (lane : ℕ) → lane < LANES → IsIn first lane →
      IsLeft (slice_index addresses lane) code target lanes.stacks.len lanes lane
  pub others : (lane : ℕ) → lane < LANES → IsIn second lane →
      IsLeft (slice_index addresses lane) code remaining lanes.stacks.len lanes lane
  pub outside : (lane : ℕ) → lane < LANES → IsOut flow.set.mask lane →
      IsLeft (slice_index addresses lane) code (slice_index places.remaining_by_lane lane)
      (slice_index places.tops lane) lanes lane
