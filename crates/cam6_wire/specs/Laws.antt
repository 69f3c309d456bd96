-- The laws of lines: a line says what its JSON value shows, one line loads a machine in each
-- version, the text of a rule is UTF-8, and each answer is one line.
use Rattle.std.specs.Prelude.{◌≡◌, ◌≤◌, ◌<◌, ◌*◌, ◌^◌, ℕ, List, length, slice_index, true}
use Rattle.std.specs.Prelude.{Option, Some, None, Ok, ⊤}
use Rattle.std.specs.List.{AllByRecursion}
use Rattle.std.specs.Str.{IsUtf8}
use Rattle.serde_json.specs.Data.{Data}
use Rattle.serde_json.specs.Written.{compact_text}
use Rattle.cam6_planes.specs.Side.{side_number}
use Rattle.cam6_planes.specs.declared.sides.Side.{Side}
use Rattle.cam6_wiring.specs.declared.wirings.Wiring.{Wiring}
use Rattle.cam6_commands.specs.declared.commands.Command.{Command}
use Rattle.cam6_commands.specs.declared.commands.Command.TheVariants.{Rule, Load}
use Rattle.cam6_commands.specs.declared.commands.NamedEntry.{NamedEntry}
use Rattle.cam6_commands.specs.declared.saved.SavedMachine.{SavedMachine}
use Rattle.cam6_commands.specs.Limits.{cell_states}
use Rattle.cam6_commands.specs.declared.events.Event.{Event}
use Rattle.cam6_commands.specs.declared.events.Event.TheVariants.{Ask}
use Rattle.cam6_commands.specs.declared.outcomes.Outcome.{Outcome}
use Rattle.cam6_commands.specs.declared.replies.Reply.{Reply}
use Rattle.cam6_wire.specs.declared.faults.LineFault.{LineFault}
use Rattle.cam6_wire.specs.declared.seats.Seating.{Seating}
use Rattle.cam6_wire.specs.declared.saved.Version.{Version}
use Rattle.cam6_wire.specs.declared.saved.Version.TheVariants.{First, Second}
use Rattle.cam6_wire.specs.Limits.{limit_of, max_load_line}
use Rattle.cam6_wire.specs.Entries.{rule_name_in}
use Rattle.cam6_wire.specs.Saved.{saved_data, load_bytes}
use Rattle.cam6_wire.specs.Commands.{command, value_of, is_spelled}
use Rattle.cam6_wire.specs.Events.{event}
use Rattle.cam6_wire.specs.Outcomes.{outcome_bytes}
use Rattle.cam6_wire.specs.Replies.{reply_bytes, fault_bytes}
use Rattle.cam6_wire.specs.OneLine.{HasNoLf}
use Rattle.cam6_wire.specs.Seats.{seat, ShowsSeat, seating_bytes}
use Rattle.cam6_wire.specs.Shown.{Shows}
use Rattle.cam6_wire.specs.ShownEvents.{ShowsEvent}

-- a line within its limit says the command that its value shows, if a load has its spelling
abbrev pub ShownIsSaid : Type 0
ShownIsSaid =
    (line : List ℕ) (d : Data) (c : Command) → length line ≤ limit_of line →
    value_of line ≡ Some d → Shows d c → is_spelled line c ≡ true → command line ≡ Ok c

-- a line says no other command
abbrev pub SaidIsShown : Type 0
SaidIsShown =
    (line : List ℕ) (c : Command) → command line ≡ Ok c →
    (length line ≤ limit_of line)
    × ((d : Data) × (value_of line ≡ Some d) × Shows d c × (is_spelled line c ≡ true))

-- a whole number of 64 bits
abbrev pub IsWord : ℕ → Type 0
IsWord n = n < 2 ^ 64

-- no name, or a name in UTF-8 that isn't the text for no name
abbrev pub IsNameOrNone : Option (List ℕ) → Type 0
IsNameOrNone None = ⊤
IsNameOrNone (Some name) = IsUtf8 name × (rule_name_in name ≡ Some name)

-- an entry that can be written and read back
pub record IsSayableEntry (entry : NamedEntry) : Type 0 where
  pub a : IsNameOrNone entry.a
  pub b : IsNameOrNone entry.b
  pub phase : IsWord entry.phase

-- as many bytes as a row of one of the sides has
abbrev pub AreRowBytes : List ℕ → Type 0
AreRowBytes bytes =
    (side : Side) × (8 * length bytes ≡ side_number side)
    × ((i : ℕ) → slice_index bytes i < 256)

-- the side of a version: 256 in the first one, and any number of 64 bits in the second
abbrev pub IsSideIn : Version → ℕ → Type 0
IsSideIn First side = side ≡ 256
IsSideIn Second side = IsWord side

-- what can be written as a saved machine and read back, whether or not there is such a machine
pub record IsSayable (version : Version) (saved : SavedMachine) : Type 0 where
  pub states : length saved.colours ≡ cell_states
  pub colours : AllByRecursion IsWord saved.colours
  pub cycle : AllByRecursion IsSayableEntry saved.cycle
  pub four : length saved.planes ≡ 4
  pub planes : AllByRecursion (AllByRecursion AreRowBytes) saved.planes
  pub position : IsWord saved.position
  pub names : AllByRecursion (λ rule. IsUtf8 rule.name) saved.rules
  pub texts : AllByRecursion (λ rule. IsUtf8 rule.text) saved.rules
  pub side : IsSideIn version saved.side

-- a line that loads a machine is the machine's line in a version
abbrev pub LoadHasOneLine : Type 0
LoadHasOneLine =
    (line : List ℕ) (saved : SavedMachine) → command line ≡ Ok (Load saved) →
    (version : Version) × IsSayable version saved × (line ≡ load_bytes version saved)

-- and that line loads it, if it is within the limit of such lines
abbrev pub OneLineLoads : Type 0
OneLineLoads =
    (version : Version) (saved : SavedMachine) → IsSayable version saved →
    length (load_bytes version saved) ≤ max_load_line →
    command (load_bytes version saved) ≡ Ok (Load saved)

-- two saved machines that have one text in a version are equal
abbrev pub OneTextOneSaved : Type 0
OneTextOneSaved =
    (version : Version) (saved other : SavedMachine) →
    IsSayable version saved → IsSayable version other →
    compact_text (saved_data version saved) ≡ compact_text (saved_data version other) →
    saved ≡ other

-- the text of a rule that a line defines is UTF-8
abbrev pub TextIsUtf8 : Type 0
TextIsUtf8 =
    (line name text : List ℕ) (wiring : Wiring) → command line ≡ Ok (Rule name wiring text) →
    IsUtf8 text

-- a line within its limit says the event that its value shows
abbrev pub ShownEventIsSaid : Type 0
ShownEventIsSaid =
    (line : List ℕ) (d : Data) (e : Event) → length line ≤ limit_of line →
    value_of line ≡ Some d → ShowsEvent d e → event line ≡ Ok e

-- a line says no other event
abbrev pub SaidEventIsShown : Type 0
SaidEventIsShown =
    (line : List ℕ) (e : Event) → event line ≡ Ok e →
    (length line ≤ limit_of line) × ((d : Data) × (value_of line ≡ Some d) × ShowsEvent d e)

-- the text of a rule that a line's ask defines is UTF-8
abbrev pub AskedTextIsUtf8 : Type 0
AskedTextIsUtf8 =
    (line name text : List ℕ) (user : ℕ) (wiring : Wiring) →
    event line ≡ Ok (Ask user (Rule name wiring text)) → IsUtf8 text

-- a line within its limit says the seat that its value shows
abbrev pub ShownSeatIsSaid : Type 0
ShownSeatIsSaid =
    (line : List ℕ) (d : Data) (user : ℕ) → length line ≤ limit_of line →
    value_of line ≡ Some d → ShowsSeat d user → seat line ≡ Ok user

-- a line says no other seat
abbrev pub SaidSeatIsShown : Type 0
SaidSeatIsShown =
    (line : List ℕ) (user : ℕ) → seat line ≡ Ok user →
    (length line ≤ limit_of line) × ((d : Data) × (value_of line ≡ Some d) × ShowsSeat d user)

-- the text of a reply is one line, whatever stands in it
abbrev pub ReplyIsLine : Type 0
ReplyIsLine = (reply : Reply) → HasNoLf (reply_bytes reply)

-- and that of a line's fault
abbrev pub FaultIsLine : Type 0
FaultIsLine = (fault : LineFault) → HasNoLf (fault_bytes fault)

-- and that of what comes of an event
abbrev pub OutcomeIsLine : Type 0
OutcomeIsLine = (outcome : Outcome) → HasNoLf (outcome_bytes outcome)

-- and that of the answer to a first line
abbrev pub SeatingIsLine : Type 0
SeatingIsLine = (seating : Seating) → HasNoLf (seating_bytes seating)
