-- What a line says: the JSON value that it is, and the command that the value is.
use Rattle.std.specs.Prelude.{◌≡◌, ◌<◌, ◌≤◌, ℕ, List, [], ◌∷◌, length, codes, nat_lt, Bool}
use Rattle.std.specs.Prelude.{true, false, ◌||◌, if◌then◌else◌}
use Rattle.std.specs.Prelude.{Option, Some, None, option_map, ok_or, Result, Ok, Err, ⊤}
use Rattle.std.specs.Option.{option_map_or}
use Rattle.std.specs.Str.{bytes_eq, is_utf8}
use Rattle.serde_json.specs.Data.{Data}
use Rattle.serde_json.specs.Find.{get}
use Rattle.serde_json.specs.Read.{read}
use Rattle.cam6_commands.specs.declared.commands.Command.{Command}
use Rattle.cam6_commands.specs.declared.commands.Command.TheVariants.{Set, Rule, Cycle, Run, Back}
use Rattle.cam6_commands.specs.declared.commands.Command.TheVariants.{Row, Plane, Clear}
use Rattle.cam6_commands.specs.declared.commands.Command.TheVariants.{Drop as DropRule, Rules, Map}
use Rattle.cam6_commands.specs.declared.commands.Command.TheVariants.{Side as SetSide, Colours}
use Rattle.cam6_commands.specs.declared.commands.Command.TheVariants.{Count, Save, Load}
use Rattle.cam6_commands.specs.declared.saved.NamedRule.{NamedRule}
use Rattle.cam6_commands.specs.declared.saved.SavedMachine.{SavedMachine}
use Rattle.cam6_commands.specs.declared.commands.NamedEntry.{NamedEntry}
use Rattle.cam6_wire.specs.declared.faults.LineFault.{LineFault}
use Rattle.cam6_wire.specs.declared.faults.LineFault.TheVariants.{NoMemory, TooLong}
use Rattle.cam6_wire.specs.declared.faults.LineFault.TheVariants.{NoJson, NoCommand, OtherSpelling}
use Rattle.cam6_wire.specs.Limits.{limit_of}
use Rattle.cam6_wire.specs.Fields.{has_size, number_at, text_at, bits_at, colours_at}
use Rattle.cam6_wire.specs.Fields.{◌>>=◌}
use Rattle.cam6_wire.specs.Rules.{rule_fields}
use Rattle.cam6_wire.specs.Entries.{entries_at}
use Rattle.cam6_wire.specs.Loads.{saved_in}
use Rattle.cam6_wire.specs.Saved.{load_bytes}
use Rattle.cam6_wire.specs.declared.saved.Version.TheVariants.{First, Second}

-- the command of the keys plane, row and bits
abbrev pub set_fields : Data → Option Command
set_fields d = do
  plane ← number_at (codes "plane") d
  row ← number_at (codes "row") d
  bits ← bits_at (codes "bits") d
  Some (Set plane row bits)

-- {"do":"set","plane":p,"row":y,"bits":"32, 64 or 128 digits"}
unfoldable pub set_of : Data → Option Command
set_of d = if has_size 4 d then set_fields d else None

-- the number at a key of an object that has two keys
unfoldable pub sole_number : List ℕ → Data → Option ℕ
sole_number key d = if has_size 2 d then number_at key d else None

-- {"do":"clear","plane":p}
unfoldable pub clear_of : Data → Option Command
clear_of d = option_map Clear (sole_number (codes "plane") d)

-- the command that defines a rule
abbrev pub defining : NamedRule → Command
defining rule = Rule rule.name rule.wiring rule.text

-- {"do":"rule","name":n,"half":h,"hood":o,"minor":m,"text":t}
unfoldable pub rule_of : Data → Option Command
rule_of d = if has_size 6 d then option_map defining (rule_fields d) else None

-- {"do":"drop","name":n}
unfoldable pub drop_of : Data → Option Command
drop_of d = if has_size 2 d then option_map DropRule (text_at (codes "name") d) else None

-- {"do":"rules"}
unfoldable pub listing_of : Data → Option Command
listing_of d = if has_size 1 d then Some Rules else None

-- {"do":"cycle","entries":[{"a":n,"b":n,"grid":g,"phase":f},..]}
unfoldable pub cycle_of : Data → Option Command
cycle_of d = if has_size 2 d then option_map Cycle (entries_at (codes "entries") d) else None

-- {"do":"run","n":k}
unfoldable pub run_of : Data → Option Command
run_of d = option_map Run (sole_number (codes "n") d)

-- {"do":"back","n":k}
unfoldable pub back_of : Data → Option Command
back_of d = option_map Back (sole_number (codes "n") d)

-- the command of the keys plane and row
abbrev pub row_fields : Data → Option Command
row_fields d = do
  plane ← number_at (codes "plane") d
  row ← number_at (codes "row") d
  Some (Row plane row)

-- {"do":"row","plane":p,"row":y}
unfoldable pub row_of : Data → Option Command
row_of d = if has_size 3 d then row_fields d else None

-- {"do":"plane","plane":p}
unfoldable pub plane_of : Data → Option Command
plane_of d = option_map Plane (sole_number (codes "plane") d)

-- {"do":"side","side":n}
unfoldable pub side_of : Data → Option Command
side_of d = option_map SetSide (sole_number (codes "side") d)

-- {"do":"map","colours":[16 numbers]}
unfoldable pub map_of : Data → Option Command
map_of d = if has_size 2 d then option_map Map (colours_at (codes "colours") d) else None

-- {"do":"colours","row":y}
unfoldable pub colours_of : Data → Option Command
colours_of d = option_map Colours (sole_number (codes "row") d)

-- {"do":"count","mask":m}
unfoldable pub count_of : Data → Option Command
count_of d = option_map Count (sole_number (codes "mask") d)

-- {"do":"save"}
unfoldable pub save_of : Data → Option Command
save_of d = if has_size 1 d then Some Save else None

-- by the word at the key do
abbrev pub by_word : List ℕ → Data → Option Command
by_word word d =
    if bytes_eq word (codes "set") then set_of d
    else if bytes_eq word (codes "clear") then clear_of d
    else if bytes_eq word (codes "rule") then rule_of d
    else if bytes_eq word (codes "drop") then drop_of d
    else if bytes_eq word (codes "rules") then listing_of d
    else if bytes_eq word (codes "cycle") then cycle_of d
    else if bytes_eq word (codes "run") then run_of d
    else if bytes_eq word (codes "back") then back_of d
    else if bytes_eq word (codes "row") then row_of d
    else if bytes_eq word (codes "plane") then plane_of d
    else if bytes_eq word (codes "side") then side_of d
    else if bytes_eq word (codes "map") then map_of d
    else if bytes_eq word (codes "colours") then colours_of d
    else if bytes_eq word (codes "count") then count_of d
    else if bytes_eq word (codes "save") then save_of d
    else None

-- the command that a JSON value shows, unless it loads a machine
abbrev pub shown_in : Data → Option Command
shown_in d = do
  word ← text_at (codes "do") d
  by_word word d

-- {"do":"load","machine":M}
unfoldable pub load_of : Data → Option Command
load_of d =
    if has_size 2 d then option_map Load (get (codes "machine") d >>= saved_in) else None

-- a load, or another command
abbrev pub line_by_word : List ℕ → Data → Option Command
line_by_word word d = if bytes_eq word (codes "load") then load_of d else by_word word d

-- the command that a line's JSON value shows
abbrev pub command_in : Data → Option Command
command_in d = do
  word ← text_at (codes "do") d
  line_by_word word d

-- whether there are entries
abbrev pub are_some : List NamedEntry → Bool
are_some [] = false
are_some (entry ∷ entries) = true

-- whether a command keeps texts: of a rule, a name, entries, or a machine
abbrev pub keeps_text : Command → Bool
keeps_text (Rule name wiring text) = true
keeps_text (DropRule name) = true
keeps_text (Cycle entries) = are_some entries
keeps_text (Load saved) = true
keeps_text _ = false

-- whether a value shows such a command
abbrev pub takes_text : Data → Bool
takes_text d = option_map_or keeps_text (shown_in d) false

-- the JSON value that the bytes are, as serde_json reads them
abbrev pub value_of : List ℕ → Option Data
value_of line = if is_utf8 line then read line else None

-- what the value of a line shows, or the fault if there is no value or it shows nothing of this
-- kind
abbrev pub from_value : {A : Type 0} → (Data → Option A) → List ℕ → Option Data → Result A LineFault
from_value shown line None = Err NoJson
from_value shown line (Some d) = ok_or (shown d) NoCommand

-- what a line says, as values of this kind show it
abbrev pub said_by : {A : Type 0} → (Data → Option A) → List ℕ → Result A LineFault
said_by shown line =
    if nat_lt (limit_of line) (length line) then Err TooLong
    else from_value shown line (value_of line)

-- whether a line is the one that loads this machine, in either version
abbrev pub is_load_line : List ℕ → SavedMachine → Bool
is_load_line line saved =
    bytes_eq line (load_bytes Second saved) || bytes_eq line (load_bytes First saved)

-- a line that loads a machine has one of these spellings; every other command may have any
abbrev pub is_spelled : List ℕ → Command → Bool
is_spelled line (Load saved) = is_load_line line saved
is_spelled line _ = true

-- what a line says if its spelling counts too
abbrev pub if_spelled : List ℕ → Result Command LineFault → Result Command LineFault
if_spelled line (Ok c) = if is_spelled line c then Ok c else Err OtherSpelling
if_spelled line (Err fault) = Err fault

-- the command that a line says, or its fault
abbrev pub command : List ℕ → Result Command LineFault
command line = if_spelled line (said_by command_in line)

-- the fault that was returned is what the line says, unless memory ran out
abbrev pub IsFaultOf : {A : Type 0} → LineFault → Result A LineFault → Type 0
IsFaultOf NoMemory said = ⊤
IsFaultOf TooLong said = said ≡ Err TooLong
IsFaultOf NoJson said = said ≡ Err NoJson
IsFaultOf NoCommand said = said ≡ Err NoCommand
IsFaultOf OtherSpelling said = said ≡ Err OtherSpelling

-- what was returned is what the line says, unless memory ran out
abbrev pub IsSaid : {A : Type 0} → Result A LineFault → Result A LineFault → Type 0
IsSaid (Ok answered) said = said ≡ Ok answered
IsSaid (Err fault) said = IsFaultOf fault said

-- why a line has no value: it is too long, or no JSON, or memory ran out
abbrev pub IsLinesFault : LineFault → List ℕ → Type 0
IsLinesFault NoMemory line = ⊤
IsLinesFault TooLong line = limit_of line < length line
IsLinesFault NoJson line = (length line ≤ limit_of line) × (value_of line ≡ None)
IsLinesFault NoCommand line = ⊥
IsLinesFault OtherSpelling line = ⊥
