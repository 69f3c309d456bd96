-- What a line says of users and boards: the event that its JSON value is.
use Rattle.std.specs.Prelude.{ℕ, List, codes, if◌then◌else◌, Bool, false}
use Rattle.std.specs.Prelude.{Option, Some, None, option_map, Result}
use Rattle.std.specs.Option.{option_map_or}
use Rattle.std.specs.Str.{bytes_eq}
use Rattle.serde_json.specs.Data.{Data}
use Rattle.serde_json.specs.Find.{get}
use Rattle.cam6_commands.specs.declared.events.Event.{Event}
use Rattle.cam6_commands.specs.declared.events.Event.TheVariants.{Ask, Lease, Band, Preempt, Fail}
use Rattle.cam6_commands.specs.declared.events.Event.TheVariants.{Repair, Evict, Collect}
use Rattle.cam6_wire.specs.declared.faults.LineFault.{LineFault}
use Rattle.cam6_wire.specs.Commands.{keeps_text, said_by, shown_in, sole_number}
use Rattle.cam6_wire.specs.Fields.{has_size, number_at, text_at, ◌>>=◌}

-- the ask of the keys user and command
abbrev pub ask_fields : Data → Option Event
ask_fields d = do
  user ← number_at (codes "user") d
  shown ← get (codes "command") d
  command ← shown_in shown
  Some (Ask user command)

-- {"event":"ask","user":u,"command":{..}}
unfoldable pub ask_of : Data → Option Event
ask_of d = if has_size 3 d then ask_fields d else None

-- the lease of the keys user and board
abbrev pub lease_fields : Data → Option Event
lease_fields d = do
  user ← number_at (codes "user") d
  board ← number_at (codes "board") d
  Some (Lease user board)

-- {"event":"lease","user":u,"board":b}
unfoldable pub lease_of : Data → Option Event
lease_of d = if has_size 3 d then lease_fields d else None

-- {"event":"band","board":b}
unfoldable pub band_of : Data → Option Event
band_of d = option_map Band (sole_number (codes "board") d)

-- {"event":"preempt","board":b}
unfoldable pub preempt_of : Data → Option Event
preempt_of d = option_map Preempt (sole_number (codes "board") d)

-- {"event":"fail","board":b}
unfoldable pub fail_of : Data → Option Event
fail_of d = option_map Fail (sole_number (codes "board") d)

-- {"event":"repair","board":b}
unfoldable pub repair_of : Data → Option Event
repair_of d = option_map Repair (sole_number (codes "board") d)

-- {"event":"evict"}
unfoldable pub evict_of : Data → Option Event
evict_of d = if has_size 1 d then Some Evict else None

-- {"event":"collect","user":u}
unfoldable pub collect_of : Data → Option Event
collect_of d = option_map Collect (sole_number (codes "user") d)

-- by the word at the key event
abbrev pub event_by_word : List ℕ → Data → Option Event
event_by_word word d =
    if bytes_eq word (codes "ask") then ask_of d
    else if bytes_eq word (codes "lease") then lease_of d
    else if bytes_eq word (codes "band") then band_of d
    else if bytes_eq word (codes "preempt") then preempt_of d
    else if bytes_eq word (codes "fail") then fail_of d
    else if bytes_eq word (codes "repair") then repair_of d
    else if bytes_eq word (codes "evict") then evict_of d
    else if bytes_eq word (codes "collect") then collect_of d
    else None

-- the event that a JSON value shows
abbrev pub event_in : Data → Option Event
event_in d = do
  word ← text_at (codes "event") d
  event_by_word word d

-- whether an event's command keeps texts
abbrev pub keeps_text_of : Event → Bool
keeps_text_of (Ask user command) = keeps_text command
keeps_text_of _ = false

-- whether a value shows such an event
abbrev pub takes_text_of : Data → Bool
takes_text_of d = option_map_or keeps_text_of (event_in d) false

-- the event that a line says, or its fault
abbrev pub event : List ℕ → Result Event LineFault
event = said_by event_in
