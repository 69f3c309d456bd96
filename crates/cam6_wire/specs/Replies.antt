-- The JSON values that replies and the faults of lines are, and their texts.
use Rattle.std.specs.Prelude.{ℕ, List, [], ◌∷◌, map, codes, slice_index, Bool, true, false}
use Rattle.serde_json.specs.Data.{Data, string, array, object}
use Rattle.serde_json.specs.Data.{Members, no_members, member}
use Rattle.serde_json.specs.Written.{compact_text}
use Rattle.cam6_wiring.specs.Name.{phase_number}
use Rattle.cam6_wiring.specs.declared.names.Half.{Half}
use Rattle.cam6_table.specs.Faults as rule
use Rattle.cam6_block.specs.Refusals.{cause_number}
use Rattle.cam6_block.specs.declared.refusals.NotReversible.{NotReversible as Cause}
use Rattle.cam6_block.specs.declared.refusals.NotReversible.TheVariants as cause
use Rattle.cam6_commands.specs.Numbers.{fault_number}
use Rattle.cam6_commands.specs.declared.refusals.Refusal.{Refusal}
use Rattle.cam6_commands.specs.declared.refusals.Refusal.TheVariants as refused
use Rattle.cam6_commands.specs.declared.replies.Reply.{Reply}
use Rattle.cam6_commands.specs.declared.replies.Reply.TheVariants.{Done, Refused}
use Rattle.cam6_commands.specs.declared.replies.Done.{Done as WhatIsDone}
use Rattle.cam6_commands.specs.declared.replies.Done.TheVariants.{Set, Rule, Cycle, Side, Run}
use Rattle.cam6_commands.specs.declared.replies.Done.TheVariants.{Back, Row, Plane, Clear}
use Rattle.cam6_commands.specs.declared.replies.Done.TheVariants.{Drop, Rules, Map, Colours, Count}
use Rattle.cam6_commands.specs.declared.replies.Done.TheVariants.{Save, Load}
use Rattle.cam6_wire.specs.Numbers.{natural, naturals, texts}
use Rattle.cam6_wire.specs.Saved.{saved_data}
use Rattle.cam6_wire.specs.declared.saved.Version.TheVariants.{Second}
use Rattle.cam6_wire.specs.declared.faults.LineFault.{LineFault}
use Rattle.cam6_wire.specs.Faults as line
use Rattle.cam6_wiring.specs.Texts.{half_text}

-- a colour's lower case hexadecimal digit
abbrev pub colour_digit : ℕ → ℕ
colour_digit colour = slice_index (codes "0123456789abcdef") colour

-- {"ok":word} with the members that come after it
abbrev pub done : List ℕ → Members → Data
done word members = object (member (codes "ok") (string word) members)

-- "fault":n with the members that come after it
abbrev pub fault_then : ℕ → Members → Members
fault_then n members = member (codes "fault") (natural n) members

-- {"cause":word,"entry":entry,"fault":64,"half":half} with the members that come after it
abbrev pub caused : List ℕ → Cause → ℕ → Half → Members → Data
caused word cause entry half members =
    object
    (member (codes "cause") (string word)
    (member (codes "entry") (natural entry)
    (fault_then (cause_number cause)
    (member (codes "half") (string (half_text half)) members))))

-- why the blocks of a half's rule can't be undone; its keys in byte order
abbrev pub cause_data : ℕ → Half → Cause → Data
cause_data entry half cause.Hood = caused (codes "hood") cause.Hood entry half no_members
cause_data entry half cause.Centres = caused (codes "centres") cause.Centres entry half no_members
cause_data entry half (cause.Meeting phase a b) =
    caused (codes "meeting") (cause.Meeting phase a b) entry half
    (member (codes "phase") (natural (phase_number phase))
    (member (codes "states") (array (naturals (a ∷ b ∷ []))) no_members))

-- the JSON value of what was done, its keys in byte order
abbrev pub done_data : WhatIsDone → Data
done_data Set = done (codes "set") no_members
done_data Clear = done (codes "clear") no_members
done_data Rule = done (codes "rule") no_members
done_data Drop = done (codes "drop") no_members
done_data (Rules names) =
    object
    (member (codes "names") (array (texts names))
    (member (codes "ok") (string (codes "rules")) no_members))
done_data Cycle = done (codes "cycle") no_members
done_data Side = done (codes "side") no_members
done_data Map = done (codes "map") no_members
done_data (Run position) =
    done (codes "run") (member (codes "position") (natural position) no_members)
done_data (Back position) =
    done (codes "back") (member (codes "position") (natural position) no_members)
done_data (Row bits) =
    object
    (member (codes "bits") (string bits) (member (codes "ok") (string (codes "row")) no_members))
done_data (Plane rows) =
    done (codes "plane") (member (codes "rows") (array (texts rows)) no_members)
done_data (Colours colours) =
    object
    (member (codes "colours") (string (map colour_digit colours))
    (member (codes "ok") (string (codes "colours")) no_members))
done_data (Count count) =
    object
    (member (codes "count") (natural count)
    (member (codes "ok") (string (codes "count")) no_members))
done_data (Save machine) =
    object
    (member (codes "machine") (saved_data Second machine)
    (member (codes "ok") (string (codes "save")) no_members))
done_data Load = done (codes "load") no_members

-- the JSON value of a refusal, its keys in byte order
abbrev pub refusal_data : Refusal → Data
refusal_data (refused.Fault fault) = object (fault_then (fault_number fault) no_members)
refusal_data (refused.Text fault) =
    object (fault_then fault.number (member (codes "token") (natural fault.token) no_members))
refusal_data (refused.Stops address fault) =
    object
    (member (codes "address") (natural address) (fault_then (rule.fault_number fault) no_members))
refusal_data (refused.NotReversible entry half cause) = cause_data entry half cause

-- the JSON value of a reply
abbrev pub reply_data : Reply → Data
reply_data (Done d) = done_data d
reply_data (Refused refusal) = refusal_data refusal

-- the reply only says that the command was done, so its text is always the same
abbrev pub is_fixed : Reply → Bool
is_fixed (Done Set) = true
is_fixed (Done Clear) = true
is_fixed (Done Rule) = true
is_fixed (Done Drop) = true
is_fixed (Done Cycle) = true
is_fixed (Done Side) = true
is_fixed (Done Map) = true
is_fixed (Done Load) = true
is_fixed (Done d) = false
is_fixed (Refused refusal) = false

-- the compact text of a reply
unfoldable pub reply_bytes : Reply → List ℕ
reply_bytes reply = compact_text (reply_data reply)

-- the compact text of a line's fault
unfoldable pub fault_bytes : LineFault → List ℕ
fault_bytes fault = compact_text (object (fault_then (line.fault_number fault) no_members))
