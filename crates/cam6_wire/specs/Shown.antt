-- The JSON value of each command, its keys in byte order.
use Rattle.std.specs.Prelude.{◌≡◌, ℕ, ◌/◌, List, [], ◌∷◌, length, codes, Ok, Some, ⊤}
use Rattle.hex.specs.Hex.{decode_sized}
use Rattle.serde_json.specs.Data.{Data, string, array, object}
use Rattle.cam6_planes.specs.Side.{side_number}
use Rattle.cam6_planes.specs.declared.sides.Side.{Side}
use Rattle.serde_json.specs.Data.{Items, no_items, item, no_members, member}
use Rattle.cam6_commands.specs.declared.commands.Command.{Command}
use Rattle.cam6_commands.specs.declared.commands.Command.TheVariants.{Set, Rule, Cycle, Run, Back}
use Rattle.cam6_commands.specs.declared.commands.Command.TheVariants.{Row, Plane, Clear}
use Rattle.cam6_commands.specs.declared.commands.Command.TheVariants.{Drop as DropRule, Rules, Map}
use Rattle.cam6_commands.specs.declared.commands.Command.TheVariants.{Side as SetSide, Colours}
use Rattle.cam6_commands.specs.declared.commands.Command.TheVariants.{Count, Save, Load}
use Rattle.cam6_commands.specs.Limits.{cell_states}
use Rattle.cam6_commands.specs.declared.commands.NamedEntry.{NamedEntry}
use Rattle.cam6_wire.specs.Numbers.{natural, naturals}
use Rattle.cam6_wiring.specs.Texts.{half_text, hood_text, minor_text, grid_text}
use Rattle.cam6_wire.specs.Entries.{rule_name_in}
use Rattle.cam6_wire.specs.Loads.{saved_in}
use Rattle.cam6_wire.specs.Saved.{load_data}

-- {"a":n,"b":n,"grid":g,"phase":f}
abbrev pub ShowsEntry : Data → NamedEntry → Type 0
ShowsEntry d entry =
    (a b : List ℕ) × (rule_name_in a ≡ entry.a) × (rule_name_in b ≡ entry.b) ×
    (d
    ≡ object
    (member (codes "a") (string a)
    (member (codes "b") (string b)
    (member (codes "grid") (string (grid_text entry.grid))
    (member (codes "phase") (natural entry.phase)
    no_members)))))

-- one after another
abbrev pub ShowsEntries : Items → List NamedEntry → Type 0
ShowsEntries no_items [] = ⊤
ShowsEntries (item d ds) (entry ∷ entries) = ShowsEntry d entry × ShowsEntries ds entries
ShowsEntries no_items (entry ∷ entries) = ⊥
ShowsEntries (item d ds) [] = ⊥

-- the value shows the command, in whatever spelling
abbrev pub Shows : Data → Command → Type 0
-- {"bits":"32, 64 or 128 digits","do":"set","plane":p,"row":y}: the digits of a row of one of the
-- sides, of either case
Shows d (Set plane row bits) =
    (side : Side) × (digits : List ℕ) × (decode_sized digits (side_number side / 8) ≡ Ok bits) ×
    (d
    ≡ object
    (member (codes "bits") (string digits)
    (member (codes "do") (string (codes "set"))
    (member (codes "plane") (natural plane)
    (member (codes "row") (natural row)
    no_members)))))
-- {"do":"clear","plane":p}
Shows d (Clear plane) =
    d
    ≡ object
    (member (codes "do") (string (codes "clear"))
    (member (codes "plane") (natural plane)
    no_members))
-- {"do":"rule","half":h,"hood":o,"minor":m,"name":n,"text":t}
Shows d (Rule name wiring text) =
    d
    ≡ object
    (member (codes "do") (string (codes "rule"))
    (member (codes "half") (string (half_text wiring.half))
    (member (codes "hood") (string (hood_text wiring.hood))
    (member (codes "minor") (string (minor_text wiring.minor))
    (member (codes "name") (string name)
    (member (codes "text") (string text)
    no_members))))))
-- {"do":"drop","name":n}
Shows d (DropRule name) =
    d
    ≡ object
    (member (codes "do") (string (codes "drop"))
    (member (codes "name") (string name)
    no_members))
-- {"do":"rules"}
Shows d Rules = d ≡ object (member (codes "do") (string (codes "rules")) no_members)
-- {"do":"cycle","entries":[{"a":n,"b":n,"grid":g,"phase":f},..]}
Shows d (Cycle entries) =
    (items : Items) × ShowsEntries items entries ×
    (d
    ≡ object
    (member (codes "do") (string (codes "cycle"))
    (member (codes "entries") (array items)
    no_members)))
-- {"do":"run","n":k}
Shows d (Run n) =
    d
    ≡ object
    (member (codes "do") (string (codes "run"))
    (member (codes "n") (natural n)
    no_members))
-- {"do":"back","n":k}
Shows d (Back n) =
    d
    ≡ object
    (member (codes "do") (string (codes "back"))
    (member (codes "n") (natural n)
    no_members))
-- {"do":"row","plane":p,"row":y}
Shows d (Row plane row) =
    d
    ≡ object
    (member (codes "do") (string (codes "row"))
    (member (codes "plane") (natural plane)
    (member (codes "row") (natural row)
    no_members)))
-- {"do":"plane","plane":p}
Shows d (Plane plane) =
    d
    ≡ object
    (member (codes "do") (string (codes "plane"))
    (member (codes "plane") (natural plane)
    no_members))
-- {"do":"side","side":n}
Shows d (SetSide n) =
    d
    ≡ object
    (member (codes "do") (string (codes "side"))
    (member (codes "side") (natural n)
    no_members))
-- {"colours":[16 numbers],"do":"map"}
Shows d (Map colours) =
    (length colours ≡ cell_states) ×
    (d
    ≡ object
    (member (codes "colours") (array (naturals colours))
    (member (codes "do") (string (codes "map"))
    no_members)))
-- {"do":"colours","row":y}
Shows d (Colours row) =
    d
    ≡ object
    (member (codes "do") (string (codes "colours"))
    (member (codes "row") (natural row)
    no_members))
-- {"do":"count","mask":m}
Shows d (Count mask) =
    d
    ≡ object
    (member (codes "do") (string (codes "count"))
    (member (codes "mask") (natural mask)
    no_members))
-- {"do":"save"}
Shows d Save = d ≡ object (member (codes "do") (string (codes "save")) no_members)
-- {"do":"load","machine":M}
Shows d (Load saved) = (machine : Data) × (saved_in machine ≡ Some saved) × (d ≡ load_data machine)

-- every command but a load can be asked by an event
abbrev pub CanBeAsked : Command → Type 0
CanBeAsked (Load saved) = ⊥
CanBeAsked _ = ⊤
