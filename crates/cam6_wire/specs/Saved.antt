-- A machine that was saved as a JSON value, in each of two versions, and the line that loads it.
use Rattle.std.specs.Prelude.{ℕ, List, map, codes, Option, Some, None}
use Rattle.hex.specs.Hex.{encode_lower}
use Rattle.serde_json.specs.Data.{Data, string, array, object, Members, no_members, member}
use Rattle.serde_json.specs.View.{items_of}
use Rattle.serde_json.specs.Written.{compact_text}
use Rattle.cam6_wiring.specs.Texts.{half_text, hood_text, minor_text, grid_text}
use Rattle.cam6_commands.specs.declared.commands.NamedEntry.{NamedEntry}
use Rattle.cam6_commands.specs.declared.saved.NamedRule.{NamedRule}
use Rattle.cam6_commands.specs.declared.saved.SavedMachine.{SavedMachine}
use Rattle.cam6_wire.specs.Numbers.{natural, naturals, texts}
use Rattle.cam6_wire.specs.declared.saved.Version.{Version}
use Rattle.cam6_wire.specs.declared.saved.Version.TheVariants.{First, Second}

-- an entry's name for a half, or `-` if it has none
abbrev pub name_text : Option (List ℕ) → List ℕ
name_text None = codes "-"
name_text (Some name) = name

-- {"a":n,"b":n,"grid":g,"phase":f}
abbrev pub entry_data : NamedEntry → Data
entry_data entry =
    object
    (member (codes "a") (string (name_text entry.a))
    (member (codes "b") (string (name_text entry.b))
    (member (codes "grid") (string (grid_text entry.grid))
    (member (codes "phase") (natural entry.phase) no_members))))

-- {"half":h,"hood":o,"minor":m,"name":n,"text":t}
abbrev pub rule_data : NamedRule → Data
rule_data rule =
    object
    (member (codes "half") (string (half_text rule.wiring.half))
    (member (codes "hood") (string (hood_text rule.wiring.hood))
    (member (codes "minor") (string (minor_text rule.wiring.minor))
    (member (codes "name") (string rule.name)
    (member (codes "text") (string rule.text) no_members)))))

-- the rows of a plane, each as its lower case hexadecimal digits
abbrev pub rows_data : List (List ℕ) → Data
rows_data rows = array (texts (map encode_lower rows))

-- the first version has no side: it is 256
abbrev pub version_members : Version → ℕ → Members
version_members First side = member (codes "version") (natural 1) no_members
version_members Second side =
    member (codes "side") (natural side) (member (codes "version") (natural 2) no_members)

-- {"colours":[..],"cycle":[..],"planes":[..],"position":q,"rules":[..],"side":s,"version":2}
abbrev pub saved_data : Version → SavedMachine → Data
saved_data version saved =
    object
    (member (codes "colours") (array (naturals saved.colours))
    (member (codes "cycle") (array (items_of (map entry_data saved.cycle)))
    (member (codes "planes") (array (items_of (map rows_data saved.planes)))
    (member (codes "position") (natural saved.position)
    (member (codes "rules") (array (items_of (map rule_data saved.rules)))
    (version_members version saved.side))))))

-- {"do":"load","machine":M}
abbrev pub load_data : Data → Data
load_data machine =
    object
    (member (codes "do") (string (codes "load")) (member (codes "machine") machine no_members))

-- the line that loads it, in its one spelling
unfoldable pub load_bytes : Version → SavedMachine → List ℕ
load_bytes version saved = compact_text (load_data (saved_data version saved))
