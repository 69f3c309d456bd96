-- A line that says a command has a value that shows it.
use Rattle.std.proofs.Common.{◌≡◌, ◌<◌, ℕ, List, length, codes, Option, Some, None, IfSome, Ok}
use Rattle.std.proofs.Common.{option_map, refl, ap, cond, bytes_eq, Less}
use Rattle.std.specs.Cmp.Lexicographic.{slice_cmp}
use Rattle.std.specs.Ordering.{nat_cmp}
use Rattle.serde_json.specs.Data.{Data, string, array, object, Members, no_members, member}
use Rattle.serde_json.specs.Find.{get}
use Rattle.cam6_wiring.specs.Wiring.{wired}
use Rattle.cam6_wiring.specs.declared.wirings.Wiring.{Wiring}
use Rattle.cam6_commands.specs.declared.commands.Command.{Command}
use Rattle.cam6_commands.specs.declared.commands.Command.TheVariants.{Set, Cycle, Run, Back}
use Rattle.cam6_commands.specs.declared.commands.Command.TheVariants.{Row, Plane, Clear}
use Rattle.cam6_commands.specs.declared.commands.Command.TheVariants.{Drop as DropRule, Rules, Map}
use Rattle.cam6_commands.specs.declared.commands.Command.TheVariants.{Side as SetSide, Colours}
use Rattle.cam6_commands.specs.declared.commands.Command.TheVariants.{Count, Save, Load}
use Rattle.cam6_commands.specs.declared.saved.NamedRule.{NamedRule}
use Rattle.cam6_commands.specs.declared.saved.SavedMachine.{SavedMachine}
use Rattle.cam6_wire.specs.Fields.{count, number_at, text_at, bits_at, colours_at}
use Rattle.cam6_wire.specs.Fields.{◌>>=◌}
use Rattle.cam6_wire.specs.Numbers.{natural, naturals}
use Rattle.cam6_wiring.specs.Texts.{half_text, hood_text, minor_text}
use Rattle.cam6_wiring.specs.Texts.{half_named, hood_named, minor_named}
use Rattle.cam6_wire.specs.Wirings.{wiring_in}
use Rattle.cam6_wire.specs.Rules.{rule_fields}
use Rattle.cam6_wire.specs.Entries.{entries_at}
use Rattle.cam6_wire.specs.Commands.{set_fields, set_of, clear_of, defining, rule_of, drop_of}
use Rattle.cam6_wire.specs.Commands.{listing_of, cycle_of, run_of, back_of, row_fields, row_of}
use Rattle.cam6_wire.specs.Commands.{plane_of, side_of, map_of, colours_of, count_of, save_of}
use Rattle.cam6_wire.specs.Commands.{by_word, shown_in, load_of, line_by_word, command_in}
use Rattle.cam6_wire.specs.Commands.{sole_number, command}
use Rattle.cam6_wire.specs.Loads.{saved_in}
use Rattle.cam6_wire.specs.Shown.{Shows, CanBeAsked}
use Rattle.cam6_wire.specs.Laws.{SaidIsShown}
use Rattle.cam6_wire.proofs.Steps.{of_map, of_two, of_three}
use Rattle.cam6_wire.proofs.Ordered.{IsOrdered}
use Rattle.cam6_wire.proofs.Exactly.{these}
use Rattle.cam6_wire.proofs.Saying.{is_shown, is_within}
use Rattle.cam6_wire.proofs.Spelling.{spelled_as_said}
use Rattle.cam6_wire.proofs.Found.{number_found, text_found, AreDigits, bits_found}
use Rattle.cam6_wire.proofs.Found.{half_found, hood_found, minor_found, of_object}
use Rattle.cam6_wire.proofs.ColourLists.{HasColours, colours_found}
use Rattle.cam6_wire.proofs.ShownEntries.{HasEntries, entries_found}
use Rattle.cam6_wire.proofs.Worded.{HasWord, of_word, word_shown, number_later}

-- what holds of a value whose word at the key do is known
abbrev HasDo : List ℕ → Data → Type 0
HasDo word d = HasWord (codes "do") word d

set_held : (held : Members) → count held ≡ 4 → HasDo (codes "set") (object held) →
    IfSome (set_fields (object held)) (Shows (object held))
set_held held same given =
    of_three (λ plane. get (codes "plane") (object held) ≡ Some (natural plane))
    (λ row. get (codes "row") (object held) ≡ Some (natural row))
    (AreDigits (codes "bits") (object held)) (Shows (object held)) Set
    (λ plane row bits at_plane at_row at_bits. (
      at_bits.0,
      at_bits.1,
      at_bits.2,
      these
          (member (codes "bits") (string at_bits.1)
          (member (codes "do") (string (codes "set"))
          (member (codes "plane") (natural plane) (member (codes "row") (natural row) no_members))))
          held
          ((refl, (refl, (refl, tt))), ((refl, (refl, tt)), ((refl, tt), (tt, tt))))
          same given.0 (at_bits.3, (given.1, (at_plane, (at_row, tt)))),
    ))
    (number_at (codes "plane") (object held)) (number_at (codes "row") (object held))
    (bits_at (codes "bits") (object held))
    (number_found (codes "plane") (object held)) (number_found (codes "row") (object held))
    (bits_found (codes "bits") (object held))

set_shown : (d : Data) → HasDo (codes "set") d → IfSome (set_of d) (Shows d)
unfolding set_of
set_shown d given = of_object 4 set_fields (HasDo (codes "set")) Shows set_held d given

row_held : (held : Members) → count held ≡ 3 → HasDo (codes "row") (object held) →
    IfSome (row_fields (object held)) (Shows (object held))
row_held held same given =
    of_two (λ plane. get (codes "plane") (object held) ≡ Some (natural plane))
    (λ row. get (codes "row") (object held) ≡ Some (natural row)) (Shows (object held)) Row
    (λ plane row at_plane at_row.
    these
    (member (codes "do") (string (codes "row"))
    (member (codes "plane") (natural plane) (member (codes "row") (natural row) no_members)))
    held ((refl, (refl, tt)), ((refl, tt), (tt, tt))) same given.0
    (given.1, (at_plane, (at_row, tt))))
    (number_at (codes "plane") (object held)) (number_at (codes "row") (object held))
    (number_found (codes "plane") (object held)) (number_found (codes "row") (object held))

row_shown : (d : Data) → HasDo (codes "row") d → IfSome (row_of d) (Shows d)
unfolding row_of
row_shown d given = of_object 3 row_fields (HasDo (codes "row")) Shows row_held d given

drop_held : (held : Members) → count held ≡ 2 → HasDo (codes "drop") (object held) →
    IfSome (option_map DropRule (text_at (codes "name") (object held))) (Shows (object held))
drop_held held same given =
    of_map (λ name. get (codes "name") (object held) ≡ Some (string name)) (Shows (object held))
    DropRule
    (λ name at_name.
    these
    (member (codes "do") (string (codes "drop"))
    (member (codes "name") (string name) no_members))
    held ((refl, tt), (tt, tt)) same given.0 (given.1, (at_name, tt)))
    (text_at (codes "name") (object held)) (text_found (codes "name") (object held))

drop_shown : (d : Data) → HasDo (codes "drop") d → IfSome (drop_of d) (Shows d)
unfolding drop_of
drop_shown d given =
    of_object 2 (λ x. option_map DropRule (text_at (codes "name") x)) (HasDo (codes "drop"))
    Shows drop_held d given

rules_held : (held : Members) → count held ≡ 1 → HasDo (codes "rules") (object held) →
    IfSome (Some Rules) (Shows (object held))
rules_held held same given =
    these (member (codes "do") (string (codes "rules")) no_members) held (tt, tt) same given.0
    (given.1, tt)

rules_shown : (d : Data) → HasDo (codes "rules") d → IfSome (listing_of d) (Shows d)
unfolding listing_of
rules_shown d given =
    of_object 1 (λ x. Some Rules) (HasDo (codes "rules")) Shows rules_held d given

map_held : (held : Members) → count held ≡ 2 → HasDo (codes "map") (object held) →
    IfSome (option_map Map (colours_at (codes "colours") (object held))) (Shows (object held))
map_held held same given =
    of_map (HasColours (codes "colours") (object held)) (Shows (object held)) Map
    (λ colours has. (
      has.0,
      these
          (member (codes "colours") (array (naturals colours))
          (member (codes "do") (string (codes "map")) no_members))
          held ((refl, tt), (tt, tt)) same given.0 (has.1, (given.1, tt)),
    ))
    (colours_at (codes "colours") (object held)) (colours_found (codes "colours") (object held))

map_shown : (d : Data) → HasDo (codes "map") d → IfSome (map_of d) (Shows d)
unfolding map_of
map_shown d given =
    of_object 2 (λ x. option_map Map (colours_at (codes "colours") x)) (HasDo (codes "map"))
    Shows map_held d given

-- the wiring of a rule
abbrev HasWiring : Data → Wiring → Type 0
HasWiring d wiring =
    (get (codes "half") d ≡ Some (string (half_text wiring.half))) ×
    (get (codes "hood") d ≡ Some (string (hood_text wiring.hood))) ×
    (get (codes "minor") d ≡ Some (string (minor_text wiring.minor)))

wiring_found : (d : Data) → IfSome (wiring_in d) (HasWiring d)
unfolding wiring_in
wiring_found d =
    of_three (λ half. get (codes "half") d ≡ Some (string (half_text half)))
    (λ hood. get (codes "hood") d ≡ Some (string (hood_text hood)))
    (λ minor. get (codes "minor") d ≡ Some (string (minor_text minor)))
    (HasWiring d) wired
    (λ half hood minor at_half at_hood at_minor. (at_half, at_hood, at_minor))
    (text_at (codes "half") d >>= half_named) (text_at (codes "hood") d >>= hood_named)
    (text_at (codes "minor") d >>= minor_named)
    (half_found (codes "half") d) (hood_found (codes "hood") d) (minor_found (codes "minor") d)

abbrev pub made_rule : List ℕ → Wiring → List ℕ → NamedRule
made_rule name wiring text = record { name = name; wiring = wiring; text = text }

rule_held : (held : Members) → count held ≡ 6 → HasDo (codes "rule") (object held) →
    IfSome (option_map defining (rule_fields (object held))) (Shows (object held))
rule_held held same given =
    of_map (λ rule. Shows (object held) (defining rule)) (Shows (object held)) defining
    (λ rule shows. shows) (rule_fields (object held))
    (of_three (λ name. get (codes "name") (object held) ≡ Some (string name))
    (HasWiring (object held))
    (λ text. get (codes "text") (object held) ≡ Some (string text))
    (λ rule. Shows (object held) (defining rule)) made_rule
    (λ name wiring text at_name has at_text.
    these
    (member (codes "do") (string (codes "rule"))
    (member (codes "half") (string (half_text wiring.half))
    (member (codes "hood") (string (hood_text wiring.hood))
    (member (codes "minor") (string (minor_text wiring.minor))
    (member (codes "name") (string name) (member (codes "text") (string text) no_members))))))
    held (
      (refl, (refl, (refl, (refl, (refl, tt))))),
      (
        (refl, (refl, (refl, (refl, tt)))),
        ((refl, (refl, (refl, tt))), ((refl, (refl, tt)), ((refl, tt), (tt, tt)))),
      ),
    )
    same given.0 (given.1, (has.0, (has.1, (has.2, (at_name, (at_text, tt)))))))
    (text_at (codes "name") (object held)) (wiring_in (object held))
    (text_at (codes "text") (object held))
    (text_found (codes "name") (object held)) (wiring_found (object held))
    (text_found (codes "text") (object held)))

rule_shown : (d : Data) → HasDo (codes "rule") d → IfSome (rule_of d) (Shows d)
unfolding rule_of
rule_shown d given =
    of_object 6 (λ x. option_map defining (rule_fields x)) (HasDo (codes "rule")) Shows rule_held d
    given

cycle_held : (held : Members) → count held ≡ 2 → HasDo (codes "cycle") (object held) →
    IfSome (option_map Cycle (entries_at (codes "entries") (object held))) (Shows (object held))
cycle_held held same given =
    of_map (HasEntries (object held)) (Shows (object held)) Cycle
    (λ entries has. (
      has.0,
      has.1,
      these
          (member (codes "do") (string (codes "cycle"))
          (member (codes "entries") (array has.0) no_members))
          held ((refl, tt), (tt, tt)) same given.0 (given.1, (has.2, tt)),
    ))
    (entries_at (codes "entries") (object held)) (entries_found held given.0.1)

cycle_shown : (d : Data) → HasDo (codes "cycle") d → IfSome (cycle_of d) (Shows d)
unfolding cycle_of
cycle_shown d given =
    of_object 2 (λ x. option_map Cycle (entries_at (codes "entries") x)) (HasDo (codes "cycle"))
    Shows cycle_held d given

save_held : (held : Members) → count held ≡ 1 → HasDo (codes "save") (object held) →
    IfSome (Some Save) (Shows (object held))
save_held held same given =
    these (member (codes "do") (string (codes "save")) no_members) held (tt, tt) same given.0
    (given.1, tt)

save_shown : (d : Data) → HasDo (codes "save") d → IfSome (save_of d) (Shows d)
unfolding save_of
save_shown d given = of_object 1 (λ x. Some Save) (HasDo (codes "save")) Shows save_held d given

-- the machine at the key machine
abbrev HasMachine : Data → SavedMachine → Type 0
HasMachine d saved =
    (machine : Data) × (saved_in machine ≡ Some saved) × (get (codes "machine") d ≡ Some machine)

machine_found : (d : Data) → IfSome (get (codes "machine") d >>= saved_in) (HasMachine d)
machine_found d = by_value (get (codes "machine") d) refl
  where
    by_saved : (machine : Data) (o : Option SavedMachine) →
        get (codes "machine") d ≡ Some machine → saved_in machine ≡ o → IfSome o (HasMachine d)
    by_saved machine None at is = tt
    by_saved machine (Some saved) at is = (machine, is, at)

    by_value : (o : Option Data) → get (codes "machine") d ≡ o →
        IfSome (o >>= saved_in) (HasMachine d)
    by_value None at = tt
    by_value (Some machine) at = by_saved machine (saved_in machine) at refl

load_held : (held : Members) → count held ≡ 2 → HasDo (codes "load") (object held) →
    IfSome (option_map Load (get (codes "machine") (object held) >>= saved_in))
    (Shows (object held))
load_held held same given =
    of_map (HasMachine (object held)) (Shows (object held)) Load
    (λ saved has. (
      has.0,
      has.1,
      these
          (member (codes "do") (string (codes "load")) (member (codes "machine") has.0 no_members))
          held ((refl, tt), (tt, tt)) same given.0 (given.1, (has.2, tt)),
    ))
    (get (codes "machine") (object held) >>= saved_in) (machine_found (object held))

load_shown : (d : Data) → HasDo (codes "load") d → IfSome (load_of d) (Shows d)
unfolding load_of
load_shown d given =
    of_object 2 (λ x. option_map Load (get (codes "machine") x >>= saved_in))
    (HasDo (codes "load")) Shows load_held d given

by_word_shown : (word : List ℕ) (d : Data) → HasDo word d → IfSome (by_word word d) (Shows d)
unfolding clear_of run_of back_of plane_of side_of colours_of count_of
by_word_shown word d has =
    one (codes "set") (set_of d) _ (set_shown d)
    (one (codes "clear") (clear_of d) _
    (sole (codes "clear") (codes "plane") Clear refl (λ n is. is))
    (one (codes "rule") (rule_of d) _ (rule_shown d)
    (one (codes "drop") (drop_of d) _ (drop_shown d)
    (one (codes "rules") (listing_of d) _ (rules_shown d)
    (one (codes "cycle") (cycle_of d) _ (cycle_shown d)
    (one (codes "run") (run_of d) _ (sole (codes "run") (codes "n") Run refl (λ n is. is))
    (one (codes "back") (back_of d) _ (sole (codes "back") (codes "n") Back refl (λ n is. is))
    (one (codes "row") (row_of d) _ (row_shown d)
    (one (codes "plane") (plane_of d) _
    (sole (codes "plane") (codes "plane") Plane refl (λ n is. is))
    (one (codes "side") (side_of d) _ (sole (codes "side") (codes "side") SetSide refl (λ n is. is))
    (one (codes "map") (map_of d) _ (map_shown d)
    (one (codes "colours") (colours_of d) _
    (sole (codes "colours") (codes "row") Colours refl (λ n is. is))
    (one (codes "count") (count_of d) _
    (sole (codes "count") (codes "mask") Count refl (λ n is. is))
    (one (codes "save") (save_of d) _ (save_shown d)
    tt))))))))))))))
  where
    one : (its : List ℕ) (x y : Option Command) → (HasDo its d → IfSome x (Shows d)) →
        IfSome y (Shows d) → IfSome (cond (bytes_eq word its) x y) (Shows d)
    one its x y here later = of_word (codes "do") word its d (Shows d) x y has here later

    -- a command of one number
    sole : (its key : List ℕ) (make : ℕ → Command) → slice_cmp nat_cmp (codes "do") key ≡ Less →
        ((n : ℕ) →
        d ≡ object (member (codes "do") (string its) (member key (natural n) no_members)) →
        Shows d (make n)) →
        HasDo its d → IfSome (option_map make (sole_number key d)) (Shows d)
    sole its key make later holds =
        number_later (codes "do") its key make d (Shows d) later holds

command_shown : (d : Data) → IsOrdered d → IfSome (shown_in d) (Shows d)
command_shown d ordered =
    word_shown by_word (codes "do") d (Shows d) ordered (λ word has. by_word_shown word d has)

-- a value that shows a load is none of the others
can_be_asked : (d : Data) (c : Command) → shown_in d ≡ Some c → Shows d c → CanBeAsked c
can_be_asked d (Load saved) is shows =
    let none : shown_in d ≡ None = ap shown_in shows.2 in
    let never : ⊥ = cc in absurd never
can_be_asked d c is shows = tt

-- what an event may ask is shown, and is no load
pub asked_shown : (d : Data) → IsOrdered d →
    IfSome (shown_in d) (λ c. Shows d c × CanBeAsked c)
asked_shown d ordered = by_command (shown_in d) refl (command_shown d ordered)
  where
    by_command : (o : Option Command) → shown_in d ≡ o → IfSome o (Shows d) →
        IfSome o (λ c. Shows d c × CanBeAsked c)
    by_command None is shows = tt
    by_command (Some c) is shows = (shows, can_be_asked d c is shows)

pub line_shown : (d : Data) → IsOrdered d → IfSome (command_in d) (Shows d)
line_shown d ordered =
    word_shown line_by_word (codes "do") d (Shows d) ordered
    (λ word has.
    of_word (codes "do") word (codes "load") d (Shows d) (load_of d) (by_word word d) has
    (load_shown d) (by_word_shown word d has))

pub said_is_shown : SaidIsShown
said_is_shown line c said =
    let spelled = spelled_as_said line c said in
    let shown = is_shown command_in Shows line_shown line c spelled.0 in
    (shown.0, (shown.1.0, shown.1.1, shown.1.2, spelled.1))

-- a line that says a command isn't empty
pub said_not_empty : (line : List ℕ) (c : Command) → command line ≡ Ok c → 0 < length line
said_not_empty line c said = (is_within command_in line c (spelled_as_said line c said).0).0
