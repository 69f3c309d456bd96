-- The text of a rule is UTF-8 where a line defines it or loads it, and where its ask does.
use Rattle.std.proofs.Common.{◌≡◌, ◌∙◌, ◌≤◌, ℕ, List, length, codes, Option, Some}
use Rattle.std.proofs.Common.{None, IfSome, Ok, IfOk, ok_or, IsUtf8, bytes_eq, cond, option_map}
use Rattle.std.proofs.Common.{ap, sym, subst}
use Rattle.std.specs.Prelude.{⊤}
use Rattle.std.proofs.lemmas.Slice.Eq.{bytes_eq-Decides}
use Rattle.serde_json.specs.Data.{Data}
use Rattle.cam6_wiring.specs.declared.wirings.Wiring.{Wiring}
use Rattle.cam6_commands.specs.RuleTexts.{HasText}
use Rattle.cam6_commands.specs.declared.commands.Command.{Command}
use Rattle.cam6_commands.specs.declared.commands.Command.TheVariants.{Set, Rule, Cycle, Run, Back}
use Rattle.cam6_commands.specs.declared.commands.Command.TheVariants.{Row, Plane, Clear}
use Rattle.cam6_commands.specs.declared.commands.Command.TheVariants.{Drop as DropRule, Rules, Map}
use Rattle.cam6_commands.specs.declared.commands.Command.TheVariants.{Side as SetSide, Colours}
use Rattle.cam6_commands.specs.declared.commands.Command.TheVariants.{Count, Save, Load}
use Rattle.cam6_commands.specs.declared.events.Event.TheVariants.{Ask}
use Rattle.cam6_wire.specs.Limits.{limit_of}
use Rattle.cam6_wire.specs.declared.faults.LineFault.TheVariants.{NoCommand}
use Rattle.cam6_wire.specs.Fields.{has_size, number_at, text_at, bits_at, colours_at}
use Rattle.cam6_wire.specs.Entries.{entries_at}
use Rattle.cam6_wire.specs.Commands.{set_of, sole_number, clear_of, rule_of, drop_of}
use Rattle.cam6_wire.specs.Commands.{listing_of, cycle_of, run_of, back_of, row_of}
use Rattle.cam6_wire.specs.Commands.{plane_of, side_of, map_of, colours_of, count_of, save_of}
use Rattle.cam6_wire.specs.Commands.{by_word, value_of, said_by, command_in}
use Rattle.cam6_wire.specs.Shown.{Shows}
use Rattle.cam6_wire.specs.Laws.{TextIsUtf8, AskedTextIsUtf8}
use Rattle.cam6_wire.proofs.Steps.{of_map, of_two, of_three, of_test}
use Rattle.cam6_wire.proofs.ColourCount.{whatever}
use Rattle.cam6_wire.proofs.Saying.{is_text, is_said, is_shown}
use Rattle.cam6_wire.proofs.Spelling.{spelled_as_said}
use Rattle.cam6_wire.proofs.Showing.{line_shown}
use Rattle.cam6_wire.proofs.ShowingEvents.{said_event_is_shown}
use Rattle.cam6_wire.proofs.TextsAreUtf8.{HasTexts, texts_are_utf8, text_at_utf8}
use Rattle.cam6_wire.proofs.LoadLines.{shown_sayable}

-- the text of a rule that a value with UTF-8 texts shows
shown_has_text : (d : Data) (name text : List ℕ) (wiring : Wiring) → HasTexts d →
    Shows d (Rule name wiring text) → IsUtf8 text
shown_has_text d name text wiring has shows =
    text_at_utf8 (codes "text") d text has (ap (text_at (codes "text")) shows)

value_has_texts : (line : List ℕ) (d : Data) → value_of line ≡ Some d → HasTexts d
value_has_texts line d is =
    let found = is_text line d is in
    texts_are_utf8 line d found.0 found.1

-- the texts of rules of the command that a line says, in whatever spelling
pub line_has_text : (line : List ℕ) (c : Command) → said_by command_in line ≡ Ok c → HasText c
line_has_text line c said =
    let shown = (is_shown command_in Shows line_shown line c said).1 in
    by_command c shown.0 shown.1 shown.2
  where
    by_command : (c : Command) (d : Data) → value_of line ≡ Some d → Shows d c → HasText c
    by_command (Rule name wiring text) d is shows =
        shown_has_text d name text wiring (value_has_texts line d is) shows
    by_command (Load saved) d is shows =
        (shown_sayable line shows.0 saved (is ∙ ap Some shows.2) shows.1).2.texts
    by_command c d is shows = tt

-- and that its value shows
pub value_has_text : (line : List ℕ) (d : Data) (o : Option Command) →
    length line ≤ limit_of line → value_of line ≡ Some d → o ≡ command_in d →
    IfOk (ok_or o NoCommand) HasText
value_has_text line d None within is shows = tt
value_has_text line d (Some c) within is shows =
    line_has_text line c (is_said command_in line d c within is (sym shows))

pub said_has_text : TextIsUtf8
said_has_text line name text wiring said =
    line_has_text line (Rule name wiring text)
    (spelled_as_said line (Rule name wiring text) said).0

-- the command of an ask is one of the values in it
pub asked_has_text : AskedTextIsUtf8
asked_has_text line name text user wiring said =
    let shown = (said_event_is_shown line (Ask user (Rule name wiring text)) said).1 in
    let held = subst HasTexts shown.2.3 (value_has_texts line shown.0 shown.1) in
    shown_has_text shown.2.0 name text wiring held.1 shown.2.1

-- a command of another word than `rule` has no text of a rule
pub other_has_text : (word : List ℕ) (d : Data) → (word ≡ codes "rule" → ⊥) →
    IfSome (by_word word d) HasText
unfolding set_of clear_of drop_of listing_of cycle_of run_of back_of row_of plane_of side_of map_of colours_of count_of save_of
other_has_text word d other =
    one (codes "set") _ _
    (sized 4 _
    (of_three (λ plane. ⊤) (λ row. ⊤) (λ bits. ⊤) HasText Set (λ plane row bits p r b. tt)
    (number_at (codes "plane") d) (number_at (codes "row") d) (bits_at (codes "bits") d)
    (whatever (number_at (codes "plane") d)) (whatever (number_at (codes "row") d))
    (whatever (bits_at (codes "bits") d))))
    (one (codes "clear") _ _ (made Clear (sole_number (codes "plane") d) (λ n. tt))
    (of_test HasText (bytes_eq word (codes "rule")) (rule_of d) _
    (λ is. absurd (other ((bytes_eq-Decides word (codes "rule")).0 is)))
    (one (codes "drop") _ _ (sized 2 _ (made DropRule (text_at (codes "name") d) (λ name. tt)))
    (one (codes "rules") _ _ (sized 1 (Some Rules) tt)
    (one (codes "cycle") _ _ (sized 2 _ (made Cycle (entries_at (codes "entries") d) (λ es. tt)))
    (one (codes "run") _ _ (made Run (sole_number (codes "n") d) (λ n. tt))
    (one (codes "back") _ _ (made Back (sole_number (codes "n") d) (λ n. tt))
    (one (codes "row") _ _
    (sized 3 _
    (of_two (λ plane. ⊤) (λ row. ⊤) HasText Row (λ plane row p r. tt)
    (number_at (codes "plane") d) (number_at (codes "row") d)
    (whatever (number_at (codes "plane") d)) (whatever (number_at (codes "row") d))))
    (one (codes "plane") _ _ (made Plane (sole_number (codes "plane") d) (λ n. tt))
    (one (codes "side") _ _ (made SetSide (sole_number (codes "side") d) (λ n. tt))
    (one (codes "map") _ _ (sized 2 _ (made Map (colours_at (codes "colours") d) (λ colours. tt)))
    (one (codes "colours") _ _ (made Colours (sole_number (codes "row") d) (λ n. tt))
    (one (codes "count") _ _ (made Count (sole_number (codes "mask") d) (λ n. tt))
    (one (codes "save") _ _ (sized 1 (Some Save) tt) tt))))))))))))))
  where
    one : (its : List ℕ) (x y : Option Command) → IfSome x HasText → IfSome y HasText →
        IfSome (cond (bytes_eq word its) x y) HasText
    one its x y here later = of_test HasText (bytes_eq word its) x y (λ is. here) later

    sized : (size : ℕ) (x : Option Command) → IfSome x HasText →
        IfSome (cond (has_size size d) x None) HasText
    sized size x here = of_test HasText (has_size size d) x None (λ is. here) tt

    made : {A : Type 0} (make : A → Command) (o : Option A) → ((a : A) → HasText (make a)) →
        IfSome (option_map make o) HasText
    made make o holds = of_map (λ a. ⊤) HasText make (λ a given. holds a) o (whatever o)
