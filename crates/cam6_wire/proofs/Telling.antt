-- A line whose value shows a command says it.
use Rattle.std.proofs.Common.{◌≡◌, ℕ, ◌/◌, List, [], ◌∷◌, length, codes}
use Rattle.std.proofs.Common.{Option, Some, None, Ok, option_and_then, option_map, refl, ap, ◌∙◌}
use Rattle.std.proofs.Common.{Bool, true, false, cond, bytes_eq}
use Rattle.std.proofs.lemmas.Slice.Eq.{bytes_eq-Decides}
use Rattle.cam6_planes.specs.Side.{side_number}
use Rattle.cam6_planes.specs.declared.sides.Side.{Side}
use Rattle.cam6_planes.proofs.DigitsRead.{digits_said}
use Rattle.hex.specs.Hex.{decode_sized}
use Rattle.serde_json.specs.Data.{Data, string, array, object}
use Rattle.serde_json.specs.Data.{Items, no_items, item, no_members, member}
use Rattle.cam6_wiring.specs.declared.wirings.Wiring.{Wiring}
use Rattle.cam6_wiring.specs.Wiring.{wired}
use Rattle.cam6_commands.specs.declared.commands.Command.{Command}
use Rattle.cam6_commands.specs.declared.commands.Command.TheVariants.{Set, Rule, Cycle, Run, Back}
use Rattle.cam6_commands.specs.declared.commands.Command.TheVariants.{Row, Plane, Clear}
use Rattle.cam6_commands.specs.declared.commands.Command.TheVariants.{Drop as DropRule, Rules, Map}
use Rattle.cam6_commands.specs.declared.commands.Command.TheVariants.{Side as SetSide, Colours}
use Rattle.cam6_commands.specs.declared.commands.Command.TheVariants.{Count, Save, Load}
use Rattle.cam6_commands.specs.Limits.{cell_states}
use Rattle.cam6_commands.specs.declared.commands.NamedEntry.{NamedEntry}
use Rattle.cam6_commands.specs.declared.saved.SavedMachine.{SavedMachine}
use Rattle.cam6_wire.specs.Fields.{text_at, ◌>>=◌}
use Rattle.cam6_wire.specs.Numbers.{natural, naturals}
use Rattle.cam6_wiring.specs.Texts.{half_text, hood_text, minor_text, grid_text}
use Rattle.cam6_wiring.specs.Texts.{half_named, hood_named, minor_named}
use Rattle.cam6_wiring.proofs.NamesOfTexts.{half_of_text, hood_of_text, minor_of_text}
use Rattle.cam6_wiring.proofs.NamesOfTexts.{grid_of_text}
use Rattle.cam6_wire.specs.Wirings.{wiring_in}
use Rattle.cam6_wire.specs.Entries.{rule_name_in, entry_in, entries_in}
use Rattle.cam6_wire.specs.Commands.{set_of, sole_number, clear_of, defining, rule_of, drop_of}
use Rattle.cam6_wire.specs.Commands.{listing_of}
use Rattle.cam6_wire.specs.Commands.{cycle_of, run_of, back_of, row_of, plane_of, side_of, map_of}
use Rattle.cam6_wire.specs.Commands.{colours_of, count_of, save_of, by_word, shown_in}
use Rattle.cam6_wire.specs.Commands.{load_of, line_by_word, command_in}
use Rattle.cam6_wire.specs.Loads.{saved_in}
use Rattle.cam6_wire.specs.Saved.{load_data}
use Rattle.cam6_wire.specs.Shown.{ShowsEntries, Shows, CanBeAsked}
use Rattle.cam6_wire.specs.Laws.{ShownIsSaid}
use Rattle.cam6_wire.proofs.Saying.{is_said}
use Rattle.cam6_wire.proofs.Spelling.{said_if_spelled}
use Rattle.cam6_wire.proofs.Worded.{by_its_word}
use Rattle.cam6_wire.proofs.ColourLists.{colours_said}

-- three steps that all give a value
pub three_steps : {A B C D : Type 0} (x : Option A) (y : Option B) (z : Option C)
    (make : A → B → C → D) (a : A) (b : B) (c : C) → x ≡ Some a → y ≡ Some b → z ≡ Some c →
    (x >>= λ a. y >>= λ b. z >>= λ c. Some (make a b c)) ≡ Some (make a b c)
three_steps x y z make a b c is_a is_b is_c =
    ap (λ x. x >>= λ a. y >>= λ b. z >>= λ c. Some (make a b c)) is_a ∙
    ap (λ y. y >>= λ b. z >>= λ c. Some (make a b c)) is_b ∙
    ap (λ z. z >>= λ c. Some (make a b c)) is_c

set_said : (plane row : ℕ) (side : Side) (bits digits : List ℕ) →
    decode_sized digits (side_number side / 8) ≡ Ok bits →
    set_of
    (object
    (member (codes "bits") (string digits)
    (member (codes "do") (string (codes "set"))
    (member (codes "plane") (natural plane) (member (codes "row") (natural row) no_members)))))
    ≡ Some (Set plane row bits)
unfolding set_of
set_said plane row side bits digits is =
    ap (option_and_then (λ bits. Some (Set plane row bits))) (digits_said side digits bits is)

wiring_said : (wiring : Wiring) (name text : List ℕ) →
    wiring_in
    (object
    (member (codes "do") (string (codes "rule"))
    (member (codes "half") (string (half_text wiring.half))
    (member (codes "hood") (string (hood_text wiring.hood))
    (member (codes "minor") (string (minor_text wiring.minor))
    (member (codes "name") (string name) (member (codes "text") (string text) no_members)))))))
    ≡ Some wiring
unfolding wiring_in
wiring_said wiring name text =
    three_steps (half_named (half_text wiring.half)) (hood_named (hood_text wiring.hood))
    (minor_named (minor_text wiring.minor)) wired wiring.half wiring.hood wiring.minor
    (half_of_text wiring.half) (hood_of_text wiring.hood) (minor_of_text wiring.minor)

rule_said : (wiring : Wiring) (name text : List ℕ) →
    rule_of
    (object
    (member (codes "do") (string (codes "rule"))
    (member (codes "half") (string (half_text wiring.half))
    (member (codes "hood") (string (hood_text wiring.hood))
    (member (codes "minor") (string (minor_text wiring.minor))
    (member (codes "name") (string name) (member (codes "text") (string text) no_members)))))))
    ≡ Some (Rule name wiring text)
unfolding rule_of
rule_said wiring name text =
    ap
    (λ o.
    option_map defining
    (o >>= λ wiring. Some (record { name = name; wiring = wiring; text = text })))
    (wiring_said wiring name text)

entry_said : (entry : NamedEntry) (a b : List ℕ) → rule_name_in a ≡ entry.a →
    rule_name_in b ≡ entry.b →
    entry_in
    (object
    (member (codes "a") (string a)
    (member (codes "b") (string b)
    (member (codes "grid") (string (grid_text entry.grid))
    (member (codes "phase") (natural entry.phase) no_members)))))
    ≡ Some entry
unfolding entry_in
entry_said entry a b is_a is_b =
    ap
    (option_and_then
    (λ grid.
    Some (record { a = rule_name_in a; b = rule_name_in b; grid = grid; phase = entry.phase })))
    (grid_of_text entry.grid) ∙
    ap
    (λ name. Some (record { a = name; b = rule_name_in b; grid = entry.grid; phase = entry.phase }))
    is_a ∙
    ap
    (λ name. Some (record { a = entry.a; b = name; grid = entry.grid; phase = entry.phase }))
    is_b

pub entries_said : (items : Items) (entries : List NamedEntry) → ShowsEntries items entries →
    entries_in items ≡ Some entries
entries_said no_items [] show = refl
entries_said (item d items) [] show = absurd show
entries_said no_items (entry ∷ entries) show = absurd show
entries_said (item d items) (entry ∷ entries) show =
    ap (λ x. entry_in x >>= λ entry. entries_in items >>= λ entries. Some (entry ∷ entries))
    show.0.4 ∙
    ap (λ x. x >>= λ entry. entries_in items >>= λ entries. Some (entry ∷ entries))
    (entry_said entry show.0.0 show.0.1 show.0.2 show.0.3) ∙
    ap (λ x. x >>= λ entries. Some (entry ∷ entries)) (entries_said items entries show.1)

cycle_said : (items : Items) (entries : List NamedEntry) → ShowsEntries items entries →
    cycle_of
    (object
    (member (codes "do") (string (codes "cycle"))
    (member (codes "entries") (array items) no_members)))
    ≡ Some (Cycle entries)
unfolding cycle_of
cycle_said items entries show = ap (option_map Cycle) (entries_said items entries show)

row_said : (plane row : ℕ) →
    row_of
    (object
    (member (codes "do") (string (codes "row"))
    (member (codes "plane") (natural plane)
    (member (codes "row") (natural row) no_members))))
    ≡ Some (Row plane row)
unfolding row_of
row_said plane row = refl

drop_said : (name : List ℕ) →
    drop_of
    (object
    (member (codes "do") (string (codes "drop"))
    (member (codes "name") (string name) no_members)))
    ≡ Some (DropRule name)
unfolding drop_of
drop_said name = refl

rules_said :
    listing_of (object (member (codes "do") (string (codes "rules")) no_members)) ≡ Some Rules
unfolding listing_of
rules_said = refl

map_said : (colours : List ℕ) → length colours ≡ cell_states →
    map_of
    (object
    (member (codes "colours") (array (naturals colours))
    (member (codes "do") (string (codes "map")) no_members)))
    ≡ Some (Map colours)
unfolding map_of
map_said colours sixteen = ap (option_map Map) (colours_said colours sixteen)

save_said :
    save_of (object (member (codes "do") (string (codes "save")) no_members)) ≡ Some Save
unfolding save_of
save_said = refl

load_said : (machine : Data) (saved : SavedMachine) → saved_in machine ≡ Some saved →
    load_of (load_data machine) ≡ Some (Load saved)
unfolding load_of
load_said machine saved is = ap (option_map Load) is

-- a command is what a value says by its word
told : (d e : Data) (word : List ℕ) (c : Command) → d ≡ e → text_at (codes "do") e ≡ Some word →
    by_word word e ≡ Some c → shown_in d ≡ Some c
told = by_its_word by_word (codes "do")

pub says_asked : (d : Data) (c : Command) → Shows d c → CanBeAsked c → shown_in d ≡ Some c
unfolding sole_number clear_of run_of back_of plane_of side_of colours_of count_of
says_asked d (Set plane row bits) shows can =
    told d _ (codes "set") (Set plane row bits) shows.3 refl
    (set_said plane row shows.0 bits shows.1 shows.2)
says_asked d (Clear n) shows can = told d _ (codes "clear") (Clear n) shows refl refl
says_asked d (DropRule name) shows can =
    told d _ (codes "drop") (DropRule name) shows refl (drop_said name)
says_asked d Rules shows can = told d _ (codes "rules") Rules shows refl rules_said
says_asked d (Map colours) shows can =
    told d _ (codes "map") (Map colours) shows.1 refl (map_said colours shows.0)
says_asked d (Colours n) shows can = told d _ (codes "colours") (Colours n) shows refl refl
says_asked d (Count n) shows can = told d _ (codes "count") (Count n) shows refl refl
says_asked d (Rule name wiring text) shows can =
    told d _ (codes "rule") (Rule name wiring text) shows refl (rule_said wiring name text)
says_asked d (Cycle entries) shows can =
    told d _ (codes "cycle") (Cycle entries) shows.2 refl (cycle_said shows.0 entries shows.1)
says_asked d (Run n) shows can = told d _ (codes "run") (Run n) shows refl refl
says_asked d (Back n) shows can = told d _ (codes "back") (Back n) shows refl refl
says_asked d (Row plane row) shows can =
    told d _ (codes "row") (Row plane row) shows refl (row_said plane row)
says_asked d (Plane n) shows can = told d _ (codes "plane") (Plane n) shows refl refl
says_asked d (SetSide n) shows can = told d _ (codes "side") (SetSide n) shows refl refl
says_asked d Save shows can = told d _ (codes "save") Save shows refl save_said
says_asked d (Load saved) shows can = absurd can

-- what is no load is said by a line as it is by an ask
as_line : (word : List ℕ) (d : Data) (c : Command) → by_word word d ≡ Some c →
    line_by_word word d ≡ Some c
as_line word d c is = by_test (bytes_eq word (codes "load")) refl
  where
    by_test : (b : Bool) → bytes_eq word (codes "load") ≡ b →
        cond b (load_of d) (by_word word d) ≡ Some c
    by_test true same =
        let none : by_word word d ≡ None =
        ap (λ w. by_word w d) ((bytes_eq-Decides word (codes "load")).0 same) in
        let never : ⊥ = cc in absurd never
    by_test false same = is

line_too : (d : Data) (c : Command) → shown_in d ≡ Some c → command_in d ≡ Some c
line_too d c is = by_text (text_at (codes "do") d) is
  where
    by_text : (o : Option (List ℕ)) → (o >>= λ word. by_word word d) ≡ Some c →
        (o >>= λ word. line_by_word word d) ≡ Some c
    by_text None is = let never : ⊥ = cc in absurd never
    by_text (Some word) is = as_line word d c is

says_shown : (d : Data) (c : Command) → Shows d c → command_in d ≡ Some c
says_shown d (Load saved) shows =
    by_its_word line_by_word (codes "do") d _ (codes "load") (Load saved) shows.2 refl
    (load_said shows.0 saved shows.1)
says_shown d c shows = line_too d c (says_asked d c shows tt)

pub shown_is_said : ShownIsSaid
shown_is_said line d c within is shows spelled =
    said_if_spelled line c (is_said command_in line d c within is (says_shown d c shows)) spelled
