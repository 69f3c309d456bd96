-- A saved machine is loaded by one line alone in each version, and written in one text.
use Rattle.std.proofs.Common.{◌≡◌, ℕ, List, codes, Bool, true, false, ◌||◌, cond}
use Rattle.std.proofs.Common.{bytes_eq, Some, refl, sym, ap, ◌∙◌, subst, arith}
use Rattle.std.proofs.lemmas.Slice.Eq.{bytes_eq-Decides}
use Rattle.serde_json.specs.Data.{Data}
use Rattle.serde_json.specs.Find.{get}
use Rattle.serde_json.specs.Read.{read}
use Rattle.serde_json.specs.Written.{compact_text}
use Rattle.serde_json.proofs.OnLiterals.{serde_json_on_literals}
use Rattle.cam6_commands.specs.declared.commands.Command.TheVariants.{Load}
use Rattle.cam6_commands.specs.declared.saved.SavedMachine.{SavedMachine}
use Rattle.cam6_wire.specs.Limits.{max_line, max_load_line, begins_load, limit_of}
use Rattle.cam6_wire.specs.Fields.{◌>>=◌}
use Rattle.cam6_wire.specs.Saved.{saved_data, load_data, load_bytes}
use Rattle.cam6_wire.specs.Loads.{version_in, saved_in}
use Rattle.cam6_wire.specs.Commands.{value_of, is_load_line}
use Rattle.cam6_wire.specs.Laws.{IsSayable, LoadHasOneLine, OneLineLoads, OneTextOneSaved}
use Rattle.cam6_wire.specs.declared.saved.Version.{Version}
use Rattle.cam6_wire.specs.declared.saved.Version.TheVariants.{First, Second}
use Rattle.cam6_wire.proofs.SavedValues.{flat_saved, flat_load}
use Rattle.cam6_wire.proofs.Steps.{of_value}
use Rattle.cam6_wire.proofs.Saying.{value_found, is_text}
use Rattle.cam6_wire.proofs.Showing.{said_is_shown}
use Rattle.cam6_wire.proofs.Telling.{shown_is_said}
use Rattle.cam6_wire.proofs.ReadBack.{read_back}
use Rattle.cam6_wire.proofs.TextsAreUtf8.{HasTexts, texts_are_utf8}
use Rattle.cam6_wire.proofs.CompactUtf8.{text_is_utf8}
use Rattle.cam6_wire.proofs.WordsRead.{HasWords, words_are_read}
use Rattle.cam6_wire.proofs.SavedTexts.{whole_saved, whole_load, load_texts}
use Rattle.cam6_wire.proofs.SavedBack.{saved_back}
use Rattle.cam6_wire.proofs.SavedSayable.{IsSayableIn, saved_read}

load_read : (version : Version) (saved : SavedMachine) → IsSayable version saved →
    read (load_bytes version saved) ≡ Some (load_data (saved_data version saved))
unfolding load_bytes
load_read version saved is =
    read_back (load_data (saved_data version saved)) (whole_load version saved is)
    (omega (arith, flat_load version saved))

load_found : (version : Version) (saved : SavedMachine) → IsSayable version saved →
    value_of (load_bytes version saved) ≡ Some (load_data (saved_data version saved))
unfolding load_bytes
load_found version saved is =
    let d = load_data (saved_data version saved) in
    value_found (compact_text d) d
    (text_is_utf8 d (whole_load version saved is) (load_texts version saved is))
    (load_read version saved is)

-- the line that loads a machine begins as a load does
begins : (machine : Data) → begins_load (compact_text (load_data machine)) ≡ true
unfolding begins_load serde_json_on_literals
begins machine = refl

may_be_long : (version : Version) (saved : SavedMachine) →
    limit_of (load_bytes version saved) ≡ max_load_line
unfolding load_bytes
may_be_long version saved =
    ap (λ b. cond b max_load_line max_line) (begins (saved_data version saved))

or_true : (b : Bool) → (b || true) ≡ true
or_true true = refl
or_true false = refl

is_its_line : (version : Version) (saved : SavedMachine) →
    is_load_line (load_bytes version saved) saved ≡ true
is_its_line First saved =
    let line = load_bytes First saved in
    ap (λ b. bytes_eq line (load_bytes Second saved) || b) ((bytes_eq-Decides line line).1 refl) ∙
    or_true (bytes_eq line (load_bytes Second saved))
is_its_line Second saved =
    let line = load_bytes Second saved in
    ap (λ b. b || bytes_eq line (load_bytes First saved)) ((bytes_eq-Decides line line).1 refl)

pub one_line_loads : OneLineLoads
one_line_loads version saved is fits =
    shown_is_said (load_bytes version saved) (load_data (saved_data version saved)) (Load saved)
    (omega (arith, fits, may_be_long version saved)) (load_found version saved is)
    (saved_data version saved, saved_back version saved is, refl) (is_its_line version saved)

inner : {A : Type 0} (a b : A) → Some a ≡ Some b → a ≡ b
inner a b same = cc

-- what can be said in one version can be said in the other: in the first at side 256
as_first : (version : Version) (saved : SavedMachine) → IsSayable version saved →
    IsSayable First (record saved { side = 256 })
as_first version saved is = record {
  states = is.states;
  colours = is.colours;
  cycle = is.cycle;
  four = is.four;
  planes = is.planes;
  position = is.position;
  names = is.names;
  texts = is.texts;
  side = refl;
}

as_second : (version : Version) (saved : SavedMachine) → IsSayable version saved →
    IsSayable Second saved
as_second Second saved is = is
as_second First saved is = record {
  states = is.states;
  colours = is.colours;
  cycle = is.cycle;
  four = is.four;
  planes = is.planes;
  position = is.position;
  names = is.names;
  texts = is.texts;
  side = omega (arith, is.side);
}

-- a line of the first version shows a machine in that version
is_first : (line : List ℕ) (machine : Data) (version : Version) (saved : SavedMachine) →
    read line ≡ Some (load_data machine) → version_in machine ≡ Some version →
    IsSayable version saved → line ≡ load_bytes First saved → version ≡ First
unfolding load_bytes
is_first line machine version saved found at is same =
    let back : read (load_bytes First saved) ≡ Some (load_data (saved_data First saved)) =
    load_read First (record saved { side = 256 }) (as_first version saved is) in
    let alike : load_data machine ≡ load_data (saved_data First saved) =
    inner (load_data machine) (load_data (saved_data First saved))
    (sym found ∙ ap read same ∙ back) in
    inner version First
    (sym at ∙ ap (λ d. get (codes "machine") d >>= version_in) alike)

by_spelling : (line : List ℕ) (machine : Data) (version : Version) (saved : SavedMachine)
    (b : Bool) → read line ≡ Some (load_data machine) → version_in machine ≡ Some version →
    IsSayable version saved → bytes_eq line (load_bytes Second saved) ≡ b →
    (b || bytes_eq line (load_bytes First saved)) ≡ true →
    (version : Version) × IsSayable version saved × (line ≡ load_bytes version saved)
by_spelling line machine version saved true found at is same e = (
  Second,
  as_second version saved is,
  (bytes_eq-Decides line (load_bytes Second saved)).0 same,
)
by_spelling line machine version saved false found at is other e =
    let same = (bytes_eq-Decides line (load_bytes First saved)).0 e in (
      First,
      subst (λ v. IsSayable v saved) (is_first line machine version saved found at is same) is,
      same,
    )

-- what a line shows as a saved machine can be said
pub shown_sayable : (line : List ℕ) (machine : Data) (saved : SavedMachine) →
    value_of line ≡ Some (load_data machine) → saved_in machine ≡ Some saved →
    IsSayableIn machine saved
shown_sayable line machine saved is shows =
    let text = is_text line (load_data machine) is in
    let texts : HasTexts (load_data machine) =
    texts_are_utf8 line (load_data machine) text.0 text.1 in
    let words : HasWords (load_data machine) = words_are_read line (load_data machine) text.1 in
    of_value (IsSayableIn machine) (saved_in machine) saved
    (saved_read machine (texts.2.1, words.1.0)) shows

pub load_has_one_line : LoadHasOneLine
load_has_one_line line saved said =
    let shown = (said_is_shown line (Load saved) said).1 in
    let machine = shown.2.0 in
    let is : value_of line ≡ Some (load_data machine) = shown.1 ∙ ap Some shown.2.2 in
    let sayable = shown_sayable line machine saved is shown.2.1 in
    by_spelling line machine sayable.0 saved (bytes_eq line (load_bytes Second saved))
    (is_text line (load_data machine) is).1 sayable.1 sayable.2 refl shown.3

-- what is written in one text is one
pub one_text_one_saved : OneTextOneSaved
one_text_one_saved version saved other is also same =
    let back : read (compact_text (saved_data version saved)) ≡ Some (saved_data version saved) =
    read_back (saved_data version saved) (whole_saved version saved is)
    (omega (arith, flat_saved version saved)) in
    let again : read (compact_text (saved_data version other)) ≡ Some (saved_data version other) =
    read_back (saved_data version other) (whole_saved version other also)
    (omega (arith, flat_saved version other)) in
    let alike = inner (saved_data version saved) (saved_data version other)
    (sym back ∙ ap read same ∙ again) in
    inner saved other
    (sym (saved_back version saved is) ∙ ap saved_in alike ∙ saved_back version other also)
