-- A program's command and its options, as clap takes them.
use Rattle.std.specs.Prelude.{◌≡◌, ℕ, List, [], ◌∷◌, codes, Some, true}
use Rattle.std.specs.Borrow.{Bor}
use Rattle.clap.specs.Simple.{on_top}
use Rattle.clap.specs.Walk.{texts}
use Rattle.clap.specs.Words.{App, Rule, Text, new_app, new_rule}
use Rattle.clap.specs.declared.builder.value_parser.ValueParser.TheVariants.{Names, Unsigned}
use Rattle.cam6_planes.specs.declared.sides.Side.TheVariants.{S256}
use Rattle.cam6_planes.specs.Side.{side_text, side_texts}
use Rattle.cam6_arguments.specs.Program.{name_of}
use Rattle.cam6_arguments.specs.declared.programs.Program.{Program}

-- the last port
abbrev pub max_port : ℕ
max_port = 65535

-- a command that has a version
abbrev pub with_version : App → App
with_version app = on_top (λ s. record s { has_version = true }) app

-- a program's command, which has its name and a version, and no options
abbrev pub named : Program → App
named program = with_version (new_app (name_of program))

-- an option of this name, a whole number from a least to a most one, or else this word
abbrev pub number_option : Text → ℕ → ℕ → Text → Rule
number_option name least most default = record (new_rule name) {
  long = Some name;
  parser = Some (Unsigned least most);
  defaults = default ∷ [];
}

-- a reference to texts
abbrev pub TextsAt : Type 0
TextsAt = Bor (List (Bor Text))

-- it is to the three sides as words
abbrev pub AreSides : TextsAt → Type 0
AreSides sides = texts sides.now ≡ side_texts

-- `--side`, one of the words that are referred to, or else 256
abbrev pub side_option : TextsAt → Rule
side_option sides = record (new_rule (codes "side")) {
  long = Some (codes "side");
  parser = Some (Names sides);
  defaults = side_text S256 ∷ [];
}

-- an option of this name that takes one value
abbrev pub value_option : Text → Rule
value_option name = record (new_rule name) { long = Some name; value_names = 1 }
