-- Where clap takes the words after `alone`, `replay` or `serve`, each option says a side or a
-- number.
use Rattle.std.proofs.Common.{◌≡◌, ◌||◌, ℕ, Bool, true, false, List, [], ◌∷◌, map, Some, codes}
use Rattle.std.proofs.Common.{refl, sym, ap, ◌∙◌}
use Rattle.std.specs.Borrow.{Bor}
use Rattle.std.specs.List.{list_any}
use Rattle.std.specs.Str.{bytes_eq}
use Rattle.std.specs.Str.Parse.{digits_value, without_leading_plus}
use Rattle.clap.specs.Walk.{Row, Text, nothing_held, rows_after}
use Rattle.clap.specs.ValueTests.{is_unsigned_in}
use Rattle.clap.specs.Faults.{level_fault}
use Rattle.clap.specs.Simple.{Shape}
use Rattle.clap.specs.declared.builder.value_parser.ValueParser.TheVariants.{Names, Unsigned}
use Rattle.cam6_planes.specs.declared.sides.Side.{Side}
use Rattle.cam6_planes.specs.declared.sides.Side.TheVariants.{S128, S256, S512}
use Rattle.cam6_planes.specs.Side.{side_text}
use Rattle.cam6_planes.proofs.SideTexts.{NamesSide, one_of_texts}
use Rattle.cam6_cache.specs.Limits.{max_capacity}
use Rattle.cam6_commands.specs.Limits.{max_users, max_boards}
use Rattle.cam6_arguments.specs.Options.{AreSides, TextsAt, max_port}
use Rattle.cam6_arguments.specs.Values.{number_at, number_said, side_at}
use Rattle.cam6_cli.specs.CommandLine.{Mode, max_connections, max_idle, served, served_at}
use Rattle.cam6_cli.specs.CommandLine.{shared, shared_at}
use Rattle.cam6_cli.proofs.SettingsGiven.{HasValue, Passes, Setting, arguments, value_given}

-- the options, by where the three sides are
abbrev side : TextsAt → Setting
side sides = record { name = codes "side"; parser = Names sides; default = side_text S256 }

abbrev number : Text → ℕ → ℕ → Text → Setting
number name least most default =
    record { name = name; parser = Unsigned least most; default = default }

abbrev users : Setting
users = number (codes "users") 1 max_users (codes "4")

abbrev boards : Setting
boards = number (codes "boards") 1 max_boards (codes "2")

abbrev cache : Setting
cache = number (codes "cache") 1 max_capacity (codes "16")

abbrev port : Setting
port = number (codes "port") 1 max_port (codes "6006")

abbrev connections : Setting
connections = number (codes "connections") 0 max_connections (codes "0")

abbrev idle : Setting
idle = number (codes "idle") 0 max_idle (codes "0")

-- the options of `alone`, of `replay`, and of `serve`
abbrev pub alone_options : TextsAt → List Setting
alone_options sides = side sides ∷ []

abbrev pub replay_options : TextsAt → List Setting
replay_options sides = users ∷ boards ∷ cache ∷ side sides ∷ []

abbrev pub serve_options : TextsAt → List Setting
serve_options sides =
    port ∷ users ∷ boards ∷ cache ∷ connections ∷ idle ∷ side sides ∷ []

-- the rows say a side, a number, what `replay` asks for, and what `serve` asks for
abbrev pub HasSide : List Row → Type 0
HasSide rows = (limit : Side) × (side_at rows ≡ Some limit)

abbrev HasNumber : Text → ℕ → ℕ → List Row → Type 0
HasNumber name least most rows = (n : ℕ) × (number_at name least most rows ≡ Some n)

abbrev pub IsShared : List Row → Type 0
IsShared rows = (mode : Mode) × (shared_at rows ≡ Some mode)

abbrev pub IsServed : List Row → Type 0
IsServed rows = (mode : Mode) × (served_at rows ≡ Some mode)

-- ---- a number

number_passes : (least most : ℕ) (text : Text) → is_unsigned_in least most text ≡ true
    → number_said least most text ≡ Some (digits_value 10 (without_leading_plus text))
number_passes least most text passes = rw passes refl

has_number : (name : Text) (least most : ℕ) (default : Text) (rows : List Row)
    → HasValue (number name least most default) rows → HasNumber name least most rows
has_number name least most default rows value = (
  digits_value 10 (without_leading_plus value.0),
  rw value.1 (number_passes least most value.0 value.2),
)

-- ---- a side

any_text : (test : Text → Bool) (texts : List (Bor Text))
    → list_any (λ name. test name.now) texts ≡ list_any test (map (λ name. name.now) texts)
any_text test [] = refl
any_text test (name ∷ rest) = ap (λ b. test name.now || b) (any_text test rest)

module _ (sides : TextsAt) (are : AreSides sides) where
  among_sides : (text : Text) → Passes (side sides) text → NamesSide text
  among_sides text passes = one_of_texts text
      (sym (any_text (λ name. bytes_eq name text) sides.now
      ∙ ap (list_any (λ name. bytes_eq name text)) are) ∙ passes)

  default_passes : Passes (side sides) (side_text S256)
  default_passes =
      any_text (λ name. bytes_eq name (side_text S256)) sides.now
      ∙ ap (list_any (λ name. bytes_eq name (side_text S256))) are

  has_side : (rows : List Row) → HasValue (side sides) rows → HasSide rows
  has_side rows value =
      let said = among_sides value.0 value.2 in
      (said.0, rw value.1 said.1)

  -- ---- where clap takes the words after `alone`, after `replay`, and after `serve`

  pub side_alone : (s : Shape) (words : List Text) → s.rules ≡ arguments (alone_options sides)
      → level_fault s [] nothing_held words false [] ≡ [] → HasSide (rows_after s.rules [] words)
  side_alone s words is passes = has_side (rows_after s.rules [] words)
      (value_given (side sides) [] [] s words refl refl default_passes is passes)

  pub is_shared : (s : Shape) (words : List Text) → s.rules ≡ arguments (replay_options sides)
      → level_fault s [] nothing_held words false [] ≡ [] → IsShared (rows_after s.rules [] words)
  is_shared s words is passes =
      let rows = rows_after s.rules [] words in
      let so_many_users = has_number users.name 1 max_users users.default rows
      (value_given users [] (boards ∷ cache ∷ side sides ∷ []) s words
      refl refl refl is passes) in
      let so_many_boards = has_number boards.name 1 max_boards boards.default rows
      (value_given boards (users ∷ []) (cache ∷ side sides ∷ []) s words
      refl refl refl is passes) in
      let so_many_tables = has_number cache.name 1 max_capacity cache.default rows
      (value_given cache (users ∷ boards ∷ []) (side sides ∷ []) s words
      refl refl refl is passes) in
      let limit = has_side rows
      (value_given (side sides) (users ∷ boards ∷ cache ∷ []) [] s words
      refl refl default_passes is passes) in
      let mode = shared so_many_users.0 so_many_boards.0 so_many_tables.0 limit.0 in
      (mode, rw (so_many_users.1, so_many_boards.1, so_many_tables.1, limit.1) refl)

  pub is_served : (s : Shape) (words : List Text) → s.rules ≡ arguments (serve_options sides)
      → level_fault s [] nothing_held words false [] ≡ [] → IsServed (rows_after s.rules [] words)
  is_served s words is passes =
      let rows = rows_after s.rules [] words in
      let at_port = has_number port.name 1 max_port port.default rows
      (value_given port [] (users ∷ boards ∷ cache ∷ connections ∷ idle ∷ side sides ∷ []) s words
      refl refl refl is passes) in
      let so_many_users = has_number users.name 1 max_users users.default rows
      (value_given users (port ∷ []) (boards ∷ cache ∷ connections ∷ idle ∷ side sides ∷ []) s words
      refl refl refl is passes) in
      let so_many_boards = has_number boards.name 1 max_boards boards.default rows
      (value_given boards (port ∷ users ∷ []) (cache ∷ connections ∷ idle ∷ side sides ∷ []) s words
      refl refl refl is passes) in
      let so_many_tables = has_number cache.name 1 max_capacity cache.default rows
      (value_given cache (port ∷ users ∷ boards ∷ []) (connections ∷ idle ∷ side sides ∷ []) s words
      refl refl refl is passes) in
      let so_often = has_number connections.name 0 max_connections connections.default rows
      (value_given connections (port ∷ users ∷ boards ∷ cache ∷ []) (idle ∷ side sides ∷ []) s words
      refl refl refl is passes) in
      let so_long = has_number idle.name 0 max_idle idle.default rows
      (value_given idle (port ∷ users ∷ boards ∷ cache ∷ connections ∷ []) (side sides ∷ []) s words
      refl refl refl is passes) in
      let limit = has_side rows
      (value_given (side sides) (port ∷ users ∷ boards ∷ cache ∷ connections ∷ idle ∷ []) [] s words
      refl refl default_passes is passes) in (
        served so_many_users.0 so_many_boards.0 so_many_tables.0 limit.0 so_often.0 so_long.0
            at_port.0,
        rw (
          so_many_users.1,
          so_many_boards.1,
          so_many_tables.1,
          limit.1,
          so_often.1,
          so_long.1,
          at_port.1,
        ) refl,
      )
