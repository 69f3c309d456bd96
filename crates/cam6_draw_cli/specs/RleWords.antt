-- The arguments that `cam6_rle` takes, and what they ask for.
use Rattle.std.specs.Prelude.{◌≡◌, ℕ, ◌-◌, List, [], ◌∷◌, codes, length, map, Option, Some, None}
use Rattle.std.specs.Prelude.{Bool, true, false, ◌||◌, ◌&&◌, ◌==◌, not, nat_lt, nat_le, if◌then◌else◌}
use Rattle.std.specs.Prelude.{option_and_then, option_map, is_some, unwrap_or, string_bytes}
use Rattle.std.specs.List.{list_all}
use Rattle.clap.specs.Words.{App, Row, Rule, Text, count_of, first_of, new_rule, with_rule}
use Rattle.clap.specs.declared.builder.action.ArgAction.TheVariants.{Count}
use Rattle.cam6_planes.specs.declared.sides.Side.{Side}
use Rattle.cam6_arguments.specs.Options.{AreSides, TextsAt, named, number_option, side_option}
use Rattle.cam6_arguments.specs.Values.{◌>>=◌, number_at, side_at}
use Rattle.cam6_arguments.specs.declared.programs.Program.TheVariants.{Rle}
use Rattle.cam6_draw_cli.specs.Placing.{Placing, last_move}
use Rattle.cam6_draw_cli.specs.declared.rle_options.RleOptions.{RleOptions}
use Rattle.cam6_draw_cli.specs.declared.rle_options.RleOptions.TheVariants.{Place, Gather}

-- whether a byte is among these
abbrev pub is_among : ℕ → List ℕ → Bool
is_among b [] = false
is_among b (first ∷ bytes) = (first == b) || is_among b bytes

-- whether all of them are different
abbrev pub are_different : List ℕ → Bool
are_different [] = true
are_different (b ∷ bytes) = not (is_among b bytes) && are_different bytes

-- the digit of a plane
abbrev pub is_plane_digit : ℕ → Bool
is_plane_digit b = nat_le 48 b && nat_lt b 52

-- one to four planes, a digit each, none of them twice
abbrev pub says_planes : Text → Bool
says_planes word =
    (nat_lt 0 (length word) && nat_le (length word) 4)
    && (list_all is_plane_digit word && are_different word)

-- those planes
abbrev pub planes_said : Text → Option (List ℕ)
planes_said word = if says_planes word then Some (map (λ b. b - 48) word) else None

-- `--column` and `--row`, numbers of cells, or else 0
abbrev pub move_option : Text → Rule
move_option name = number_option name 0 last_move (codes "0")

-- `--planes`, a text, or else plane 0
abbrev pub planes_option : Rule
planes_option = record (new_rule (codes "planes")) {
  long = Some (codes "planes");
  defaults = codes "0" ∷ [];
}

-- `--replies`, which has no value
abbrev pub replies_option : Rule
replies_option = record (new_rule (codes "replies")) {
  long = Some (codes "replies");
  action = Some Count;
}

-- `--rule`, a text, if it is said
abbrev pub rule_option : Rule
rule_option = record (new_rule (codes "rule")) { long = Some (codes "rule") }

-- `cam6_rle`, which has a version, with its options
abbrev pub program : TextsAt → App
program sides =
    with_rule
    (with_rule
    (with_rule
    (with_rule
    (with_rule
    (with_rule
    (named Rle)
    (side_option sides))
    (move_option (codes "column")))
    (move_option (codes "row")))
    planes_option)
    replies_option)
    rule_option

-- the program, wherever the three words are kept
abbrev pub IsProgram : App → Type 0
IsProgram app = (sides : TextsAt) × AreSides sides × (app ≡ program sides)

-- what the program is to do
pub data Task : Type 0 where
  -- set a pattern
  place : Placing → Task
  -- write the text of each frame of replies, with this name of a rule
  gather : Text → Task

-- the columns or rows of a move, and the planes, that an option's word says
abbrev pub move_at : Text → List Row → Option ℕ
move_at name = number_at name 0 last_move

abbrev pub planes_at : List Row → Option (List ℕ)
planes_at rows = option_and_then planes_said (first_of (codes "planes") rows)

-- set a pattern, if all of this is said
abbrev pub placed : Option Side → Option ℕ → Option ℕ → Option (List ℕ) → Option Task
placed side column row planes = do
  s ← side
  c ← column
  r ← row
  p ← planes
  Some (place (record { side = s; column = c; row = r; planes = p }))

-- set a pattern, as the options say
abbrev pub place_at : List Row → Option Task
place_at rows =
    placed (side_at rows) (move_at (codes "column") rows) (move_at (codes "row") rows) (planes_at rows)

-- whether a text is one line
abbrev pub is_one_line : Text → Bool
is_one_line [] = true
is_one_line (b ∷ bytes) = if b == 10 then false else is_one_line bytes

-- the name of a rule, which is one line
abbrev pub rule_said : Text → Option Text
rule_said name = if is_one_line name then Some name else None

-- write texts, with the name that is said, or none
abbrev pub gather_at : List Row → Option Task
gather_at rows = option_map gather (rule_said (unwrap_or (first_of (codes "rule") rows) []))

-- by the option `--replies`; without it there is no name of a rule
abbrev pub task_of : List Row → Option Task
task_of rows =
    if nat_lt 0 (count_of (codes "replies") rows) then gather_at rows
    else if is_some (first_of (codes "rule") rows) then None else place_at rows

-- the words ask for this
abbrev pub HasTask : RleOptions → Option Task → Type 0
HasTask (Place placing) said = said ≡ Some (place placing)
HasTask (Gather rule) said = said ≡ Some (gather (string_bytes rule))

-- they ask for this, or for no task if there are no options
abbrev pub MayHaveTask : Option RleOptions → Option Task → Type 0
MayHaveTask None said = said ≡ None
MayHaveTask (Some options) said = HasTask options said
