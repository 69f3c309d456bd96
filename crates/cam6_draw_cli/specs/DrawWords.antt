-- The arguments that `cam6_draw` takes, and what they ask for.
use Rattle.std.specs.Prelude.{ℕ, ◌-◌, List, [], codes, Option, Some, None, Bool, true, false, ◌==◌}
use Rattle.std.specs.Prelude.{if◌then◌else◌, length, get_or, option_map}
use Rattle.std.specs.Str.{bytes_eq}
use Rattle.clap.specs.Walk.{all_of}
use Rattle.clap.specs.Words.{App, Row, Rule, Text, first_of, new_rule, with_rule}
use Rattle.clap.specs.declared.builder.action.ArgAction.TheVariants.{SetTrue}
use Rattle.cam6_planes.specs.Limits.{max_columns}
use Rattle.cam6_arguments.specs.Options.{named, value_option}
use Rattle.cam6_arguments.specs.Values.{◌>>=◌, number_by, number_said}
use Rattle.cam6_arguments.specs.declared.programs.Program.TheVariants.{Draw}
use Rattle.cam6_show_pictures.specs.declared.looks.Light.{Light}
use Rattle.cam6_draw_cli.specs.declared.draw_options.DrawOptions.{DrawOptions}
use Rattle.cam6_draw_cli.specs.declared.draw_options.Way.{Way}
use Rattle.cam6_draw_cli.specs.declared.draw_options.Way.TheVariants as way
use Rattle.cam6_show_pictures.specs.Look.{Window}
use Rattle.cam6_show_pictures.specs.Palette.{default_palette, palette_said}

-- ---- the arguments

-- an option of this name that takes no value
abbrev pub flag : Text → Rule
flag name = record (new_rule name) { long = Some name; action = Some SetTrue }

-- `--crop`, which takes four
abbrev pub crop_option : Rule
crop_option = record (new_rule (codes "crop")) {
  long = Some (codes "crop");
  range = Some (record { start_inclusive = 4; end_inclusive = 4 });
  value_names = 4;
}

-- the program, with its options
unfoldable pub program : App
program =
    with_rule
    (with_rule
    (with_rule
    (with_rule
    (with_rule
    (with_rule (named Draw) (flag (codes "ppm")))
    (flag (codes "text")))
    (value_option (codes "scale")))
    crop_option)
    (value_option (codes "palette")))
    (value_option (codes "frames"))

-- ---- what they ask for

-- whether a flag is among the words, by its value
abbrev pub is_true : Option Text → Bool
is_true None = false
is_true (Some word) = bytes_eq word (codes "true")

-- by whether --ppm and --text are said, and by the word at --frames; a rate needs a terminal
abbrev pub way_said : Bool → Bool → Option Text → Option Way
way_said true false None = Some way.Ppm
way_said false true None = Some (way.Text None)
way_said false true (Some word) =
    option_map (λ rate. way.Text (Some rate)) (number_said 1 1000 word)
way_said true false (Some word) = None
way_said true true rate = None
way_said false false rate = None

abbrev pub way_at : List Row → Option Way
way_at rows =
    way_said (is_true (first_of (codes "ppm") rows)) (is_true (first_of (codes "text") rows))
    (first_of (codes "frames") rows)

-- the palette that is said, or else the default one
abbrev pub palette_by : Option Text → Option (List Light)
palette_by None = Some default_palette
palette_by (Some word) = palette_said word

-- a column, a row, a width and a height
abbrev pub window_asked_for : Text → Text → Text → Text → Option Window
window_asked_for x y w h = do
  column ← number_said 0 (max_columns - 1) x
  row ← number_said 0 (max_columns - 1) y
  width ← number_said 1 max_columns w
  height ← number_said 1 max_columns h
  Some (record { column = column; row = row; width = width; height = height })

abbrev pub window_of : List Text → Option Window
window_of words = if length words == 4
    then window_asked_for (get_or words 0 []) (get_or words 1 []) (get_or words 2 []) (get_or words 3 [])
    else None

-- the part that is said, or else none, for the whole torus
abbrev pub window_by : Option (List Text) → Option (Option Window)
window_by None = Some None
window_by (Some words) = option_map (λ window. Some window) (window_of words)

-- the pixels of a cell that are said, or else 1
abbrev pub scale_by : Option Text → Option ℕ
scale_by word = number_by word 1 16 1

-- all of them, if each is valid
abbrev pub all_said : Option Way → Option (List Light) → Option (Option Window) → Option ℕ
    → Option DrawOptions
all_said said_way said_palette said_window said_scale = do
  way ← said_way
  palette ← said_palette
  window ← said_window
  scale ← said_scale
  Some (record { look = record { palette = palette; window = window; scale = scale }; way = way })

-- what the words ask for, if anything, by clap's matches
abbrev pub asked : List Row → Option DrawOptions
asked rows =
    all_said (way_at rows) (palette_by (first_of (codes "palette") rows))
    (window_by (all_of (codes "crop") rows)) (scale_by (first_of (codes "scale") rows))
