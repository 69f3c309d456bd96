-- How frames are looked at: the part of the torus that is shown, how large, and in which colours.
use Rattle.std.specs.Prelude.{ℕ, ◌+◌, ◌*◌, ◌/◌, List, length, get_or}
use Rattle.std.specs.Prelude.{Option, Some, None}
use Rattle.cam6_planes.specs.Limits.{max_columns}
use Rattle.cam6_show_frames.specs.Frame.{colour_at}
use Rattle.cam6_show_pictures.specs.declared.looks.Light.{Light}

-- the part of a torus from this column and row on, over its seams
pub record Window : Type 0 where
  pub column : ℕ
  pub row : ℕ
  pub width : ℕ
  pub height : ℕ

-- the lights of the sixteen colours; the part that is shown, or the whole torus; and how many pixels a
-- cell is wide and high
pub record Look : Type 0 where
  pub palette : List Light
  pub window : Option Window
  pub scale : ℕ

-- the part of a torus of this side
abbrev pub window_of : Option Window → ℕ → Window
window_of None side = record { column = 0; row = 0; width = side; height = side }
window_of (Some window) side = window

-- the most pixels that a cell is wide and high
abbrev pub most_scale : ℕ
most_scale = 16

-- the most pixels that a picture is wide and high
abbrev pub most_pixels : ℕ
most_pixels = most_scale * max_columns

-- how many pixels a picture is wide and high
abbrev pub pixels_wide : Look → List (List ℕ) → ℕ
pixels_wide look frame = look.scale * (window_of look.window (length frame)).width

abbrev pub pixels_high : Look → List (List ℕ) → ℕ
pixels_high look frame = look.scale * (window_of look.window (length frame)).height

-- the colour of the cell that pixel (i, j) shows, from the left and from the top
abbrev pub colour_shown : Look → List (List ℕ) → ℕ → ℕ → ℕ
colour_shown look frame i j =
    let window = window_of look.window (length frame) in
    colour_at frame (window.column + i / look.scale) (window.row + j / look.scale)

-- no light
abbrev pub dark : Light
dark = record { red = 0; green = 0; blue = 0 }

-- the light of that cell
abbrev pub light_shown : Look → List (List ℕ) → ℕ → ℕ → Light
light_shown look frame i j = get_or look.palette (colour_shown look frame i j) dark
