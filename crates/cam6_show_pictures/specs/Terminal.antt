-- A picture on a terminal of 256 colours: two pixels a character, one above the other, over the
-- picture before it.
use Rattle.std.specs.Prelude.{ℕ, ◌+◌, ◌*◌, ◌-◌, ◌/◌, List, [], ◌∷◌, ◌++◌, codes, decimal, flat_map}
use Rattle.std.specs.Prelude.{nat_lt, if◌then◌else◌}
use Rattle.std.specs.List.{range_with_len}
use Rattle.cam6_show_pictures.specs.declared.looks.Light.{Light}
use Rattle.cam6_show_pictures.specs.Look.{Look, light_shown, pixels_wide, pixels_high}

-- how much of a light, in six steps: the nearest of 0, 95, 135, 175, 215 and 255
abbrev pub step_of : ℕ → ℕ
step_of amount =
    if nat_lt amount 48 then 0 else if nat_lt amount 115 then 1 else (amount - 35) / 40

-- the terminal's number for a light: its cube of 6 by 6 by 6 colours begins at 16
abbrev pub hue : Light → ℕ
hue light = 16 + 36 * step_of light.red + 6 * step_of light.green + step_of light.blue

-- an order to the terminal
abbrev pub order : List ℕ → List ℕ
order text = 27 ∷ codes "[" ++ text

-- the colour of what is drawn, and of its background
abbrev pub draw_in : ℕ → List ℕ
draw_in n = order (codes "38;5;" ++ decimal n ++ codes "m")

abbrev pub background_in : ℕ → List ℕ
background_in n = order (codes "48;5;" ++ decimal n ++ codes "m")

-- the terminal's own background
abbrev pub plain_background : List ℕ
plain_background = order (codes "49m")

-- the upper half of a character's place
abbrev pub upper_half : List ℕ
upper_half = 226 ∷ 150 ∷ 128 ∷ []

-- the pixels (i, 2k) and (i, 2k + 1); the lower one may be missing
abbrev pub character : Look → List (List ℕ) → ℕ → ℕ → List ℕ
character look frame k i =
    draw_in (hue (light_shown look frame i (2 * k)))
    ++ (if nat_lt (2 * k + 1) (pixels_high look frame)
    then background_in (hue (light_shown look frame i (2 * k + 1))) else plain_background)
    ++ upper_half

-- plain colours, the rest of the line cleared, and the next line
abbrev pub line_end : List ℕ
line_end = order (codes "0m") ++ order (codes "K") ++ codes "\n"

-- a line of characters, from the left
unfoldable pub character_line : Look → List (List ℕ) → ℕ → List ℕ
character_line look frame k =
    flat_map (character look frame k) (range_with_len 0 (pixels_wide look frame)) ++ line_end

-- from the upper left corner on, lines from the top; what stands below them is cleared
unfoldable pub terminal : Look → List (List ℕ) → List ℕ
terminal look frame =
    order (codes "H")
    ++ flat_map (character_line look frame) (range_with_len 0 ((pixels_high look frame + 1) / 2))
    ++ order (codes "J")
