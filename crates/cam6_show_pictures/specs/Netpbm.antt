-- A picture as a file of the netpbm programs: their raw format P6, of three bytes a pixel.
use Rattle.std.specs.Prelude.{ℕ, List, [], ◌∷◌, ◌++◌, codes, decimal, flat_map}
use Rattle.std.specs.List.{range_with_len}
use Rattle.cam6_show_pictures.specs.declared.looks.Light.{Light}
use Rattle.cam6_show_pictures.specs.Look.{Look, light_shown, pixels_wide, pixels_high}

-- red, green, blue
abbrev pub light_bytes : Light → List ℕ
light_bytes light = light.red ∷ light.green ∷ light.blue ∷ []

-- the format, the width, the height and the most of a light
abbrev pub header : ℕ → ℕ → List ℕ
header width height = codes "P6\n" ++ decimal width ++ codes " " ++ decimal height ++ codes "\n255\n"

-- a row of pixels, from the left
unfoldable pub pixel_row : Look → List (List ℕ) → ℕ → List ℕ
pixel_row look frame j =
    flat_map (λ i. light_bytes (light_shown look frame i j))
    (range_with_len 0 (pixels_wide look frame))

-- the header, and the rows of pixels from the top
unfoldable pub netpbm : Look → List (List ℕ) → List ℕ
netpbm look frame =
    header (pixels_wide look frame) (pixels_high look frame)
    ++ flat_map (pixel_row look frame) (range_with_len 0 (pixels_high look frame))
