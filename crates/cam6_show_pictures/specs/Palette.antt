-- A palette as a word: the lights of sixteen colours, each as six hexadecimal digits, with commas
-- between them.
use Rattle.std.specs.Prelude.{ℕ, zero, suc, ◌*◌, ◌-◌, List, [], ◌∷◌, ◌++◌, Option, Some, None, Bool}
use Rattle.std.specs.Prelude.{◌==◌, ◌||◌, if◌then◌else◌, take, drop, length, slice_index}
use Rattle.std.specs.Prelude.{option_and_then, option_map}
use Rattle.std.specs.Result.{result_ok}
use Rattle.hex.specs.Hex.{decode_sized}
use Rattle.cam6_show_pictures.specs.declared.looks.Light.{Light}

-- so much red, green and blue
abbrev pub rgb : ℕ → ℕ → ℕ → Light
rgb red green blue = record { red = red; green = green; blue = blue }

-- the palette if none is said
abbrev pub default_palette : List Light
default_palette =
    rgb 0x00 0x00 0x00 ∷ rgb 0xff 0xd2 0x3f ∷ rgb 0x3f 0xa7 0xff ∷ rgb 0x9b 0xe5 0x64
    ∷ rgb 0xee 0x42 0x66 ∷ rgb 0xff 0x8c 0x42 ∷ rgb 0xb3 0x88 0xeb ∷ rgb 0xff 0xb3 0xc6
    ∷ rgb 0x3b 0xce 0xac ∷ rgb 0xd9 0xf2 0xb4 ∷ rgb 0x7f 0xdb 0xff ∷ rgb 0xe8 0xf8 0xff
    ∷ rgb 0xc9 0x8a 0x5b ∷ rgb 0xff 0xe8 0xc2 ∷ rgb 0xd0 0xc8 0xff ∷ rgb 0xff 0xff 0xff ∷ []

-- the light of six digits
abbrev pub light_said : List ℕ → Option Light
light_said digits =
    option_map (λ bytes. rgb (slice_index bytes 0) (slice_index bytes 1) (slice_index bytes 2))
    (result_ok (decode_sized digits 3))

-- a comma stands before the light n, if it isn't the first
abbrev pub is_parted : List ℕ → ℕ → Bool
is_parted text n = n == 0 || slice_index text (7 * n - 1) == 44

-- the light n of a word
abbrev pub light_at : List ℕ → ℕ → Option Light
light_at text n = if is_parted text n then light_said (take 6 (drop (7 * n) text)) else None

-- the first n lights of a word
unfoldable pub lights_said : List ℕ → ℕ → Option (List Light)
lights_said text zero = Some []
lights_said text (suc n) =
    option_and_then (λ lights. option_map (λ light. lights ++ light ∷ []) (light_at text n))
    (lights_said text n)

-- sixteen groups of six digits, and fifteen commas
abbrev pub palette_said : List ℕ → Option (List Light)
palette_said text = if length text == 111 then lights_said text 16 else None
