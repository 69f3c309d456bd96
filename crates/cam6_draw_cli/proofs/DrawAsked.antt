-- What is asked for, by the parts that clap's rows say.
use Rattle.std.proofs.Common.{◌≡◌, ℕ, Bool, List, Option, ◌∙◌, ap, ap₂, codes}
use Rattle.clap.specs.Words.{Row, Text, all_of, first_of}
use Rattle.cam6_show_pictures.specs.declared.looks.Light.{Light}
use Rattle.cam6_draw_cli.specs.declared.draw_options.DrawOptions.{DrawOptions}
use Rattle.cam6_draw_cli.specs.declared.draw_options.Way.{Way}
use Rattle.cam6_show_pictures.specs.Look.{Window}
use Rattle.cam6_draw_cli.specs.DrawWords.{all_said, asked, is_true, palette_by, scale_by, way_at}
use Rattle.cam6_draw_cli.specs.DrawWords.{way_said, window_by}

pub way_by : (rows : List Row) (ppm text : Bool) (rate : Option Text) (way : Option Way)
    → way ≡ way_said ppm text rate → ppm ≡ is_true (first_of (codes "ppm") rows)
    → text ≡ is_true (first_of (codes "text") rows) → rate ≡ first_of (codes "frames") rows
    → way ≡ way_at rows
way_by rows ppm text rate way is by_ppm by_text by_rate =
    is ∙ ap (λ a. way_said a text rate) by_ppm
    ∙ ap₂ (λ b r. way_said (is_true (first_of (codes "ppm") rows)) b r) by_text by_rate

pub all_by : (rows : List Row) (way : Option Way) (palette : Option (List Light))
    (window : Option (Option Window)) (scale : Option ℕ) (options : Option DrawOptions)
    → options ≡ all_said way palette window scale → way ≡ way_at rows
    → palette ≡ palette_by (first_of (codes "palette") rows)
    → window ≡ window_by (all_of (codes "crop") rows)
    → scale ≡ scale_by (first_of (codes "scale") rows) → options ≡ asked rows
all_by rows way palette window scale options is by_way by_palette by_window by_scale =
    is ∙ ap₂ (λ w p. all_said w p window scale) by_way by_palette
    ∙ ap₂ (λ w s. all_said (way_at rows) (palette_by (first_of (codes "palette") rows)) w s)
    by_window by_scale
