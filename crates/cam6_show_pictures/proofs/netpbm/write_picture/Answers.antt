use Rattle.std.proofs.Common.{◌++◌, ◌∙◌, ap, ap₂, flat_map, sym}
use Rattle.std.specs.List.{range_with_len}
use Rattle.cam6_show_pictures.specs.Look.{pixels_high}
use Rattle.cam6_show_pictures.specs.Netpbm.{header, netpbm, pixel_row}
use Rattle.cam6_show_pictures.proofs.Pieces.{front_at_fault, front_after, some_of_more}
use Rattle.cam6_show_pictures.proofs.netpbm.write_picture.Goals as goal

pub returns-in_err-write_bytes : goal.returns-in_err-write_bytes
unfolding netpbm
returns-in_err-write_bytes g c =
    let look = c.args.look.now in
    let frame = c.args.frame.now in
    let rows = flat_map (pixel_row look frame) (range_with_len 0 (pixels_high look frame)) in
    front_at_fault _ _ _ _ c.from_residual.ensures.0
    (some_of_more _ _ _ rows _
    (ap (λ l. l ++ rows) (sym (c.as_bytes.ensures.value ∙ c.in-Ok.ensures
    ∙ ap₂ header c.width.ensures.value c.height.ensures.value)))
    c.in_err-write_bytes.ensures)

pub returns : goal.returns
unfolding netpbm
returns g c =
    let look = c.args.look.now in
    let frame = c.args.frame.now in
    let rows = flat_map (pixel_row look frame) (range_with_len 0 (pixels_high look frame)) in
    front_after _ _ _ _ _ rows _
    (ap (λ l. l ++ rows) (sym (c.as_bytes.ensures.value ∙ c.in-Ok.ensures
    ∙ ap₂ header c.width.ensures.value c.height.ensures.value)))
    c.in_ok-write_bytes.ensures c.write_rows.ensures
