use Rattle.std.proofs.Common.{◌+◌, ◌/◌, ◌++◌, append_assoc, codes, flat_map, refl}
use Rattle.std.proofs.KnownBytes.{Appends-trans}
use Rattle.std.specs.List.{range_with_len}
use Rattle.cam6_show_pictures.specs.Look.{pixels_high}
use Rattle.cam6_show_pictures.specs.Terminal.{character_line, order, terminal}
use Rattle.cam6_show_pictures.proofs.Pieces.{front_at_fault, front_after, some_of_more, some_after}
use Rattle.cam6_show_pictures.proofs.terminal.write_picture.Goals as goal

pub returns-in_err-write_bytes : goal.returns-in_err-write_bytes
unfolding terminal
returns-in_err-write_bytes g c =
    let look = c.args.look.now in
    let frame = c.args.frame.now in
    let lines = flat_map (character_line look frame)
    (range_with_len 0 ((pixels_high look frame + 1) / 2)) in
    front_at_fault _ _ _ _ c.from_residual.ensures.0
    (some_of_more _ _ (order (codes "H")) (lines ++ order (codes "J")) _
    (append_assoc (order (codes "H")) lines (order (codes "J"))) c.in_err-write_bytes.ensures)

pub returns-in_err-write_lines : goal.returns-in_err-write_lines
unfolding terminal
returns-in_err-write_lines g c =
    let look = c.args.look.now in
    let frame = c.args.frame.now in
    let lines = flat_map (character_line look frame)
    (range_with_len 0 ((pixels_high look frame + 1) / 2)) in
    front_at_fault _ _ _ _ c.from_residual-in_err-write_lines.ensures.0
    (some_after _ (g.W.Write.contents c.write_bytes.new.writer) _ (order (codes "H"))
    (lines ++ order (codes "J")) _
    (append_assoc (order (codes "H")) lines (order (codes "J"))) c.in_ok-write_bytes.ensures
    (some_of_more _ _ lines (order (codes "J")) _ refl c.in_err-write_lines.ensures))

pub returns : goal.returns
unfolding terminal
returns g c =
    let look = c.args.look.now in
    let frame = c.args.frame.now in
    let lines = flat_map (character_line look frame)
    (range_with_len 0 ((pixels_high look frame + 1) / 2)) in
    front_after _ _ (g.W.Write.contents c.write_lines.new.writer) _ (order (codes "H") ++ lines)
    (order (codes "J")) _ refl
    (Appends-trans _ (g.W.Write.contents c.write_bytes.new.writer) _ (order (codes "H")) lines
    c.in_ok-write_bytes.ensures c.in_ok-write_lines.ensures)
    c.write_bytes-2.ensures
