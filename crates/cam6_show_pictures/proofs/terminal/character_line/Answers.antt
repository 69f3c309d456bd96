use Rattle.std.proofs.Common.{◌≡◌, ◌++◌, ◌∙◌, ap, arith, flat_map, refl, sym}
use Rattle.std.proofs.lemmas.Result.{IfOk-equal}
use Rattle.std.specs.List.{range_with_len}
use Rattle.cam6_show_pictures.specs.Look.{pixels_wide}
use Rattle.cam6_show_pictures.specs.Terminal.{character, character_line, line_end}
use Rattle.cam6_show_pictures.proofs.Pieces.{piece_more}
use Rattle.cam6_show_pictures.proofs.Pushes.{pushed}
use Rattle.cam6_show_pictures.proofs.terminal.character_line.Goals as goal

pub loop-i-preserved : goal.loop-i-preserved
loop-i-preserved c =
    c.in_ok-push_character.ensures
    ∙ ap (λ l. l ++ character c.args.look.now c.args.frame.now c.args.k c.loop-i.i)
    c.loop-i.invariant
    ∙ sym (piece_more (character c.args.look.now c.args.frame.now c.args.k) c.loop-i.i)

pub returns : goal.returns
unfolding character_line
returns c =
    let all : c.loop-i.i ≡ pixels_wide c.args.look.now c.args.frame.now = omega arith in
    IfOk-equal c.extend_from_slice.result _ (c.loop-i.line.items ++ line_end) _
    (pushed c.extend_from_slice.result c.loop-i.line.items _ line_end line_end refl
    c.extend_from_slice.ensures.items)
    (ap (λ l. l ++ line_end) (c.loop-i.invariant
    ∙ ap (λ n. flat_map (character c.args.look.now c.args.frame.now c.args.k)
    (range_with_len 0 n)) all))
