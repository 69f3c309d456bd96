use Rattle.std.proofs.Common.{◌≡◌, ◌∙◌, Some, ap, arith, refl, sym, take, take_all}
use Rattle.std.proofs.Math.ListN.{length-set}
use Rattle.cam6_show_pictures.specs.Palette.{lights_said}
use Rattle.cam6_show_pictures.proofs.Lights.{light_more, none_said, none_said_at_all, palette_is}
use Rattle.cam6_show_pictures.proofs.palettes.lights_of.Goals as goal

pub loop-n-init : goal.loop-n-init
loop-n-init c = (refl, none_said_at_all c.args.text.now)

pub loop-n-preserved : goal.loop-n-preserved
loop-n-preserved c = (
  length-set c.loop-n.palette c.loop-n.n c.in-Some.light ∙ c.loop-n.invariant.0,
  light_more c.args.text.now c.loop-n.n c.loop-n.palette c.in-Some.light (omega arith)
      c.loop-n.invariant.1 (sym c.in-Some.ensures),
)

pub returns-in-None : goal.returns-in-None
returns-in-None c =
    sym (palette_is c.args.text.now (omega arith)
    ∙ none_said c.args.text.now c.loop-n.n _ 16 (omega arith) c.loop-n.invariant.1
    (sym c.in-None.ensures))

pub returns : goal.returns
returns c =
    let all : c.loop-n.n ≡ 16 = omega arith in
    let whole : take 16 c.loop-n.palette ≡ c.loop-n.palette = take_all 16 c.loop-n.palette
    (omega (arith, c.loop-n.invariant.0)) in
    sym (palette_is c.args.text.now (omega arith)
    ∙ ap (lights_said c.args.text.now) (sym all) ∙ c.loop-n.invariant.1
    ∙ ap (λ n. Some (take n c.loop-n.palette)) all ∙ ap (λ l. Some l) whole)
