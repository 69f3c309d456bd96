use Rattle.std.proofs.Common.{◌≡◌, ◌∙◌, ◌+◌, ap, arith, refl, suc}
use Rattle.cam6_band.specs.ByTables.{values_of}
use Rattle.cam6_machine.specs.Internal.Images.{stored_as}
use Rattle.cam6_model.specs.Moves.{one_moved, moved}
use Rattle.cam6_machine.proofs.Along.{none_moved, one_more, one_step}
use Rattle.cam6_machine.proofs.runs.go_along.Goals as goal

pub loop-step-init : goal.loop-step-init
loop-step-init c = record {
  position = c.requires.position;
  alike = record { side = refl; limit = refl };
  steps = λ limit rules colours own numbered are can. none_moved c.args.direction _;
}

pub loop-step-preserved : goal.loop-step-preserved
loop-step-preserved c =
    let cycle = c.args.cycle.now in
    let direction = c.args.direction in
    let now = c.loop-step in
    let old = now.image.planes in
    let new = c.step-image.result.planes in
    let one : suc now._step ≡ now._step + 1 = omega arith in
    record {
      position = c.tables_of_step-after.ensures.within;
      alike = record {
        side = c.step-image.ensures.alike.side ∙ now.invariant.alike.side;
        limit = c.step-image.ensures.alike.limit ∙ now.invariant.alike.limit;
      };
      steps = λ limit rules colours own numbered are can.
          let m = stored_as c.args.image.planes limit rules cycle c.args.position colours in
          ap (λ position. stored_as new limit rules cycle position colours)
          c.tables_of_step-after.ensures.next ∙
          one_step direction limit rules cycle colours own old new c.step-image.ensures.alike now.position
          c.args.tables.now (values_of c.tables_of_step-after.result.0) c.args.image.planes c.args.position
          numbered are can c.tables_of_step-after.ensures.tables c.step-image.ensures.planes ∙
          ap (one_moved direction) (now.invariant.steps limit rules colours own numbered are can) ∙
          one_more direction now._step m ∙ ap (λ n. moved direction n m) one;
    }

pub returns-clause-steps : goal.returns-clause-steps
returns-clause-steps c = λ limit rules colours own numbered are can.
    let cycle = c.args.cycle.now in
    let all : c.loop-step._step ≡ c.args.n =
    omega (arith, c.loop-step-test.false, c.loop-step.auto._step-end) in
    c.loop-step.invariant.steps limit rules colours own numbered are can ∙
    ap (λ n. moved c.args.direction n
    (stored_as c.args.image.planes limit rules cycle c.args.position colours)) all
