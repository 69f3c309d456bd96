use Rattle.std.proofs.Common.{◌≡◌, ◌∙◌, List, Bool, length, ap, take, map, arith}
use Rattle.std.proofs.lemmas.List.{length-take-le}
use Rattle.std.proofs.lemmas.Slice.{take-put_mid}
use Rattle.cam6_wiring.specs.Lines.{at_column}
use Rattle.cam6_program.specs.Meaning.{put_into}
use Rattle.cam6_program.specs.Running.{written_after}
use Rattle.cam6_program.proofs.Columns.{step_in_order}
use Rattle.cam6_program.proofs.running.run_step.Goals as goal

pub returns-clause-step : goal.returns-clause-step
returns-clause-step c = λ x h.
    let a = c.args in
    let after = c.written_after-written in
    let units = c.write_slot.new.slots in
    let lines : List Bool = at_column x (map (λ line. line.now) a.lines.now) in
    let long : length units ≡ after.result =
    c.write_slot.ensures.count ∙
    length-take-le after.result a.slots.now (omega (arith, c.told-slots, after.ensures.within)) in
    ap (at_column x) (take-put_mid 0 after.result a.slots.now units after.result (omega (arith, long)) (omega arith)) ∙
    c.write_slot.ensures.step x h ∙
    ap (λ n. put_into lines a.step (at_column x (take n a.slots.now)))
    (after.ensures.value ∙ ap (written_after a.written) c.from.ensures) ∙
    step_in_order lines a.step a.written x a.slots.now c.told-slots c.requires.written
