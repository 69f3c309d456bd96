use Rattle.std.proofs.Common.{◌∙◌, arith}
use Rattle.cam6_program.proofs.Columns.{step_taken}
use Rattle.cam6_program.proofs.running.write_slot.Goals as goal

pub returns-then-into-slots-clause-step : goal.returns-then-into-slots-clause-step
returns-then-into-slots-clause-step c = λ x h.
    let split = c.split_at_mut-before in
    step_taken _ c.args.step c.args.slots.now split.result.0.now split.result.1.now
    c.write_first.new.slots x (split.ensures.front_len ∙ c.from-into.ensures)
    (omega (arith, split.ensures.back_len, c.if-into-slots.true)) split.ensures.value
    (c.write_first.ensures.first x h)
