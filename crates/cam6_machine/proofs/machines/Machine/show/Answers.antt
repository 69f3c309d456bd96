use Rattle.std.proofs.Common.{◌≡◌, ◌∙◌, sym, true, false}
use Rattle.cam6_machine.specs.Stored.{machine_of}
use Rattle.cam6_model.proofs.WantOfMemory.{plane_has_rows}
use Rattle.cam6_machine.proofs.machines.Machine.show.Goals as goal

pub returns-in_err-rows-in-Ok-clause-memory : goal.returns-in_err-rows-in-Ok-clause-memory
returns-in_err-rows-in-Ok-clause-memory c = λ none.
    let some = plane_has_rows (machine_of c.args.self.now) c.args.plane c.in-Ok.ensures.refusal in
    let never : true ≡ false = sym some ∙ none in
    cc never
