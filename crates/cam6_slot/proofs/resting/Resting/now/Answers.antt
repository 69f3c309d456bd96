use Rattle.std.proofs.Common.{IfOk, subst}
use Rattle.cam6_machine.specs.Stored.{StoredMachine, machine_of}
use Rattle.cam6_slot.specs.AtOnce.{Says}
use Rattle.cam6_slot.proofs.Beginning.{says_if_ok}
use Rattle.cam6_slot.proofs.resting.Resting.now.Goals as goal

pub returns-clause-says : goal.returns-clause-says
returns-clause-says c =
    let now = c.now in
    subst (λ (s : StoredMachine). IfOk now.result (λ said.
    Says (machine_of s) c.args.command said (machine_of now.new.self))) c.self.view_is
    (says_if_ok (machine_of c.self.inside.machine) c.args.command (machine_of now.new.self)
    now.result now.ensures.work now.ensures.reply now.ensures.machine now.ensures.ready)
