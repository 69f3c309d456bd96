use Rattle.std.proofs.Common.{ap}
use Rattle.cam6_machine.specs.Stored.{machine_of}
use Rattle.cam6_web_machine.proofs.Answering.{undone, untold}
use Rattle.cam6_web_machine.proofs.machines.reply_to.Goals as goal

pub returns-in-Ok-clause-silence : goal.returns-in-Ok-clause-silence
returns-in-Ok-clause-silence c = λ l said.
    untold _ _ l c.args.command said _ c.answer_of.result c.in-Ok.ensures.reply
    c.in-Ok.ensures.machine c.answer_of.ensures.silence

pub returns-in-Err-clause-silence : goal.returns-in-Err-clause-silence
returns-in-Err-clause-silence c = λ l said.
    undone _ _ l c.args.command said (ap machine_of c.in-Err.ensures.err)
