use Rattle.cam6_model.specs.Machine.{blank}
use Rattle.cam6_session.specs.Answers.{by_machine}
use Rattle.cam6_session.proofs.Known.{serves_none}
use Rattle.cam6_session.proofs.Fronts.{writes_alone}
use Rattle.cam6_session.proofs.alone.serve_alone.Goals as goal

pub returns-in_default-clause-served : goal.returns-in_default-clause-served
returns-in_default-clause-served g c = (
  blank c.args.limit,
  serves_none by_machine _ _ (blank c.args.limit),
)

pub returns-clause-headline : goal.returns-clause-headline
returns-clause-headline g c =
    writes_alone c.args.limit _ _ _ _ _ _ _ c.in-Ok.ensures.machine c.serve.ensures.served
