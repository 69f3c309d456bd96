use Rattle.std.proofs.Common.{◌∙◌, sym, ap}
use Rattle.cam6_core.specs.Refusals.{standing, refusal}
use Rattle.cam6_core.proofs.parts.Core.refusal.Goals as goal

pub returns-in-Ask : goal.returns-in-Ask
returns-in-Ask c =
    c.ask_refusal.ensures c.in-Ask.field-1 ∙ sym (ap (refusal (standing c.args.self.now)) c.in-Ask.is)
