use Rattle.std.proofs.Common.{◌++◌, [], ◌∷◌, ap, sym, ◌∙◌}
use Rattle.serde_json.proofs.OnLiterals.{serde_json_on_literals}
use Rattle.std.specs.Fmt.{digits}
use Rattle.cam6_commands.specs.declared.outcomes.Outcome.{Outcome}
use Rattle.cam6_wire.specs.Outcomes.{outcome_bytes}
use Rattle.cam6_wire.proofs.outcomes.undone_line.Goals as goal

pub returns-in-NoMemory-clause-line : goal.returns-in-NoMemory-clause-line
unfolding serde_json_on_literals outcome_bytes digits
returns-in-NoMemory-clause-line c =
    sym (ap (λ (o : Outcome). outcome_bytes o ++ 10 ∷ []) c.in-NoMemory.is)

pub returns-in-Refused-clause-line : goal.returns-in-Refused-clause-line
returns-in-Refused-clause-line c =
    c.refused_line.ensures ∙ ap (λ (o : Outcome). outcome_bytes o ++ 10 ∷ []) (sym c.in-Refused.is)
