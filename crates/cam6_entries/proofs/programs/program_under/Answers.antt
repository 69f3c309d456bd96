use Rattle.std.proofs.Common.{subst, sym, IfSome}
use Rattle.cam6_wiring.specs.declared.wirings.Hood.{Hood}
use Rattle.cam6_wiring.specs.declared.wirings.Minor.{Minor}
use Rattle.cam6_entries.specs.Programs.{ComputesUnder}
use Rattle.cam6_entries.proofs.LinesWithoutNames.{does_under_margolus, does_under_any, if_some}
use Rattle.cam6_entries.proofs.programs.program_under.Goals as goal

pub returns-in-Margolus : goal.returns-in-Margolus
returns-in-Margolus c =
    let entries = c.args.entries.now in
    subst (λ (hood : Hood). IfSome c.of.result (λ program. (minor : Minor) →
    ComputesUnder hood minor entries program)) (sym c.in-Margolus.is)
    (if_some c.of.result (λ program computes.
    does_under_margolus entries c.without_lines_8_and_9.result program computes
    c.without_lines_8_and_9.ensures) c.of.ensures)

pub returns-in-Moore : goal.returns-in-Moore
returns-in-Moore c =
    if_some c.of-in-Moore.result (λ program computes.
    does_under_any c.args.entries.now program computes c.args.hood) c.of-in-Moore.ensures
