use Rattle.std.proofs.Common.{◌≡◌, ◌+◌, ◌∙◌, ap, subst, List, ℕ, Option, Some, IfSome}
use Rattle.cam6_wiring.specs.declared.names.Level.TheVariants.{Lower, Upper}
use Rattle.cam6_wiring.specs.declared.wirings.Hood.{Hood}
use Rattle.cam6_wiring.specs.declared.wirings.Minor.{Minor}
use Rattle.cam6_lines.specs.Bands.{side_of}
use Rattle.cam6_program.specs.Programs.{Steps}
use Rattle.cam6_entries.specs.Bands.{asked_by}
use Rattle.cam6_entries.specs.Programs.{ComputesUnder}
use Rattle.cam6_entries.proofs.ComputedBits.{computed}
use Rattle.cam6_entries.proofs.bands.write_by_plan.Goals as goal

-- the program that is held does for the entries
held_program : (hood : Hood) (minor : Minor) (entries : List ℕ) (held : Option Steps)
    (program : Steps) → held ≡ Some program →
    IfSome held (ComputesUnder hood minor entries) → ComputesUnder hood minor entries program
held_program hood minor entries held program is =
    subst (λ p. IfSome p (ComputesUnder hood minor entries)) is

pub write_by_program-requires-clause-plan : goal.write_by_program-requires-clause-plan
write_by_program-requires-clause-plan c = c.requires.plan ∙ ap asked_by c.in-Some.is

pub write_by_look_ups-requires-clause-plan : goal.write_by_look_ups-requires-clause-plan
write_by_look_ups-requires-clause-plan c = c.requires.plan ∙ ap asked_by c.in-None.is

pub returns-in-Some-clause-lower : goal.returns-in-Some-clause-lower
returns-in-Some-clause-lower c = λ f of r x h l.
    let a = c.args in
    let band = a.band.now in
    c.write_by_program.ensures.lower f of r x h l ∙
    computed a.entries.now c.in-Some.program a.plan.now.hood a.plan.now.minor
    (held_program a.plan.now.hood a.plan.now.minor a.entries.now a.program.now c.in-Some.program
    c.in-Some.is c.requires.program) Lower (side_of band) f a.setting.now x (band.first + r)

pub returns-in-Some-clause-upper : goal.returns-in-Some-clause-upper
returns-in-Some-clause-upper c = λ f of r x h l.
    let a = c.args in
    let band = a.band.now in
    c.write_by_program.ensures.upper f of r x h l ∙
    computed a.entries.now c.in-Some.program a.plan.now.hood a.plan.now.minor
    (held_program a.plan.now.hood a.plan.now.minor a.entries.now a.program.now c.in-Some.program
    c.in-Some.is c.requires.program) Upper (side_of band) f a.setting.now x (band.first + r)
