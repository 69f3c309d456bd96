use Rattle.std.proofs.Common.{◌≡◌, ℕ, ◌<◌, ◌*◌, ◌-◌, ◌∙◌, List, Bool, [], ap, subst, map, take}
use Rattle.std.proofs.Common.{length, arith, IfSome}
use Rattle.cam6_planes.specs.Row.{column_bit}
use Rattle.cam6_wiring.specs.Lines.{at_column}
use Rattle.cam6_lines.specs.declared.units.TheConstants.{UNIT}
use Rattle.cam6_program.specs.Meaning.{read}
use Rattle.cam6_program.specs.Running.{beside}
use Rattle.cam6_program.specs.declared.steps.Step.{Step}
use Rattle.cam6_program.proofs.LastSteps.{lower_beside, upper_free, at_one}
use Rattle.cam6_program.proofs.programs.Program.run.Goals as goal

pub returns-in-Some-clause-lower : goal.returns-in-Some-clause-lower
returns-in-Some-clause-lower c = λ kept x bits h shows.
    let program = c.args.self.now in
    let last : Step = c.in-Some.last in
    let shown : List Bool = at_column x (map (λ line. line.now) c.args.lines.now) in
    c.run_steps.ensures.last x h ∙
    ap (λ steps. beside shown (take (length steps - 1) steps) last)
    (ap (λ p. p.steps) c.self.view_is) ∙
    ap (λ lines. beside lines (take (length program.steps - 1) program.steps) last) shows ∙
    lower_beside program (take (length program.steps - 1) program.steps) last bits
    c.in-Some.ensures.lower c.in-Some.ensures.steps

pub returns-in-Some-clause-upper : goal.returns-in-Some-clause-upper
returns-in-Some-clause-upper c = λ kept x bits h shows.
    let program = c.args.self.now in
    let out : List ℕ = c.write_source.new.out in
    let shown : ℕ → List Bool = λ x. at_column x (map (λ line. line.now) c.args.lines.now) in
    let everywhere = subst (λ source. IfSome source (λ source. (x : ℕ) → x < 64 * UNIT →
    column_bit out x ≡ read (shown x) [] source)) (ap (λ p. p.upper) c.self.view_is)
    c.write_source.ensures in
    let here = at_one program.upper out shown x (omega (arith, h, c.requires)) everywhere in
    upper_free program bits (column_bit out x) kept c.in-Some.ensures.upper
    (subst (λ lines. IfSome program.upper (λ source. column_bit out x ≡ read lines [] source))
    shows here)
