use Rattle.std.proofs.Common.{◌≡◌, ℕ, ◌<◌, ◌^◌, true, subst, sym, ◌∙◌}
use Rattle.cam6_planes.specs.Row.{column_bit}
use Rattle.cam6_wiring.specs.Seen.{shown}
use Rattle.cam6_wiring.specs.declared.wirings.TheConstants.{LINES}
use Rattle.cam6_program.specs.Programs.{keeps, number}
use Rattle.cam6_program.proofs.EveryAddress.{kept_bit}
use Rattle.cam6_program.proofs.validating.kept_or.Goals as goal

pub returns-in-Lower : goal.returns-in-Lower
returns-in-Lower c =
    let kept : keeps c.args.level c.args.program.now ≡ true =
    sym c.keeps.ensures ∙ c.if-not-keeps.false in
    kept_bit c.args.level c.args.program.now c.address_line.result kept
    (subst (λ level. (address : ℕ) → address < 2 ^ LINES →
    column_bit c.address_line.result address ≡ shown address (number level)) (sym c.in-Lower.is)
    c.address_line.ensures)

pub returns-in-Upper : goal.returns-in-Upper
returns-in-Upper c =
    let kept : keeps c.args.level c.args.program.now ≡ true =
    sym c.keeps.ensures ∙ c.if-not-keeps.false in
    kept_bit c.args.level c.args.program.now c.address_line-in-Upper.result kept
    (subst (λ level. (address : ℕ) → address < 2 ^ LINES →
    column_bit c.address_line-in-Upper.result address ≡ shown address (number level))
    (sym c.in-Upper.is) c.address_line-in-Upper.ensures)
