use Rattle.std.proofs.Common.{◌≡◌, ◌∙◌, ◌+◌, ◌-◌, ap, arith, sym, subst, true, false}
use Rattle.cam6_band.specs.ByTables.{values_of}
use Rattle.cam6_board.specs.declared.boards.BandEnd.{BandEnd}
use Rattle.cam6_board.specs.declared.boards.BandEnd.TheVariants.{Inside}
use Rattle.cam6_board.specs.Images.{is_rest}
use Rattle.cam6_board.specs.Jobs.{StoredJob, stored_job}
use Rattle.cam6_board.specs.Bands.{end_of, Moves}
use Rattle.cam6_board.proofs.Moving.{inside, beyond}
use Rattle.cam6_board.proofs.jobs.Job.band.Goals as goal

pub returns-then-not-is_rest : goal.returns-then-not-is_rest
returns-then-not-is_rest c =
    let k = c.self.inside in
    let before = stored_job k.image k.cycle k.position k.direction k.steps in
    let image = c.band.new.self in
    let after = stored_job image k.cycle k.position k.direction k.steps in
    let rest : is_rest image ≡ false =
    ap is_rest (sym c.image.ensures) ∙ sym c.is_rest.ensures ∙ c.if-not-is_rest.true in
    subst (λ (b : StoredJob). Moves c.args.tables.now b Inside after) c.self.view_is
    (inside c.args.tables.now before image (values_of c.tables_of_step-after.result.0)
    c.tables_of_step-after.ensures.tables c.band.ensures.goes_on c.band.ensures.planes rest)

pub returns : goal.returns
returns c =
    let k = c.self.inside in
    let before = stored_job k.image k.cycle k.position k.direction k.steps in
    let image = c.band.new.self in
    let left = k.steps - 1 in
    let after = stored_job image k.cycle c.tables_of_step-after.result.1 k.direction left in
    let rest : is_rest image ≡ true =
    ap is_rest (sym c.image.ensures) ∙ sym c.is_rest.ensures ∙ c.if-not-is_rest.false in
    let same = ap (λ (j : StoredJob). j.steps) c.self.view_is in
    let less : left + 1 ≡ k.steps = omega (arith, c.requires.work, same) in
    let there =
    ap (λ position. stored_job image k.cycle position k.direction left) c.tables_of_step-after.ensures.next in
    subst (λ (b : StoredJob). Moves c.args.tables.now b c.end_of.result after) c.self.view_is
    (subst (λ (e : BandEnd). Moves c.args.tables.now before e after) (sym c.end_of.ensures)
    (subst (Moves c.args.tables.now before (end_of left)) (sym there)
    (beyond c.args.tables.now before image (values_of c.tables_of_step-after.result.0)
    c.tables_of_step-after.ensures.tables c.band.ensures.goes_on c.band.ensures.planes left rest less)))
