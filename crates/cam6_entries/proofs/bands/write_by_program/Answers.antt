use Rattle.std.proofs.Common.{ℕ, ◌+◌, ◌∙◌, sym, arith, Bool, List}
use Rattle.cam6_wiring.specs.Name.{plane_of}
use Rattle.cam6_wiring.specs.declared.names.Level.TheVariants.{Lower, Upper}
use Rattle.cam6_lines.specs.Bands.{side_of}
use Rattle.cam6_lines.specs.Units.{bit_in}
use Rattle.cam6_program.specs.Meaning.{bit_by}
use Rattle.cam6_program.specs.Programs.{keeps}
use Rattle.cam6_entries.specs.Bands.{seen_by}
use Rattle.cam6_entries.proofs.KeptPlanes.{bit_kept, own_bit, written_or_kept}
use Rattle.cam6_entries.proofs.bands.write_by_program.Goals as goal

pub returns-clause-lower : goal.returns-clause-lower
returns-clause-lower c = λ f of r x h l.
    let a = c.args in
    let band = a.band.now in
    let s : ℕ = side_of band in
    let bits : List Bool = seen_by a.plan.now a.setting.now f band r x in
    written_or_kept c.keeps.result (keeps Lower a.program.now)
    (bit_in band.planes.now.side c.write_by_units.new.lower r x)
    (f (plane_of a.setting.now.half Lower) x (band.first + r)) (bit_by Lower a.program.now bits)
    c.keeps.ensures (λ changes. c.write_by_units.ensures.lower f of changes r x h l)
    (λ kept. sym (bit_kept Lower a.program.now bits kept ∙
    own_bit s f a.setting.now a.plan.now.hood a.plan.now.minor Lower x (band.first + r) l
    (omega (arith, h, c.requires.within))))

pub returns-clause-upper : goal.returns-clause-upper
returns-clause-upper c = λ f of r x h l.
    let a = c.args in
    let band = a.band.now in
    let s : ℕ = side_of band in
    let bits : List Bool = seen_by a.plan.now a.setting.now f band r x in
    written_or_kept c.keeps-2.result (keeps Upper a.program.now)
    (bit_in band.planes.now.side c.write_by_units.new.upper r x)
    (f (plane_of a.setting.now.half Upper) x (band.first + r)) (bit_by Upper a.program.now bits)
    c.keeps-2.ensures (λ changes. c.write_by_units.ensures.upper f of changes r x h l)
    (λ kept. sym (bit_kept Upper a.program.now bits kept ∙
    own_bit s f a.setting.now a.plan.now.hood a.plan.now.minor Upper x (band.first + r) l
    (omega (arith, h, c.requires.within))))
