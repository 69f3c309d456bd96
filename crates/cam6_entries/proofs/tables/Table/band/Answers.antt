use Rattle.std.proofs.Common.{◌+◌, ◌∙◌}
use Rattle.cam6_wiring.specs.declared.names.Level.TheVariants.{Lower, Upper}
use Rattle.cam6_lines.specs.Bands.{side_of}
use Rattle.cam6_entries.proofs.ComputedBits.{same_bit}
use Rattle.cam6_entries.proofs.tables.Table.band.Goals as goal

pub returns-clause-lower : goal.returns-clause-lower
returns-clause-lower c = λ f of r x h l.
    let a = c.args in
    let band = a.band.now in
    c.write_by_plan.ensures.lower f of r x h l ∙
    same_bit (c.deref.ensures.value ∙ c.self.view_is) (c.is_for.ensures.hood c.if-is_for.true)
    (c.is_for.ensures.minor c.if-is_for.true) Lower (side_of band) f a.setting.now x (band.first + r)

pub returns-clause-upper : goal.returns-clause-upper
returns-clause-upper c = λ f of r x h l.
    let a = c.args in
    let band = a.band.now in
    c.write_by_plan.ensures.upper f of r x h l ∙
    same_bit (c.deref.ensures.value ∙ c.self.view_is) (c.is_for.ensures.hood c.if-is_for.true)
    (c.is_for.ensures.minor c.if-is_for.true) Upper (side_of band) f a.setting.now x (band.first + r)

pub returns-2-clause-lower : goal.returns-2-clause-lower
returns-2-clause-lower c = λ f of r x h l.
    let a = c.args in
    let band = a.band.now in
    c.write_by_plan-2.ensures.lower f of r x h l ∙
    same_bit (c.deref-2.ensures.value ∙ c.self.view_is) c.of-plan.ensures.hood
    c.of-plan.ensures.minor Lower (side_of band) f a.setting.now x (band.first + r)

pub returns-2-clause-upper : goal.returns-2-clause-upper
returns-2-clause-upper c = λ f of r x h l.
    let a = c.args in
    let band = a.band.now in
    c.write_by_plan-2.ensures.upper f of r x h l ∙
    same_bit (c.deref-2.ensures.value ∙ c.self.view_is) c.of-plan.ensures.hood
    c.of-plan.ensures.minor Upper (side_of band) f a.setting.now x (band.first + r)
