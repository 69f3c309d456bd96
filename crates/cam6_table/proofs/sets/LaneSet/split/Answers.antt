use Rattle.std.proofs.Common.{◌∙◌, ◌==◌, slice_index, if◌then◌else◌, ap, sym}
use Rattle.cam6_table.proofs.sets.LaneSet.split.Goals as goal

pub returns-then-self-clause-zeros : goal.returns-then-self-clause-zeros
returns-then-self-clause-zeros c = λ lane below.
    c.split.ensures.zeros lane below ∙
    ap (λ s. if slice_index c.args.values.now lane == 0 then s else 0)
    (c.in_all.ensures lane below ∙ sym (c.args.self.now.whole c.if-self.true lane below))

pub returns-then-self-clause-others : goal.returns-then-self-clause-others
returns-then-self-clause-others c = λ lane below.
    c.split.ensures.others lane below ∙
    ap (λ s. if slice_index c.args.values.now lane == 0 then 0 else s)
    (c.in_all.ensures lane below ∙ sym (c.args.self.now.whole c.if-self.true lane below))
