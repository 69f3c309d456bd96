use Rattle.std.proofs.Common.{◌≡◌, ◌∙◌, ap, subst, sym}
use Rattle.cam6_forth.specs.declared.words.StackWord.{StackWord}
use Rattle.cam6_forth.specs.declared.words.StackWord.TheVariants as word
use Rattle.cam6_table.specs.declared.codes.Instruction.{Instruction}
use Rattle.cam6_table.specs.declared.codes.Instruction.TheVariants.{Stack}
use Rattle.cam6_table.specs.Internal.Lanes.{StepsIn}
use Rattle.cam6_table.proofs.StepByStep.{steps_of_acts}
use Rattle.cam6_table.proofs.straight.step.Goals as goal

pub returns-in_default : goal.returns-in_default
returns-in_default c = steps_of_acts _ _ _ _ _ _ _ c.requires.floors c.act_in-in_default.ensures

pub returns-in-Drop : goal.returns-in-Drop
returns-in-Drop c =
    let is : c.args.instruction ≡ Stack word.Drop =
    (c.in-Stack.is ∙ ap (λ (w : StackWord). Stack w) c.in-Drop.is) in
    subst (λ (i : Instruction). StepsIn c.args.set.now.mask c.args.addresses.now i c.args.span.now
    c.args.lanes.now c.drop_top.new.span c.drop_top.new.lanes c.drop_top.result) (sym is)
    (c.drop_top.ensures c.args.addresses.now)
