-- A machine that may go back is, run and then taken back as far, the machine that it was, and so
-- it is taken back and then run.
use Rattle.std.proofs.Common.{◌≡◌, ℕ, None, ◌∙◌, ap}
use Rattle.cam6_block.specs.Laws.{CauseIsFound}
use Rattle.cam6_model.specs.Machine.{Machine, steps, unsteps, IsReversibleCycle}
use Rattle.cam6_model.specs.Refusals.{refusal}
use Rattle.cam6_model.specs.Effects.{effect}
use Rattle.cam6_model.specs.Alone.{if_refused, after}
use Rattle.cam6_model.specs.Laws.{BackGivesTheMachineBack}
use Rattle.cam6_commands.specs.declared.commands.Command.{Command}
use Rattle.cam6_commands.specs.declared.commands.Command.TheVariants.{Run, Back}
use Rattle.cam6_model.proofs.StepLaws.{only_planes_and_position}
use Rattle.cam6_model.proofs.StepsBack.{only_these_back}
use Rattle.cam6_model.proofs.ReversibleCycles.{back_runs, reversible}
use Rattle.cam6_model.proofs.RoundAndBack.{undoing_undoes, doing_redoes}

-- what isn't refused is done
done : (m : Machine) (c : Command) → refusal m c ≡ None → after m c ≡ effect m c
done m c none = ap (λ o. if_refused o (λ r. m) (effect m c)) none

-- a machine after steps, or after steps back, is refused what it was refused before
pub refused_after_steps : (m : Machine) (n k : ℕ) →
    refusal (steps n m) (Back k) ≡ refusal m (Back k)
refused_after_steps m n k = ap (λ m. refusal m (Back k)) (only_planes_and_position m n)

pub refused_after_back : (m : Machine) (n k : ℕ) →
    refusal (unsteps n m) (Run k) ≡ refusal m (Run k)
refused_after_back m n k = ap (λ m. refusal m (Run k)) (only_these_back m n)

pub back_gives_back : CauseIsFound → BackGivesTheMachineBack
back_gives_back found m n is none =
    let can : IsReversibleCycle m = reversible found m n none in
    let runs : refusal m (Run n) ≡ None = back_runs m n none in (
      ap (λ k. after k (Back n)) (done m (Run n) runs) ∙
          done (steps n m) (Back n) (refused_after_steps m n n ∙ none) ∙
          undoing_undoes m n is can,
      ap (λ k. after k (Run n)) (done m (Back n) none) ∙
          done (unsteps n m) (Run n) (refused_after_back m n n ∙ runs) ∙
          doing_redoes m n is can,
    )
