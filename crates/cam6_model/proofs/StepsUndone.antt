-- A step and the step undone give the planes back.
use Rattle.std.proofs.Common.{◌≡◌, ◌<◌, ℕ, ◌%◌, Option, Some, None, sym}
use Rattle.std.proofs.Common.{◌∙◌, ap}
use Rattle.cam6_planes.specs.Cells.{Cells, torus}
use Rattle.cam6_wiring.specs.declared.names.Phase.{Phase}
use Rattle.cam6_block.specs.BlockMaps.{block_map, preimage, reading_of}
use Rattle.cam6_block.proofs.States.{block_map-lt}
use Rattle.cam6_block.proofs.Pigeonhole.{takes_each}
use Rattle.cam6_block.proofs.Preimages.{preimage_is, preimage-lt}
use Rattle.cam6_model.specs.Rules.{Rule}
use Rattle.cam6_model.specs.Cycles.{EntryRules, rule_for}
use Rattle.cam6_model.specs.Steps.{step}
use Rattle.cam6_model.specs.Undoing.{done_by, undone_by, unstep}
use Rattle.cam6_model.specs.Undoing.{IsReversibleRule, IsReversibleEntry}
use Rattle.cam6_model.specs.Laws.{IsOfBlocks}
use Rattle.cam6_model.proofs.ChangedBlocks.{IsUndone, changed_back}
use Rattle.cam6_model.proofs.StepsByBlocks.{step_changes_blocks}
use Rattle.cam6_model.proofs.StepsByTables.{can_be_undone}

module _ (s : ℕ) (entry : EntryRules) (some : 0 < s) (even : s % 2 ≡ 0)
    (can : IsReversibleEntry entry) where
  there : (rule : Option Rule) (phase : Phase) → IsReversibleRule rule →
      IsUndone (done_by phase rule) (undone_by phase rule)
  there None phase can = tt
  there (Some rule) phase can = (
    λ state h. block_map-lt (reading_of rule.wiring rule.text) phase state,
    λ state h. preimage_is (block_map (reading_of rule.wiring rule.text) phase) state h (can.one_to_one phase),
  )

  back : (rule : Option Rule) (phase : Phase) → IsReversibleRule rule →
      IsUndone (undone_by phase rule) (done_by phase rule)
  back None phase can = tt
  back (Some rule) phase can =
      let map = block_map (reading_of rule.wiring rule.text) phase in
      let one = can.one_to_one phase in (
        λ state h. preimage-lt (reading_of rule.wiring rule.text) phase state h one,
        λ state h.
            let from : (a : ℕ) × (a < 256) × (map a ≡ state) =
            takes_each map (λ a _. block_map-lt (reading_of rule.wiring rule.text) phase a) one state h in
            ap (λ b. map (preimage map b)) (sym (from.2)) ∙
            ap map (preimage_is map from.0 from.1 one) ∙ from.2,
      )

  -- a step undone, and one done again
  pub unstep-step : (f : Cells) → IsOfBlocks entry.a → IsOfBlocks entry.b → torus s f ≡ f →
      unstep s entry (step s entry f) ≡ f
  unstep-step f a b whole =
      ap (unstep s entry) (step_changes_blocks s entry f some even a b) ∙
      changed_back s some even entry.grid
      (λ half. done_by entry.phase (rule_for half entry))
      (λ half. undone_by entry.phase (rule_for half entry)) f whole
      (λ half. there (rule_for half entry) entry.phase (can_be_undone entry can half))

  pub step-unstep : (f : Cells) → IsOfBlocks entry.a → IsOfBlocks entry.b → torus s f ≡ f →
      step s entry (unstep s entry f) ≡ f
  step-unstep f a b whole =
      step_changes_blocks s entry (unstep s entry f) some even a b ∙
      changed_back s some even entry.grid
      (λ half. undone_by entry.phase (rule_for half entry))
      (λ half. done_by entry.phase (rule_for half entry)) f whole
      (λ half. back (rule_for half entry) entry.phase (can_be_undone entry can half))
