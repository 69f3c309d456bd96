use Rattle.std.proofs.Common.{◌≡◌, ℕ, ◌<◌, ◌≤◌, ◌*◌, [], drop, take, map, length}
use Rattle.cam6_wiring.specs.Lines.{at_column}
use Rattle.cam6_program.specs.Meaning.{after_steps}
use Rattle.cam6_program.specs.declared.programs.TheConstants.{MAX_SLOTS}
use Rattle.cam6_program.proofs.running.run_all_steps.Given as goal

abbrev pub invariant-loop-k : goal.invariant-loop-k
invariant-loop-k l = record {
  long : length l.slots ≡ MAX_SLOTS;
  within : l.written ≤ MAX_SLOTS;
  steps : (c : ℕ) → c < 64 * l.words →
      after_steps (at_column c (map (λ line. line.now) l.lines)) (drop l.k l.steps)
      (at_column c (take l.written l.slots))
      ≡ after_steps (at_column c (map (λ line. line.now) l.lines)) l.steps [];
}
