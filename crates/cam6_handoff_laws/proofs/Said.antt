-- Where a user is, from what their word says.
use Rattle.std.proofs.Common.{◌≡◌, ◌∙◌, ◌+◌, ℕ, zero, suc, List, Some, None, sym, refl, ap, subst}
use Rattle.std.proofs.Common.{arith, slice_index}
use mathlib.Core.Option as maybe
use Rattle.cam6_commands.specs.declared.commands.Command.{Command}
use Rattle.cam6_model.specs.Machine.{Machine}
use Rattle.cam6_slot.specs.Finished.{StoredFinished, IsDone}
use Rattle.cam6_slot.specs.Lefts.{queued_left, queued_home}
use Rattle.cam6_slot.specs.Parking.{StoredQueued}
use Rattle.cam6_slot.specs.Stands.{Stands}
use Rattle.cam6_slot.specs.declared.resting.Place.TheVariants.{Queued, Finished}
use Rattle.cam6_core.specs.Model.{Stage, resting, queued, out, finished}
use Rattle.cam6_core.specs.Runs.{status_of}
use Rattle.cam6_handoff.specs.Rule.{Slot, Row, IsAskedDone, StandsForAsked, asked_command}
use Rattle.cam6_handoff.specs.Rule as row
use Rattle.cam6_handoff.specs.declared.rule.View.{View}
use Rattle.cam6_handoff_laws.specs.Says.{status_of_word, Says, slot_of, stage_of, IsAskedOf}

-- the word of a board's
pub three : (b : ℕ) → 3 + b ≡ suc (suc (suc b))
three b = omega arith

pub status_is_words : (m : Machine) (n : ℕ) (slot : Slot) (stage : Stage) → Says m n slot stage →
    status_of stage ≡ status_of_word n
status_is_words m zero None resting says = refl
status_is_words m (suc zero) (Some (Queued q)) (queued c left home) says = refl
status_is_words m (suc (suc zero)) (Some (Finished f)) (finished c) says = refl
status_is_words m (suc (suc (suc b))) None (out d c) says = refl
status_is_words m n slot stage says = absurd says

pub rests : (m : Machine) (n : ℕ) (stage : Stage) → n ≡ 0 → Says m n None stage →
    stage ≡ resting
rests m zero resting is says = refl
rests m (suc n) stage is says = cc is
rests m n stage is says = absurd says

-- what waits for a board
pub record IsQueuedWith (m : Machine) (n : ℕ) (q : StoredQueued) (stage : Stage) : Type 0 where
  pub command : Command
  pub word : n ≡ 1
  pub stage_is : stage ≡ queued command (queued_left q) (queued_home q)
  pub stands : Stands q m command

pub waits : (m : Machine) (n : ℕ) (q : StoredQueued) (stage : Stage) →
    Says m n (Some (Queued q)) stage → IsQueuedWith m n q stage
waits m (suc zero) q (queued c left home) says = record {
  command = c;
  word = refl;
  stage_is =
      ap (λ (n : ℕ). queued c n home) says.1 ∙ ap (queued c (queued_left q)) says.2;
  stands = says.0;
}
waits m zero q stage says = absurd says
waits m (suc (suc zero)) q stage says = absurd says
waits m (suc (suc (suc b))) q stage says = absurd says
waits m n q stage says = absurd says

-- what is out on a board
pub is_out : (m : Machine) (n b : ℕ) (stage : Stage) → n ≡ 3 + b → Says m n None stage →
    (c : Command) × (stage ≡ out b c)
is_out m (suc (suc (suc d))) b (out e c) is says =
    let same : e ≡ b = omega (arith, is, says) in (c, ap (λ (k : ℕ). out k c) same)
is_out m zero b stage is says = absurd (omega (arith, is))
is_out m n b stage is says = absurd says

-- what is finished
pub record IsFinishedWith (m : Machine) (n : ℕ) (f : StoredFinished) (stage : Stage) : Type 0 where
  pub command : Command
  pub word : n ≡ 2
  pub stage_is : stage ≡ finished command
  pub done : IsDone f m command

pub is_finished : (m : Machine) (n : ℕ) (f : StoredFinished) (stage : Stage) →
    Says m n (Some (Finished f)) stage → IsFinishedWith m n f stage
is_finished m (suc (suc zero)) f (finished c) says =
    record { command = c; word = refl; stage_is = refl; done = says }
is_finished m n f stage says = absurd says

module _ {words : List ℕ} {homes : List (maybe.Option Slot)} {views : List View} {u : ℕ} where
  pub row_is_said : (row : Row words homes views u) (m : Machine) → IsAskedOf m row →
      Says m (slice_index words u) (slot_of row) (stage_of row)
  row_is_said (row.uncut w h n b) m is = subst (λ n. Says m n None resting) (sym w) tt
  row_is_said (row.unseated d w h k n) m is = subst (λ n. Says m n None resting) (sym w) tt
  row_is_said (row.resting d w h k n) m is = subst (λ n. Says m n None resting) (sym w) tt
  row_is_said (row.queued d asked q w h s k n) m is =
      let c = asked_command asked in
      subst (λ n. Says m n (Some (Queued q)) (queued c (queued_left q) (queued_home q))) (sym w)
      (subst (λ (k : Machine). Stands q k c) is s, refl, refl)
  row_is_said (row.out d e b asked q w h s k o) m is =
      subst (λ n. Says m n None (out b (asked_command asked))) (sym (w ∙ three b)) refl
  row_is_said (row.finished d asked f w h s k n) m is =
      let c = asked_command asked in
      subst (λ n. Says m n (Some (Finished f)) (finished c)) (sym w)
      (subst (λ (k : Machine). IsDone f k c) is s)
