-- Jumps of flat code: instructions passed over are instructions left out.
use Rattle.std.proofs.Common.{◌≡◌, ◌≤◌, ◌<◌, ◌+◌, ◌-◌, ℕ, zero, suc, List, [], ◌∷◌, length, refl}
use Rattle.std.proofs.Common.{sym, ap, ◌∙◌, arith, Option, Ok, drop, reverse, get_or, inl, inr}
use Rattle.std.proofs.Math.Seq.{drop-cons}
use Rattle.std.proofs.lemmas.List.{drop_all, drop-drop, length-reverse, get_or-reverse}
use Rattle.std.proofs.lemmas.Bool.{cases_lt}
use Rattle.cam6_table.specs.declared.codes.Instruction.{Instruction}
use Rattle.cam6_table.specs.declared.evaluation.Next.{Next}
use Rattle.cam6_table.specs.declared.outputs.State.{State}
use Rattle.cam6_table.specs.Meaning.{then_do}
use Rattle.cam6_table.specs.Codes.{Lines, last_of, act, exec, steps_of, steps_after}

-- the last of instructions that are kept back to front
pub last-before : (kept code : List Instruction) (remaining : ℕ) (i : Instruction) →
    reverse kept ≡ code → remaining < length code → i ≡ get_or kept remaining i →
    last_of (remaining + 1) code ≡ i ∷ last_of remaining code
last-before kept code remaining i view within is =
    let all : length code ≡ length kept = sym (ap length view) ∙ length-reverse kept in
    let position = length code - (remaining + 1) in
    let below : position < length code = omega arith in
    let mirrored : length kept - 1 - position ≡ remaining = omega arith in
    let next : suc position ≡ length code - remaining = omega arith in
    let here : get_or code position i ≡ i =
    (ap (λ c. get_or c position i) (sym view) ∙ get_or-reverse kept position i (omega arith) ∙
    ap (λ k. get_or kept k i) mirrored ∙ sym is) in
    drop-cons code position i below ∙ ap (λ x. x ∷ drop (suc position) code) here ∙
    ap (λ k. i ∷ drop k code) next

-- fewer of the last ones
last-fewer : (code : List Instruction) (remaining passed : ℕ) → remaining ≤ length code →
    drop passed (last_of remaining code) ≡ last_of (remaining - passed) code
last-fewer code remaining passed within = drop-drop passed (length code - remaining) code ∙ left
  where
    left : drop (length code - remaining + passed) code ≡ last_of (remaining - passed) code
    left = elim (cases_lt remaining passed) [
      | inl past ↦ drop_all (length code - remaining + passed) code (omega arith) ∙
          sym (drop_all (length code - (remaining - passed)) code (omega arith))
      | inr short ↦ (let same : length code - remaining + passed ≡ length code - (remaining - passed) =
          omega arith in ap (λ k. drop k code) same)
    ]

exec-drop : (shows : Lines) (code : List Instruction) (passed : ℕ) (word : Option ℕ) (s : State) →
    exec shows code passed word s ≡ exec shows (drop passed code) 0 word s
exec-drop shows code zero word s = refl
exec-drop shows [] (suc passed) word s = refl
exec-drop shows (i ∷ code) (suc passed) word s = exec-drop shows code passed word s

steps-drop : (shows : Lines) (code : List Instruction) (passed : ℕ) (word : Option ℕ) (s : State) →
    steps_of shows code passed word s ≡ steps_of shows (drop passed code) 0 word s
steps-drop shows code zero word s = refl
steps-drop shows [] (suc passed) word s = refl
steps-drop shows (i ∷ code) (suc passed) word s = steps-drop shows code passed word s

-- the first of the last so many instructions is done, and the code goes on
module _ (shows : Lines) (code : List Instruction) (remaining before after : ℕ) (word : Option ℕ)
    (i : Instruction) (s new : State) (next : Next) (one : remaining ≡ before + 1)
    (within : before ≤ length code) (fewer : after ≡ before - next.passed)
    (front : last_of (before + 1) code ≡ i ∷ last_of before code)
    (done : act shows word i s ≡ Ok (new, next)) where
  ahead : last_of remaining code ≡ i ∷ last_of before code
  ahead = ap (λ k. last_of k code) one ∙ front

  later : drop next.passed (last_of before code) ≡ last_of after code
  later = last-fewer code before next.passed within ∙ ap (λ k. last_of k code) (sym fewer)

  pub exec-goes_on :
      exec shows (last_of remaining code) 0 word s ≡ exec shows (last_of after code) 0 next.word new
  exec-goes_on =
      ap (λ c. exec shows c 0 word s) ahead ∙
      ap (λ r. then_do r (λ d. exec shows (last_of before code) d.1.passed d.1.word d.0)) done ∙
      exec-drop shows (last_of before code) next.passed next.word new ∙
      ap (λ c. exec shows c 0 next.word new) later

  pub steps-go_on :
      steps_of shows (last_of remaining code) 0 word s ≡
      suc (steps_of shows (last_of after code) 0 next.word new)
  steps-go_on =
      ap (λ c. steps_of shows c 0 word s) ahead ∙
      ap (λ r. suc (steps_after r (λ d.
      steps_of shows (last_of before code) d.1.passed d.1.word d.0))) done ∙
      ap suc (steps-drop shows (last_of before code) next.passed next.word new) ∙
      ap (λ c. suc (steps_of shows c 0 next.word new)) later
