-- Codes one after another, and choices between them.
use Rattle.std.proofs.Common.{◌≡◌, ◌+◌, ℕ, zero, suc, List, [], ◌∷◌, ◌++◌}
use Rattle.std.proofs.Common.{length, refl, sym, ap, ◌∙◌, append_assoc, arith}
use Rattle.std.proofs.Common.{Option, None, Result, Ok, Err, length-append}
use Rattle.cam6_table.specs.declared.codes.Instruction.TheVariants.{SkipIfZero, Skip}
use Rattle.cam6_table.specs.declared.evaluation.Next.{Next}
use Rattle.cam6_table.specs.declared.faults.RuleFault.{RuleFault}
use Rattle.cam6_table.specs.declared.outputs.State.{State}
use Rattle.cam6_table.specs.Meaning.{Meaning, then_do, with_top, at_zero}
use Rattle.cam6_table.specs.Codes.{Lines, go, goes_on, exec}
use Rattle.cam6_table.specs.Internal.Emitting.{Instructions}
use Rattle.cam6_table.proofs.BodyCodes.{IsCode}

pub then_do-assoc : {A B C : Type 0} (r : Result A RuleFault) (f : A → Result B RuleFault)
    (g : B → Result C RuleFault) →
    then_do (then_do r f) g ≡ then_do r (λ a. then_do (f a) g)
then_do-assoc (Ok a) f g = refl
then_do-assoc (Err fault) f g = refl

pub then_do-same : {A B : Type 0} (r : Result A RuleFault) (f g : A → Result B RuleFault) →
    ((a : A) → f a ≡ g a) → then_do r f ≡ then_do r g
then_do-same (Ok a) f g e = e a
then_do-same (Err fault) f g e = refl

pub then_do-ok : (r : Result State RuleFault) → then_do r Ok ≡ r
then_do-ok (Ok s) = refl
then_do-ok (Err fault) = refl

-- an instruction that goes on at the next one
pub on_next : (r : Result State RuleFault) (f : State × Next → Result State RuleFault) →
    then_do (goes_on r) f ≡ then_do r (λ s. f (s, go 0 None))
on_next (Ok s) f = refl
on_next (Err fault) f = refl

abbrev pub leads : State → Next → Result (State × Next) RuleFault
leads s next = Ok (s, next)

abbrev pub runs : Lines → Instructions → State × Next → Result State RuleFault
runs shows code done = exec shows code done.1.passed done.1.word done.0

abbrev pub below_of : State → List ℕ → State
below_of s below = record s { stack = below }

module _ (shows : Lines) where
  -- code that is passed
  pub exec-pass : (xs ys : Instructions) (index : Option ℕ) (s : State) →
      exec shows (xs ++ ys) (length xs) index s ≡ exec shows ys 0 index s
  exec-pass [] ys index s = refl
  exec-pass (x ∷ xs) ys index s = exec-pass xs ys index s

  -- the same in a longer row
  pub exec-over : (xs ys zs : Instructions) (index : Option ℕ) (s : State) →
      exec shows ((xs ++ ys) ++ zs) (length xs) index s ≡ exec shows (ys ++ zs) 0 index s
  exec-over xs ys zs index s =
      ap (λ c. exec shows c (length xs) index s) (append_assoc xs ys zs) ∙
      exec-pass xs (ys ++ zs) index s

  -- one code and then another
  pub then_is : (a b : Instructions) (m n : Meaning) → IsCode shows a m → IsCode shows b n →
      IsCode shows (a ++ b) (λ s. then_do (m s) n)
  then_is a b m n a_is b_is later s =
      ap (λ c. exec shows c 0 None s) (append_assoc a b later) ∙ a_is (b ++ later) s ∙
      then_do-same (m s) (exec shows (b ++ later) 0 None)
      (λ x. then_do (n x) (exec shows later 0 None)) (b_is later) ∙
      sym (then_do-assoc (m s) n (exec shows later 0 None))

  pub choice_is : (on rest : Instructions) (m n : Meaning) → IsCode shows on m →
      IsCode shows rest n →
      IsCode shows (SkipIfZero (length on) ∷ (on ++ rest))
      (λ s. with_top s.stack s (λ v below. then_do (at_zero v (Ok below) (m below)) n))
  choice_is on rest m n on_is rest_is later s = by_stack s.stack
    where
      by_stack : (xs : List ℕ) →
          then_do (with_top xs s (λ v below. leads below (go (at_zero v (length on) 0) None)))
          (runs shows ((on ++ rest) ++ later))
          ≡ then_do (with_top xs s (λ v below. then_do (at_zero v (Ok below) (m below)) n))
          (exec shows later 0 None)
      by_stack [] = refl
      by_stack (zero ∷ below) =
          exec-over on rest later None (below_of s below) ∙ rest_is later (below_of s below)
      by_stack (suc v ∷ below) = then_is on rest m n on_is rest_is later (below_of s below)

  -- the first body, and over the second
  first_is : (on off rest : Instructions) (m n : Meaning) → IsCode shows on m →
      IsCode shows rest n →
      IsCode shows (on ++ (Skip (length off) ∷ (off ++ rest))) (λ s. then_do (m s) n)
  first_is on off rest m n on_is rest_is =
      then_is on (Skip (length off) ∷ (off ++ rest)) m n on_is
      (λ later s. exec-over off rest later None s ∙ rest_is later s)

  pub either_is : (on off rest : Instructions) (m l n : Meaning) → IsCode shows on m →
      IsCode shows off l → IsCode shows rest n →
      IsCode shows (SkipIfZero (length on + 1) ∷ (on ++ (Skip (length off) ∷ (off ++ rest))))
      (λ s. with_top s.stack s (λ v below. then_do (at_zero v (l below) (m below)) n))
  either_is on off rest m l n on_is off_is rest_is later s = by_stack s.stack
    where
      all : Instructions
      all = on ++ (Skip (length off) ∷ (off ++ rest))

      second : (x : State) → exec shows (all ++ later) (length on + 1) None x
          ≡ then_do (then_do (l x) n) (exec shows later 0 None)
      second x =
          let front = on ++ Skip (length off) ∷ [] in
          let far : length on + 1 ≡ length front =
          omega (arith, length-append on (Skip (length off) ∷ [])) in
          let split : all ≡ front ++ (off ++ rest) =
          sym (append_assoc on (Skip (length off) ∷ []) (off ++ rest)) in
          ap (λ k. exec shows (all ++ later) k None x) far ∙
          ap (λ c. exec shows (c ++ later) (length front) None x) split ∙
          exec-over front (off ++ rest) later None x ∙
          then_is off rest l n off_is rest_is later x

      by_stack : (xs : List ℕ) →
          then_do (with_top xs s (λ v below. leads below (go (at_zero v (length on + 1) 0) None)))
          (runs shows (all ++ later))
          ≡ then_do (with_top xs s (λ v below. then_do (at_zero v (l below) (m below)) n))
          (exec shows later 0 None)
      by_stack [] = refl
      by_stack (zero ∷ below) = second (below_of s below)
      by_stack (suc v ∷ below) = first_is on off rest m n on_is rest_is later (below_of s below)
