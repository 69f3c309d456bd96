-- An advance refuses a token with the fault that the token has after what is being written.
use Rattle.std.proofs.Common.{◌≡◌, ◌+◌, ℕ, Bool, true, false, List, [], ◌∷◌}
use Rattle.std.proofs.Common.{length, refl, ap, ◌∙◌, arith, Option, Some, None}
use Rattle.std.proofs.Common.{is_some, Result, Ok, Err, cond, nat_lt, nat_le, suc}
use Rattle.cam6_wiring.specs.declared.wirings.Wiring.{Wiring}
use Rattle.cam6_forth.specs.declared.words.SingleWord.{SingleWord}
use Rattle.cam6_forth.specs.declared.words.Word.{Word}
use Rattle.cam6_forth.specs.declared.words.Word.TheVariants as word
use Rattle.cam6_forth.specs.declared.kinds.Kind.{Kind}
use Rattle.cam6_forth.specs.declared.kinds.Kind.TheVariants as kind
use Rattle.cam6_forth.specs.declared.reader.Context.TheVariants as context
use Rattle.cam6_forth.specs.Tokens.{Token}
use Rattle.cam6_forth.specs.Limits.{max_size, max_open_ifs, max_definitions, too_large}
use Rattle.cam6_forth.specs.Limits.{too_many_ifs, not_definable, out_of_place}
use Rattle.cam6_forth.specs.Defined.{Defined}
use Rattle.cam6_forth.specs.SingleWords.{word_of, definition_at}
use Rattle.cam6_forth.specs.Tree.{Part, meant}
use Rattle.cam6_forth.specs.Unfinished.{OpenIf, Opened, Unfinished, Whole, Unnamed, Within, Braced}
use Rattle.cam6_forth.specs.Faults.{size_fault, word_fault, fault_outside, fault_naming}
use Rattle.cam6_forth.specs.Faults.{end_of_body_fault, if_fault, else_fault, then_fault}
use Rattle.cam6_forth.specs.Faults.{fault_inside, fault_braced, token_fault, end_fault}
use Rattle.cam6_forth.specs.Reading.{State, grown, grown_by, outside, naming}
use Rattle.cam6_forth.specs.Reading.{inside, braces, with_if, with_else, with_then}
use Rattle.cam6_forth.specs.Reading.{with_definition, step_at, finish, some_definition}
use Rattle.cam6_forth.proofs.States.{open_flags, state_of}
use Rattle.cam6_forth.proofs.Runs.{length-all}

-- the fault of an advance
abbrev pub fault_in : {T : Type 0} → Result T ℕ → Option ℕ
fault_in (Ok value) = None
fault_in (Err number) = Some number

-- as many flags as open IFs
pub length-flags : (open_ifs : List OpenIf) → length (open_flags open_ifs) ≡ length open_ifs
length-flags [] = refl
length-flags (open_if ∷ outer) = ap suc (length-flags outer)

-- an answer where a test holds, and else a fault
by_test : (T : Type 0) (b : Bool) (r : Result T ℕ) (n : ℕ) → fault_in r ≡ None →
    fault_in (cond b r (Err n)) ≡ cond b None (Some n)
by_test T true r n none = none
by_test T false r n none = refl

by_other : (T : Type 0) (b : Bool) (r : Result T ℕ) (n : ℕ) → fault_in r ≡ None →
    fault_in (cond b (Err n) r) ≡ cond b (Some n) None
by_other T true r n none = refl
by_other T false r n none = none

grown-fault : (n : ℕ) (said : Word) (s : State) →
    fault_in (grown n said s) ≡ size_fault (s.size + n)
grown-fault n said s = by_test State (nat_le (s.size + n) max_size) _ too_large refl

grown_by-fault : (more size : ℕ) (r : Result (SingleWord × ℕ) ℕ) (s : State) →
    size ≡ s.size + more → fault_in (grown_by more r s) ≡ word_fault size r
grown_by-fault more size (Ok (said, n)) s e =
    grown-fault (n + more) (word.Single said) s ∙ ap size_fault (omega (arith, e))
grown_by-fault more size (Err number) s e = refl

-- a fault outside definitions
outside-fault : (s : State) (parts : List Part) (k : Kind) → length s.done ≡ length parts →
    fault_in (outside s k) ≡ fault_outside parts k
outside-fault s parts kind.Colon e =
    by_test State (nat_lt (length s.done) max_definitions) _ _ refl
    ∙ ap (λ n. cond (nat_lt n max_definitions) None (Some 28)) e
outside-fault s parts kind.Open e = refl
outside-fault s parts k e = refl

-- a fault right after `:`
naming-fault : (s : State) (k : Kind) (t : Token) →
    fault_in (naming s k t) ≡ fault_naming s.done k t
naming-fault s kind.Other t = by_other State (is_some (definition_at t s.done)) _ not_definable refl
naming-fault s k t = refl

end-fault : (open_ifs : List OpenIf) (s : State) →
    fault_in (with_definition (open_flags open_ifs) s) ≡ end_of_body_fault open_ifs
end-fault [] s = refl
end-fault (open_if ∷ outer) s = refl

if-fault : (open_ifs : List OpenIf) (s : State) → s.open_ifs ≡ open_flags open_ifs →
    fault_in (with_if s) ≡ if_fault open_ifs s.size
if-fault open_ifs s e =
    by_size (nat_lt (length s.open_ifs) max_open_ifs)
    ∙ ap (λ n. cond (nat_lt n max_open_ifs) (size_fault (s.size + 1)) (Some too_many_ifs))
    (ap length e ∙ length-flags open_ifs)
  where
    by_size : (b : Bool) →
        fault_in (cond b (grown 1 word.If (record s { open_ifs = false ∷ s.open_ifs }))
        (Err too_many_ifs))
        ≡ cond b (size_fault (s.size + 1)) (Some too_many_ifs)
    by_size true = grown-fault 1 word.If (record s { open_ifs = false ∷ s.open_ifs })
    by_size false = refl

else-fault : (open_ifs : List OpenIf) (s : State) →
    fault_in (with_else (open_flags open_ifs) s) ≡ else_fault open_ifs s.size
else-fault [] s = refl
else-fault (open_if ∷ outer) s = by_first (is_some open_if.first)
  where
    by_first : (b : Bool) →
        fault_in (with_else (b ∷ open_flags outer) s)
        ≡ cond b (Some out_of_place) (size_fault (s.size + 1))
    by_first true = refl
    by_first false = grown-fault 1 word.Else (record s { open_ifs = true ∷ open_flags outer })

then-fault : (open_ifs : List OpenIf) (s : State) →
    fault_in (with_then (open_flags open_ifs) s) ≡ then_fault open_ifs
then-fault [] s = refl
then-fault (open_if ∷ outer) s = refl

-- a fault in a body
inside-fault : (w : Wiring) (s : State) (last : Opened) (k : Kind) (t : Token) →
    s.open_ifs ≡ open_flags last.open_ifs →
    fault_in (inside w s k t) ≡ fault_inside w s.done last s.size k t
inside-fault w s last kind.Open t e = refl
inside-fault w s last kind.Semicolon t e =
    ap (λ flags. fault_in (with_definition flags s)) e ∙ end-fault last.open_ifs s
inside-fault w s last kind.If t e = if-fault last.open_ifs s e
inside-fault w s last kind.Else t e =
    ap (λ flags. fault_in (with_else flags s)) e ∙ else-fault last.open_ifs s
inside-fault w s last kind.Then t e =
    ap (λ flags. fault_in (with_then flags s)) e ∙ then-fault last.open_ifs s
inside-fault w s last kind.OpenBrace t e =
    grown-fault 1 word.Cases (record s { context = context.Braces })
inside-fault w s last k t e = grown_by-fault 0 s.size (word_of w s.done k t) s (omega arith)

-- a fault between braces
braces-fault : (w : Wiring) (s : State) (k : Kind) (t : Token) →
    fault_in (braces w s k t) ≡ fault_braced w s.done s.size k t
braces-fault w s kind.Open t = refl
braces-fault w s kind.CloseBrace t = refl
braces-fault w s k t = grown_by-fault 1 (s.size + 1) (word_of w s.done k t) s refl

-- a fault of a token outside comments
pub advance-fault : (w : Wiring) (u : Unfinished) (k : Kind) (t : Token) →
    fault_in (step_at w (state_of w u).context (state_of w u) k t) ≡ token_fault w u k t
advance-fault w (Whole parts) k t =
    outside-fault (state_of w (Whole parts)) parts k (length-all w parts)
advance-fault w (Unnamed parts) k t = naming-fault (state_of w (Unnamed parts)) k t
advance-fault w (Within parts last) k t =
    inside-fault w (state_of w (Within parts last)) last k t refl
advance-fault w (Braced parts last words) k t =
    braces-fault w (state_of w (Braced parts last words)) k t

-- a fault of the end outside comments
pub finish-fault : (w : Wiring) (u : Unfinished) → fault_in (finish (state_of w u)) ≡ end_fault u
finish-fault w (Whole parts) = by_parts (meant w [] parts) parts (length-all w parts)
  where
    by_parts : (done : List Defined) (parts : List Part) → length done ≡ length parts →
        fault_in (some_definition done) ≡ end_fault (Whole parts)
    by_parts [] [] e = refl
    by_parts (first ∷ done) (part ∷ parts) e = refl
    by_parts [] (part ∷ parts) e = absurd (omega (arith, e))
    by_parts (first ∷ done) [] e = absurd (omega (arith, e))
finish-fault w (Unnamed parts) = refl
finish-fault w (Within parts last) = refl
finish-fault w (Braced parts last words) = refl
