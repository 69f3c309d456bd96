-- What a list of tokens leads to.
use Rattle.std.proofs.Common.{◌≡◌, ◌+◌, ℕ, List, [], ◌∷◌, ◌++◌, length, refl}
use Rattle.std.proofs.Common.{ap, ◌∙◌, arith, Result, Ok, Err, length-append}
use Rattle.cam6_wiring.specs.declared.wirings.Wiring.{Wiring}
use Rattle.cam6_forth.specs.Tokens.{Token}
use Rattle.cam6_forth.specs.Defined.{Defined}
use Rattle.cam6_forth.specs.Tree.{Part, defined, meant}
use Rattle.cam6_forth.specs.Reading.{State, advance}

-- a state, as the result of an advance
abbrev pub ok_state : State → Result State ℕ
ok_state s = Ok s

-- two results that are one are of one state
pub ok-same : (a b : State) → ok_state a ≡ ok_state b → a ≡ b
ok-same a b e = cc

abbrev pub and_then : Result State ℕ → (State → Result State ℕ) → Result State ℕ
and_then (Ok s) f = f s
and_then (Err e) f = Err e

-- the state after tokens, or the number of the first fault
abbrev pub run : Wiring → State → List Token → Result State ℕ
run w s [] = Ok s
run w s (t ∷ ts) = and_then (advance w s t) (λ next. run w next ts)

and_then-assoc : (r : Result State ℕ) (f g k : State → Result State ℕ) →
    ((x : State) → f x ≡ and_then (g x) k) → and_then r f ≡ and_then (and_then r g) k
and_then-assoc (Ok x) f g k e = e x
and_then-assoc (Err x) f g k e = refl

-- some tokens and then others
pub run-append : (w : Wiring) (s : State) (xs ys : List Token) →
    run w s (xs ++ ys) ≡ and_then (run w s xs) (λ next. run w next ys)
run-append w s [] ys = refl
run-append w s (t ∷ xs) ys =
    and_then-assoc (advance w s t) _ _ _ (λ next. run-append w next xs ys)

-- one token, and then the others
pub then_run : (w : Wiring) (s s1 : State) (t : Token) (ts : List Token) (r : Result State ℕ) →
    advance w s t ≡ Ok s1 → run w s1 ts ≡ r → run w s (t ∷ ts) ≡ r
then_run w s s1 t ts r e f = ap (λ x. and_then x (λ next. run w next ts)) e ∙ f

-- some tokens, and then the others
pub append_run : (w : Wiring) (s s1 : State) (xs ys : List Token) (r : Result State ℕ) →
    run w s xs ≡ Ok s1 → run w s1 ys ≡ r → run w s (xs ++ ys) ≡ r
append_run w s s1 xs ys r e f =
    run-append w s xs ys ∙ ap (λ x. and_then x (λ next. run w next ys)) e ∙ f

-- each part of a tree is one definition
pub length-meant : (w : Wiring) (parts : List Part) (done : List Defined) →
    length (meant w done parts) ≡ length done + length parts
length-meant w [] done = omega arith
length-meant w (part ∷ parts) done =
    omega (
      arith,
      length-meant w parts (done ++ defined w done part ∷ []),
      length-append done (defined w done part ∷ []),
    )

pub length-all : (w : Wiring) (parts : List Part) → length (meant w [] parts) ≡ length parts
length-all w parts = omega (arith, length-meant w parts [])
