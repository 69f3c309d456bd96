-- Tokens are read as by `run`, which doesn't count them.
use Rattle.std.proofs.Common.{◌≡◌, ◌+◌, ◌⊎◌, inl, inr, ℕ, suc, List, [], ◌∷◌, ◌++◌}
use Rattle.std.proofs.Common.{length, refl, ap, sym, ◌∙◌, arith, Result, Ok, Err}
use Rattle.cam6_wiring.specs.declared.wirings.Wiring.{Wiring}
use Rattle.cam6_forth.specs.Tokens.{Token}
use Rattle.cam6_forth.specs.Defined.{Defined}
use Rattle.cam6_forth.specs.Reading.{State, advance, finish, numbered, go_on, read}
use Rattle.cam6_forth.proofs.Runs.{and_then, run, ok_state, ok-same, then_run}

-- definitions, and a fault with its token
abbrev Out : Type 0
Out = Result (List Defined) (ℕ × ℕ)

abbrev ok_out : List Defined → Out
ok_out out = Ok out

abbrev fault_out : ℕ → ℕ → Out
fault_out number token_number = Err (number, token_number)

abbrev numbers : ℕ → ℕ → ℕ × ℕ
numbers number token_number = (number, token_number)

-- definitions at the end, and a fault of the end
abbrev ok_end : List Defined → Result (List Defined) ℕ
ok_end out = Ok out

abbrev fault_end : ℕ → Result (List Defined) ℕ
fault_end number = Err number

-- a fault of a token
abbrev fault_step : ℕ → Result State ℕ
fault_step number = Err number

-- the tokens after the first are counted from the next number on
count-next : (n more : ℕ) → n + 1 + more ≡ n + suc more
count-next n more = omega arith

count-none : (n : ℕ) → n ≡ n + 0
count-none n = omega arith

run-go : (result : Result State ℕ) (last : State) (n : ℕ) (out : Out) (f : State → Result State ℕ)
    (g : State → Out) → ((next : State) → f next ≡ ok_state last → g next ≡ out) →
    and_then result f ≡ ok_state last → go_on result n g ≡ out
run-go (Ok next) last n out f g all is = all next is
run-go (Err number) last n out f g all is = cc

-- what a run gives is read
pub read-run : (wiring : Wiring) (ts : List Token) (s last : State) (n : ℕ) →
    run wiring s ts ≡ Ok last → read wiring s n ts ≡ numbered (finish last) (n + length ts)
read-run wiring [] s last n is =
    ap (λ x. numbered (finish x) n) (ok-same s last is)
    ∙ ap (numbered (finish last)) (count-none n)
read-run wiring (token ∷ later) s last n is =
    run-go (advance wiring s token) last n _ _ _
    (λ next others. read-run wiring later next last (n + 1) others
    ∙ ap (numbered (finish last)) (count-next n (length later)))
    is

-- a run stops at the first fault
pub read-stops : (wiring : Wiring) (before : List Token) (s middle : State) (n : ℕ)
    (token : Token) (later : List Token) (number : ℕ) → run wiring s before ≡ Ok middle →
    advance wiring middle token ≡ Err number →
    read wiring s n (before ++ token ∷ later) ≡ Err (number, n + length before)
read-stops wiring [] s middle n token later number is fault =
    ap (λ x. go_on (advance wiring x token) n (λ next. read wiring next (n + 1) later))
    (ok-same s middle is)
    ∙ ap (λ x. go_on x n (λ next. read wiring next (n + 1) later)) fault
    ∙ ap (fault_out number) (count-none n)
read-stops wiring (first ∷ before) s middle n token later number is fault =
    run-go (advance wiring s first) middle n _ _ _
    (λ next others. read-stops wiring before next middle (n + 1) token later number others fault
    ∙ ap (fault_out number) (count-next n (length before)))
    is

ok-end : (end : Result (List Defined) ℕ) (n : ℕ) (out : List Defined) →
    numbered end n ≡ ok_out out → end ≡ ok_end out
ok-end (Ok done) n out is = cc
ok-end (Err number) n out is = cc

ok-next : (result : Result State ℕ) (n : ℕ) (out : List Defined) (f : State → Result State ℕ)
    (g : State → Out) →
    ((next : State) → g next ≡ ok_out out →
    (last : State) × (f next ≡ ok_state last) × (finish last ≡ ok_end out)) →
    go_on result n g ≡ ok_out out →
    (last : State) × (and_then result f ≡ ok_state last) × (finish last ≡ ok_end out)
ok-next (Ok next) n out f g all is = all next is
ok-next (Err number) n out f g all is = cc

-- what is read without a fault is what a run gives
pub read-ok : (wiring : Wiring) (ts : List Token) (s : State) (n : ℕ) (out : List Defined) →
    read wiring s n ts ≡ Ok out →
    (last : State) × (run wiring s ts ≡ ok_state last) × (finish last ≡ Ok out)
read-ok wiring [] s n out is = (s, refl, ok-end (finish s) n out is)
read-ok wiring (token ∷ later) s n out is =
    ok-next (advance wiring s token) n out _ _
    (λ next others. read-ok wiring later next (n + 1) out others) is

-- a token has this fault after a state
abbrev StopsAt : Wiring → State → List Token → ℕ → ℕ → ℕ → Type 0
StopsAt wiring s ts n number m =
    (before : List Token) × (token : Token) × (later : List Token) × (middle : State)
    × (ts ≡ before ++ token ∷ later) × (m ≡ n + length before)
    × (run wiring s before ≡ ok_state middle) × (advance wiring middle token ≡ fault_step number)

-- the end has this fault after a state
abbrev EndsAt : Wiring → State → List Token → ℕ → ℕ → ℕ → Type 0
EndsAt wiring s ts n number m =
    (last : State) × (m ≡ n + length ts) × (run wiring s ts ≡ ok_state last)
    × (finish last ≡ fault_end number)

end-is : (end : Result (List Defined) ℕ) (n number m : ℕ) → numbered end n ≡ fault_out number m →
    (m ≡ n) × (end ≡ fault_end number)
end-is (Ok done) n number m is = cc
end-is (Err found) n number m is =
    let same : numbers found n ≡ numbers number m = cc in
    (sym (ap (λ pair. pair.1) same), ap (λ pair. fault_end pair.0) same)

-- what is read with a fault: the token has it, or what follows
advance-is : (result : Result State ℕ) (n number m : ℕ) (g : State → Out) →
    go_on result n g ≡ fault_out number m →
    ((m ≡ n) × (result ≡ fault_step number))
    ⊎ ((next : State) × (result ≡ ok_state next) × (g next ≡ fault_out number m))
advance-is (Ok next) n number m g is = inr (next, refl, is)
advance-is (Err found) n number m g is =
    let same : numbers found n ≡ numbers number m = cc in
    inl (sym (ap (λ pair. pair.1) same), ap (λ pair. fault_step pair.0) same)

-- a token more at the front
fault-later : (wiring : Wiring) (s next : State) (token : Token) (later : List Token)
    (n number m : ℕ) → advance wiring s token ≡ ok_state next →
    StopsAt wiring next later (n + 1) number m ⊎ EndsAt wiring next later (n + 1) number m →
    StopsAt wiring s (token ∷ later) n number m ⊎ EndsAt wiring s (token ∷ later) n number m
fault-later wiring s next token later n number m first (inl stops) =
    let before = stops.0 in
    inl (
      token ∷ before,
      stops.1,
      stops.2,
      stops.3,
      ap (λ ts. token ∷ ts) stops.4,
      stops.5 ∙ count-next n (length before),
      then_run wiring s next token before _ first stops.6,
      stops.7,
    )
fault-later wiring s next token later n number m first (inr ends) =
    inr (
      ends.0,
      ends.1 ∙ count-next n (length later),
      then_run wiring s next token later _ first ends.2,
      ends.3,
    )

fault-first : (wiring : Wiring) (s : State) (token : Token) (later : List Token) (n number m : ℕ) →
    ((next : State) → read wiring next (n + 1) later ≡ fault_out number m →
    StopsAt wiring next later (n + 1) number m ⊎ EndsAt wiring next later (n + 1) number m) →
    ((m ≡ n) × (advance wiring s token ≡ fault_step number))
    ⊎ ((next : State) × (advance wiring s token ≡ ok_state next)
    × (read wiring next (n + 1) later ≡ fault_out number m)) →
    StopsAt wiring s (token ∷ later) n number m ⊎ EndsAt wiring s (token ∷ later) n number m
fault-first wiring s token later n number m others (inl here) =
    inl ([], token, later, s, refl, here.0 ∙ count-none n, refl, here.1)
fault-first wiring s token later n number m others (inr there) =
    fault-later wiring s there.0 token later n number m there.1 (others there.0 there.2)

-- what is read with a fault stops a run at that token, or is a run whose end has the fault
pub read-fault : (wiring : Wiring) (ts : List Token) (s : State) (n number m : ℕ) →
    read wiring s n ts ≡ Err (number, m) →
    ((before : List Token) × (token : Token) × (later : List Token) × (middle : State)
    × (ts ≡ before ++ token ∷ later) × (m ≡ n + length before)
    × (run wiring s before ≡ ok_state middle) × (advance wiring middle token ≡ Err number))
    ⊎ ((last : State) × (m ≡ n + length ts) × (run wiring s ts ≡ ok_state last)
    × (finish last ≡ Err number))
read-fault wiring [] s n number m is =
    let end = end-is (finish s) n number m is in
    inr (s, end.0 ∙ count-none n, refl, end.1)
read-fault wiring (token ∷ later) s n number m is =
    fault-first wiring s token later n number m
    (λ next others. read-fault wiring later next (n + 1) number m others)
    (advance-is (advance wiring s token) n number m _ is)
