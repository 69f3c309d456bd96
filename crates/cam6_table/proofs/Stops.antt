-- The search for the least address at which a rule stops.
use Rattle.std.proofs.Common.{◌≡◌, ℕ, zero, suc, ◌+◌, ◌<◌, ◌≤◌, Option, Some, None, inl, inr, subst}
use Rattle.std.proofs.Common.{Result, Ok, Err, IsOk, refl, sym, ap, ◌∙◌, arith}
use Rattle.std.proofs.lemmas.Bool.Decides.{eqb_tells}
use Rattle.cam6_table.specs.declared.faults.RuleFault.{RuleFault}
use Rattle.cam6_table.specs.Laws.{LeastIsFound, NoneIsFound}
use Rattle.cam6_table.specs.Tables.{Results, or_at_later_address, first_stop, least_stop}

-- an entry here leaves the search to the later addresses
goes_on : (said : Result ℕ RuleFault) (address : ℕ) (later : Option (ℕ × RuleFault)) →
    IsOk said → or_at_later_address said address later ≡ later
goes_on (Ok entry) address later ok = refl
goes_on (Err fault) address later ok = cc

none_found : (results : Results) (n from : ℕ) →
    ((address : ℕ) → address < from + n → IsOk (results address)) →
    first_stop results n from ≡ None
none_found results zero from all = refl
none_found results (suc n) from all =
    goes_on (results from) from (first_stop results n (suc from)) (all from (omega arith)) ∙
    none_found results n (suc from) (λ address within. all address (omega (arith, within)))

least_found : (results : Results) (fault : RuleFault) (n from before : ℕ) → before < n →
    results (from + before) ≡ Err fault →
    ((address : ℕ) → address < from + before → IsOk (results address)) →
    first_stop results n from ≡ Some (from + before, fault)
least_found results fault zero from before within stops least =
    let never : ⊥ = omega (arith, within) in absurd never
least_found results fault (suc n) from zero within stops least =
    let here : from + 0 ≡ from = omega arith in
    ap (λ said. or_at_later_address said from (first_stop results n (suc from)))
    (sym (ap results here) ∙ stops) ∙
    ap (λ i. Some (i, fault)) (sym here)
least_found results fault (suc n) from (suc before) within stops least =
    let same : from + suc before ≡ suc from + before = omega arith in
    goes_on (results from) from (first_stop results n (suc from)) (least from (omega arith)) ∙
    least_found results fault n (suc from) before (omega (arith, within))
    (sym (ap results same) ∙ stops)
    (λ address below. least address (omega (arith, below))) ∙
    ap (λ i. Some (i, fault)) (sym same)

pub least_is_found : LeastIsFound
unfolding least_stop
least_is_found results address fault first =
    let same : 0 + address ≡ address = omega arith in
    least_found results fault 4096 0 address first.within (ap results same ∙ first.stops)
    (λ before below. first.least before (omega (arith, below))) ∙
    ap (λ i. Some (i, fault)) same

pub none_is_found : NoneIsFound
unfolding least_stop
none_is_found results all =
    none_found results 4096 0 (λ address within. all address (omega (arith, within)))

-- where no stop is found from one address on, there is an entry at each of so many
all_run : (results : Results) (n from address : ℕ) → first_stop results n from ≡ None →
    from ≤ address → address < from + n → IsOk (results address)
all_run results zero from address none low high = absurd (omega (arith, low, high))
all_run results (suc n) from address none low high =
    at_first (results from) refl none
    (λ none low. all_run results n (suc from) address none low (omega (arith, high)))
  where
    at_first : (said : Result ℕ RuleFault) → results from ≡ said →
        or_at_later_address said from (first_stop results n (suc from)) ≡ None →
        (first_stop results n (suc from) ≡ None → suc from ≤ address → IsOk (results address)) →
        IsOk (results address)
    at_first (Err fault) is none rest = cc none
    at_first (Ok entry) is none rest = elim (eqb_tells from address) [
      | inl same ↦ subst (λ (r : Result ℕ RuleFault). IsOk r) (sym is ∙ ap results same.1) refl
      | inr apart ↦ rest none (omega (arith, low, apart.1))
    ]

pub runs_at : (results : Results) (address : ℕ) → least_stop results ≡ None → address < 4096 →
    IsOk (results address)
unfolding least_stop
runs_at results address none within =
    all_run results 4096 0 address none (omega arith) (omega (arith, within))
