-- How many values a stack word wants.
use Rattle.std.proofs.Common.{◌≡◌, ◌≤◌, ◌<◌, ◌+◌, ◌-◌, ◌*◌, ℕ, Bool, true, false, [], ◌∷◌, length}
use Rattle.std.proofs.Common.{refl, arith, Result, Ok, Err, cond, nat_le}
use Rattle.cam6_forth.specs.declared.words.StackWord.TheVariants as word
use Rattle.cam6_table.specs.declared.faults.RuleFault.{RuleFault}
use Rattle.cam6_table.specs.declared.faults.RuleFault.TheVariants.{MissingValue, FullStack, Range}
use Rattle.cam6_table.specs.Limits.{max_values, max_value}
use Rattle.cam6_table.specs.Words.{Values, of_one, of_two, of_three}
use Rattle.cam6_table.specs.Words.{with_room, in_range, difference}
use Rattle.cam6_table.specs.Laws.{WantsValues}

-- an outcome that isn't the fault of a missing value
abbrev IsFound : Result Values RuleFault → Type 0
IsFound said = said ≡ Err MissingValue → ⊥

by_test : (b : Bool) (values : Values) (fault : RuleFault) → (fault ≡ MissingValue → ⊥) →
    IsFound (cond b (Ok values) (Err fault))
by_test true values fault other e = cc e
by_test false values fault other e = let same : fault ≡ MissingValue = cc e in other same

room : (values : Values) → IsFound (with_room values)
room values = by_test (nat_le (length values) max_values) values FullStack (λ e. cc e)

range : (v : ℕ) (rest : Values) → IsFound (in_range v rest)
range v rest = by_test (nat_le v max_value) (v ∷ rest) Range (λ e. cc e)

less : (a b : ℕ) (rest : Values) → IsFound (difference a b rest)
less a b rest = by_test (nat_le b a) ((a - b) ∷ rest) Range (λ e. cc e)

left : (values : Values) → IsFound (Ok values)
left values e = cc e

abbrev WantsSo : ℕ → Values → Result Values RuleFault → Type 0
WantsSo n values said =
    (length values < n → said ≡ Err MissingValue) × (n ≤ length values → IsFound said)

one : (leaves : ℕ → Values → Result Values RuleFault) →
    ((a : ℕ) (rest : Values) → IsFound (leaves a rest)) → (values : Values) →
    WantsSo 1 values (of_one values leaves)
one leaves found [] = (λ below. refl, λ above. absurd (omega (arith, above)))
one leaves found (a ∷ rest) = (λ below. absurd (omega (arith, below)), λ above. found a rest)

two : (leaves : ℕ → ℕ → Values → Result Values RuleFault) →
    ((a b : ℕ) (rest : Values) → IsFound (leaves a b rest)) → (values : Values) →
    WantsSo 2 values (of_two values leaves)
two leaves found [] = (λ below. refl, λ above. absurd (omega (arith, above)))
two leaves found (b ∷ []) = (λ below. refl, λ above. absurd (omega (arith, above)))
two leaves found (b ∷ a ∷ rest) =
    (λ below. absurd (omega (arith, below)), λ above. found a b rest)

three : (leaves : ℕ → ℕ → ℕ → Values → Result Values RuleFault) →
    ((a b c : ℕ) (rest : Values) → IsFound (leaves a b c rest)) → (values : Values) →
    WantsSo 3 values (of_three values leaves)
three leaves found [] = (λ below. refl, λ above. absurd (omega (arith, above)))
three leaves found (c ∷ []) = (λ below. refl, λ above. absurd (omega (arith, above)))
three leaves found (c ∷ b ∷ []) = (λ below. refl, λ above. absurd (omega (arith, above)))
three leaves found (c ∷ b ∷ a ∷ rest) =
    (λ below. absurd (omega (arith, below)), λ above. found a b c rest)

pub wants_values : WantsValues
wants_values word.Dup values = one _ (λ a rest. room (a ∷ a ∷ rest)) values
wants_values word.Drop values = one _ (λ a rest. left rest) values
wants_values word.Swap values = two _ (λ a b rest. left (a ∷ b ∷ rest)) values
wants_values word.Over values = two _ (λ a b rest. room (a ∷ b ∷ a ∷ rest)) values
wants_values word.Rot values = three _ (λ a b c rest. left (a ∷ c ∷ b ∷ rest)) values
wants_values word.Plus values = two _ (λ a b rest. range (a + b) rest) values
wants_values word.Minus values = two _ less values
wants_values word.Times values = two _ (λ a b rest. range (a * b) rest) values
wants_values word.And values = two _ (λ a b rest. left _) values
wants_values word.Or values = two _ (λ a b rest. left _) values
wants_values word.Xor values = two _ (λ a b rest. left _) values
wants_values word.IsZero values = one _ (λ a rest. left _) values
wants_values word.Equal values = two _ (λ a b rest. left _) values
wants_values word.Less values = two _ (λ a b rest. left _) values
wants_values word.Greater values = two _ (λ a b rest. left _) values
