-- What a word does to the stack, or the fault at which it stops. The top value of a stack is first.
use Rattle.std.specs.Prelude.{◌≡◌, ℕ, ◌+◌, ◌-◌, ◌*◌, List, [], ◌∷◌, length}
use Rattle.std.specs.Prelude.{Result, Ok, Err, MatchResult, nat_lt, nat_le}
use Rattle.std.specs.Prelude.{bit_and, bit_or, bit_xor, if◌then◌else◌, ◌==◌}
use Rattle.cam6_planes.specs.Row.{bit_number}
use Rattle.cam6_forth.specs.declared.words.StackWord.{StackWord}
use Rattle.cam6_forth.specs.declared.words.StackWord.TheVariants as word
use Rattle.cam6_table.specs.Limits.{max_values, max_value}
use Rattle.cam6_table.specs.declared.faults.RuleFault.{RuleFault}
use Rattle.cam6_table.specs.declared.faults.RuleFault.TheVariants.{MissingValue, FullStack, Range}

-- values on a stack, the top one first
abbrev pub Values : Type 0
Values = List ℕ

-- these values as a stack, if it has room for them
abbrev pub with_room : Values → Result Values RuleFault
with_room values = if nat_le (length values) max_values then Ok values else Err FullStack

-- a result on the others, if it is in range
abbrev pub in_range : ℕ → Values → Result Values RuleFault
in_range v rest = if nat_le v max_value then Ok (v ∷ rest) else Err Range

-- a - b on the others, if it isn't below 0
abbrev pub difference : ℕ → ℕ → Values → Result Values RuleFault
difference a b rest = if nat_le b a then Ok ((a - b) ∷ rest) else Err Range

-- a value on top
abbrev pub pushed : ℕ → Values → Result Values RuleFault
pushed v values = with_room (v ∷ values)

-- how many values each stack word wants
abbrev pub wants : StackWord → ℕ
wants word.Dup = 1
wants word.Drop = 1
wants word.Swap = 2
wants word.Over = 2
wants word.Rot = 3
wants word.Plus = 2
wants word.Minus = 2
wants word.Times = 2
wants word.And = 2
wants word.Or = 2
wants word.Xor = 2
wants word.IsZero = 1
wants word.Equal = 2
wants word.Less = 2
wants word.Greater = 2

-- what is left of the top value, and of the others below it
abbrev pub of_one : Values → (ℕ → Values → Result Values RuleFault) → Result Values RuleFault
of_one [] leaves = Err MissingValue
of_one (a ∷ rest) leaves = leaves a rest

-- of the two top values, the lower one first
abbrev pub of_two :
    Values → (ℕ → ℕ → Values → Result Values RuleFault) → Result Values RuleFault
of_two [] leaves = Err MissingValue
of_two (b ∷ []) leaves = Err MissingValue
of_two (b ∷ a ∷ rest) leaves = leaves a b rest

-- of the three top values, the lowest one first
abbrev pub of_three :
    Values → (ℕ → ℕ → ℕ → Values → Result Values RuleFault) → Result Values RuleFault
of_three [] leaves = Err MissingValue
of_three (c ∷ []) leaves = Err MissingValue
of_three (c ∷ b ∷ []) leaves = Err MissingValue
of_three (c ∷ b ∷ a ∷ rest) leaves = leaves a b c rest

-- what each stack word leaves
abbrev pub on_stack : StackWord → Values → Result Values RuleFault
on_stack word.Dup values = of_one values (λ a rest. with_room (a ∷ a ∷ rest))
on_stack word.Drop values = of_one values (λ a rest. Ok rest)
on_stack word.Swap values = of_two values (λ a b rest. Ok (a ∷ b ∷ rest))
on_stack word.Over values = of_two values (λ a b rest. with_room (a ∷ b ∷ a ∷ rest))
on_stack word.Rot values = of_three values (λ a b c rest. Ok (a ∷ c ∷ b ∷ rest))
on_stack word.Plus values = of_two values (λ a b rest. in_range (a + b) rest)
on_stack word.Minus values = of_two values (λ a b rest. difference a b rest)
on_stack word.Times values = of_two values (λ a b rest. in_range (a * b) rest)
on_stack word.And values = of_two values (λ a b rest. Ok (bit_and a b ∷ rest))
on_stack word.Or values = of_two values (λ a b rest. Ok (bit_or a b ∷ rest))
on_stack word.Xor values = of_two values (λ a b rest. Ok (bit_xor a b ∷ rest))
on_stack word.IsZero values = of_one values (λ a rest. Ok (bit_number (a == 0) ∷ rest))
on_stack word.Equal values = of_two values (λ a b rest. Ok (bit_number (a == b) ∷ rest))
on_stack word.Less values = of_two values (λ a b rest. Ok (bit_number (nat_lt a b) ∷ rest))
on_stack word.Greater values = of_two values (λ a b rest. Ok (bit_number (nat_lt b a) ∷ rest))

-- a call did what was said: the new stack, or the fault
abbrev pub IsOutcome : {S : Type 0} → Result S RuleFault → S → Result (Unit {0}) RuleFault → Type 0
IsOutcome said new result = MatchResult result (λ _. said ≡ Ok new) (λ fault. said ≡ Err fault)

-- a call took the top value off, or found none
abbrev pub Takes : Values → Values → Result ℕ RuleFault → Type 0
Takes old new result =
    MatchResult result (λ v. old ≡ v ∷ new) (λ fault. (old ≡ []) × (fault ≡ MissingValue))
