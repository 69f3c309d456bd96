-- A stack word leaves of a stack what it leaves of the part that it reads, on the values below.
use Rattle.std.proofs.Common.{◌≡◌, ◌∙◌, ◌≤◌, ◌+◌, ◌*◌, ◌-◌, ◌==◌, ℕ, [], ◌∷◌, ◌++◌}
use Rattle.std.proofs.Common.{Result, Ok, Err, Bool, true, false, if◌then◌else◌, length, ap, refl}
use Rattle.std.proofs.Common.{nat_lt, nat_le, bit_and, bit_or, bit_xor}
use Rattle.cam6_planes.specs.Row.{bit_number}
use Rattle.cam6_forth.specs.declared.words.StackWord.{StackWord}
use Rattle.cam6_forth.specs.declared.words.StackWord.TheVariants as word
use Rattle.cam6_table.specs.declared.faults.RuleFault.{RuleFault}
use Rattle.cam6_table.specs.declared.faults.RuleFault.TheVariants.{FullStack, Range}
use Rattle.cam6_table.specs.Limits.{max_values, max_value}
use Rattle.cam6_table.specs.Words.{Values, with_room, in_range, difference}
use Rattle.cam6_table.specs.Words.{of_one, of_two, of_three, on_stack}
use Rattle.cam6_table.proofs.LaneWords.{in_room}

abbrev on_more : Values → Result Values RuleFault → Result Values RuleFault
on_more more (Ok values) = Ok (values ++ more)
on_more more (Err fault) = Err fault

-- a test says which values are left
test_more : (test : Bool) (values more : Values) (fault : RuleFault) →
    (if test then Ok (values ++ more) else Err fault)
    ≡ on_more more (if test then Ok values else Err fault)
test_more true values more fault = refl
test_more false values more fault = refl

values_are : (test : Bool) (values left : Values) (fault : RuleFault) →
    (if test then Ok values else Err fault) ≡ Ok left → values ≡ left
values_are true values left fault is = cc is
values_are false values left fault is = cc is

room_more : (values left more : Values) → length (left ++ more) ≤ 32 →
    with_room values ≡ Ok left → with_room (values ++ more) ≡ Ok (left ++ more)
room_more values left more low is =
    ap (λ (c : Values). with_room (c ++ more))
    (values_are (nat_le (length values) max_values) values left FullStack is) ∙
    in_room (left ++ more) low

one_more : (leaves : ℕ → Values → Result Values RuleFault) (values left more : Values) →
    ((a : ℕ) (rest : Values) → leaves a rest ≡ Ok left →
    leaves a (rest ++ more) ≡ Ok (left ++ more)) →
    of_one values leaves ≡ Ok left → of_one (values ++ more) leaves ≡ Ok (left ++ more)
one_more leaves [] left more still is = cc is
one_more leaves (a ∷ rest) left more still is = still a rest is

two_more : (leaves : ℕ → ℕ → Values → Result Values RuleFault) (values left more : Values) →
    ((a b : ℕ) (rest : Values) → leaves a b rest ≡ Ok left →
    leaves a b (rest ++ more) ≡ Ok (left ++ more)) →
    of_two values leaves ≡ Ok left → of_two (values ++ more) leaves ≡ Ok (left ++ more)
two_more leaves [] left more still is = cc is
two_more leaves (b ∷ []) left more still is = cc is
two_more leaves (b ∷ a ∷ rest) left more still is = still a b rest is

three_more : (leaves : ℕ → ℕ → ℕ → Values → Result Values RuleFault) (values left more : Values) →
    ((a b c : ℕ) (rest : Values) → leaves a b c rest ≡ Ok left →
    leaves a b c (rest ++ more) ≡ Ok (left ++ more)) →
    of_three values leaves ≡ Ok left → of_three (values ++ more) leaves ≡ Ok (left ++ more)
three_more leaves [] left more still is = cc is
three_more leaves (c ∷ []) left more still is = cc is
three_more leaves (c ∷ b ∷ []) left more still is = cc is
three_more leaves (c ∷ b ∷ a ∷ rest) left more still is = still a b c rest is

module _ (values left more : Values) where
  -- one value on the rest
  one_on : (v : ℕ → ℕ → ℕ) → of_two values (λ a b rest. Ok (v a b ∷ rest)) ≡ Ok left →
      of_two (values ++ more) (λ a b rest. Ok (v a b ∷ rest)) ≡ Ok (left ++ more)
  one_on v is =
      two_more (λ a b rest. Ok (v a b ∷ rest)) values left more
      (λ a b rest same. ap (on_more more) same) is

  in_range_on : (v : ℕ → ℕ → ℕ) → of_two values (λ a b rest. in_range (v a b) rest) ≡ Ok left →
      of_two (values ++ more) (λ a b rest. in_range (v a b) rest) ≡ Ok (left ++ more)
  in_range_on v is =
      two_more (λ a b rest. in_range (v a b) rest) values left more
      (λ a b rest same.
      test_more (nat_le (v a b) max_value) (v a b ∷ rest) more Range ∙ ap (on_more more) same) is

pub on_deeper : (said : StackWord) (values left more : Values) → length (left ++ more) ≤ 32 →
    on_stack said values ≡ Ok left → on_stack said (values ++ more) ≡ Ok (left ++ more)
on_deeper word.Dup values left more low is =
    one_more (λ a rest. with_room (a ∷ a ∷ rest)) values left more
    (λ a rest same. room_more (a ∷ a ∷ rest) left more low same) is
on_deeper word.Drop values left more low is =
    one_more (λ a rest. Ok rest) values left more (λ a rest same. ap (on_more more) same) is
on_deeper word.Swap values left more low is =
    two_more (λ a b rest. Ok (a ∷ b ∷ rest)) values left more
    (λ a b rest same. ap (on_more more) same) is
on_deeper word.Over values left more low is =
    two_more (λ a b rest. with_room (a ∷ b ∷ a ∷ rest)) values left more
    (λ a b rest same. room_more (a ∷ b ∷ a ∷ rest) left more low same) is
on_deeper word.Rot values left more low is =
    three_more (λ a b c rest. Ok (a ∷ c ∷ b ∷ rest)) values left more
    (λ a b c rest same. ap (on_more more) same) is
on_deeper word.Plus values left more low is = in_range_on values left more (λ a b. a + b) is
on_deeper word.Minus values left more low is =
    two_more (λ a b rest. difference a b rest) values left more
    (λ a b rest same.
    test_more (nat_le b a) ((a - b) ∷ rest) more Range ∙ ap (on_more more) same) is
on_deeper word.Times values left more low is = in_range_on values left more (λ a b. a * b) is
on_deeper word.And values left more low is = one_on values left more (λ a b. bit_and a b) is
on_deeper word.Or values left more low is = one_on values left more (λ a b. bit_or a b) is
on_deeper word.Xor values left more low is = one_on values left more (λ a b. bit_xor a b) is
on_deeper word.IsZero values left more low is =
    one_more (λ a rest. Ok (bit_number (a == 0) ∷ rest)) values left more
    (λ a rest same. ap (on_more more) same) is
on_deeper word.Equal values left more low is =
    one_on values left more (λ a b. bit_number (a == b)) is
on_deeper word.Less values left more low is =
    one_on values left more (λ a b. bit_number (nat_lt a b)) is
on_deeper word.Greater values left more low is =
    one_on values left more (λ a b. bit_number (nat_lt b a)) is
