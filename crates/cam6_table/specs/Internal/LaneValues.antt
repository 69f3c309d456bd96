-- The words that leave one value of two, and when that value is in range.
use Rattle.std.specs.Prelude.{◌≤◌, ◌+◌, ◌*◌, ℕ, ⊤}
use Rattle.cam6_forth.specs.declared.words.StackWord.{StackWord}
use Rattle.cam6_forth.specs.declared.words.StackWord.TheVariants as word
use Rattle.cam6_table.specs.declared.lane_values.Merge.{Merge}
use Rattle.cam6_table.specs.declared.lane_values.Merge.TheVariants as merge
use Rattle.cam6_table.specs.Limits.{max_value}

-- the value that a word leaves of two is in range; the lower one is first
abbrev pub Fits : Merge → ℕ → ℕ → Type 0
Fits merge.Plus a b = a + b ≤ max_value
Fits merge.Minus a b = b ≤ a
Fits merge.Times a b = a * b ≤ max_value
Fits merge.And a b = ⊤
Fits merge.Or a b = ⊤
Fits merge.Xor a b = ⊤
Fits merge.Equal a b = ⊤
Fits merge.Less a b = ⊤
Fits merge.Greater a b = ⊤

-- the word as a stack word
abbrev pub stack_word : Merge → StackWord
stack_word merge.Plus = word.Plus
stack_word merge.Minus = word.Minus
stack_word merge.Times = word.Times
stack_word merge.And = word.And
stack_word merge.Or = word.Or
stack_word merge.Xor = word.Xor
stack_word merge.Equal = word.Equal
stack_word merge.Less = word.Less
stack_word merge.Greater = word.Greater
