use Rattle.cam6_lines.proofs.RightColumns.{odd_word, even_word}
use Rattle.cam6_lines.proofs.words.right_columns.Goals as goal

pub returns-in-Even : goal.returns-in-Even
returns-in-Even c = λ k h. rw c.in-Even.is (odd_word k h)

pub returns-in-Odd : goal.returns-in-Odd
returns-in-Odd c = λ k h. rw c.in-Odd.is (even_word k h)
