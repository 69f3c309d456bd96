use Rattle.cam6_program.proofs.AddressLines.{low_line, high_ones, high_zeros}
use Rattle.cam6_program.proofs.validating.address_word.Goals as goal

pub returns-then-line-lt6 : goal.returns-then-line-lt6
returns-then-line-lt6 c = λ x h. low_line c.args.word c.args.line x c.if-line-lt6.true h

pub returns-then-word-line-eq1 : goal.returns-then-word-line-eq1
returns-then-word-line-eq1 c = λ x h.
    high_ones c.args.word c.args.line x c.if-line-lt6.false h c.if-word-line-eq1.true

pub returns-else-word-line-eq1 : goal.returns-else-word-line-eq1
returns-else-word-line-eq1 c = λ x h.
    high_zeros c.args.word c.args.line x c.if-line-lt6.false h c.if-word-line-eq1.false
