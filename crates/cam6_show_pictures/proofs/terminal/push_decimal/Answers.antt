use Rattle.std.proofs.Common.{arith, sym}
use Rattle.std.proofs.lemmas.Fmt.{decimal_digit}
use Rattle.cam6_show_pictures.proofs.Pushes.{pushed, two_digits, three_digits}
use Rattle.cam6_show_pictures.proofs.terminal.push_decimal.Goals as goal

pub returns-then-n-lt10 : goal.returns-then-n-lt10
returns-then-n-lt10 c =
    pushed c.extend_from_slice.result _ _ _ _ (sym (decimal_digit c.args.n (omega arith)))
    c.extend_from_slice.ensures.items

pub returns-then-n-lt100 : goal.returns-then-n-lt100
returns-then-n-lt100 c =
    pushed c.extend_from_slice-then-n-lt100.result _ _ _ _
    (sym (two_digits c.args.n (omega arith) (omega arith)))
    c.extend_from_slice-then-n-lt100.ensures.items

pub returns-else-n-lt100 : goal.returns-else-n-lt100
returns-else-n-lt100 c =
    pushed c.extend_from_slice-else-n-lt100.result _ _ _ _
    (sym (three_digits c.args.n (omega arith) (omega arith)))
    c.extend_from_slice-else-n-lt100.ensures.items
