use Rattle.std.proofs.Common.{◌∙◌, ap, sym, subst, inl, inr, w16}
use Rattle.std.specs.Int.{bit_at}
use Rattle.std.proofs.lemmas.Bool.{cases_eq}
use Rattle.std.proofs.lemmas.Nat.Bits.{bit_at_set_same, bit_at_set_other}
use Rattle.cam6_table.specs.Internal.LinesRead.{HasLineOf}
use Rattle.cam6_table.proofs.lines_read.with_line_of.Goals as goal

pub returns-in-Line-clause-line : goal.returns-in-Line-clause-line
returns-in-Line-clause-line c =
    subst (HasLineOf _) (sym c.in-Line.is)
    (λ below. bit_at_set_same w16 c.args.mask c.in-Line.line below)

pub returns-in-Line-clause-others : goal.returns-in-Line-clause-others
returns-in-Line-clause-others c = λ line has.
    let below = c.if-line-lt16.true in
    elim (cases_eq line c.in-Line.line) [
      | inl same ↦ ap (bit_at _) same ∙
          bit_at_set_same w16 c.args.mask c.in-Line.line below
      | inr apart ↦
          bit_at_set_other w16 c.args.mask c.in-Line.line below line apart ∙ has
    ]
