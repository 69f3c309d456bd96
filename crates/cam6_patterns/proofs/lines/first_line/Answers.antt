use Rattle.std.proofs.Common.{arith, sym, ◌∙◌, length}
use Rattle.std.proofs.lemmas.Bool.{eqb-false}
use Rattle.cam6_patterns.proofs.Splitting.{whole_is_first, front_is_first}
use Rattle.cam6_patterns.proofs.lines.first_line.Goals as goal

pub returns-in-None-clause-line : goal.returns-in-None-clause-line
returns-in-None-clause-line c =
    let cut = c.line_len.ensures in
    whole_is_first c.args.text.now c.split_at.result.0.now c.split_at.result.1.now
    c.line_len.result cut.within cut.before cut.stops c.split_at.ensures.front
    c.split_at.ensures.back
    (omega (arith, eqb-false (length c.args.text.now) 0 (sym c.is_empty.ensures ∙ c.if-is_empty.false)))
    c.in-None.ensures.cases

pub returns-in-Some-clause-line : goal.returns-in-Some-clause-line
returns-in-Some-clause-line c =
    let cut = c.line_len.ensures in
    front_is_first c.args.text.now c.split_at.result.0.now c.split_at.result.1.now
    c.line_len.result cut.within cut.before cut.stops c.split_at.ensures.front
    c.split_at.ensures.back c.in-Some.field-0-0.now c.in-Some.later.now c.in-Some.ensures.cases.0
