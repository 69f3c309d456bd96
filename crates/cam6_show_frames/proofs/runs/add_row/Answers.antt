use Rattle.std.proofs.Common.{rules, ap, length, arith}
use Rattle.cam6_show_frames.proofs.OneMore.{stays_unfinished, becomes_frame}
use Rattle.cam6_show_frames.proofs.runs.add_row.Goals as goal

pub returns-then-len-columns-clause-unfinished : goal.returns-then-len-columns-clause-unfinished
returns-then-len-columns-clause-unfinished c =
    stays_unfinished c.args.rows.now.items c.push.new.self.items c.args.row
    c.columns-columns.result c.requires c.columns-columns.ensures.row (search rules)
    (search rules)
    (omega (arith, c.if-len-columns.true, c.len.ensures, c.push.new.self.ok.0))

pub new-requires-2 : goal.new-requires-2
new-requires-2 c =
    becomes_frame c.args.rows.now.items c.replace.result.items c.args.row
    c.columns-columns.result c.requires c.columns-columns.ensures.row (search rules)
    (search rules)
    (let same = ap (λ v. length v.items) c.replace.ensures.value in omega (arith, c.if-len-columns.false, c.len.ensures, c.push.new.self.ok.0, same))
