use Rattle.std.proofs.Common.{rules}
use Rattle.cam6_web_bridge.proofs.Ended.{all_read, no_lf}
use Rattle.cam6_web_bridge.proofs.host_lines.next_answer.Goals as goal

pub returns-in-Some-clause-silence : goal.returns-in-Some-clause-silence
returns-in-Some-clause-silence g c =
    let read = c.read_until.new.buf.items in
    let free = no_lf read c.pop.new.self.items c.in-Some.field-0 _ (search rules) (search rules)
    c.pop.ensures.rest (search rules) (search rules) in
    (read, free, search rules, all_read _ read free (search rules))
