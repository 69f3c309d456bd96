use Rattle.std.proofs.Common.{rules}
use Rattle.cam6_wire.proofs.Members.{count-members_view}
use Rattle.cam6_wire.proofs.fields.has_size.Goals as goal

pub returns-in-Some : goal.returns-in-Some
returns-in-Some c = search (rules, count-members_view)
