use Rattle.std.proofs.Common.{◌++◌, subst, List, ℕ}
use Rattle.cam6_session.specs.Held.{Held, Holds}
use Rattle.cam6_session.proofs.Keeping.{grows_long}
use Rattle.cam6_session.proofs.line_buffer.LineBuf.add.Goals as goal

pub returns-then-self-clause-ok : goal.returns-then-self-clause-ok
returns-then-self-clause-ok c =
    subst (λ (h : Held). (line : List ℕ) → Holds h line → Holds h (line ++ c.args.part.now))
    c.self.view_is
    (grows_long c.self.inside.bytes.items c.args.part.now c.self.inside.is_long c.if-self.true)
