use Rattle.std.proofs.Common.{length, ap, arith}
use Rattle.cam6_cache.specs.Cached.{Cached}
use Rattle.cam6_core.specs.State.{state}
use Rattle.cam6_core.proofs.Starting.{begins_good, idle_hold_none}
use Rattle.cam6_core.proofs.parts.Core.new.Goals as goal

pub returns-clause-good : goal.returns-clause-good
returns-clause-good c =
    begins_good c.args.limits.now c.args.boards
    (state c.in_ok-users.users.items c.in_ok-boards.boards.items c.in_ok-new.field-0)
    c.in_ok-users.ensures c.in_ok-boards.ensures
    (ap (λ (k : Cached). k.tables) c.in_ok-new.ensures.empty)

pub invariant_of-result : goal.invariant_of-result
invariant_of-result c =
    let idle = idle_hold_none (length c.in_ok-users.users.items) c.args.boards
    c.in_ok-boards.boards.items c.in_ok-boards.ensures in (
      idle.0,
      omega (arith, idle.1, c.requires.boards),
      omega (arith, c.in_ok-users.ensures.long, c.requires.limits, c.requires.users),
    )
