use Rattle.std.proofs.Common.{sym, subst, length}
use Rattle.cam6_station.specs.Calls.{FailGives}
use Rattle.cam6_station.specs.Held.{Manned, IsAlive}
use Rattle.cam6_core.specs.State.{State, board_of}
use Rattle.cam6_core.specs.Internal.Returning.{IsOfUserIf}
use Rattle.cam6_core.proofs.Changing.{alive_there, seen}
use Rattle.cam6_core.proofs.Changing.{fail_held}
use Rattle.cam6_core.proofs.parts.Core.fail_board.Goals as goal

pub returns-clause-user : goal.returns-clause-user
returns-clause-user c =
    let bs = c.self.inside.boards.items in
    let b = c.args.board in
    let s : State = record {
      users = c.self.inside.users.items;
      boards = bs;
      cache = c.self.inside.cache;
    } in
    let there = alive_there bs b (subst (λ (x : State). IsAlive (board_of x b)) (sym c.self.view_is) c.requires) in
    let here = seen bs b (board_of s b) c.index_mut.result.now there c.index_mut.ensures.value in
    let n = length c.self.inside.users.items in
    subst (λ (x : State). IsOfUserIf (length x.users) c.fail.result) c.self.view_is
    (fail_held n (board_of s b) c.fail.result (c.self.invariant.0 b (board_of s b) there)
    (subst (λ (y : Manned). FailGives y c.fail.result) here c.fail.ensures.back))
