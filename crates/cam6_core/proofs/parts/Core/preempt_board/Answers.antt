use Rattle.std.proofs.Common.{sym, subst, arith, length, length-set}
use Rattle.cam6_station.specs.Calls.{PreemptGives}
use Rattle.cam6_station.specs.Held.{Manned, idle, IsLoaded}
use Rattle.cam6_station.specs.declared.stations.Preempted.TheVariants.{Back}
use Rattle.cam6_core.specs.State.{State, board_of, IsNumber, IsHeldWithin}
use Rattle.cam6_core.proofs.Numbers.{within}
use Rattle.cam6_core.proofs.Changing.{loaded_there, seen, held_with}
use Rattle.cam6_core.proofs.Changing.{preempt_held}
use Rattle.cam6_core.proofs.parts.Core.preempt_board.Goals as goal

pub invariant_of-self : goal.invariant_of-self
invariant_of-self c =
    let bs = c.self.inside.boards.items in
    let b = c.args.board in
    let s : State = record {
      users = c.self.inside.users.items;
      boards = bs;
      cache = c.self.inside.cache;
    } in
    let there = loaded_there bs b (subst (λ (x : State). IsLoaded (board_of x b)) (sym c.self.view_is) c.requires) in
    let here = seen bs b (board_of s b) c.index_mut.result.now there c.index_mut.ensures.value in (
      held_with (length c.self.inside.users.items) bs b c.preempt.new.self c.self.invariant.0
          (subst (IsHeldWithin (length c.self.inside.users.items)) (sym c.preempt.ensures.idle) tt)
          (within bs b (board_of s b) there),
      omega (arith, c.self.invariant.1, length-set bs b c.preempt.new.self),
      c.self.invariant.2,
    )

pub returns-clause-back : goal.returns-clause-back
returns-clause-back c =
    let bs = c.self.inside.boards.items in
    let b = c.args.board in
    let s : State = record {
      users = c.self.inside.users.items;
      boards = bs;
      cache = c.self.inside.cache;
    } in
    let there = loaded_there bs b (subst (λ (x : State). IsLoaded (board_of x b)) (sym c.self.view_is) c.requires) in
    let here = seen bs b (board_of s b) c.index_mut.result.now there c.index_mut.ensures.value in
    subst (λ (x : State). PreemptGives (board_of x b) (Back c.preempt.result.0 c.preempt.result.1) idle)
    c.self.view_is
    (subst (λ (y : Manned). PreemptGives y (Back c.preempt.result.0 c.preempt.result.1) idle) here
    c.preempt.ensures.back)

pub returns-clause-user : goal.returns-clause-user
returns-clause-user c =
    let bs = c.self.inside.boards.items in
    let b = c.args.board in
    let s : State = record {
      users = c.self.inside.users.items;
      boards = bs;
      cache = c.self.inside.cache;
    } in
    let there = loaded_there bs b (subst (λ (x : State). IsLoaded (board_of x b)) (sym c.self.view_is) c.requires) in
    let here = seen bs b (board_of s b) c.index_mut.result.now there c.index_mut.ensures.value in
    let n = length c.self.inside.users.items in
    subst (λ (x : State). IsNumber (length x.users) c.preempt.result.0) c.self.view_is
    (preempt_held n (board_of s b) c.preempt.result.0 c.preempt.result.1
    (c.self.invariant.0 b (board_of s b) there)
    (subst (λ (y : Manned). PreemptGives y (Back c.preempt.result.0 c.preempt.result.1) idle) here
    c.preempt.ensures.back))
