use Rattle.std.proofs.Common.{◌∙◌, sym, ap, subst, arith, length, length-set, set}
use Rattle.std.specs.List.{slice_get}
use Rattle.cam6_station.specs.Calls.{BandGives}
use Rattle.cam6_station.specs.Held.{Manned, IsLoaded}
use Rattle.cam6_core.specs.State.{State, with_board, board_of, or_dead}
use Rattle.cam6_core.specs.Internal.Returning.{IsOfUser}
use Rattle.cam6_core.proofs.Numbers.{within}
use Rattle.cam6_core.proofs.Changing.{loaded_there, seen, stands_there, held_with}
use Rattle.cam6_core.proofs.Changing.{band_held}
use Rattle.cam6_core.proofs.parts.Core.run_band.Goals as goal

pub invariant_of-self : goal.invariant_of-self
invariant_of-self c =
    let bs = c.self.inside.boards.items in
    let b = c.args.board in
    let s : State = record {
      users = c.self.inside.users.items;
      boards = bs;
      cache = c.self.inside.cache;
    } in
    let there = loaded_there bs b (subst (λ (x : State). IsLoaded (board_of x b)) (sym c.self.view_is) c.requires) in
    let here = seen bs b (board_of s b) c.index_mut.result.now there c.index_mut.ensures.value in
    let n = length c.self.inside.users.items in
    let gives = subst (λ (y : Manned). BandGives y c.band.result c.band.new.self) here c.band.ensures.gives in (
      held_with n bs b c.band.new.self c.self.invariant.0
          (band_held n (board_of s b) c.band.result c.band.new.self
          (c.self.invariant.0 b (board_of s b) there) gives).0
          (within bs b (board_of s b) there),
      omega (arith, c.self.invariant.1, length-set bs b c.band.new.self),
      c.self.invariant.2,
    )

pub returns-clause-gives : goal.returns-clause-gives
returns-clause-gives c =
    let bs = c.self.inside.boards.items in
    let b = c.args.board in
    let s : State = record {
      users = c.self.inside.users.items;
      boards = bs;
      cache = c.self.inside.cache;
    } in
    let there = loaded_there bs b (subst (λ (x : State). IsLoaded (board_of x b)) (sym c.self.view_is) c.requires) in
    let here = seen bs b (board_of s b) c.index_mut.result.now there c.index_mut.ensures.value in
    subst (λ (y : Manned). BandGives (board_of c.args.self.now b) c.band.result y)
    (sym (stands_there bs b (board_of s b) c.band.new.self there))
    (subst (λ (x : State). BandGives (board_of x b) c.band.result c.band.new.self) c.self.view_is
    (subst (λ (y : Manned). BandGives y c.band.result c.band.new.self) here c.band.ensures.gives))

pub returns-clause-others : goal.returns-clause-others
returns-clause-others c =
    let bs = c.self.inside.boards.items in
    let b = c.args.board in
    let s : State = record {
      users = c.self.inside.users.items;
      boards = bs;
      cache = c.self.inside.cache;
    } in
    let there = loaded_there bs b (subst (λ (x : State). IsLoaded (board_of x b)) (sym c.self.view_is) c.requires) in
    let here = seen bs b (board_of s b) c.index_mut.result.now there c.index_mut.ensures.value in
    let y = or_dead (slice_get (set bs b c.band.new.self) b) in
    ap (λ (z : Manned). with_board s b z)
    (sym (stands_there bs b (board_of s b) c.band.new.self there)) ∙
    ap (λ (x : State). with_board x b y) c.self.view_is

pub returns-clause-user : goal.returns-clause-user
returns-clause-user c =
    let bs = c.self.inside.boards.items in
    let b = c.args.board in
    let s : State = record {
      users = c.self.inside.users.items;
      boards = bs;
      cache = c.self.inside.cache;
    } in
    let there = loaded_there bs b (subst (λ (x : State). IsLoaded (board_of x b)) (sym c.self.view_is) c.requires) in
    let here = seen bs b (board_of s b) c.index_mut.result.now there c.index_mut.ensures.value in
    let n = length c.self.inside.users.items in
    let gives = subst (λ (y : Manned). BandGives y c.band.result c.band.new.self) here c.band.ensures.gives in
    subst (λ (x : State). IsOfUser (length x.users) c.band.result) c.self.view_is
    (band_held n (board_of s b) c.band.result c.band.new.self
    (c.self.invariant.0 b (board_of s b) there) gives).1
