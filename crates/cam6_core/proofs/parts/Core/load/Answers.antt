use Rattle.std.proofs.Common.{◌≡◌, ◌∙◌, Some, refl, sym, ap, subst, arith, length, length-set, set}
use Rattle.std.specs.List.{slice_get}
use Rattle.cam6_slot.specs.Leases.{TablesFit}
use Rattle.cam6_station.specs.Held.{Manned, Held, idle}
use Rattle.cam6_core.specs.State.{State, IsNumber, IsHeldWithin}
use Rattle.cam6_core.specs.Internal.Returning.{IsLoadedWith}
use Rattle.cam6_core.proofs.Numbers.{within}
use Rattle.cam6_core.proofs.Changing.{stands_there, held_with}
use Rattle.cam6_core.proofs.parts.Core.load.Goals as goal

pub invariant_of-self : goal.invariant_of-self
invariant_of-self c =
    let bs = c.self.inside.boards.items in
    let b = c.args.board in
    let n = length c.self.inside.users.items in
    let h : Held = record { lease = c.args.lease; job = c.args.job; tables = c.tables.result.now } in
    let there : slice_get bs b ≡ Some idle =
    subst (λ (x : State). slice_get x.boards b ≡ Some idle) (sym c.self.view_is)
    c.requires.board in
    let is = stands_there bs b idle c.load.new.self there in
    let user = subst (λ (x : State). IsNumber (length x.users) c.args.user) (sym c.self.view_is)
    c.requires.user in (
      held_with n bs b c.load.new.self c.self.invariant.0
          (subst (IsHeldWithin n) (sym c.load.ensures) user) (within bs b idle there),
      omega (arith, c.self.invariant.1, length-set bs b c.load.new.self),
      c.self.invariant.2,
    )

pub returns-clause-board : goal.returns-clause-board
returns-clause-board c =
    let bs = c.self.inside.boards.items in
    let b = c.args.board in
    let n = length c.self.inside.users.items in
    let h : Held = record { lease = c.args.lease; job = c.args.job; tables = c.tables.result.now } in
    let there : slice_get bs b ≡ Some idle =
    subst (λ (x : State). slice_get x.boards b ≡ Some idle) (sym c.self.view_is)
    c.requires.board in
    let is = stands_there bs b idle c.load.new.self there in
    subst (λ (y : Manned). IsLoadedWith y c.args.user c.args.lease c.args.job)
    (sym (is ∙ c.load.ensures)) (
      refl,
      refl,
      refl,
      record {
        lease = c.left-bands.ensures.always;
        job = c.requires.job;
        left = c.requires.left;
        tables = subst (TablesFit c.args.lease.work) (sym c.tables.ensures) c.fill.ensures.tables;
      },
    )

pub returns-clause-others : goal.returns-clause-others
returns-clause-others c =
    let bs = c.self.inside.boards.items in
    let b = c.args.board in
    let n = length c.self.inside.users.items in
    let h : Held = record { lease = c.args.lease; job = c.args.job; tables = c.tables.result.now } in
    let there : slice_get bs b ≡ Some idle =
    subst (λ (x : State). slice_get x.boards b ≡ Some idle) (sym c.self.view_is)
    c.requires.board in
    let is = stands_there bs b idle c.load.new.self there in
    ap (λ (x : State). set x.boards b c.load.new.self) c.self.view_is ∙
    ap (λ (y : Manned). set c.args.self.now.boards b y) (sym is)
