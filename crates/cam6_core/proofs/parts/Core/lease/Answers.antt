use Rattle.std.proofs.Common.{◌∙◌, Option, sym, ap, subst, set}
use Rattle.std.specs.List.{slice_get}
use Rattle.cam6_cache.specs.Cached.{Cached}
use Rattle.cam6_slot.specs.Works.{StoredWork}
use Rattle.cam6_station.specs.Loading.{IsAfterLoads}
use Rattle.cam6_core.specs.State.{State, board_of}
use Rattle.cam6_core.specs.Goes.{LoadsFor, Moves}
use Rattle.cam6_core.specs.declared.parts.Whereabouts.{Whereabouts}
use Rattle.cam6_commands.specs.declared.events.Event.TheVariants as event
use Rattle.cam6_commands.specs.declared.outcomes.Outcome.TheVariants as outcome
use Rattle.cam6_core.proofs.Leases.{idle_at, lease_goes}
use Rattle.cam6_core.proofs.parts.Core.lease.Goals as goal

pub returns-clause-takes : goal.returns-clause-takes
returns-clause-takes c =
    let s = c.args.self.now in
    let u = c.args.user in
    let b = c.args.board in
    let q = c.in-Queued.queued in
    let new = c.load.new.self in
    let there = c.take_user.ensures.now in
    let goes = lease_goes s new u b q (board_of new b) c.lease-lease.result.0
    c.lease-lease.result.1 c.in-Queued.ensures.was
    (idle_at (slice_get s.boards b) c.requires.board) c.load.ensures.board
    c.lease-lease.ensures.stands c.lease-lease.ensures.left c.lease-lease.ensures.home
    (c.lease-lease.ensures.board ∙ c.board_number.ensures)
    (c.load.ensures.users ∙ ap (λ (z : State). z.users) there)
    (c.load.ensures.others ∙ ap (λ (z : State). set z.boards b (board_of new b)) there)
    c.load.ensures.tables
    (c.load.ensures.capacity ∙ ap (λ (z : State). z.cache.capacity) there) in
    subst (λ n. Moves s (event.Lease u b) (outcome.Leased n) new) (sym c.left-left.ensures.left)
    goes.0

pub returns-clause-others : goal.returns-clause-others
returns-clause-others c =
    let s = c.args.self.now in
    let u = c.args.user in
    let b = c.args.board in
    let q = c.in-Queued.queued in
    let new = c.load.new.self in
    let there = c.take_user.ensures.now in
    let goes = lease_goes s new u b q (board_of new b) c.lease-lease.result.0
    c.lease-lease.result.1 c.in-Queued.ensures.was
    (idle_at (slice_get s.boards b) c.requires.board) c.load.ensures.board
    c.lease-lease.ensures.stands c.lease-lease.ensures.left c.lease-lease.ensures.home
    (c.lease-lease.ensures.board ∙ c.board_number.ensures)
    (c.load.ensures.users ∙ ap (λ (z : State). z.users) there)
    (c.load.ensures.others ∙ ap (λ (z : State). set z.boards b (board_of new b)) there)
    c.load.ensures.tables
    (c.load.ensures.capacity ∙ ap (λ (z : State). z.cache.capacity) there) in
    goes.1

pub returns-clause-loads : goal.returns-clause-loads
returns-clause-loads c =
    let s = c.args.self.now in
    let new = c.load.new.self in
    subst (λ (o : Option Whereabouts). LoadsFor o s.cache new.cache)
    (sym c.in-Queued.ensures.was)
    (subst (λ (w : StoredWork). IsAfterLoads w s.cache new.cache) c.lease-lease.ensures.work
    (subst (λ (k : Cached). IsAfterLoads c.lease-lease.result.0.work k new.cache)
    (ap (λ (z : State). z.cache) c.take_user.ensures.now) c.load.ensures.loads))
