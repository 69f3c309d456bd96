-- A lease.
use Rattle.std.proofs.Common.{length, arith, ◌≡◌, ◌∙◌, ◌<◌, ◌≤◌, ℕ, true, set, Option, Some, None, sym, refl, ap, subst}
use Rattle.std.specs.List.{slice_get}
use Rattle.std.specs.Option.{option_map}
use Rattle.cam6_cache.specs.Cached.{Cached, AreTrue}
use Rattle.cam6_commands.specs.declared.commands.Command.{Command}
use Rattle.cam6_model.specs.Machine.{Machine}
use Rattle.cam6_board.specs.Jobs.{StoredJob}
use Rattle.cam6_slot.specs.Leases.{StoredLease}
use Rattle.cam6_slot.specs.Lefts.{queued_left, queued_home, lease_left, lease_home}
use Rattle.cam6_slot.specs.Parking.{StoredQueued}
use Rattle.cam6_slot.specs.Stands.{Stands, StandsOut}
use Rattle.cam6_station.specs.Held.{Manned, Held, HeldFits, StandsHeld, held_left, held_home}
use Rattle.cam6_station.specs.Held as board
use Rattle.cam6_core.specs.State.{State, at_number, with_number}
use Rattle.cam6_core.specs.Refusals.{posture, is_idle}
use Rattle.cam6_core.specs.Model.{Stage, out, loaded, User, user, seat, at_stage, machine_of, lease}
use Rattle.cam6_core.specs.Good.{IsOutWith, IsLoadedFor, Good}
use Rattle.cam6_core.specs.Goes.{Moves, Spares}
use Rattle.cam6_core.specs.Internal.Returning.{IsLoadedWith}
use Rattle.cam6_core.specs.declared.parts.Whereabouts.TheVariants as whereabouts
use Rattle.cam6_commands.specs.declared.events.Event.TheVariants as event
use Rattle.cam6_commands.specs.declared.outcomes.Outcome.TheVariants.{Leased}
use Rattle.cam6_core.proofs.Numbers.{within, set_else, is_number, else_with}
use Rattle.cam6_core.proofs.Frames.{IsOnlyOn, both_move, user_here, seat_here}
use Rattle.cam6_core.proofs.Inversions.{in_queue, at_idle}

pub idle_at : (o : Option Manned) → is_idle (option_map posture o) ≡ true → o ≡ Some board.idle
idle_at (Some board.idle) e = refl
idle_at (Some (board.loaded u h)) e = cc e
idle_at (Some board.dead) e = cc e
idle_at None e = cc e

-- the user is out, and the board loaded for them; the cache has been asked for tables
abbrev pub leased : State → ℕ → ℕ → Held → Cached → State
leased s u b h cache = record {
  users = with_number s.users u whereabouts.Out;
  boards = set s.boards b (board.loaded u h);
  cache = cache;
}

pub lease_spares : (s : State) (u b : ℕ) (h : Held) (cache : Cached) →
    cache.capacity ≡ s.cache.capacity → Spares (event.Lease u b) s (leased s u b h cache)
lease_spares s u b h cache same = (
  (λ v apart. else_with s.users u v whereabouts.Out apart),
  (λ d apart. set_else s.boards b d (board.loaded u h) apart),
  same,
)

pub lease_moves : (s : State) (u b : ℕ) (q : StoredQueued) (h : Held) (cache : Cached) →
    at_number s.users u ≡ Some (whereabouts.Queued q) →
    slice_get s.boards b ≡ Some board.idle →
    ((m : Machine) (c : Command) → Stands q m c → StandsHeld h m c) →
    held_left h ≡ queued_left q → held_home h ≡ queued_home q → HeldFits h →
    h.lease.board ≡ b → AreTrue cache.tables →
    Moves s (event.Lease u b) (Leased (queued_left q)) (leased s u b h cache)
lease_moves s u b q h cache at free law left home fits on cached a good =
    let p : User = user a.users u in
    let m = machine_of p in
    let waits = in_queue m q p.stage (good.users u (whereabouts.Queued q) at) in
    let is = is_number s.users u (whereabouts.Queued q) at in
    let c : Command = waits.0 in
    let gone : User = at_stage p (out b c) in
    let same : gone ≡ user (with_number a.users u gone) u =
    sym (user_here a.users u gone (subst (λ (n : ℕ). (0 < u) × (u ≤ n)) good.users_long is)) in
    let there : b < length a.boards =
    omega (arith, within s.boards b board.idle free, good.boards_long) in
    let moved = both_move s a good u whereabouts.Out gone b (board.loaded u h)
    (loaded u (queued_left q) (queued_home q)) is (within s.boards b board.idle free)
    (subst (IsOnlyOn b) (sym waits.1) tt) tt (
      refl,
      sym left,
      sym home,
      subst (λ (z : User). IsOutWith (machine_of z) b h z.stage) same
          (refl, law m c waits.2, fits, on),
    ) (subst (IsLoadedFor u) (sym (seat_here a.boards b
    (loaded u (queued_left q) (queued_home q)) there)) refl)
    (λ v apart theirs. subst (IsLoadedFor v)
    (at_idle a.users b (seat a.boards b) (good.boards b board.idle free)) theirs) in
    subst (λ (t : Stage).
    (Leased (queued_left q) ≡ (lease a u b p t).1)
    × Good (leased s u b h cache) (lease a u b p t).0) (sym waits.1) (
      refl,
      record {
        users_long = moved.users_long;
        boards_long = moved.boards_long;
        users = moved.users;
        boards = moved.boards;
        out = moved.out;
        tables = cached;
      },
    )

-- what a board holds that is loaded with a lease
is_leased : (y : Manned) (u : ℕ) (lease : StoredLease) (job : StoredJob) →
    IsLoadedWith y u lease job →
    (h : Held) × (y ≡ board.loaded u h) × (h.lease ≡ lease) × (h.job ≡ job) × HeldFits h
is_leased (board.loaded v h) u lease job is =
    (h, ap (λ k. board.loaded k h) is.0, is.1, is.2, is.3)
is_leased y u lease job is = absurd is

pub lease_goes : (s new : State) (u b : ℕ) (q : StoredQueued) (y : Manned) (lease : StoredLease)
    (job : StoredJob) → at_number s.users u ≡ Some (whereabouts.Queued q) →
    slice_get s.boards b ≡ Some board.idle → IsLoadedWith y u lease job →
    ((m : Machine) (c : Command) → Stands q m c → StandsOut lease job m c) →
    lease_left lease ≡ queued_left q → lease_home lease ≡ queued_home q → lease.board ≡ b →
    new.users ≡ with_number s.users u whereabouts.Out → new.boards ≡ set s.boards b y →
    AreTrue new.cache.tables → new.cache.capacity ≡ s.cache.capacity →
    Moves s (event.Lease u b) (Leased (queued_left q)) new × Spares (event.Lease u b) s new
lease_goes s new u b q y lease job at free loads stands left home on users boards cached capacity =
    let (h, is, grant, work, fits) = is_leased y u lease job loads in
    let same : new ≡ leased s u b h new.cache =
    ap (λ us. record new { users = us }) users ∙
    ap (λ bs. record new { users = with_number s.users u whereabouts.Out; boards = bs })
    (boards ∙ ap (set s.boards b) is) in
    let law : (m : Machine) (c : Command) → Stands q m c → StandsHeld h m c =
    (λ m c st. subst (λ (l : StoredLease). StandsOut l h.job m c) (sym grant)
    (subst (λ (j : StoredJob). StandsOut lease j m c) (sym work) (stands m c st))) in (
      subst (Moves s (event.Lease u b) (Leased (queued_left q))) (sym same)
          (lease_moves s u b q h new.cache at free law (ap lease_left grant ∙ left)
          (ap lease_home grant ∙ home) fits (ap (λ (l : StoredLease). l.board) grant ∙ on) cached),
      subst (Spares (event.Lease u b) s) (sym same) (lease_spares s u b h new.cache capacity),
    )
