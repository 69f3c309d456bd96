-- Users of a new core, one more after the others.
use Rattle.std.proofs.Common.{Option, None, ◌≡◌, ◌∙◌, ◌<◌, ◌+◌, ◌++◌, inl, inr, ℕ, zero, suc, List, [], ◌∷◌}
use Rattle.std.proofs.Common.{length, map, replicate, Some, refl, sym, ap, subst, arith, get_or}
use Rattle.std.specs.List.{slice_get}
use Rattle.std.specs.Option.{option_map}
use Rattle.std.proofs.lemmas.List.{length-append, length-map, length-replicate}
use Rattle.std.proofs.lemmas.Option.{same_Some, slice_get-get_or, slice_get-map, slice_get_within}
use Rattle.cam6_cache.specs.Cached.{AreTrue}
use Rattle.cam6_planes.specs.declared.sides.Side.{Side}
use Rattle.cam6_planes.specs.declared.sides.Side.TheVariants.{S128}
use Rattle.cam6_machine.specs.Stored.{StoredMachine, machine_of}
use Rattle.cam6_model.specs.Machine.{blank}
use Rattle.cam6_core.specs.declared.parts.Whereabouts.{Whereabouts}
use Rattle.cam6_core.specs.declared.parts.Whereabouts.TheVariants.{Resting, Queued, Out, Finished}
use Rattle.cam6_station.proofs.Lists.{last_or_before}
use Rattle.cam6_station.specs.Held.{Manned}
use Rattle.cam6_station.specs.Held as board
use Rattle.cam6_core.specs.State.{State, at_number, IsHeldWithin, AreHeldWithin}
use Rattle.cam6_core.specs.Fresh.{fresh}
use Rattle.cam6_core.specs.Good.{UserFits, BoardFits, IsOnHisBoard, Good}
use Rattle.cam6_core.specs.Model.{User, user, or_nobody, newcomer, resting, Seat, seat, idle}
use Rattle.cam6_core.specs.Model.{machine_of as alone_of}
use Rattle.cam6_core.specs.Internal.Starting.{IsNewcomer, AreNewcomersTo, AreNewcomers}

pub one_more : (n : ℕ) (limits : List Side) (users : List Whereabouts) (r : StoredMachine)
    (d : Side) → AreNewcomersTo n limits users → n < length limits →
    machine_of r ≡ blank (get_or limits n d) →
    AreNewcomersTo (n + 1) limits (users ++ Resting r ∷ [])
one_more n limits users r d made some new = record {
  long = omega (arith, length-append users (Resting r ∷ []), made.long);
  each = λ i limit x at there. elim (last_or_before users (Resting r) i x there) [
    | inl before ↦ made.each i limit x at before
    | inr last ↦
        let here : slice_get limits n ≡ Some limit =
        ap (slice_get limits) (sym (last.0 ∙ made.long)) ∙ at in
        let same : get_or limits n d ≡ limit =
        same_Some (get_or limits n d) limit (sym (slice_get-get_or limits n d some) ∙ here) in
        subst (IsNewcomer limit) last.1 (new ∙ ap blank same)
  ];
}

-- a user who begins is as the model has them
fits_newcomer : (limit : Side) (x : Whereabouts) → IsNewcomer limit x →
    UserFits (blank limit) x resting
fits_newcomer limit (Resting r) is = is
fits_newcomer limit (Queued q) is = absurd is
fits_newcomer limit Out is = absurd is
fits_newcomer limit (Finished f) is = absurd is

newcomers_fit : (limits : List Side) (users : List Whereabouts) (made : AreNewcomers limits users)
    (u : ℕ) (x : Whereabouts) → at_number users u ≡ Some x →
    UserFits (alone_of (user (map newcomer limits) u)) x (user (map newcomer limits) u).stage
newcomers_fit limits users made zero x at = cc at
newcomers_fit limits users made (suc i) x at =
    let there : i < length limits =
    omega (arith, slice_get_within users i x at, made.long) in
    let limit = get_or limits i S128 in
    let has : slice_get limits i ≡ Some limit = slice_get-get_or limits i S128 there in
    let is : user (map newcomer limits) (suc i) ≡ newcomer limit =
    ap or_nobody (slice_get-map newcomer limits i ∙ ap (option_map newcomer) has) in
    subst (λ (p : User). UserFits (alone_of p) x p.stage) (sym is)
    (fits_newcomer limit x (made.each i limit x has at))

-- and is out on no board
newcomers_rest : (limits : List Side) (bs : List Seat) (u : ℕ) →
    IsOnHisBoard bs u (user (map newcomer limits) u).stage
newcomers_rest limits bs zero = tt
newcomers_rest limits bs (suc i) =
    subst (λ (o : Option User). IsOnHisBoard bs (suc i) (or_nobody o).stage)
    (sym (slice_get-map newcomer limits i)) (by_limit (slice_get limits i))
  where
    by_limit : (o : Option Side) →
        IsOnHisBoard bs (suc i) (or_nobody (option_map newcomer o)).stage
    by_limit None = tt
    by_limit (Some limit) = tt

only_idle : (n b : ℕ) (y : Manned) → slice_get (replicate n board.idle) b ≡ Some y →
    (y ≡ board.idle) × (seat (replicate n idle) b ≡ idle)
only_idle zero b y at = cc at
only_idle (suc n) zero y at = (sym (same_Some board.idle y at), refl)
only_idle (suc n) (suc b) y at = only_idle n b y at

-- idle boards hold nobody's lease
pub idle_hold_none : (users n : ℕ) (boards : List Manned) → boards ≡ replicate n board.idle →
    AreHeldWithin users boards × (length boards ≡ n)
idle_hold_none users n boards idle_boards = (
  λ b y at. subst (IsHeldWithin users)
      (sym (only_idle n b y (ap (λ all. slice_get all b) (sym idle_boards) ∙ at)).0) tt,
  ap length idle_boards ∙ length-replicate n board.idle,
)

-- a core of newcomers and idle boards agrees with the model of it
pub begins_good : (limits : List Side) (n : ℕ) (s : State) → AreNewcomers limits s.users →
    s.boards ≡ replicate n board.idle → s.cache.tables ≡ [] → Good s (fresh limits n)
begins_good limits n s made idle_boards empty = record {
  users_long = made.long ∙ sym (length-map limits newcomer);
  boards_long = ap length idle_boards ∙ length-replicate n board.idle ∙
      sym (length-replicate n idle);
  users = newcomers_fit limits s.users made;
  boards = λ b y at.
      let both = only_idle n b y (ap (λ bs. slice_get bs b) (sym idle_boards) ∙ at) in
      subst (λ (z : Manned). BoardFits (map newcomer limits) b z (seat (replicate n idle) b))
      (sym both.0)
      (subst (λ (t : Seat). BoardFits (map newcomer limits) b board.idle t) (sym both.1) tt);
  out = newcomers_rest limits (replicate n idle);
  tables = subst AreTrue (sym empty) tt;
}
