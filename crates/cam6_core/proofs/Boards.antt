-- A band, a preempt, a fail and a repair.
use Rattle.std.proofs.Common.{set, ◌≡◌, ◌∙◌, ℕ, ◌-◌, ◌==◌, cond, Bool, true, false, List, length}
use Rattle.std.proofs.Common.{Option, Some, None, sym, refl, ap, subst, arith, ne_eqb}
use Rattle.std.specs.List.{slice_get}
use Rattle.std.specs.Option.{option_map}
use Rattle.cam6_commands.specs.declared.commands.Command.{Command}
use Rattle.cam6_model.specs.Machine.{Machine}
use Rattle.cam6_slot.specs.Finished.{StoredFinished, IsDone}
use Rattle.cam6_slot.specs.Laws.{PlacesHaveTheSide}
use Rattle.cam6_slot.specs.Lefts.{queued_left, queued_home, home_after, bands_of_step}
use Rattle.cam6_slot.specs.Parking.{StoredQueued, IsQueued}
use Rattle.cam6_station.specs.Calls.{GoesOn, ComesBack, BandGives, PreemptGives, FailGives}
use Rattle.cam6_station.specs.declared.stations.Banded.TheVariants.{More, Last}
use Rattle.cam6_station.specs.declared.stations.Preempted.TheVariants as off
use Rattle.cam6_station.specs.Held.{Manned, Held, StandsHeld, held_left, held_home, held_bands}
use Rattle.cam6_station.specs.Held as board
use Rattle.cam6_core.specs.State.{State, with_user, with_board, IsNumber, or_dead}
use Rattle.cam6_core.specs.Refusals.{posture, is_loaded, is_dead}
use Rattle.cam6_core.specs.Model as model
use Rattle.cam6_core.specs.Model.{Stage, out, finished, Seat, idle, loaded, dead, User, Model}
use Rattle.cam6_core.specs.Model.{user, seat, machine_of, at_stage, over, back, band, preempt, fail}
use Rattle.cam6_core.specs.Good.{UserFits, IsOutWith, BoardFits, Good, IsLoadedFor}
use Rattle.cam6_core.specs.Goes.{Moves, SparesBoardsBut, SparesOthers}
use Rattle.cam6_core.specs.declared.parts.Whereabouts.{Whereabouts}
use Rattle.cam6_core.specs.declared.parts.Whereabouts.TheVariants as whereabouts
use Rattle.cam6_commands.specs.declared.events.Event.TheVariants as event
use Rattle.cam6_commands.specs.declared.outcomes.Outcome.{Outcome}
use Rattle.cam6_commands.specs.declared.outcomes.Outcome.TheVariants.{Banded, Preempted, Failed, Repaired}
use Rattle.cam6_core.proofs.Numbers.{within, set_else, else_with}
use Rattle.cam6_core.proofs.Frames.{IsOnlyOn, IsOnNone, rests_anywhere, board_moves, both_move}
use Rattle.cam6_core.proofs.Inversions.{at_work, at_idle, at_death}

pub spares_boards : (s : State) (b : ℕ) (y : Manned) → SparesBoardsBut b s (with_board s b y)
spares_boards s b y d apart = set_else s.boards b d y apart

module _ (s : State) (b u : ℕ) (h : Held)
    (at : slice_get s.boards b ≡ Some (board.loaded u h)) where
  -- users beside a board that keeps its own, and beside one that gives its user back
  pub keeps_users : (y : Manned) → SparesOthers (slice_get s.boards b) s (with_board s b y)
  keeps_users y =
      subst (λ (o : Option Manned). SparesOthers o s (with_board s b y)) (sym at)
      (λ v apart. refl)

  pub gives_user : (y : Manned) (x : Whereabouts) →
      SparesOthers (slice_get s.boards b) s (with_user (with_board s b y) u x)
  gives_user y x =
      subst (λ (o : Option Manned). SparesOthers o s (with_user (with_board s b y) u x)) (sym at)
      (λ v apart. else_with s.users u v x apart)

  -- the board's user comes back
  returned : (a : Model) → Good s a → IsNumber (length s.users) u → (x : Whereabouts)
      (y : Manned) (t : Seat) (f : Stage → Stage) →
      ((c : Command) → StandsHeld h (machine_of (user a.users u)) c →
      UserFits (machine_of (user a.users u)) x (f (out b c))) →
      ((us : List User) → BoardFits us b y t) → ((c : Command) → IsOnNone (f (out b c))) →
      Good (with_user (with_board s b y) u x)
      (model.with_both a u (at_stage (user a.users u) (f (user a.users u).stage)) b t)
  returned a good is x y t f law fits rests =
      let p : User = user a.users u in
      let work = at_work a.users b u h (seat a.boards b) (good.boards b (board.loaded u h) at) in
      both_move s a good u x (at_stage p (f p.stage)) b y t is
      (within s.boards b (board.loaded u h) at) (subst (IsOnlyOn b) (sym work.1.1) refl)
      (subst (λ (z : Stage). UserFits (machine_of p) x (f z)) (sym work.1.1)
      (law work.1.0 work.1.2)) (fits (model.with_user a u (at_stage p (f p.stage))).users)
      (rests_anywhere (set a.boards b t) u (f p.stage)
      (subst (λ (z : Stage). IsOnNone (f z)) (sym work.1.1) (rests work.1.0)))
      (λ v apart theirs. apart (sym (subst (IsLoadedFor v) work.0 theirs)))

  seat_of : (a : Model) → Good s a → seat a.boards b ≡ loaded u (held_left h) (held_home h)
  seat_of a good =
      (at_work a.users b u h (seat a.boards b) (good.boards b (board.loaded u h) at)).0

  pub band_more : (k : Held) → GoesOn h k →
      Moves s (event.Band b) (Banded (held_left k)) (with_board s b (board.loaded u k))
  band_more k on a good =
      let p : User = user a.users u in
      let work = at_work a.users b u h (seat a.boards b) (good.boards b (board.loaded u h) at) in
      let less : held_left h - 1 ≡ held_left k = omega (arith, on.left) in
      let not_last : (held_left h == 1) ≡ false =
      ne_eqb (held_left h) 1 (λ e. omega (arith, e, on.left, on.some)) in
      let is : band a b (seat a.boards b)
      ≡ (model.with_seat a b (loaded u (held_left k) (held_home h)), Banded (held_left k)) =
      ap (band a b) work.0 ∙
      ap (λ (z : Bool). cond z
      (model.with_both a u (at_stage p (over p.stage)) b idle, Banded 0)
      (model.with_seat a b (loaded u (held_left h - 1) (held_home h)), Banded (held_left h - 1)))
      not_last ∙
      ap (λ (n : ℕ). (model.with_seat a b (loaded u n (held_home h)), Banded n)) less in
      subst (λ (z : Model × Outcome).
      (Banded (held_left k) ≡ z.1) × Good (with_board s b (board.loaded u k)) z.0) (sym is) (
        refl,
        board_moves s a good b (board.loaded u k) (loaded u (held_left k) (held_home h))
            (within s.boards b (board.loaded u h) at) (
              refl,
              refl,
              sym on.home,
              subst (IsOutWith (machine_of p) b k) (sym work.1.1)
                  (refl, on.stands (machine_of p) work.1.0 work.1.2, on.fits, on.board ∙ work.1.3),
            ) (λ v theirs. subst (IsLoadedFor v) work.0 theirs),
      )

  pub band_last : IsNumber (length s.users) u → (f : StoredFinished) → held_left h ≡ 1 →
      ((m : Machine) (c : Command) → StandsHeld h m c → IsDone f m c) →
      Moves s (event.Band b) (Banded 0)
      (with_user (with_board s b board.idle) u (whereabouts.Finished f))
  band_last is f one law a good =
      let p : User = user a.users u in
      let last : band a b (seat a.boards b)
      ≡ (model.with_both a u (at_stage p (over p.stage)) b idle, Banded 0) =
      ap (band a b) (seat_of a good) ∙
      ap (λ (n : ℕ). band a b (loaded u n (held_home h))) one in
      subst (λ (z : Model × Outcome).
      (Banded 0 ≡ z.1)
      × Good (with_user (with_board s b board.idle) u (whereabouts.Finished f)) z.0) (sym last) (
        refl,
        returned a good is (whereabouts.Finished f) board.idle idle over
            (λ c st. law (machine_of p) c st) (λ us. tt) (λ c. tt),
      )

  pub preempted : PlacesHaveTheSide → IsNumber (length s.users) u → (q : StoredQueued) →
      IsQueued q →
      ComesBack h q (held_left h) (home_after (held_bands h) (held_left h) (held_home h)) →
      Moves s (event.Preempt b) (Preempted (queued_left q))
      (with_user (with_board s b board.idle) u (whereabouts.Queued q))
  preempted sides is q waits comes a good =
      let p : User = user a.users u in
      let bands = bands_of_step (machine_of p).side in
      let work = at_work a.users b u h (seat a.boards b) (good.boards b (board.loaded u h) at) in
      let side = (sides (machine_of p) work.1.0).1 h.lease h.job work.1.2 in
      let home : home_after bands (held_left h) (held_home h) ≡ queued_home q =
      ap (λ k. home_after (bands_of_step k) (held_left h) (held_home h)) (sym side) ∙
      sym comes.home in
      subst (λ (t : Seat).
      (Preempted (queued_left q) ≡ (preempt a b t).1)
      × Good (with_user (with_board s b board.idle) u (whereabouts.Queued q)) (preempt a b t).0)
      (sym (seat_of a good)) (
        ap Preempted comes.left,
        returned a good is (whereabouts.Queued q) board.idle idle
            (back (held_left h) (home_after bands (held_left h) (held_home h)))
            (λ c st. (comes.stands (machine_of p) c st, sym comes.left, home, waits)) (λ us. tt)
            (λ c. tt),
      )

  pub failed : IsNumber (length s.users) u → (q : StoredQueued) → IsQueued q →
      ComesBack h q (held_home h) (held_home h) →
      Moves s (event.Fail b) (Failed (Some (queued_left q)))
      (with_user (with_board s b board.dead) u (whereabouts.Queued q))
  failed is q waits comes a good =
      let p : User = user a.users u in
      subst (λ (t : Seat).
      (Failed (Some (queued_left q)) ≡ (fail a b t).1)
      × Good (with_user (with_board s b board.dead) u (whereabouts.Queued q)) (fail a b t).0)
      (sym (seat_of a good)) (
        ap (λ n. Failed (Some n)) comes.left,
        returned a good is (whereabouts.Queued q) board.dead dead
            (back (held_home h) (held_home h))
            (λ c st. (comes.stands (machine_of p) c st, sym comes.left, sym comes.home, waits))
            (λ us. tt) (λ c. tt),
      )

-- an idle board fails
pub idle_fails : (s : State) (b : ℕ) → slice_get s.boards b ≡ Some board.idle →
    Moves s (event.Fail b) (Failed None) (with_board s b board.dead)
idle_fails s b at a good =
    subst (λ (t : Seat).
    (Failed None ≡ (fail a b t).1) × Good (with_board s b board.dead) (fail a b t).0)
    (sym (at_idle a.users b (seat a.boards b) (good.boards b board.idle at))) (
      refl,
      board_moves s a good b board.dead dead (within s.boards b board.idle at) tt
          (λ v theirs. subst (IsLoadedFor v)
          (at_idle a.users b (seat a.boards b) (good.boards b board.idle at)) theirs),
    )

pub idle_spares : (s : State) (b : ℕ) (y : Manned) → slice_get s.boards b ≡ Some board.idle →
    SparesOthers (slice_get s.boards b) s (with_board s b y)
idle_spares s b y at =
    subst (λ (o : Option Manned). SparesOthers o s (with_board s b y)) (sym at) refl

-- a dead board is repaired
pub repaired : (s : State) (b : ℕ) → slice_get s.boards b ≡ Some board.dead →
    Moves s (event.Repair b) Repaired (with_board s b board.idle)
repaired s b at a good = (
  refl,
  board_moves s a good b board.idle idle (within s.boards b board.dead at) tt
      (λ v theirs. subst (IsLoadedFor v)
      (at_death a.users b (seat a.boards b) (good.boards b board.dead at)) theirs),
)

-- what a board held of which a call says by cases what it made
held_before : (o : Option Manned) → is_loaded (option_map posture o) ≡ true →
    (u : ℕ) × (h : Held) × (o ≡ Some (board.loaded u h))
held_before (Some (board.loaded u h)) is = (u, h, refl)
held_before (Some board.idle) is = cc is
held_before (Some board.dead) is = cc is
held_before None is = cc is

more_after : (u : ℕ) (h : Held) (left : ℕ) (new : Manned) →
    BandGives (board.loaded u h) (More left) new →
    (k : Held) × (new ≡ board.loaded u k) × (left ≡ held_left k) × GoesOn h k
more_after u h left (board.loaded v k) gives =
    (k, ap (λ n. board.loaded n k) gives.0, gives.1, gives.2)
more_after u h left new gives = absurd gives

last_after : (u : ℕ) (h : Held) (v : ℕ) (f : StoredFinished) (new : Manned) →
    BandGives (board.loaded u h) (Last v f) new →
    (new ≡ board.idle) × (v ≡ u) × (held_left h ≡ 1)
    × ((m : Machine) (c : Command) → StandsHeld h m c → IsDone f m c)
last_after u h v f board.idle gives = (refl, gives.0, gives.1, gives.2)
last_after u h v f new gives = absurd gives

module _ (s : State) (b : ℕ) where
  abbrev it : Option Manned
  it = slice_get s.boards b

  -- a band within a command
  pub band_goes : (left : ℕ) (new : Manned) → is_loaded (option_map posture it) ≡ true →
      BandGives (or_dead it) (More left) new →
      Moves s (event.Band b) (Banded left) (with_board s b new)
      × SparesOthers it s (with_board s b new)
  band_goes left new is gives =
      let (u, h, at) = held_before it is in
      let (k, same, told, on) = more_after u h left new
      (subst (λ (o : Option Manned). BandGives (or_dead o) (More left) new) at gives) in (
        subst (λ (y : Manned). Moves s (event.Band b) (Banded left) (with_board s b y)) (sym same)
            (subst (λ n. Moves s (event.Band b) (Banded n)
            (with_board s b (board.loaded u k))) (sym told)
            (band_more s b u h at k on)),
        keeps_users s b u h at new,
      )

  -- and the last one of it
  pub band_ends : (v : ℕ) (f : StoredFinished) (new : Manned) →
      is_loaded (option_map posture it) ≡ true → BandGives (or_dead it) (Last v f) new →
      IsNumber (length s.users) v →
      Moves s (event.Band b) (Banded 0)
      (with_user (with_board s b new) v (whereabouts.Finished f))
      × SparesOthers it s (with_user (with_board s b new) v (whereabouts.Finished f))
  band_ends v f new is gives number =
      let (u, h, at) = held_before it is in
      let (same, whose, one, law) = last_after u h v f new
      (subst (λ (o : Option Manned). BandGives (or_dead o) (Last v f) new) at gives) in
      subst (λ (y : Manned). Moves s (event.Band b) (Banded 0)
      (with_user (with_board s b y) v (whereabouts.Finished f))
      × SparesOthers it s (with_user (with_board s b y) v (whereabouts.Finished f))) (sym same)
      (subst (λ n. Moves s (event.Band b) (Banded 0)
      (with_user (with_board s b board.idle) n (whereabouts.Finished f))
      × SparesOthers it s (with_user (with_board s b board.idle) n (whereabouts.Finished f)))
      (sym whose) (
        band_last s b u h at (subst (IsNumber (length s.users)) whose number) f one law,
        gives_user s b u h at board.idle (whereabouts.Finished f),
      ))

  -- a preempt
  pub preempt_goes : PlacesHaveTheSide → (v : ℕ) (q : StoredQueued) → IsQueued q →
      is_loaded (option_map posture it) ≡ true → PreemptGives (or_dead it) (off.Back v q) board.idle →
      IsNumber (length s.users) v →
      Moves s (event.Preempt b) (Preempted (queued_left q))
      (with_user (with_board s b board.idle) v (whereabouts.Queued q))
      × SparesOthers it s (with_user (with_board s b board.idle) v (whereabouts.Queued q))
  preempt_goes sides v q waits is gives number =
      let (u, h, at) = held_before it is in
      let back = subst (λ (o : Option Manned). PreemptGives (or_dead o) (off.Back v q) board.idle)
      at gives in
      subst (λ n. Moves s (event.Preempt b) (Preempted (queued_left q))
      (with_user (with_board s b board.idle) n (whereabouts.Queued q))
      × SparesOthers it s (with_user (with_board s b board.idle) n (whereabouts.Queued q)))
      (sym back.0) (
        preempted s b u h at sides (subst (IsNumber (length s.users)) back.0 number) q waits back.1,
        gives_user s b u h at board.idle (whereabouts.Queued q),
      )

  -- a fail of a board that held something, and of an idle one
  loaded_before : (o : Option Manned) (v : ℕ) (q : StoredQueued) →
      FailGives (or_dead o) (Some (v, q)) →
      (h : Held) × (o ≡ Some (board.loaded v h)) × ComesBack h q (held_home h) (held_home h)
  loaded_before None v q gives = absurd gives
  loaded_before (Some (board.loaded u h)) v q gives =
      (h, ap (λ n. Some (board.loaded n h)) (sym gives.0), gives.1)
  loaded_before (Some board.idle) v q gives = absurd gives
  loaded_before (Some board.dead) v q gives = absurd gives

  idle_before : (o : Option Manned) → FailGives (or_dead o) None → o ≡ Some board.idle
  idle_before None gives = absurd gives
  idle_before (Some (board.loaded u h)) gives = absurd gives
  idle_before (Some board.idle) gives = refl
  idle_before (Some board.dead) gives = absurd gives

  pub fail_goes : (v : ℕ) (q : StoredQueued) → IsQueued q →
      FailGives (or_dead it) (Some (v, q)) → IsNumber (length s.users) v →
      Moves s (event.Fail b) (Failed (Some (queued_left q)))
      (with_user (with_board s b board.dead) v (whereabouts.Queued q))
      × SparesOthers it s (with_user (with_board s b board.dead) v (whereabouts.Queued q))
  fail_goes v q waits gives number =
      let (h, at, comes) = loaded_before it v q gives in (
        failed s b v h at number q waits comes,
        gives_user s b v h at board.dead (whereabouts.Queued q),
      )

  pub idle_goes : FailGives (or_dead it) None →
      Moves s (event.Fail b) (Failed None) (with_board s b board.dead)
      × SparesOthers it s (with_board s b board.dead)
  idle_goes gives =
      let at = idle_before it gives in
      (idle_fails s b at, idle_spares s b board.dead at)

  -- a repair of a dead board
  dead_before : (o : Option Manned) → is_dead (option_map posture o) ≡ true →
      o ≡ Some board.dead
  dead_before None is = cc is
  dead_before (Some (board.loaded u h)) is = cc is
  dead_before (Some board.idle) is = cc is
  dead_before (Some board.dead) is = refl

  pub repair_goes : is_dead (option_map posture it) ≡ true →
      Moves s (event.Repair b) Repaired (with_board s b board.idle)
  repair_goes is = repaired s b (dead_before it is)
