-- The model's users and boards stand where the core's do.
use Rattle.std.proofs.Common.{◌≡◌, ◌∙◌, ℕ, zero, suc, List, [], ◌∷◌, length, Option, Some, None}
use Rattle.std.proofs.Common.{sym, refl, ap, arith}
use Rattle.std.specs.List.{slice_get}
use Rattle.std.specs.Option.{option_map}
use Rattle.cam6_cache.specs.Cached.{is_empty}
use Rattle.cam6_commands.specs.declared.events.Event.{Event}
use Rattle.cam6_commands.specs.declared.events.Event.TheVariants as event
use Rattle.cam6_model.specs.Machine.{Machine}
use Rattle.cam6_model.specs.Memory.{may_want_memory}
use Rattle.cam6_station.specs.Held.{Manned}
use Rattle.cam6_station.specs.Held as board
use Rattle.cam6_core.specs.State.{State, at_number}
use Rattle.cam6_core.specs.Refusals.{status, posture, standing}
use Rattle.cam6_core.specs.Model.{Stage, resting, queued, out, finished, Seat, idle, loaded, dead}
use Rattle.cam6_core.specs.Model.{User, Model, user, or_nobody, seat, or_none, machine_of}
use Rattle.cam6_core.specs.Good.{UserFits, BoardFits, Good}
use Rattle.cam6_core.specs.Goes.{MayWant, WantsMemory}
use Rattle.cam6_core.specs.Runs.{status_of, posture_of, model_standing, MayWantMemory}
use Rattle.cam6_core.specs.declared.parts.Whereabouts.{Whereabouts}
use Rattle.cam6_core.specs.declared.parts.Whereabouts.TheVariants as whereabouts
use Rattle.cam6_core.proofs.Inversions.{at_rest}

-- one of two lists of a length has something where the other has, and nothing where it hasn't
module _ {A B : Type 0} where
  pub also_there : (xs : List A) (ys : List B) (i : ℕ) (x : A) → length xs ≡ length ys →
      slice_get xs i ≡ Some x → (y : B) × (slice_get ys i ≡ Some y)
  also_there [] ys i x long at = cc at
  also_there (z ∷ xs) [] i x long at = absurd (omega (arith, long))
  also_there (z ∷ xs) (y ∷ ys) zero x long at = (y, refl)
  also_there (z ∷ xs) (y ∷ ys) (suc i) x long at = also_there xs ys i x (omega (arith, long)) at

  neither_there : (xs : List A) (ys : List B) (i : ℕ) → length xs ≡ length ys →
      slice_get xs i ≡ None → slice_get ys i ≡ None
  neither_there xs [] i long at = refl
  neither_there [] (y ∷ ys) i long at = absurd (omega (arith, long))
  neither_there (z ∷ xs) (y ∷ ys) zero long at = cc at
  neither_there (z ∷ xs) (y ∷ ys) (suc i) long at = neither_there xs ys i (omega (arith, long)) at

status_same : (m : Machine) (x : Whereabouts) (stage : Stage) → UserFits m x stage →
    status x ≡ status_of stage
status_same m (whereabouts.Resting r) resting fits = refl
status_same m (whereabouts.Queued q) (queued c left home) fits = refl
status_same m whereabouts.Out (out b c) fits = refl
status_same m (whereabouts.Finished f) (finished c) fits = refl
status_same m x stage fits = absurd fits

posture_same : (us : List User) (b : ℕ) (y : Manned) (t : Seat) → BoardFits us b y t →
    posture y ≡ posture_of t
posture_same us b board.idle idle fits = refl
posture_same us b (board.loaded u h) (loaded v left home) fits = refl
posture_same us b board.dead dead fits = refl
posture_same us b y t fits = absurd fits

module _ (s : State) (a : Model) (good : Good s a) where
  user_same : (u : ℕ) (o : Option Whereabouts) → at_number s.users u ≡ o →
      option_map status o ≡ option_map (λ (p : User). status_of p.stage) (at_number a.users u)
  user_same zero None at = refl
  user_same zero (Some x) at = cc at
  user_same (suc i) None at =
      ap (option_map (λ (p : User). status_of p.stage))
      (sym (neither_there s.users a.users i good.users_long at))
  user_same (suc i) (Some x) at =
      let p = also_there s.users a.users i x good.users_long at in
      ap Some (status_same (machine_of (user a.users (suc i))) x (user a.users (suc i)).stage
      (good.users (suc i) x at) ∙ ap (λ (q : Option User). status_of (or_nobody q).stage) p.1) ∙
      ap (option_map (λ (q : User). status_of q.stage)) (sym p.1)

  board_same : (b : ℕ) (o : Option Manned) → slice_get s.boards b ≡ o →
      option_map posture o ≡ option_map posture_of (slice_get a.boards b)
  board_same b None at =
      ap (option_map posture_of) (sym (neither_there s.boards a.boards b good.boards_long at))
  board_same b (Some y) at =
      let t = also_there s.boards a.boards b y good.boards_long at in
      ap Some (posture_same a.users b y (seat a.boards b) (good.boards b y at) ∙
      ap (λ (r : Option Seat). posture_of (or_none r)) t.1) ∙
      ap (option_map posture_of) (sym t.1)

  pub stands_the_same : standing s ≡ model_standing a (is_empty s.cache.tables)
  stands_the_same = λ i. record {
    user = λ u. user_same u (at_number s.users u) refl i;
    board = λ b. board_same b (slice_get s.boards b) refl i;
    no_table = is_empty s.cache.tables;
  }

  -- memory is wanted of the core only where it may be of the model
  pub wanted_alone : (e : Event) → WantsMemory s e → MayWantMemory a e
  wanted_alone (event.Ask u c) wants = by_place (at_number s.users u) refl wants
    where
      by_place : (o : Option Whereabouts) → at_number s.users u ≡ o → MayWant o c →
          MayWantMemory a (event.Ask u c)
      by_place (Some (whereabouts.Resting r)) at wants =
          let p : User = user a.users u in
          let rests = at_rest (machine_of p) r p.stage (good.users u (whereabouts.Resting r) at) in
          ap (λ (m : Machine). may_want_memory m c) (sym rests.1) ∙ wants
      by_place o at wants = absurd wants
  wanted_alone e wants = absurd wants
