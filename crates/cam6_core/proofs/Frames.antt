-- A core agrees with the model as before where one user or one board, or one of each, changes in both.
use Rattle.std.proofs.Common.{◌≡◌, ◌≢◌, ◌∙◌, ℕ, ◌<◌, List, length, set, Some, sym, ap, subst, arith}
use Rattle.std.proofs.Common.{length-set}
use Rattle.std.specs.List.{slice_get}
use mathlib.Core.Logic.{dite}
use native.Mathlib.Decide.{ℕ_discrete}
use Rattle.cam6_model.specs.Machine.{Machine}
use Rattle.cam6_station.specs.Held.{Manned, Held}
use Rattle.cam6_station.specs.Held as board
use Rattle.cam6_core.specs.State.{State, at_number, with_number, with_user, with_board, IsNumber}
use Rattle.cam6_core.specs.Model as model
use Rattle.cam6_core.specs.Model.{Stage, out, Seat, idle, loaded, dead, User, Model}
use Rattle.cam6_core.specs.Model.{user, or_nobody, seat, or_none, machine_of}
use Rattle.cam6_core.specs.Good.{UserFits, IsOutWith, BoardFits, IsLoadedFor, IsOnHisBoard, Good}
use Rattle.cam6_core.specs.declared.parts.Whereabouts.{Whereabouts}
use Rattle.cam6_core.proofs.Numbers.{one_of, set_here, set_else, long_with, here_with, else_with}

-- the user is on no board but perhaps this one, or on none
abbrev pub IsOnlyOn : ℕ → Stage → Type 0
IsOnlyOn b (out d c) = d ≡ b
IsOnlyOn b stage = Unit {0}

abbrev pub IsOnNone : Stage → Type 0
IsOnNone (out d c) = ⊥
IsOnNone stage = Unit {0}

not_here : (m : Machine) (b : ℕ) (h : Held) (stage : Stage) → IsOnNone stage →
    IsOutWith m b h stage → ⊥
not_here m b h (out d c) free held = free
not_here m b h stage free held = absurd held

not_there : (m : Machine) (b d : ℕ) (h : Held) (stage : Stage) → IsOnlyOn b stage → d ≢ b →
    IsOutWith m d h stage → ⊥
not_there m b d h (out e c) only apart held = apart (sym held.0 ∙ only)
not_there m b d h stage only apart held = absurd held

pub user_else : (us : List User) (u v : ℕ) (p : User) → v ≢ u →
    user (with_number us u p) v ≡ user us v
user_else us u v p apart = ap or_nobody (else_with us u v p apart)

pub user_here : (us : List User) (u : ℕ) (p : User) → IsNumber (length us) u →
    user (with_number us u p) u ≡ p
user_here us u p is = ap or_nobody (here_with us u p is)

pub seat_here : (ss : List Seat) (b : ℕ) (t : Seat) → b < length ss → seat (set ss b t) b ≡ t
seat_here ss b t is = ap or_none (set_here ss b t is)

seat_else : (ss : List Seat) (b d : ℕ) (t : Seat) → d ≢ b → seat (set ss b t) d ≡ seat ss d
seat_else ss b d t apart = ap or_none (set_else ss b d t apart)

-- who is out on no board wants none that is theirs
pub rests_anywhere : (bs : List Seat) (u : ℕ) (stage : Stage) → IsOnNone stage →
    IsOnHisBoard bs u stage
rests_anywhere bs u (out d c) free = absurd free
rests_anywhere bs u stage free = tt

-- one board changes, and is still loaded for whom it was
still_theirs : (bs : List Seat) (b : ℕ) (t : Seat) (v : ℕ) (stage : Stage) → b < length bs →
    (IsLoadedFor v (seat bs b) → IsLoadedFor v t) → IsOnHisBoard bs v stage →
    IsOnHisBoard (set bs b t) v stage
still_theirs bs b t v (out d c) there stays theirs = dite (ℕ_discrete d b)
    (λ same. subst (IsLoadedFor v) (sym (ap (seat (set bs b t)) same ∙ seat_here bs b t there))
    (stays (subst (λ k. IsLoadedFor v (seat bs k)) same theirs)))
    (λ apart. subst (IsLoadedFor v) (sym (seat_else bs b d t apart)) theirs)
still_theirs bs b t v stage there stays theirs = tt

-- a board that doesn't hold the user
others : (us : List User) (u : ℕ) (p : User) (b : ℕ) (y : Manned) (t : Seat) →
    ((h : Held) → IsOutWith (machine_of (user us u)) b h (user us u).stage → ⊥) →
    BoardFits us b y t → BoardFits (with_number us u p) b y t
others us u p b board.idle idle nay fits = fits
others us u p b board.dead dead nay fits = fits
others us u p b (board.loaded v h) (loaded w left home) nay fits =
    let apart : v ≢ u =
    (λ is. nay h (subst (λ (k : ℕ). IsOutWith (machine_of (user us k)) b h (user us k).stage) is
    fits.3)) in (
      fits.0,
      fits.1,
      fits.2,
      subst (λ (q : User). IsOutWith (machine_of q) b h q.stage)
          (sym (user_else us u v p apart)) fits.3,
    )
others us u p b y t nay fits = absurd fits

module _ (s : State) (a : Model) (good : Good s a) where
  -- users, of whom one changes
  users_set : (u : ℕ) (x : Whereabouts) (p : User) → IsNumber (length s.users) u →
      UserFits (machine_of p) x p.stage → (v : ℕ) (y : Whereabouts) →
      at_number (with_number s.users u x) v ≡ Some y →
      UserFits (machine_of (user (with_number a.users u p) v)) y
      (user (with_number a.users u p) v).stage
  users_set u x p is fits v y at = dite (ℕ_discrete v u)
      (λ same.
      let ey : x ≡ y = one_of (at_number (with_number s.users u x) u) x y
      (here_with s.users u x is)
      (ap (at_number (with_number s.users u x)) (sym same) ∙ at) in
      let there : IsNumber (length a.users) u =
      subst (λ (n : ℕ). IsNumber n u) good.users_long is in
      let ep : p ≡ user (with_number a.users u p) v =
      sym (ap (user (with_number a.users u p)) same ∙ user_here a.users u p there) in
      subst (λ (q : User). UserFits (machine_of q) y q.stage) ep
      (subst (λ (z : Whereabouts). UserFits (machine_of p) z p.stage) ey fits))
      (λ apart. subst (λ (q : User). UserFits (machine_of q) y q.stage)
      (sym (user_else a.users u v p apart))
      (good.users v y (sym (else_with s.users u v x apart) ∙ at)))

  -- boards, of which one changes, over users of whom each other board says what it said
  boards_set : (us : List User) (b : ℕ) (y : Manned) (t : Seat) → b < length s.boards →
      BoardFits us b y t →
      ((d : ℕ) (z : Manned) (r : Seat) → d ≢ b → BoardFits a.users d z r → BoardFits us d z r) →
      (d : ℕ) (z : Manned) → slice_get (set s.boards b y) d ≡ Some z →
      BoardFits us d z (seat (set a.boards b t) d)
  boards_set us b y t is fits rest d z at = dite (ℕ_discrete d b)
      (λ same.
      let ez : y ≡ z = one_of (slice_get (set s.boards b y) b) y z (set_here s.boards b y is)
      (ap (slice_get (set s.boards b y)) (sym same) ∙ at) in
      let there : b < length a.boards = omega (arith, is, good.boards_long) in
      let et : t ≡ seat (set a.boards b t) d =
      sym (ap (seat (set a.boards b t)) same ∙ seat_here a.boards b t there) in
      subst (λ (k : ℕ). BoardFits us k z (seat (set a.boards b t) d)) (sym same)
      (subst (λ (r : Seat). BoardFits us b z r) et
      (subst (λ (k : Manned). BoardFits us b k t) ez fits)))
      (λ apart. subst (BoardFits us d z) (sym (seat_else a.boards b d t apart))
      (rest d z (seat a.boards d) apart
      (good.boards d z (sym (set_else s.boards b d y apart) ∙ at))))

  -- users who are out, of whom one changes
  users_out : (u : ℕ) (p : User) (bs : List Seat) → IsNumber (length s.users) u →
      IsOnHisBoard bs u p.stage →
      ((v : ℕ) → v ≢ u → IsOnHisBoard bs v (user a.users v).stage) →
      (v : ℕ) → IsOnHisBoard bs v (user (with_number a.users u p) v).stage
  users_out u p bs is mine rest v = dite (ℕ_discrete v u)
      (λ same.
      let there : IsNumber (length a.users) u =
      subst (λ (n : ℕ). IsNumber n u) good.users_long is in
      let ep : p ≡ user (with_number a.users u p) v =
      sym (ap (user (with_number a.users u p)) same ∙ user_here a.users u p there) in
      subst (λ (k : ℕ). IsOnHisBoard bs k (user (with_number a.users u p) v).stage) (sym same)
      (subst (λ (q : User). IsOnHisBoard bs u q.stage) ep mine))
      (λ apart. subst (λ (q : User). IsOnHisBoard bs v q.stage)
      (sym (user_else a.users u v p apart)) (rest v apart))

  -- one user, who is on no board
  pub user_moves : (u : ℕ) (x : Whereabouts) (p : User) → IsNumber (length s.users) u →
      IsOnNone (user a.users u).stage → IsOnNone p.stage → UserFits (machine_of p) x p.stage →
      Good (with_user s u x) (model.with_user a u p)
  user_moves u x p is free rests fits = record {
    users_long = long_with s.users u x ∙ good.users_long ∙ sym (long_with a.users u p);
    boards_long = good.boards_long;
    users = users_set u x p is fits;
    boards = λ d z at. others a.users u p d z (seat a.boards d)
        (λ h held. not_here (machine_of (user a.users u)) d h (user a.users u).stage free held)
        (good.boards d z at);
    out = users_out u p a.boards is (rests_anywhere a.boards u p.stage rests)
        (λ v apart. good.out v);
    tables = good.tables;
  }

  -- one board, with the same user if any
  pub board_moves : (b : ℕ) (y : Manned) (t : Seat) → b < length s.boards →
      BoardFits a.users b y t →
      ((v : ℕ) → IsLoadedFor v (seat a.boards b) → IsLoadedFor v t) →
      Good (with_board s b y) (model.with_seat a b t)
  board_moves b y t is fits stays = record {
    users_long = good.users_long;
    boards_long = length-set s.boards b y ∙ good.boards_long ∙ sym (length-set a.boards b t);
    users = good.users;
    boards = boards_set a.users b y t is fits (λ d z r apart held. held);
    out = λ v. still_theirs a.boards b t v (user a.users v).stage
        (omega (arith, is, good.boards_long)) (stays v) (good.out v);
    tables = good.tables;
  }

  -- a user who goes to the board, or comes from it
  pub both_move : (u : ℕ) (x : Whereabouts) (p : User) (b : ℕ) (y : Manned) (t : Seat) →
      IsNumber (length s.users) u → b < length s.boards → IsOnlyOn b (user a.users u).stage →
      UserFits (machine_of p) x p.stage → BoardFits (with_number a.users u p) b y t →
      IsOnHisBoard (set a.boards b t) u p.stage →
      ((v : ℕ) → v ≢ u → IsLoadedFor v (seat a.boards b) → ⊥) →
      Good (with_board (with_user s u x) b y) (model.with_both a u p b t)
  both_move u x p b y t is there only fits held mine nobody = record {
    users_long = long_with s.users u x ∙ good.users_long ∙ sym (long_with a.users u p);
    boards_long = length-set s.boards b y ∙ good.boards_long ∙ sym (length-set a.boards b t);
    users = users_set u x p is fits;
    boards = boards_set (with_number a.users u p) b y t there held
        (λ d z r apart at. others a.users u p d z r
        (λ h out. not_there (machine_of (user a.users u)) b d h (user a.users u).stage only apart
        out) at);
    out = users_out u p (set a.boards b t) is mine
        (λ v apart. still_theirs a.boards b t v (user a.users v).stage
        (omega (arith, there, good.boards_long)) (λ theirs. absurd (nobody v apart theirs))
        (good.out v));
    tables = good.tables;
  }
