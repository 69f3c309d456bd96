-- What the model has of a user is what the events and what came of them say.
use Rattle.std.proofs.Common.{◌≡◌, ◌∙◌, ℕ, ◌-◌, ◌==◌, ◌&&◌, cond, Bool, true, false, List, [], ◌∷◌}
use Rattle.std.proofs.Common.{◌++◌, length, set, Option, Some, None, sym, refl, ap, subst}
use Rattle.std.proofs.Common.{ne_eqb, eq-eqb, append_assoc, if◌then◌else◌}
use Rattle.std.proofs.lemmas.List.{append-nil}
use mathlib.Core.Logic.{dite}
use native.Mathlib.Decide.{ℕ_discrete}
use Rattle.cam6_commands.specs.declared.commands.Command.{Command}
use Rattle.cam6_commands.specs.declared.events.Event.{Event}
use Rattle.cam6_commands.specs.declared.events.Event.TheVariants as event
use Rattle.cam6_commands.specs.declared.outcomes.Outcome.{Outcome}
use Rattle.cam6_commands.specs.declared.outcomes.Outcome.TheVariants as outcome
use Rattle.cam6_commands.specs.declared.refused.Refused.{Refused as Reason}
use Rattle.cam6_commands.specs.declared.refused.Refused.TheVariants.{NoSuchNumber}
use Rattle.cam6_commands.specs.declared.replies.Reply.{Reply}
use Rattle.cam6_model.specs.Alone.{reply}
use Rattle.cam6_slot.specs.Lefts.{bands_of_step, bands_of, home_after}
use Rattle.cam6_core.specs.History.{replies_of}
use Rattle.cam6_core.specs.State.{with_number, IsNumber}
use Rattle.cam6_core.specs.Refusals.{refusal}
use Rattle.cam6_core.specs.Model.{Stage, resting, queued, out, finished, Seat, idle, loaded, dead}
use Rattle.cam6_core.specs.Model.{User, Model, user, seat, machine_of, at_stage, begun, over, back}
use Rattle.cam6_core.specs.Model.{with_both, with_seat, transition}
use Rattle.cam6_core.specs.Model.{ask, lease, band, preempt, fail, collect}
use Rattle.cam6_core.specs.Runs.{accepted, model_standing, AnswersAs, IsTheModels}
use Rattle.cam6_core.specs.Runs.{AreTheModels, after_one, after_all}
use Rattle.cam6_core.specs.Headline.{asked_by, given_to, commands, given}
use Rattle.cam6_core.proofs.Numbers.{long_with}
use Rattle.cam6_core.proofs.Frames.{user_here, user_else}

-- a list whose newest is first, with its newest last
abbrev pub in_order : {A : Type 0} → List A → List A
in_order [] = []
in_order (x ∷ earlier) = in_order earlier ++ x ∷ []

-- all commands of a user that were accepted, the newest first
abbrev pub listed_at : Stage → List Command → List Command
listed_at resting cs = cs
listed_at (queued c left home) cs = c ∷ cs
listed_at (out b c) cs = c ∷ cs
listed_at (finished c) cs = c ∷ cs

-- the commands of a user that were accepted, and the replies that they have collected, in order
abbrev pub asked : User → List Command
asked p = in_order (listed_at p.stage p.done)

abbrev pub told : User → List Reply
told p = in_order (replies_of p.limit p.done)

-- nothing, whichever it is
neither : {A : Type 0} (b : Bool) → cond {A = List A} b [] [] ≡ []
neither true = refl
neither false = refl

-- from one user to another of their limit with these commands and these replies beside
pub record Gains (p q : User) (cs : List Command) (xs : List Reply) : Type 0 where
  pub limit : q.limit ≡ p.limit
  pub asks : asked q ≡ asked p ++ cs
  pub gets : told q ≡ told p ++ xs

same_user : (p : User) → Gains p p [] []
same_user p = record {
  limit = refl;
  asks = sym (append-nil (asked p));
  gets = sym (append-nil (told p));
}

-- another stage of the same commands
restaged : (p : User) (stage : Stage) → listed_at stage p.done ≡ listed_at p.stage p.done →
    Gains p (at_stage p stage) [] []
restaged p stage same = record {
  limit = refl;
  asks = ap in_order same ∙ sym (append-nil (asked p));
  gets = sym (append-nil (told p));
}

listed_begun : (c : Command) (cs : List Command) (n : ℕ) → listed_at (begun c n) cs ≡ c ∷ cs
listed_begun c cs n = by_test (n == 0)
  where
    by_test : (b : Bool) → listed_at (cond b (finished c) (queued c n n)) cs ≡ c ∷ cs
    by_test true = refl
    by_test false = refl

listed_over : (stage : Stage) (cs : List Command) → listed_at (over stage) cs ≡ listed_at stage cs
listed_over (out b c) cs = refl
listed_over stage cs = refl

listed_back : (left home : ℕ) (stage : Stage) (cs : List Command) →
    listed_at (back left home stage) cs ≡ listed_at stage cs
listed_back left home (out b c) cs = refl
listed_back left home stage cs = refl

-- a user at rest asks, and one whose command is finished collects
asks_one : (p : User) (c : Command) (n : ℕ) → p.stage ≡ resting →
    Gains p (at_stage p (begun c n)) (c ∷ []) []
asks_one p c n rests = record {
  limit = refl;
  asks = ap in_order (listed_begun c p.done n) ∙
      ap (λ stage. in_order (listed_at stage p.done) ++ c ∷ []) (sym rests);
  gets = sym (append-nil (told p));
}

collects_one : (p : User) (c : Command) → p.stage ≡ finished c →
    Gains p (record p { done = c ∷ p.done; stage = resting }) [] (reply (machine_of p) c ∷ [])
collects_one p c ends = record {
  limit = refl;
  asks = ap (λ stage. in_order (listed_at stage p.done)) (sym ends) ∙ sym (append-nil (asked p));
  gets = refl;
}

-- what an event makes of one user of a number that there is
record Steps (a : Model) (u : ℕ) (e : Event) (t : Model × Outcome) : Type 0 where
  long : length t.0.users ≡ length a.users
  gains : IsNumber (length a.users) u →
      Gains (user a.users u) (user t.0.users u) (asked_by u e t.1) (given_to u e t.1)

module _ (us : List User) (u : ℕ) (is : IsNumber (length us) u) where
  -- one user changes, this or another
  changed : (v : ℕ) (q : User) (cs : List Command) (xs : List Reply) →
      Gains (user us v) q cs xs →
      Gains (user us u) (user (with_number us v q) u)
      (if v == u then cs else []) (if v == u then xs else [])
  changed v q cs xs gains = dite (ℕ_discrete v u)
      (λ same.
      let here : q ≡ user (with_number us v q) u =
      sym (ap (λ k. user (with_number us k q) u) same ∙ user_here us u q is) in
      subst (λ (b : Bool). Gains (user us u) (user (with_number us v q) u)
      (cond b cs []) (cond b xs [])) (sym (eq-eqb v u same))
      (subst (λ (p : User). Gains (user us u) p cs xs) here
      (subst (λ (k : ℕ). Gains (user us k) q cs xs) same gains)))
      (λ apart.
      let there : user us u ≡ user (with_number us v q) u =
      sym (user_else us v u q (λ same. apart (sym same))) in
      subst (λ (b : Bool). Gains (user us u) (user (with_number us v q) u)
      (cond b cs []) (cond b xs [])) (sym (ne_eqb v u apart))
      (subst (λ (p : User). Gains (user us u) p [] []) there (same_user (user us u))))

  -- one user changes, and gains nothing
  kept : (v : ℕ) (q : User) → Gains (user us v) q [] [] →
      Gains (user us u) (user (with_number us v q) u) [] []
  kept v q gains =
      let p : User = user (with_number us v q) u in
      subst (λ (cs : List Command). Gains (user us u) p cs []) (neither (v == u))
      (subst (Gains (user us u) p (if v == u then [] else [])) (neither (v == u))
      (changed v q [] [] gains))

module _ (a : Model) (u : ℕ) where
  -- no user changes
  no_user : (e : Event) (r : Outcome) (bs : List Seat) → asked_by u e r ≡ [] →
      given_to u e r ≡ [] → Steps a u e (record a { boards = bs }, r)
  no_user e r bs no_command no_reply = record {
    long = refl;
    gains = λ is. subst (λ (cs : List Command). Gains (user a.users u) (user a.users u) cs
        (given_to u e r)) (sym no_command)
        (subst (Gains (user a.users u) (user a.users u) []) (sym no_reply)
        (same_user (user a.users u)));
  }

  -- one user changes, and gains nothing
  one_user : (e : Event) (r : Outcome) (v : ℕ) (q : User) (bs : List Seat) →
      asked_by u e r ≡ [] → given_to u e r ≡ [] → Gains (user a.users v) q [] [] →
      Steps a u e (record { users = with_number a.users v q; boards = bs }, r)
  one_user e r v q bs no_command no_reply gains = record {
    long = long_with a.users v q;
    gains = λ is.
        let p : User = user (with_number a.users v q) u in
        subst (λ (cs : List Command). Gains (user a.users u) p cs (given_to u e r))
        (sym no_command) (subst (Gains (user a.users u) p []) (sym no_reply)
        (kept a.users u is v q gains));
  }

  ask_step : (v : ℕ) (c : Command) (stage : Stage) → (user a.users v).stage ≡ stage →
      Steps a u (event.Ask v c) (ask a v c (user a.users v) stage)
  ask_step v c resting rests =
      let p : User = user a.users v in
      let n = bands_of (machine_of p) c in
      let q : User = at_stage p (begun c n) in record {
        long = long_with a.users v q;
        gains = λ is. subst (Gains (user a.users u) (user (with_number a.users v q) u)
            (if v == u then c ∷ [] else [])) (neither (v == u))
            (changed a.users u is v q (c ∷ []) [] (asks_one p c n rests));
      }
  ask_step v c stage rests =
      no_user (event.Ask v c) (outcome.Refused NoSuchNumber) a.boards refl refl

  lease_step : (v b : ℕ) (stage : Stage) → (user a.users v).stage ≡ stage →
      Steps a u (event.Lease v b) (lease a v b (user a.users v) stage)
  lease_step v b (queued c left home) waits =
      let p : User = user a.users v in
      one_user (event.Lease v b) (outcome.Leased left) v (at_stage p (out b c))
      (set a.boards b (loaded v left home)) refl refl
      (restaged p (out b c) (ap (λ stage. listed_at stage p.done) (sym waits)))
  lease_step v b stage waits =
      no_user (event.Lease v b) (outcome.Refused NoSuchNumber) a.boards refl refl

  band_step : (b : ℕ) (t : Seat) → Steps a u (event.Band b) (band a b t)
  band_step b idle = no_user (event.Band b) (outcome.Refused NoSuchNumber) a.boards refl refl
  band_step b dead = no_user (event.Band b) (outcome.Refused NoSuchNumber) a.boards refl refl
  band_step b (loaded v left home) = by_test (left == 1)
    where
      by_test : (z : Bool) → Steps a u (event.Band b) (cond z (
        with_both a v (at_stage (user a.users v) (over (user a.users v).stage)) b idle,
        outcome.Banded 0,
      ) (with_seat a b (loaded v (left - 1) home), outcome.Banded (left - 1)))
      by_test true =
          let p : User = user a.users v in
          one_user (event.Band b) (outcome.Banded 0) v (at_stage p (over p.stage))
          (set a.boards b idle) refl refl
          (restaged p (over p.stage) (listed_over p.stage p.done))
      by_test false =
          no_user (event.Band b) (outcome.Banded (left - 1))
          (set a.boards b (loaded v (left - 1) home)) refl refl

  preempt_step : (b : ℕ) (t : Seat) → Steps a u (event.Preempt b) (preempt a b t)
  preempt_step b idle =
      no_user (event.Preempt b) (outcome.Refused NoSuchNumber) a.boards refl refl
  preempt_step b dead =
      no_user (event.Preempt b) (outcome.Refused NoSuchNumber) a.boards refl refl
  preempt_step b (loaded v left home) =
      let p : User = user a.users v in
      let goes_home = home_after (bands_of_step (machine_of p).side) left home in
      one_user (event.Preempt b) (outcome.Preempted left) v
      (at_stage p (back left goes_home p.stage)) (set a.boards b idle) refl refl
      (restaged p (back left goes_home p.stage) (listed_back left goes_home p.stage p.done))

  fail_step : (b : ℕ) (t : Seat) → Steps a u (event.Fail b) (fail a b t)
  fail_step b dead = no_user (event.Fail b) (outcome.Refused NoSuchNumber) a.boards refl refl
  fail_step b idle =
      no_user (event.Fail b) (outcome.Failed None) (set a.boards b dead) refl refl
  fail_step b (loaded v left home) =
      let p : User = user a.users v in
      one_user (event.Fail b) (outcome.Failed (Some home)) v
      (at_stage p (back home home p.stage)) (set a.boards b dead) refl refl
      (restaged p (back home home p.stage) (listed_back home home p.stage p.done))

  collect_step : (v : ℕ) (stage : Stage) → (user a.users v).stage ≡ stage →
      Steps a u (event.Collect v) (collect a v (user a.users v) stage)
  collect_step v (finished c) ends =
      let p : User = user a.users v in
      let q : User = record p { done = c ∷ p.done; stage = resting } in
      let x = reply (machine_of p) c in record {
        long = long_with a.users v q;
        gains = λ is. subst (λ (cs : List Command).
            Gains (user a.users u) (user (with_number a.users v q) u) cs
            (if v == u then x ∷ [] else [])) (neither (v == u))
            (changed a.users u is v q [] (x ∷ []) (collects_one p c ends));
      }
  collect_step v stage ends =
      no_user (event.Collect v) (outcome.Refused NoSuchNumber) a.boards refl refl

  step : (e : Event) → Steps a u e (transition a e)
  step (event.Ask v c) = ask_step v c (user a.users v).stage refl
  step (event.Lease v b) = lease_step v b (user a.users v).stage refl
  step (event.Band b) = band_step b (seat a.boards b)
  step (event.Preempt b) = preempt_step b (seat a.boards b)
  step (event.Fail b) = fail_step b (seat a.boards b)
  step (event.Repair b) =
      no_user (event.Repair b) outcome.Repaired (set a.boards b idle) refl refl
  step event.Evict = no_user event.Evict outcome.Evicted a.boards refl refl
  step (event.Collect v) = collect_step v (user a.users v).stage refl

  -- nothing is gained by what isn't accepted
  asks_nothing : (e : Event) (r : Outcome) → accepted r ≡ false → asked_by u e r ≡ []
  asks_nothing (event.Ask v c) r nay =
      ap (λ (b : Bool). cond (b && (v == u)) (c ∷ []) []) nay
  asks_nothing e r nay = refl

  gets_nothing : (e : Event) (r : Outcome) → accepted r ≡ false → given_to u e r ≡ []
  gets_nothing (event.Collect v) (outcome.Collected x) nay = cc nay
  gets_nothing e r nay = refl

  -- the same for what comes of an event, where that is the model's if it is accepted
  one : (e : Event) (r : Outcome) → (accepted r ≡ true → r ≡ (transition a e).1) →
      Steps a u e (after_one a e r, r)
  one e r law = by_test (accepted r) refl
    where
      by_test : (b : Bool) → accepted r ≡ b → Steps a u e (cond b (transition a e).0 a, r)
      by_test true took =
          subst (λ (q : Outcome). Steps a u e ((transition a e).0, q)) (sym (law took)) (step e)
      by_test false nay = no_user e r a.boards (asks_nothing e r nay) (gets_nothing e r nay)

-- what is accepted is the model's
of_answer : (o : Option Reason) (a : Model) (e : Event) (r : Outcome) → AnswersAs o a e r →
    accepted r ≡ true → r ≡ (transition a e).1
of_answer (Some reason) a e r answers took =
    let never : false ≡ true = sym (ap accepted answers) ∙ took in cc never
of_answer None a e outcome.NoMemory answers took = cc took
of_answer None a e (outcome.Refused reason) answers took = absurd answers
of_answer None a e (outcome.Asked left) answers took = answers
of_answer None a e (outcome.Leased left) answers took = answers
of_answer None a e (outcome.Banded left) answers took = answers
of_answer None a e (outcome.Preempted left) answers took = answers
of_answer None a e (outcome.Failed left) answers took = answers
of_answer None a e outcome.Repaired answers took = answers
of_answer None a e outcome.Evicted answers took = answers
of_answer None a e (outcome.Collected x) answers took = answers

one_of_models : (a : Model) (u : ℕ) (e : Event) (r : Outcome) → IsTheModels a e r →
    Steps a u e (after_one a e r, r)
one_of_models a u e r is =
    one a u e r (of_answer (refusal (model_standing a is.0) e) a e r is.1)

pub same_length : (es : List Event) (rs : List Outcome) (a : Model) → AreTheModels a es rs →
    length (after_all a es rs).users ≡ length a.users
unfolding after_all AreTheModels
same_length [] rs a are = refl
same_length (e ∷ es) [] a are = refl
same_length (e ∷ es) (r ∷ rs) a are =
    same_length es rs (after_one a e r) are.1 ∙ (one_of_models a 0 e r are.0).long

-- one gain after another
both_gains : (p q t : User) (cs ds : List Command) (xs ys : List Reply) → Gains p q cs xs →
    Gains q t ds ys → Gains p t (cs ++ ds) (xs ++ ys)
both_gains p q t cs ds xs ys before after = record {
  limit = after.limit ∙ before.limit;
  asks = after.asks ∙ ap (λ l. l ++ ds) before.asks ∙ append_assoc (asked p) cs ds;
  gets = after.gets ∙ ap (λ l. l ++ ys) before.gets ∙ append_assoc (told p) xs ys;
}

-- after all events
pub gains_all : (es : List Event) (rs : List Outcome) (a : Model) (u : ℕ) →
    IsNumber (length a.users) u → AreTheModels a es rs →
    Gains (user a.users u) (user (after_all a es rs).users u) (commands u es rs) (given u es rs)
unfolding commands given after_all AreTheModels
gains_all [] rs a u is are = same_user (user a.users u)
gains_all (e ∷ es) [] a u is are = same_user (user a.users u)
gains_all (e ∷ es) (r ∷ rs) a u is are =
    let b = after_one a e r in
    let s = one_of_models a u e r are.0 in
    both_gains (user a.users u) (user b.users u) (user (after_all b es rs).users u)
    (asked_by u e r) (commands u es rs) (given_to u e r) (given u es rs) (s.gains is)
    (gains_all es rs b u (subst (λ n. IsNumber n u) (sym s.long) is) are.1)
