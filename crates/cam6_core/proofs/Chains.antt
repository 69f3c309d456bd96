-- Events one after another, by one event at a time.
use Rattle.std.proofs.Common.{List, [], ◌∷◌, ◌++◌, Option, Some, None, sym, refl, subst}
use Rattle.cam6_cache.specs.Cached.{is_empty}
use Rattle.cam6_commands.specs.declared.events.Event.{Event}
use Rattle.cam6_commands.specs.declared.outcomes.Outcome.{Outcome}
use Rattle.cam6_commands.specs.declared.outcomes.Outcome.TheVariants as outcome
use Rattle.cam6_commands.specs.declared.refused.Refused.{Refused as Reason}
use Rattle.cam6_core.specs.State.{State}
use Rattle.cam6_core.specs.Refusals.{Standing, standing, refusal}
use Rattle.cam6_core.specs.Model.{Model}
use Rattle.cam6_core.specs.Good.{Good}
use Rattle.cam6_core.specs.Goes.{Goes, LoadsTables, Obeys, Takes, Spares}
use Rattle.cam6_core.specs.Runs.{AnswersAs, IsTheModels, AreTheModels, after_one, after_all}
use Rattle.cam6_core.specs.Runs.{GoThrough, Counts}
use Rattle.cam6_core.proofs.Standings.{stands_the_same, wanted_alone}

pub none_yet : (s : State) → GoThrough s [] [] s
unfolding GoThrough
none_yet s = refl

-- an event before the others, and one after them
pub one_before : (old mid new : State) (es : List Event) (rs : List Outcome) (e : Event)
    (r : Outcome) → Goes old e r mid → LoadsTables e r old mid → Spares e old mid →
    GoThrough mid es rs new → GoThrough old (e ∷ es) (r ∷ rs) new
unfolding GoThrough
one_before old mid new es rs e r goes loads spares through = (mid, goes, loads, spares, through)

pub one_more : (old mid new : State) (es : List Event) (rs : List Outcome) (e : Event)
    (r : Outcome) → GoThrough old es rs mid → Goes mid e r new → LoadsTables e r mid new →
    Spares e mid new → GoThrough old (es ++ e ∷ []) (rs ++ r ∷ []) new
unfolding GoThrough
one_more old mid new [] [] e r through goes loads spares = (
  new,
  subst (λ (s : State). Goes s e r new) through goes,
  subst (λ (s : State). LoadsTables e r s new) through loads,
  subst (λ (s : State). Spares e s new) through spares,
  refl,
)
one_more old mid new [] (q ∷ rs) e r through goes loads spares = absurd through
one_more old mid new (d ∷ es) [] e r through goes loads spares = absurd through
one_more old mid new (d ∷ es) (q ∷ rs) e r through goes loads spares = (
  through.0,
  through.1,
  through.2,
  through.3,
  one_more through.0 mid new es rs e r through.4 goes loads spares,
)

-- one event, as the model has it
module _ (old : State) (e : Event) (new : State) (a : Model) (good : Good old a) where
  taken : (r : Outcome) → Takes old e r new →
      AnswersAs None a e r × Good new (after_one a e r)
  taken outcome.NoMemory takes =
      (wanted_alone old a good e takes.0, subst (λ (s : State). Good s a) (sym takes.1) good)
  taken (outcome.Refused reason) takes = absurd takes
  taken (outcome.Asked left) takes = takes a good
  taken (outcome.Leased left) takes = takes a good
  taken (outcome.Banded left) takes = takes a good
  taken (outcome.Preempted left) takes = takes a good
  taken (outcome.Failed left) takes = takes a good
  taken outcome.Repaired takes = takes a good
  taken outcome.Evicted takes = takes a good
  taken (outcome.Collected reply) takes = takes a good

  obeyed : (o : Option Reason) (r : Outcome) → Obeys o old e r new →
      AnswersAs o a e r × Good new (after_one a e r)
  obeyed (Some reason) r obeys = (
    obeys.0,
    subst (λ (q : Outcome). Good new (after_one a e q)) (sym obeys.0)
        (subst (λ (s : State). Good s a) (sym obeys.1) good),
  )
  obeyed None r obeys = taken r obeys

  pub one_goes : (r : Outcome) → Goes old e r new →
      IsTheModels a e r × Good new (after_one a e r)
  one_goes r goes =
      let both = obeyed (refusal (standing old) e) r goes in (
        (
          is_empty old.cache.tables,
          subst (λ (z : Standing). AnswersAs (refusal z e) a e r) (stands_the_same old a good)
              both.0,
        ),
        both.1,
      )

pub counts : (es : List Event) (rs : List Outcome) (old new : State) →
    GoThrough old es rs new → Counts old es rs new
unfolding GoThrough after_all AreTheModels
counts [] [] old new through a good = (tt, subst (λ (s : State). Good s a) (sym through) good)
counts [] (r ∷ rs) old new through a good = absurd through
counts (e ∷ es) [] old new through a good = absurd through
counts (e ∷ es) (r ∷ rs) old new through a good =
    let one = one_goes old e through.0 a good r through.1 in
    let rest = counts es rs through.0 new through.4 (after_one a e r) one.1 in
    ((one.0, rest.0), rest.1)
