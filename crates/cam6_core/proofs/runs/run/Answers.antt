use Rattle.std.proofs.Common.{rules, ◌++◌, List, [], ◌∷◌, sym, ap, ◌∙◌, arith, append_assoc, subst}
use Rattle.std.proofs.lemmas.Grind.{common_steps}
use Rattle.cam6_commands.specs.declared.events.Event.{Event}
use Rattle.cam6_commands.specs.declared.outcomes.Outcome.{Outcome}
use Rattle.cam6_core.specs.Runs.{GoThrough}
use Rattle.cam6_core.proofs.Chains.{one_more, none_yet, counts}
use Rattle.cam6_core.proofs.Heads.{headline_from_new}
use Rattle.cam6_core.proofs.runs.run.Goals as goal

pub loop-event-init : goal.loop-event-init
loop-event-init c = record {
  done = subst (λ (rs : List Outcome). GoThrough c.args.core.now [] rs c.args.core.now)
      (sym c.in_ok-outcomes.ensures.items) (none_yet c.args.core.now);
  whole = c.into_iter-event-iterator.ensures.into_iter_gives.0;
  long = search rules;
  room = search rules;
}

pub loop-event-preserved : goal.loop-event-preserved
loop-event-preserved c =
    let l = c.loop-event in
    let i = l.invariant in record {
      done = subst (λ (rs : List Outcome). GoThrough c.args.core.now
          (l.yielded ++ c.in-Some.event ∷ []) rs c.apply-outcome.new.self)
          (sym c.push_reserved.ensures.items)
          (one_more c.args.core.now l.core c.apply-outcome.new.self l.yielded l.outcomes.items
          c.in-Some.event c.apply-outcome.result i.done c.apply-outcome.ensures.goes
          c.apply-outcome.ensures.loads c.apply-outcome.ensures.others);
      whole = append_assoc l.yielded (c.in-Some.event ∷ []) c.next.new.self.rest.items ∙
          ap (λ (es : List Event). l.yielded ++ es) (sym c.in-Some.ensures.steps.0) ∙ i.whole;
      long = grind (arith, common_steps);
      room = search rules;
    }

pub returns-clause-count : goal.returns-clause-count
returns-clause-count c =
    let l = c.loop-event in
    let done : GoThrough c.args.core.now c.args.events.items l.outcomes.items l.core =
    grind (arith, common_steps) in
    counts c.args.events.items l.outcomes.items c.args.core.now l.core done

pub returns-clause-headline : goal.returns-clause-headline
returns-clause-headline c =
    let l = c.loop-event in
    let done : GoThrough c.args.core.now c.args.events.items l.outcomes.items l.core =
    grind (arith, common_steps) in
    headline_from_new c.args.events.items l.outcomes.items c.args.core.now l.core done
