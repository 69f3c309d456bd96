-- The steps of a desk: put and collect.
use Rattle.std.proofs.Common.{◌≡◌, ◌∙◌, ℕ, [], ◌∷◌, Some, None, sym, refl, ap, subst}
use Rattle.std.proofs.Common.{◌<◌, Option, Bool, cond, not, arith, ne_eqb}
use Rattle.atomic_table.specs.Table.{Step}
use Rattle.cam6_commands.specs.declared.commands.Command.{Command}
use Rattle.cam6_commands.specs.declared.events.Event.TheVariants as event
use Rattle.cam6_commands.specs.declared.outcomes.Outcome.{Outcome}
use Rattle.cam6_commands.specs.declared.outcomes.Outcome.TheVariants as outcome
use Rattle.cam6_commands.specs.declared.replies.Reply.{Reply}
use Rattle.cam6_machine.specs.Stored as stored
use Rattle.cam6_model.specs.Alone.{reply, after}
use Rattle.cam6_slot.specs.Finished.{StoredFinished}
use Rattle.cam6_slot.specs.Lefts.{bands_of}
use Rattle.cam6_slot.specs.Parking.{StoredQueued}
use Rattle.cam6_slot.specs.declared.resting.Place.TheVariants.{Queued, Finished}
use Rattle.cam6_core.specs.Model.{Stage, resting, queued, finished, User, Model, user, machine_of}
use Rattle.cam6_core.specs.Model.{at_stage, begun, with_user, ask, collect, transition}
use Rattle.cam6_core.specs.Refusals.{Status, first, is_missing, is_waiting, is_finished}
use Rattle.cam6_commands.specs.declared.refused.Refused.{Refused}
use Rattle.cam6_commands.specs.declared.refused.Refused.TheVariants as why
use Rattle.cam6_handoff.specs.Rule.{Slot, Seated}
use Rattle.cam6_handoff.specs.Steps.{PutTells, CollectTells}
use Rattle.cam6_handoff_laws.specs.Says.{Says}
use Rattle.cam6_handoff_laws.specs.Steps.{user_of, HasUser, LeadsTo, IsBegun}
use Rattle.cam6_handoff_laws.proofs.Said as said
use Rattle.cam6_handoff_laws.proofs.Leading as leading

-- a command that has bands waits
begun_with : (c : Command) (n : ℕ) → 0 < n → begun c n ≡ queued c n n
begun_with c n some =
    ap (λ (b : Bool). cond b (finished c) (queued c n n)) (ne_eqb n 0 (λ e. omega (arith, e, some)))

module _ (a : Model) (p : User) (u : ℕ) (has : HasUser a u p) where
  -- an ask of a user who rests
  pub asks : (c : Command) → p.stage ≡ resting → (n : ℕ) → n ≡ bands_of (machine_of p) c → 0 < n →
      transition a (event.Ask u c) ≡ (with_user a u (at_stage p (queued c n n)), outcome.Asked n)
  asks c rests n is some =
      ap (λ (x : User). ask a u c x x.stage) (leading.user_is a u p has) ∙
      ap (ask a u c p) rests ∙
      ap (λ (k : ℕ). (with_user a u (at_stage p (begun c k)), outcome.Asked k)) (sym is) ∙
      ap (λ (s : Stage). (with_user a u (at_stage p s), outcome.Asked n)) (begun_with c n some)

  -- and of a command without bands
  pub asks_at_once : (c : Command) → p.stage ≡ resting → bands_of (machine_of p) c ≡ 0 →
      transition a (event.Ask u c) ≡ (with_user a u (at_stage p (finished c)), outcome.Asked 0)
  asks_at_once c rests none =
      ap (λ (x : User). ask a u c x x.stage) (leading.user_is a u p has) ∙
      ap (ask a u c p) rests ∙
      ap (λ (k : ℕ). (with_user a u (at_stage p (begun c k)), outcome.Asked k)) none

  -- a collect of what is finished
  pub collects : (c : Command) → p.stage ≡ finished c → transition a (event.Collect u) ≡ (
    with_user a u (record p { done = c ∷ p.done; stage = resting }),
    outcome.Collected (reply (machine_of p) c),
  )
  collects c is =
      ap (λ (x : User). collect a u x x.stage) (leading.user_is a u p has) ∙ ap (collect a u p) is

-- why they are refused, by where the user stands
abbrev pub ask_reason : Option Status → Option Refused
ask_reason o = first ((is_missing o, why.NoSuchNumber) ∷ (is_waiting o, why.UserIsWaiting) ∷ [])

abbrev pub collect_reason : Option Status → Option Refused
collect_reason o = first
    ((is_missing o, why.NoSuchNumber) ∷ (not (is_finished o), why.NothingIsFinished) ∷ [])

pub put_is_ask : (a : Model) (p : User) (c : Command) (q : StoredQueued) (step : Step Slot)
    (before after : Seated) (found : ℕ) → HasUser a (user_of step) p →
    Says (machine_of p) found None p.stage → IsBegun q (machine_of p) c →
    before.1 ≡ (step.word, Some (Queued q)) ∷ [] → PutTells step before found after →
    LeadsTo a (event.Ask (user_of step) c) (outcome.Asked (bands_of (machine_of p) c)) (user_of step)
    step.first (Some (Queued q))
put_is_ask a p c q step before after found has says begun at tells =
    let u = user_of step in
    let n = bands_of (machine_of p) c in
    let rests = said.rests (machine_of p) found p.stage tells.0 says in
    let y : User = at_stage p (queued c n n) in
    leading.led a (event.Ask u c) (outcome.Asked n) u step.first (Some (Queued q))
    (with_user a u y) y
    (λ (no_table : Bool). subst (λ (o : Option Status). ask_reason o ≡ None)
    (sym (leading.stands a u p resting no_table has rests)) refl)
    (asks a p u has c rests n refl begun.some) (leading.changed a u p y has)
    (subst (λ (k : ℕ). Says (machine_of p) k (Some (Queued q)) (queued c n n)) (sym tells.2)
    (begun.stands, sym begun.left, sym begun.home))

pub collect_is_collect : (a : Model) (p : User) (f : StoredFinished) (step : Step Slot)
    (before after : Seated) (found : ℕ) → HasUser a (user_of step) p →
    Says (machine_of p) found (Some (Finished f)) p.stage → CollectTells step before found after →
    LeadsTo a (event.Collect (user_of step)) (outcome.Collected f.told) (user_of step) step.second
    None
    × (machine_of (user (transition a (event.Collect (user_of step))).0.users (user_of step))
    ≡ stored.machine_of f.machine)
collect_is_collect a p f step before after found has says tells =
    let u = user_of step in
    let at = said.is_finished (machine_of p) found f p.stage says in
    let y : User = record p { done = at.command ∷ p.done; stage = resting } in
    let new = with_user a u y in
    let is : transition a (event.Collect u) ≡ (new, outcome.Collected f.told) =
    collects a p u has at.command at.stage_is ∙
    ap (λ (r : Reply). (new, outcome.Collected r)) (sym at.done.told) in
    let theirs = leading.changed a u p y has in (
      leading.led a (event.Collect u) (outcome.Collected f.told) u step.second None new y
          (λ (no_table : Bool). subst (λ (o : Option Status). collect_reason o ≡ None)
          (sym (leading.stands a u p (finished at.command) no_table has at.stage_is)) refl)
          is theirs
          (subst (λ (k : ℕ). Says (machine_of y) k None resting) (sym (tells.0 at.word).3) tt),
      ap (λ (t : Model × Outcome). machine_of (user t.0.users u)) is ∙ ap machine_of theirs ∙
          sym at.done.machine,
    )
