use Rattle.std.proofs.Common.{◌≡◌, ◌∙◌, sym, ap, subst}
use Rattle.cam6_machine.specs.AtOnce.{CanWork}
use Rattle.cam6_machine.specs.Stored.{StoredMachine, machine_of}
use Rattle.cam6_machine.specs.declared.replies.Now.TheVariants.{Work}
use Rattle.cam6_slot.specs.declared.parked.Parked.TheVariants as parked
use Rattle.cam6_slot.specs.AtOnce.{Says}
use Rattle.cam6_slot.specs.Works.{StoredWork, machine_at_home, command_in}
use Rattle.cam6_slot.specs.Parking.{StoredQueued}
use Rattle.cam6_slot.specs.Lefts.{bands_of, queued_left, queued_home}
use Rattle.cam6_slot.specs.Stands.{Stands}
use Rattle.cam6_slot.proofs.Beginning.{can_begin, begins_standing, begins_with_all, begins_at_home}
use Rattle.cam6_slot.proofs.Beginning.{begins_it}
use Rattle.cam6_slot.proofs.resting.Resting.queue.Goals as goal

pub begin-work-requires-clause-can : goal.begin-work-requires-clause-can
begin-work-requires-clause-can c =
    can_begin c.args.steps c.args.direction c.self.inside.machine c.into_parts-kept.result.0
    c.into_parts-kept.ensures.kept
    (subst (λ (s : StoredMachine). CanWork (Work c.args.steps c.args.direction) (machine_of s))
    (sym c.self.view_is) c.requires)

pub returns-clause-stands : goal.returns-clause-stands
returns-clause-stands c m by said =
    let is = c.new.ensures ∙
    ap (λ (w : StoredWork). record { work = w; parked = parked.Spare c.into_parts-kept.result.2 })
    c.begin-work.ensures in
    let its : Says m by (Work c.args.steps c.args.direction) (machine_of c.self.inside.machine) =
    subst (λ (s : StoredMachine). Says m by (Work c.args.steps c.args.direction) (machine_of s))
    (sym c.self.view_is) said in
    subst (λ (q : StoredQueued). Stands q m by) (sym is)
    (begins_standing c.args.steps c.args.direction c.self.inside.machine c.into_parts-kept.result.0
    c.into_parts-kept.result.1.planes c.into_parts-kept.result.2 c.into_parts-kept.ensures.kept
    c.into_parts-kept.ensures.image m by its c.limit-limit.ensures.machine)

pub returns-clause-left : goal.returns-clause-left
returns-clause-left c m by said =
    let is = c.new.ensures ∙
    ap (λ (w : StoredWork). record { work = w; parked = parked.Spare c.into_parts-kept.result.2 })
    c.begin-work.ensures in
    let its : Says m by (Work c.args.steps c.args.direction) (machine_of c.self.inside.machine) =
    subst (λ (s : StoredMachine). Says m by (Work c.args.steps c.args.direction) (machine_of s))
    (sym c.self.view_is) said in
    subst (λ (q : StoredQueued). queued_left q ≡ bands_of m by) (sym is)
    (begins_with_all c.args.steps c.args.direction c.self.inside.machine c.into_parts-kept.result.0
    c.into_parts-kept.result.1.planes c.into_parts-kept.result.2 c.into_parts-kept.ensures.kept
    c.into_parts-kept.ensures.image m by its)

pub returns-clause-home : goal.returns-clause-home
returns-clause-home c m by said =
    let is = c.new.ensures ∙
    ap (λ (w : StoredWork). record { work = w; parked = parked.Spare c.into_parts-kept.result.2 })
    c.begin-work.ensures in
    let its : Says m by (Work c.args.steps c.args.direction) (machine_of c.self.inside.machine) =
    subst (λ (s : StoredMachine). Says m by (Work c.args.steps c.args.direction) (machine_of s))
    (sym c.self.view_is) said in
    subst (λ (q : StoredQueued). queued_home q ≡ bands_of m by) (sym is)
    (begins_at_home c.args.steps c.args.direction c.self.inside.machine c.into_parts-kept.result.0
    c.into_parts-kept.result.1.planes c.into_parts-kept.result.2 c.into_parts-kept.ensures.kept
    c.into_parts-kept.ensures.image m by its)

pub returns-clause-opens : goal.returns-clause-opens
returns-clause-opens c m by said =
    let is = c.new.ensures ∙
    ap (λ (w : StoredWork). record { work = w; parked = parked.Spare c.into_parts-kept.result.2 })
    c.begin-work.ensures in
    let its : Says m by (Work c.args.steps c.args.direction) (machine_of c.self.inside.machine) =
    subst (λ (s : StoredMachine). Says m by (Work c.args.steps c.args.direction) (machine_of s))
    (sym c.self.view_is) said in
    subst (λ (q : StoredQueued). (machine_at_home q.work ≡ m) × (command_in q.work ≡ by)) (sym is)
    (begins_it c.args.steps c.args.direction c.self.inside.machine c.into_parts-kept.result.0
    c.into_parts-kept.result.1.planes c.into_parts-kept.result.2 c.into_parts-kept.ensures.kept
    c.into_parts-kept.ensures.image m by its)
