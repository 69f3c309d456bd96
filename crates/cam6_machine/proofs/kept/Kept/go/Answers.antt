use Rattle.std.proofs.Common.{◌≡◌, ◌∙◌, List, ap, sym, subst}
use Rattle.cam6_cycle.specs.declared.entries.Entry.{Entry}
use Rattle.cam6_model.specs.Alone.{command_of}
use Rattle.cam6_model.specs.Moves.{moved, CanMove}
use Rattle.cam6_model.specs.Refusals.{refusal}
use Rattle.cam6_model.proofs.Staying.{can_move}
use Rattle.cam6_rules.specs.Numbers.{entries_of, AreNumbered}
use Rattle.cam6_rules.specs.Filled.{AreTablesOf, AreTablesIf}
use Rattle.cam6_machine.specs.Stored.{StoredKept, machine_over}
use Rattle.cam6_machine.specs.Internal.Images.{stored_as}
use Rattle.cam6_machine.proofs.kept.Kept.go.Goals as goal

pub returns-clause-machine : goal.returns-clause-machine
returns-clause-machine c =
    let k = c.self.inside in
    let way = c.args.direction in
    let image = c.args.image.planes in
    let run = c.go_along-image in
    let same : entries_of k.cycle ≡ c.in-Some.cycle = ap entries_of c.in-Some.is in
    let accepted = ap (λ (v : StoredKept). refusal (machine_over image v) (command_of c.args.n way))
    c.self.view_is ∙ c.requires.accepted in
    let can = subst (λ (l : List Entry).
    CanMove way (stored_as image k.limit k.rules l k.position k.colours)) same
    (can_move (stored_as image k.limit k.rules (entries_of k.cycle) k.position k.colours) c.args.n
    way accepted) in
    let are = subst (AreTablesOf way k.rules c.in-Some.cycle) (sym c.by_use-tables.ensures.entries)
    (subst (λ o. AreTablesIf o k.rules c.in-Some.cycle c.fill.new.self.entries)
    c.in-Ok.ensures.filled c.fill.ensures.tables) in
    let made = run.ensures.steps k.limit k.rules k.colours c.self.invariant.0.rules.own
    (subst (AreNumbered k.rules) same c.self.invariant.0.numbered) are can in
    subst (λ (l : List Entry).
    stored_as run.result.0.planes k.limit k.rules l run.result.1 k.colours
    ≡ moved way c.args.n (stored_as image k.limit k.rules l k.position k.colours)) (sym same) made ∙
    ap (λ (v : StoredKept). moved way c.args.n (machine_over image v)) c.self.view_is
