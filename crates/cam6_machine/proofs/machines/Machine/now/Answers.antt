use Rattle.cam6_commands.specs.declared.commands.Command.TheVariants as command
use Rattle.cam6_machine.proofs.Answering.{told, works, wants_none}
use Rattle.cam6_machine.proofs.machines.Machine.now.Goals as goal

pub returns-in_ok-define-in-Rule-clause-reply : goal.returns-in_ok-define-in-Rule-clause-reply
returns-in_ok-define-in-Rule-clause-reply c =
    told _ c.args.self.now (command.Rule c.in-Rule.name c.in-Rule.wiring c.in-Rule.text)
    c.args.command c.in_ok-define-in-Rule.field-0 c.self.view_is c.in-Rule.is
    (c.in_ok-define-in-Rule.ensures.reply c.self.inside.image)

pub returns-in_err-define-in-Rule-clause-memory : goal.returns-in_err-define-in-Rule-clause-memory
returns-in_err-define-in-Rule-clause-memory c = λ none.
    let no = wants_none _ c.args.self.now (command.Rule c.in-Rule.name c.in-Rule.wiring c.in-Rule.text)
    c.args.command c.self.view_is c.in-Rule.is none in
    let never = c.in_err-define-in-Rule.ensures.memory c.self.inside.image no.0 in
    cc never

pub returns-in-Drop-clause-reply : goal.returns-in-Drop-clause-reply
returns-in-Drop-clause-reply c =
    told _ c.args.self.now (command.Drop c.in-Drop.name) c.args.command c.drop_rule.result
    c.self-in-Drop.view_is c.in-Drop.is (c.drop_rule.ensures.reply c.self-in-Drop.inside.image)

pub returns-in_ok-list_rules-in-Rules-clause-reply : goal.returns-in_ok-list_rules-in-Rules-clause-reply
returns-in_ok-list_rules-in-Rules-clause-reply c =
    told _ c.args.self.now command.Rules c.args.command c.in_ok-list_rules-in-Rules.field-0
    c.self-in-Rules.view_is c.in-Rules.is
    (c.in_ok-list_rules-in-Rules.ensures.reply c.self-in-Rules.inside.image)

pub returns-in_err-list_rules-in-Rules-clause-memory : goal.returns-in_err-list_rules-in-Rules-clause-memory
returns-in_err-list_rules-in-Rules-clause-memory c = λ none.
    let no = wants_none _ c.args.self.now command.Rules c.args.command c.self-in-Rules.view_is
    c.in-Rules.is none in
    let never = c.in_err-list_rules-in-Rules.ensures.memory c.self-in-Rules.inside.image no.1 in
    cc never

pub returns-in-Cycle-clause-reply : goal.returns-in-Cycle-clause-reply
returns-in-Cycle-clause-reply c =
    told _ c.args.self.now (command.Cycle c.in-Cycle.entries) c.args.command c.set_cycle.result
    c.self-in-Cycle.view_is c.in-Cycle.is (c.set_cycle.ensures.reply c.self-in-Cycle.inside.image)

pub returns-in-Run-clause-work : goal.returns-in-Run-clause-work
returns-in-Run-clause-work c =
    works _ c.args.self.now (command.Run c.in-Run.n) c.args.command _ c.self-in-Run.view_is
    c.in-Run.is (c.work_of_run.ensures.work c.self-in-Run.inside.image)

pub returns-in-Back-clause-work : goal.returns-in-Back-clause-work
returns-in-Back-clause-work c =
    works _ c.args.self.now (command.Back c.in-Back.n) c.args.command _ c.self-in-Back.view_is
    c.in-Back.is (c.work_of_back.ensures.work c.self-in-Back.inside.image)

pub returns-in-Map-clause-reply : goal.returns-in-Map-clause-reply
returns-in-Map-clause-reply c =
    told _ c.args.self.now (command.Map c.in-Map.colours) c.args.command c.set_colours.result
    c.self-in-Map.view_is c.in-Map.is (c.set_colours.ensures.reply c.self-in-Map.inside.image)
