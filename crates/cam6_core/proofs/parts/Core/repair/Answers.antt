use Rattle.std.proofs.Common.{sym, refl, subst}
use Rattle.cam6_station.specs.Held as board
use Rattle.cam6_core.specs.Goes.{Moves, Spares}
use Rattle.cam6_commands.specs.declared.events.Event.TheVariants as event
use Rattle.cam6_commands.specs.declared.outcomes.Outcome.TheVariants as outcome
use Rattle.cam6_core.proofs.Boards.{repair_goes, spares_boards}
use Rattle.cam6_core.proofs.parts.Core.repair.Goals as goal

pub returns-clause-takes : goal.returns-clause-takes
returns-clause-takes c =
    let s = c.args.self.now in
    let b = c.args.board in
    subst (Moves s (event.Repair b) outcome.Repaired) (sym c.repair_board.ensures)
    (repair_goes s b c.requires)

pub returns-clause-others : goal.returns-clause-others
returns-clause-others c =
    let s = c.args.self.now in
    let b = c.args.board in
    subst (Spares (event.Repair b) s) (sym c.repair_board.ensures)
    (refl, spares_boards s b board.idle, refl)
