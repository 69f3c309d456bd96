use Rattle.std.proofs.Common.{◌≡◌, ◌∙◌, ap, sym, true}
use Rattle.cam6_board.specs.Flaky.{is_due}
use Rattle.cam6_board.proofs.Calls.{keeps_count, counts_fault}
use Rattle.cam6_board.proofs.flaky_boards.FlakyBoard.fails.Goals as goal

pub invariant_of-self : goal.invariant_of-self
invariant_of-self c =
    let due = c.self.inside.due.items in
    let is : is_due due ≡ true =
    ap is_due (sym c.deref.ensures.value) ∙ sym c.is_due-fails.ensures ∙ c.if-fails.true in
    counts_fault due c.count_call.new.due.items c.self.inside.faults
    c.count_call.ensures is c.self.invariant

pub invariant_of-self-else-fails : goal.invariant_of-self-else-fails
invariant_of-self-else-fails c =
    keeps_count c.self.inside.due.items c.count_call.new.due.items c.self.inside.faults
    c.count_call.ensures c.self.invariant
