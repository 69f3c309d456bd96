use Rattle.std.proofs.Common.{◌≡◌, ◌++◌, drop, take}
use Rattle.cam6_board.specs.Flaky.{later}
use Rattle.cam6_board.proofs.flaky_boards.count_call.Given as goal

abbrev pub invariant-loop-index : goal.invariant-loop-index
invariant-loop-index l =
    l.due.items ≡ later (take l.index l.initial.due.items) ++ drop l.index l.initial.due.items
