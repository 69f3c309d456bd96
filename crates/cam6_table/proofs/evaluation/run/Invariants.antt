use Rattle.std.proofs.Common.{◌≡◌, ◌+◌, ◌≤◌, length}
use Rattle.cam6_wiring.specs.Seen.{shown}
use Rattle.cam6_table.specs.Codes.{exec, steps_of, last_of}
use Rattle.cam6_table.proofs.evaluation.run.Given as goal

abbrev pub invariant-loop-remaining : goal.invariant-loop-remaining
invariant-loop-remaining l = record {
  same : exec (shown l.address) (last_of l.remaining l.code) 0 l.word l.state ≡
      exec (shown l.address) (last_of l.fn.from.remaining l.code) 0 l.fn.from.word l.fn.state;
  stepped : l.fn.steps + steps_of (shown l.address) (last_of l.remaining l.code) 0 l.word l.state ≡
      l.steps + steps_of (shown l.address) (last_of l.fn.from.remaining l.code) 0 l.fn.from.word
      l.fn.state;
  within : l.remaining ≤ length l.code;
  left : l.remaining ≤ l.steps;
  limit : l.fn.steps + l.remaining ≤ l.steps + l.fn.from.remaining;
}

abbrev pub decreases-loop-remaining : goal.decreases-loop-remaining
decreases-loop-remaining l = l.remaining
