use Rattle.std.proofs.Common.{◌≡◌, ◌≤◌, ◌++◌, length, vec_capacity, vec_len}
use Rattle.cam6_core.specs.Runs.{GoThrough}
use Rattle.cam6_core.proofs.runs.run.Given as goal

abbrev pub invariant-loop-event : goal.invariant-loop-event
invariant-loop-event l = record {
  done : GoThrough l.initial.core l.yielded l.outcomes.items l.core;
  whole : l.yielded ++ l.event-iterator.rest.items ≡ l.fn.events.items;
  long : vec_len l.outcomes ≡ length l.yielded;
  room : length l.fn.events.items ≤ vec_capacity l.outcomes;
}
