use Rattle.std.proofs.Common.{◌≡◌, ◌++◌}
use Rattle.std.specs.Vec.Iter.{into_iter_items}
use Rattle.cam6_machine.specs.Stored.{machine_of}
use Rattle.cam6_model.specs.Alone.{replies, after_all}
use Rattle.cam6_machine.proofs.alone.replies_of.Given as goal

abbrev pub invariant-loop-command : goal.invariant-loop-command
invariant-loop-command l = record {
  replies : replies (machine_of l.fn.machine) l.fn.commands.items
      ≡ l.replies.items ++ replies (machine_of l.machine) (into_iter_items l.command-iterator);
  machine : after_all (machine_of l.fn.machine) l.fn.commands.items
      ≡ after_all (machine_of l.machine) (into_iter_items l.command-iterator);
}
