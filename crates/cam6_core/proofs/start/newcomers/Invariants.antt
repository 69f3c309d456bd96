use Rattle.std.proofs.Common.{◌≡◌, length}
use Rattle.cam6_core.specs.Internal.Starting.{AreNewcomersTo}
use Rattle.cam6_core.proofs.start.newcomers.Given as goal

abbrev pub invariant-loop-user : goal.invariant-loop-user
invariant-loop-user l = record {
  users : l.users ≡ l.fn.users;
  limits : l.limits ≡ l.fn.limits;
  long : length l.limits ≡ l.users;
  made : AreNewcomersTo l.user l.limits l.made.items;
}
