use Rattle.std.proofs.Common.{◌≡◌, ◌++◌, Some, map}
use Rattle.cam6_server.proofs.places.Places.new.Given as goal

-- those that are put have their places
abbrev pub invariant-loop-desk : goal.invariant-loop-desk
invariant-loop-desk l =
    (l.yielded ++ l.desk-iterator.rest.items ≡ l.fn.desks.items)
    × (l.places.items ≡ map Some l.yielded)
