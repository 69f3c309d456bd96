use Rattle.std.proofs.Common.{◌≡◌, ◌++◌, drop, take, length, option_map}
use Rattle.serde_json.specs.View.{items_view}
use Rattle.cam6_wire.specs.Fields.{numbers_of}
use Rattle.cam6_wire.proofs.fields.colours_of.Given as goal

abbrev pub invariant-loop-state : goal.invariant-loop-state
invariant-loop-state l = record {
  long : length l.colours ≡ 16;
  read : option_map (λ rest. take l.state l.colours ++ rest)
      (numbers_of (items_view (drop l.state l.values)))
      ≡ numbers_of (items_view l.values);
}
