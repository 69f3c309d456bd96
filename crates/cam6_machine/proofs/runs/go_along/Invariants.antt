use Rattle.std.proofs.Common.{◌≡◌, ◌<◌, ℕ, List, length}
use Rattle.cam6_planes.specs.Stored.{AreAlike}
use Rattle.cam6_planes.specs.declared.sides.Side.{Side}
use Rattle.cam6_rules.specs.Filled.{AreTablesOf}
use Rattle.cam6_model.specs.Rules.{Rule}
use Rattle.cam6_model.specs.Always.{HaveOwnNames}
use Rattle.cam6_rules.specs.Numbers.{AreNumbered}
use Rattle.cam6_machine.specs.Internal.Images.{stored_as}
use Rattle.cam6_model.specs.Moves.{moved, CanMove}
use Rattle.cam6_machine.proofs.runs.go_along.Given as goal

abbrev pub invariant-loop-step : goal.invariant-loop-step
invariant-loop-step l = record {
  position : l.position < length l.cycle;
  alike : AreAlike l.fn.image.planes l.image.planes;
  steps : (limit : Side) (rules : List Rule) (colours : List ℕ) → HaveOwnNames rules → AreNumbered rules l.cycle →
      AreTablesOf l.direction rules l.cycle l.tables →
      let m = stored_as l.fn.image.planes limit rules l.cycle l.fn.position colours in
      CanMove l.direction m →
      stored_as l.image.planes limit rules l.cycle l.position colours
      ≡ moved l.direction l._step m;
}
