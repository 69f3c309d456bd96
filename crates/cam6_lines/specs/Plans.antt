-- Which lines are asked for.
use Rattle.std.specs.Prelude.{ℕ}
use Rattle.cam6_wiring.specs.declared.wirings.Hood.{Hood}
use Rattle.cam6_wiring.specs.declared.wirings.Minor.{Minor}

-- the lines for which a mask has a bit, under a wiring
pub record Asked : Type 0 where
  pub lines : ℕ
  pub hood : Hood
  pub minor : Minor
