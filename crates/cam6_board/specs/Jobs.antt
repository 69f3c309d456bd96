-- Jobs as they are kept.
use Rattle.std.specs.Prelude.{ℕ, List}
use Rattle.cam6_cycle.specs.declared.entries.Entry.{Entry}
use Rattle.cam6_cycle.specs.declared.tables.Direction.{Direction}
use Rattle.cam6_board.specs.declared.images.Image.{Image}

-- an image, the entries of a cycle with a position among them, the way along it, and how many steps
-- are still to be done
pub record StoredJob : Type 0 where
  pub image : Image
  pub cycle : List Entry
  pub position : ℕ
  pub direction : Direction
  pub steps : ℕ

abbrev pub stored_job : Image → List Entry → ℕ → Direction → ℕ → StoredJob
stored_job image cycle position direction steps = record {
  image = image;
  cycle = cycle;
  position = position;
  direction = direction;
  steps = steps;
}
