-- A program as it is seen.
use Rattle.std.specs.Prelude.{ℕ, Bool, List, Option}
use Rattle.std.specs.Option.{is_none}
use Rattle.cam6_wiring.specs.declared.names.Level.{Level}
use Rattle.cam6_wiring.specs.declared.names.Level.TheVariants.{Lower, Upper}
use Rattle.cam6_program.specs.declared.steps.Source.{Source}
use Rattle.cam6_program.specs.declared.steps.Step.{Step}

-- the number of a level's line, which shows the cell's own bit, and of its bit of an entry
abbrev pub number : Level → ℕ
number Lower = 0
number Upper = 1

-- the steps in their order; the mask of the lines that they are shown; and the sources of the two new
-- bits at the end. A bit without a source is kept
pub record Steps : Type 0 where
  pub steps : List Step
  pub asked : ℕ
  pub lower : Option Source
  pub upper : Option Source

-- what the new bit of a level is read from
abbrev pub source_of : Level → Steps → Option Source
source_of Lower program = program.lower
source_of Upper program = program.upper

-- whether the bit of a level is kept
abbrev pub keeps : Level → Steps → Bool
keeps level program = is_none (source_of level program)
