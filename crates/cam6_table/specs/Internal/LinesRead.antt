-- The lines of an address that code reads.
use Rattle.std.specs.Prelude.{◌≡◌, ℕ, ◌<◌, List, [], ◌∷◌, ⊤}
use Rattle.std.specs.Int.{bit_at}
use Rattle.cam6_table.specs.declared.codes.Instruction.{Instruction}
use Rattle.cam6_table.specs.declared.codes.Instruction.TheVariants.{Literal, Line, Stack}
use Rattle.cam6_table.specs.declared.codes.Instruction.TheVariants.{Output, SkipIfZero}
use Rattle.cam6_table.specs.declared.codes.Instruction.TheVariants.{Skip, Case, CaseWord}

-- a mask of 16 bits has the bit of the line that an instruction reads, if it reads one of 16
abbrev pub HasLineOf : ℕ → Instruction → Type 0
HasLineOf mask (Line line) = line < 16 → bit_at mask line ≡ 1
HasLineOf mask (Literal v) = ⊤
HasLineOf mask (Stack word) = ⊤
HasLineOf mask (Output target) = ⊤
HasLineOf mask (SkipIfZero n) = ⊤
HasLineOf mask (Skip n) = ⊤
HasLineOf mask (Case count) = ⊤
HasLineOf mask (CaseWord length after) = ⊤

-- and of each line that code reads
abbrev pub HasLinesOf : ℕ → List Instruction → Type 0
HasLinesOf mask [] = ⊤
HasLinesOf mask (instruction ∷ code) = HasLineOf mask instruction × HasLinesOf mask code

-- a mask has the bits of the two lines that show the centre, and of each line that code reads
pub record IsMaskFor (mask : ℕ) (code : List Instruction) : Type 0 where
  pub lower : bit_at mask 0 ≡ 1
  pub upper : bit_at mask 1 ≡ 1
  pub lines : HasLinesOf mask code
