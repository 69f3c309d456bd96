-- Code gives one result at two addresses that agree on the lines which it reads.
use Rattle.std.proofs.Common.{◌≡◌, ◌≤◌, ◌<◌, ◌/◌, ◌%◌, ℕ, zero, suc, List, [], ◌∷◌, Option, None}
use Rattle.std.proofs.Common.{Result, Ok, Err, refl, sym, ap, ◌∙◌}
use Rattle.std.proofs.Common.{arith, inl, inr, ◌==◌, ◌^◌, bit_and}
use Rattle.std.specs.Bool.{⊤}
use Rattle.std.specs.Int.{bit_at}
use Rattle.std.proofs.lemmas.Bool.{cases_lt}
use Rattle.std.proofs.lemmas.Nat.Bits.{bit_at_and, bit_at-lt, bit_at_above}
use Rattle.std.proofs.lemmas.Nat.Bits.{bit_at_lowest, bit_at-suc}
use Rattle.cam6_planes.specs.Row.{bit_number}
use Rattle.cam6_wiring.specs.Seen.{shown}
use Rattle.cam6_table.specs.declared.codes.Instruction.{Instruction}
use Rattle.cam6_table.specs.declared.codes.Instruction.TheVariants.{Literal, Line, Stack}
use Rattle.cam6_table.specs.declared.codes.Instruction.TheVariants.{Output, SkipIfZero}
use Rattle.cam6_table.specs.declared.codes.Instruction.TheVariants.{Skip, Case, CaseWord}
use Rattle.cam6_table.specs.declared.evaluation.Next.{Next}
use Rattle.cam6_table.specs.declared.faults.RuleFault.{RuleFault}
use Rattle.cam6_table.specs.declared.outputs.State.{State}
use Rattle.cam6_table.specs.Words.{pushed}
use Rattle.cam6_entries.specs.NewBits.{is_odd}
use Rattle.cam6_table.specs.Outputs.{untouched}
use Rattle.cam6_table.specs.Meaning.{then_do, with_stack}
use Rattle.cam6_table.specs.Codes.{Lines, act, exec, goes_on, entry_at, result_at}
use Rattle.cam6_table.specs.Internal.LinesRead.{HasLineOf, HasLinesOf, IsMaskFor}

-- lines that show the same where an instruction reads one
abbrev AgreeAt : Lines → Lines → Instruction → Type 0
AgreeAt shows others (Line line) = shows line ≡ others line
AgreeAt shows others (Literal v) = ⊤
AgreeAt shows others (Stack word) = ⊤
AgreeAt shows others (Output target) = ⊤
AgreeAt shows others (SkipIfZero n) = ⊤
AgreeAt shows others (Skip n) = ⊤
AgreeAt shows others (Case count) = ⊤
AgreeAt shows others (CaseWord length after) = ⊤

-- and at each line that code reads
abbrev AgreeOn : Lines → Lines → List Instruction → Type 0
AgreeOn shows others [] = ⊤
AgreeOn shows others (instruction ∷ code) =
    AgreeAt shows others instruction × AgreeOn shows others code

module _ (shows others : Lines) where
  acts_same : (i : Instruction) (word : Option ℕ) (s : State) → AgreeAt shows others i →
      act shows word i s ≡ act others word i s
  acts_same (Line line) word s agree =
      ap (λ bit. goes_on (with_stack s (pushed (bit_number bit) s.stack))) agree
  acts_same (Literal v) word s agree = refl
  acts_same (Stack stack) word s agree = refl
  acts_same (Output target) word s agree = refl
  acts_same (SkipIfZero n) word s agree = refl
  acts_same (Skip n) word s agree = refl
  acts_same (Case count) word s agree = refl
  acts_same (CaseWord length after) word s agree = refl

  abbrev after : Lines → List Instruction → State × Next → Result State RuleFault
  after lines code done = exec lines code done.1.passed done.1.word done.0

  then_same : (said : Result (State × Next) RuleFault) (code : List Instruction) →
      ((passed : ℕ) (word : Option ℕ) (s : State) →
      exec shows code passed word s ≡ exec others code passed word s) →
      then_do said (after shows code) ≡ then_do said (after others code)
  then_same (Ok done) code same = same done.1.passed done.1.word done.0
  then_same (Err fault) code same = refl

  -- from one state on, both do the same
  runs_same : (code : List Instruction) (passed : ℕ) (word : Option ℕ) (s : State) →
      AgreeOn shows others code → exec shows code passed word s ≡ exec others code passed word s
  runs_same [] passed word s agree = refl
  runs_same (i ∷ code) (suc passed) word s agree = runs_same code passed word s agree.1
  runs_same (i ∷ code) zero word s agree =
      ap (λ said. then_do said (after shows code)) (acts_same i word s agree.0) ∙
      then_same (act others word i s) code
      (λ passed word s. runs_same code passed word s agree.1)

-- one result at two addresses that also show the same centre
pub gives_same : (code : List Instruction) (first second : ℕ) →
    AgreeOn (shown first) (shown second) code → is_odd first ≡ is_odd second →
    is_odd (first / 2) ≡ is_odd (second / 2) → result_at code first ≡ result_at code second
gives_same code first second agree lower upper =
    ap (entry_at first) (runs_same (shown first) (shown second) code 0 None untouched agree) ∙
    ends_same (exec (shown second) code 0 None untouched)
  where
    ends_same : (said : Result State RuleFault) → entry_at first said ≡ entry_at second said
    ends_same (Err fault) = refl
    ends_same (Ok s) = cc

-- where a mask has a bit, a masked address keeps it
bit_kept : (mask address line : ℕ) → bit_at mask line ≡ 1 →
    bit_at address line ≡ bit_at (bit_and address mask) line
bit_kept mask address line has =
    omega (arith, has, bit_at_and address mask line, bit_at-lt address line)

-- past its sixteen bits neither shows anything
bit_above : (mask address line : ℕ) → address < 2 ^ 16 → 16 ≤ line →
    bit_at address line ≡ bit_at (bit_and address mask) line
bit_above mask address line within above =
    omega (arith, bit_at_and address mask line, bit_at_above address 16 line within above)

module _ (mask address : ℕ) (within : address < 2 ^ 16) where
  agrees_at : (i : Instruction) → HasLineOf mask i →
      AgreeAt (shown address) (shown (bit_and address mask)) i
  agrees_at (Line line) has =
      ap (λ bit. bit == 1) (elim (cases_lt line 16) [
        | inl below ↦ bit_kept mask address line (has below)
        | inr above ↦ bit_above mask address line within above
      ])
  agrees_at (Literal v) has = tt
  agrees_at (Stack stack) has = tt
  agrees_at (Output target) has = tt
  agrees_at (SkipIfZero n) has = tt
  agrees_at (Skip n) has = tt
  agrees_at (Case count) has = tt
  agrees_at (CaseWord length after) has = tt

  agrees_on : (code : List Instruction) → HasLinesOf mask code →
      AgreeOn (shown address) (shown (bit_and address mask)) code
  agrees_on [] has = tt
  agrees_on (i ∷ code) has = (agrees_at i has.0, agrees_on code has.1)

  lower_same : bit_at mask 0 ≡ 1 → is_odd address ≡ is_odd (bit_and address mask)
  lower_same has =
      ap (λ bit. bit == 1) (sym (bit_at_lowest address) ∙ bit_kept mask address 0 has ∙
      bit_at_lowest (bit_and address mask))

  next_bit : (n : ℕ) → bit_at n 1 ≡ n / 2 % 2
  next_bit n = bit_at-suc n 0 ∙ bit_at_lowest (n / 2)

  upper_same : bit_at mask 1 ≡ 1 → is_odd (address / 2) ≡ is_odd (bit_and address mask / 2)
  upper_same has =
      ap (λ bit. bit == 1) (sym (next_bit address) ∙ bit_kept mask address 1 has ∙
      next_bit (bit_and address mask))

  -- the result at an address is that at its masked one
  pub masked_same : (code : List Instruction) → IsMaskFor mask code →
      result_at code address ≡ result_at code (bit_and address mask)
  masked_same code is =
      gives_same code address (bit_and address mask) (agrees_on code is.lines)
      (lower_same is.lower) (upper_same is.upper)

-- a mask with more bits has the lines that it had
has_line_still : (mask more : ℕ) → ((line : ℕ) → bit_at mask line ≡ 1 → bit_at more line ≡ 1) →
    (i : Instruction) → HasLineOf mask i → HasLineOf more i
has_line_still mask more grows (Line line) has = λ below. grows line (has below)
has_line_still mask more grows (Literal v) has = tt
has_line_still mask more grows (Stack stack) has = tt
has_line_still mask more grows (Output target) has = tt
has_line_still mask more grows (SkipIfZero n) has = tt
has_line_still mask more grows (Skip n) has = tt
has_line_still mask more grows (Case count) has = tt
has_line_still mask more grows (CaseWord length after) has = tt

pub has_lines_still : (mask more : ℕ) →
    ((line : ℕ) → bit_at mask line ≡ 1 → bit_at more line ≡ 1) →
    (code : List Instruction) → HasLinesOf mask code → HasLinesOf more code
has_lines_still mask more grows [] has = tt
has_lines_still mask more grows (i ∷ code) has =
    (has_line_still mask more grows i has.0, has_lines_still mask more grows code has.1)
