-- In a lane there is left to do the same after its next instruction.
use Rattle.std.proofs.Common.{◌≡◌, ◌∙◌, ◌+◌, ◌-◌, ◌<◌, ◌≤◌, ℕ, List, length}
use Rattle.std.proofs.Common.{None, Some, Ok, sym, arith}
use Rattle.cam6_wiring.specs.Seen.{shown}
use Rattle.cam6_table.specs.declared.codes.Instruction.{Instruction}
use Rattle.cam6_table.specs.declared.lanes.Lanes.{Lanes}
use Rattle.cam6_table.specs.Codes.{act, go}
use Rattle.cam6_table.specs.Internal.Lanes.{state_at, Stands, IsNext, LeadsTo, IsLeft}
use Rattle.cam6_table.proofs.Jumps.{exec-goes_on}

module _ (address : ℕ) (code : List Instruction) (i : Instruction) (remaining to top after : ℕ)
    (lanes new : Lanes) (lane : ℕ) (some : 0 < remaining) (next : IsNext code remaining i)
    (stands : Stands lane after new.floors) where
  -- after an instruction
  pub still_left : (passed : ℕ) → to ≡ remaining - 1 - passed →
      act (shown address) None i (state_at lane top lanes)
      ≡ Ok (state_at lane after new, go passed None) →
      IsLeft address code remaining top lanes lane → IsLeft address code to after new lane
  still_left passed is done left =
      let place = left.place in
      let one : remaining ≡ remaining - 1 + 1 = omega arith in
      record {
        place = omega arith;
        stands = stands;
        left = sym (exec-goes_on (shown address) code remaining (remaining - 1) to None i
            (state_at lane top lanes) (state_at lane after new) (go passed None) one
            (omega arith) is next done) ∙ left.left;
      }

  -- after the head of a case, at the word that is looked for
  pub left_at_word : (word : ℕ) → to ≤ length code → LeadsTo code (remaining - 1) word to →
      act (shown address) None i (state_at lane top lanes)
      ≡ Ok (state_at lane after new, go 0 (Some word)) →
      IsLeft address code remaining top lanes lane → IsLeft address code to after new lane
  left_at_word word within leads done left =
      let place = left.place in
      let one : remaining ≡ remaining - 1 + 1 = omega arith in
      record {
        place = within;
        stands = stands;
        left = leads address (state_at lane after new) ∙
            sym (exec-goes_on (shown address) code remaining (remaining - 1) (remaining - 1) None i
            (state_at lane top lanes) (state_at lane after new) (go 0 (Some word)) one
            (omega arith) (omega arith) next done) ∙ left.left;
      }
