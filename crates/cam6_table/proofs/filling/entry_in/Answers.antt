use Rattle.std.proofs.Common.{◌≡◌, ◌∙◌, ◌-◌, ℕ, List, [], None, Ok, Result, length, slice_index}
use Rattle.std.proofs.Common.{sym, ap, arith}
use Rattle.std.proofs.lemmas.List.{drop_all}
use Rattle.cam6_wiring.specs.Seen.{shown}
use Rattle.cam6_table.specs.declared.codes.Instruction.{Instruction}
use Rattle.cam6_table.specs.declared.faults.RuleFault.{RuleFault}
use Rattle.cam6_table.specs.Codes.{exec, entry_at, last_of}
use Rattle.cam6_table.specs.Internal.Lanes.{state_at}
use Rattle.cam6_table.proofs.filling.entry_in.Goals as goal

abbrev ok_entry : ℕ → Result ℕ RuleFault
ok_entry v = Ok v

-- the lane is at the end of the code
pub returns-then-remaining-eq0 : goal.returns-then-remaining-eq0
returns-then-remaining-eq0 c =
    let code = c.args.code.now in
    let scratch = c.args.scratch.now in
    let address = c.args.address in
    let remaining = slice_index scratch.places.remaining_by_lane c.args.lane in
    let top = slice_index scratch.places.tops c.args.lane in
    let none : last_of remaining code ≡ [] = drop_all (length code - remaining) code (omega arith) in
    ap ok_entry (c.entry_at_end.ensures.entry top) ∙
    ap (entry_at address)
    (sym (ap (λ (left : List Instruction).
    exec (shown address) left 0 None (state_at c.args.lane top scratch.lanes)) none) ∙
    c.requires.left.left)
