-- The state of a rule that runs, what an output word writes, and the table's entry at the end.
use Rattle.std.specs.Prelude.{ℕ, ◌+◌, ◌*◌, ◌/◌, ◌%◌, Bool, List, [], ◌∷◌}
use Rattle.std.specs.Prelude.{Some, None, unwrap_or, Result, Ok, Err, ◌==◌}
use Rattle.cam6_planes.specs.Row.{bit_number}
use Rattle.cam6_forth.specs.declared.words.Target.{Target}
use Rattle.cam6_forth.specs.declared.words.Target.TheVariants.{Lower, Upper, Both}
use Rattle.cam6_entries.specs.NewBits.{is_odd}
use Rattle.cam6_table.specs.declared.faults.RuleFault.{RuleFault}
use Rattle.cam6_table.specs.declared.faults.RuleFault.TheVariants.{MissingValue}
use Rattle.cam6_table.specs.declared.outputs.State.{State}

-- an empty stack, and no plane written
abbrev pub untouched : State
untouched = record { stack = []; lower = None; upper = None }

-- a value written to the lower plane, to the upper one, or its two lowest bits to both
abbrev pub with_output : Target → ℕ → State → State
with_output Lower v s = record s { lower = Some (is_odd v) }
with_output Upper v s = record s { upper = Some (is_odd v) }
with_output Both v s = record s { lower = Some (is_odd v); upper = Some (is_odd (v / 2)) }

-- an output word takes the top value off and writes it
abbrev pub written_top : Target → List ℕ → State → Result State RuleFault
written_top target [] s = Err MissingValue
written_top target (v ∷ rest) s = Ok (with_output target v (record s { stack = rest }))

abbrev pub written : Target → State → Result State RuleFault
written target s = written_top target s.stack s

-- the two new bits as a number; a plane that isn't written keeps its centre
abbrev pub entry_of : (lower upper : Bool) → State → ℕ
entry_of lower upper s =
    bit_number (unwrap_or s.lower lower) + 2 * bit_number (unwrap_or s.upper upper)
