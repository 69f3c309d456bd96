-- Why a text is no pattern, and where.
use Rattle.std.specs.Prelude.{ℕ, Result, Err}
use Rattle.cam6_patterns.specs.declared.faults.Cause.{Cause}
use Rattle.cam6_patterns.specs.declared.faults.PatternFault.{PatternFault}

-- at this line and column, both counted from 1
abbrev pub fault : {A : Type 0} → ℕ → ℕ → Cause → Result A PatternFault
fault line column cause = Err (record { line = line; column = column; cause = cause })
