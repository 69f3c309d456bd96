-- The numbers of the faults of lines.
use Rattle.std.specs.Prelude.{ℕ}
use Rattle.cam6_wire.specs.declared.faults.LineFault.{LineFault}
use Rattle.cam6_wire.specs.declared.faults.LineFault.TheVariants.{NoMemory, TooLong}
use Rattle.cam6_wire.specs.declared.faults.LineFault.TheVariants.{NoJson, NoCommand, OtherSpelling}

-- 1 for a line that is too long, 2 for no JSON, 3 for no command, 4 for a load in another spelling;
-- a failed allocation has no reply
abbrev pub fault_number : LineFault → ℕ
fault_number NoMemory = 0
fault_number TooLong = 1
fault_number NoJson = 2
fault_number NoCommand = 3
fault_number OtherSpelling = 4
