-- The machine at which a desk stands.
use Rattle.cam6_planes.specs.declared.sides.Side.TheVariants.{S256}
use Rattle.cam6_model.specs.Machine.{Machine, blank}
use Rattle.cam6_machine.specs.Stored.{machine_of}
use Rattle.cam6_handoff.specs.Rule.{asked_machine}
use Rattle.cam6_handoff.specs.Standing.{Stance, standing, waiting, nowhere}

-- the machine that a desk has; if the desk waits, the machine that it had when it was asked; a desk
-- never stands nowhere, so any machine does there
abbrev pub machine_at : Stance → Machine
machine_at (standing u s) = machine_of s
machine_at (waiting u asked) = asked_machine asked
machine_at nowhere = blank S256
