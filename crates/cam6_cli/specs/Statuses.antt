-- The exit status of a session that failed, and of a host that can't go on, with its text.
use Rattle.std.specs.Prelude.{ℕ, List, Option, None, Some, codes}
use Rattle.cam6_server.specs.declared.serving.Fault.{Fault}
use Rattle.cam6_server.specs.declared.serving.Fault.TheVariants as host
use Rattle.cam6_session.specs.declared.sessions.End.{End}
use Rattle.cam6_session.specs.declared.sessions.End.TheVariants.{EndOfInput, ReadFault, TurnBound}
use Rattle.cam6_session.specs.declared.sessions.End.TheVariants.{WriteFault, NoMemory}

-- `None` at the end of input: then the program succeeds
abbrev pub failure : End → Option (ℕ × List ℕ)
failure EndOfInput = None
failure ReadFault = Some (3, codes "cam6: read failed\n")
failure WriteFault = Some (4, codes "cam6: write failed\n")
failure (NoMemory done) = Some (5, codes "cam6: no memory\n")
failure TurnBound = Some (6, codes "cam6: turn bound reached\n")

-- `Network`: the host can't listen, or can't accept a connection; `NoThread`: no thread could be
-- started for a board
abbrev pub fault : Fault → ℕ × List ℕ
fault host.NoMemory = (5, codes "cam6: no memory\n")
fault host.Network = (7, codes "cam6: network failed\n")
fault host.NoThread = (8, codes "cam6: no thread\n")
