-- The exit status of a server that can't go on, with its text.
use Rattle.std.specs.Prelude.{ℕ, List, codes}
use Rattle.cam6_arguments.specs.Program.{message_of}
use Rattle.cam6_arguments.specs.declared.programs.Program.TheVariants.{Web}
use Rattle.cam6_web_cli.specs.declared.statuses.Fault.{Fault}
use Rattle.cam6_web_cli.specs.declared.statuses.Fault.TheVariants as server

-- `Network`: the server can't listen at its port, or can't accept a connection
abbrev pub fault : Fault → ℕ × List ℕ
fault server.NoMemory = (5, message_of Web (codes "no memory\n"))
fault server.Network = (7, message_of Web (codes "network failed\n"))
