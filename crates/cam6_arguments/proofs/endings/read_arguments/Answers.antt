use Rattle.std.specs.declared.io.ErrorKind.TheVariants.{OutOfMemory}
use Rattle.cam6_arguments.proofs.endings.read_arguments.Goals as goal

pub returns-in-Err-collect : goal.returns-in-Err-collect
returns-in-Err-collect g c = (OutOfMemory, tt)
