-- The four programs, and lines that begin with their names.
use Rattle.std.specs.Prelude.{ℕ, List, ◌++◌, codes}
use Rattle.cam6_arguments.specs.declared.programs.Program.{Program}
use Rattle.cam6_arguments.specs.declared.programs.Program.TheVariants.{Cam6, Draw, Rle, Web}

-- its name
abbrev pub name_of : Program → List ℕ
name_of Cam6 = codes "cam6"
name_of Draw = codes "cam6_draw"
name_of Rle = codes "cam6_rle"
name_of Web = codes "cam6_web"

-- a text after the program's name
abbrev pub message_of : Program → List ℕ → List ℕ
message_of program text = name_of program ++ codes ": " ++ text
