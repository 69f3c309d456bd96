-- What a board that never fails holds.
use Rattle.std.specs.Prelude.{List, ℕ, Option, Some, None}
use Rattle.cam6_board.specs.Held.{Load, empty, loaded}
use Rattle.cam6_board.specs.Jobs.{StoredJob}
use Rattle.cam6_board.specs.declared.soft_boards.SoftBoard.{SoftBoard}

abbrev pub load_of : Option StoredJob → List (List ℕ) → Load
load_of None tables = empty
load_of (Some job) tables = loaded job tables

abbrev pub load_in : SoftBoard → Load
load_in board = load_of board.job board.tables
