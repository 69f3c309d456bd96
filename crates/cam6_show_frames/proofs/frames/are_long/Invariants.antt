use Rattle.std.proofs.Common.{◌≡◌, ◌<◌, length, take, drop}
use Rattle.std.specs.Prelude.{All}
use Rattle.std.specs.List.{AllByRecursion}
use Rattle.cam6_show_frames.specs.Frame.{colours}
use Rattle.cam6_show_frames.specs.Replies.{are_long}
use Rattle.cam6_show_frames.proofs.frames.are_long.Given as goal

abbrev pub invariant-loop-row : goal.invariant-loop-row
invariant-loop-row l = record {
  later : are_long l.columns (drop l.row-index l.rows) ≡ are_long l.columns l.rows;
  before : All (λ row. (length row ≡ l.columns) × AllByRecursion (λ colour. colour < colours) row)
      (take l.row-index l.rows);
}
