use Rattle.std.proofs.Common.{◌∙◌}
use Rattle.cam6_show_frames.proofs.BitsRead.{bit_read}
use Rattle.cam6_show_frames.proofs.rows.bit_column.Goals as goal

pub returns-clause-bit : goal.returns-clause-bit
returns-clause-bit c = c.from.ensures ∙ bit_read c.args.bytes.now c.args.x
