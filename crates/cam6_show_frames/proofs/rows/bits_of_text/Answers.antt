use Rattle.std.proofs.Common.{rules, sym}
use Rattle.cam6_show_frames.proofs.BitsRead.{bits_shown}
use Rattle.cam6_show_frames.proofs.rows.bits_of_text.Goals as goal

pub returns : goal.returns
returns c =
    bits_shown c.args.text.now c.as_slice-bytes.result.now c.row_of_bits.result c.in_ok-side.side
    (search rules) (sym c.in_ok-side.ensures.number) c.row_of_bits.ensures
