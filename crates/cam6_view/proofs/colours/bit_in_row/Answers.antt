use Rattle.std.proofs.Common.{◌-◌, ◌%◌, ◌/◌, ◌∙◌, get_or}
use Rattle.std.specs.Int.{bit_at}
use Rattle.std.proofs.lemmas.Nat.Bits.{shr_and_one, bit_at-lt}
use Rattle.cam6_planes.specs.Row.{word_column, column_bit}
use Rattle.cam6_view.proofs.CountsBelow.{bit_is}
use Rattle.cam6_view.proofs.colours.bit_in_row.Goals as goal

pub returns-clause-value : goal.returns-clause-value
unfolding word_column column_bit
returns-clause-value c =
    let word = get_or c.args.row.now (c.args.x / 64) 0 in
    let i = 63 - c.args.x % 64 in
    shr_and_one word i ∙ bit_is (bit_at word i) (bit_at-lt word i)
