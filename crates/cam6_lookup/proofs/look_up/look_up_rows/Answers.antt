use Rattle.std.proofs.Common.{◌∙◌, ap, arith}
use Rattle.cam6_wiring.specs.Lines.{address_in}
use Rattle.cam6_lookup.specs.Entries.{entry_bit}
use Rattle.cam6_lookup.proofs.Addresses.{each_row}
use Rattle.cam6_lookup.proofs.look_up.look_up_rows.Goals as goal

pub returns : goal.returns
returns c =
    let a = c.args in
    let same = each_row a.lines.now c.told-lines in
    record {
      lower = λ x h. c.look_up_words.ensures.lower x
          (omega (arith, h, c.number.ensures.value, c.number.ensures.whole_words)) ∙
          ap (λ lines. entry_bit a.entries.now (address_in lines x) 0) same;
      upper = λ x h. c.look_up_words.ensures.upper x
          (omega (arith, h, c.number.ensures.value, c.number.ensures.whole_words)) ∙
          ap (λ lines. entry_bit a.entries.now (address_in lines x) 1) same;
    }
