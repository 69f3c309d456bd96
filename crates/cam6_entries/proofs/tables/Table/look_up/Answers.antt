use Rattle.std.proofs.Common.{◌%◌, ◌==◌, ◌∙◌, ap, get_or}
use Rattle.std.proofs.Math.Nat.{div-one}
use Rattle.cam6_wiring.specs.Lines.{address_in}
use Rattle.cam6_lookup.specs.Entries.{entry_bit}
use Rattle.cam6_entries.proofs.tables.Table.look_up.Goals as goal

pub returns-clause-lower : goal.returns-clause-lower
returns-clause-lower c = λ x h.
    let address = address_in c.args.lines.now x in
    c.look_up_rows.ensures.lower x h ∙
    ap (λ entries. entry_bit entries address 0) (c.deref.ensures.value ∙ c.self.view_is) ∙
    ap (λ n. n % 2 == 1) (div-one (get_or c.args.self.now address 0))
