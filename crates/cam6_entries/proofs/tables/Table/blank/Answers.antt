use Rattle.std.proofs.Common.{◌∙◌, ap, replicate}
use Rattle.cam6_entries.proofs.tables.Table.blank.Goals as goal

pub returns : goal.returns
returns c =
    c.in_ok-entries.ensures.items_if_clones_equal (λ y same. same) ∙
    ap (λ n. replicate n 0) c.from.ensures
