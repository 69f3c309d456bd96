use Rattle.std.proofs.Common.{◌≡◌, ◌<◌, ◌∙◌, false, sym, ap, length}
use Rattle.std.specs.Prelude.{◌==◌}
use Rattle.cam6_patterns.specs.Pattern.{most_states}
use Rattle.cam6_patterns.specs.Writing.{trimmed}
use Rattle.cam6_patterns.proofs.Rows.{row_filled, each_trimmed}
use Rattle.cam6_patterns.proofs.writing.push_row.Goals as goal

pub push_runs-requires : goal.push_runs-requires
push_runs-requires c =
    rw c.trimmed-cells.ensures
    (each_trimmed (λ cell. cell < most_states) c.args.row.now c.requires.row)

pub returns-clause-parts : goal.returns-clause-parts
returns-clause-parts c =
    let some : (length (trimmed c.args.row.now) == 0) ≡ false =
    ap (λ l. length l == 0) (sym c.trimmed-cells.ensures)
    ∙ sym c.is_empty.ensures ∙ c.if-is_empty.false in
    row_filled c.args.text.now.items c.args.used c.args.states c.args.ends c.args.row.now some
    c.push_row_ends.new.text.items c.push_runs.new.text.items c.in_ok-used.used
    c.in_ok-used-2.used c.in_ok-used.ensures
    (rw c.trimmed-cells.ensures at c.in_ok-used-2.ensures)
