use Rattle.std.proofs.Common.{◌≡◌, ◌∙◌, rules, sym, subst, take_all, List, ℕ, take}
use Rattle.std.proofs.lemmas.List.Elements.{All-more}
use Rattle.std.specs.Prelude.{All}
use Rattle.cam6_show_frames.proofs.LongRows.{IsLong, others_decide, is_long}
use Rattle.cam6_show_frames.proofs.frames.are_long.Goals as goal

pub loop-row-preserved : goal.loop-row-preserved
loop-row-preserved c =
    let rows = c.args.rows.now in
    let row = c.row-item.result in
    let within = c.loop-row-test.true in
    let long = sym c.columns.ensures.columns ∙ c.if-columns.false in
    record {
      later =
          others_decide c.args.columns rows c.loop-row.row-index row within c.row-item.is long
          ∙ c.loop-row.invariant.later;
      before =
          All-more (IsLong c.args.columns) rows c.loop-row.row-index row within
          c.loop-row.invariant.before
          (is_long c.args.columns rows c.loop-row.row-index row within c.row-item.is long c.columns.ensures.row.0 c.columns.ensures.row.2);
    }

pub returns-clause-rows : goal.returns-clause-rows
returns-clause-rows c =
    let rows = c.args.rows.now in
    let whole : take c.loop-row.row-index rows ≡ rows = search (rules, take_all) in
    let P : List (List ℕ) → Type 0 = All (IsLong c.args.columns) in
    subst P whole c.loop-row.invariant.before
