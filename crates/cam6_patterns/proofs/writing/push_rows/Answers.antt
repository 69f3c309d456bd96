use Rattle.std.proofs.Common.{◌≡◌, ◌<◌, ◌≤◌, ◌+◌, ◌∙◌, ◌++◌, ℕ, List, [], sym, ap, subst, arith}
use Rattle.std.proofs.Common.{length, take, drop, get_or}
use Rattle.std.proofs.lemmas.List.{drop_all}
use Rattle.std.specs.List.{AllByRecursion}
use Rattle.cam6_patterns.specs.Pattern.{most_states}
use Rattle.cam6_patterns.specs.Writing.{filled, row_by_row}
use Rattle.cam6_patterns.specs.Outcome.{FillsRow}
use Rattle.cam6_patterns.proofs.Rows.{first_of_rest, its_row, side_is_long}
use Rattle.cam6_patterns.proofs.writing.push_rows.Goals as goal

pub push_row-requires : goal.push_row-requires
push_row-requires c =
    let rows = c.args.frame.now in
    let long : c.number-side.result ≡ length rows =
    c.number-side.ensures.value ∙ c.side.ensures.side in
    let within : c.loop-y.y < length rows = omega (arith, c.loop-y-test.true, long) in
    let row : take c.number-side.result c.row_cells-row.result ≡ get_or rows c.loop-y.y [] =
    ap (λ n. take n c.row_cells-row.result) long ∙ c.row_cells-row.ensures in
    record {
      ends = omega
          (arith, c.loop-y.invariant.ends, within, side_is_long rows c.side.ensures.frame);
      row = subst (AllByRecursion (λ cell. cell < most_states)) (sym row)
          (its_row rows c.side.ensures.frame c.loop-y.y within).1;
    }

pub loop-y-preserved : goal.loop-y-preserved
loop-y-preserved c =
    let rows = c.args.frame.now in
    let y : ℕ = c.loop-y.y in
    let text : List ℕ = c.loop-y.text.items in
    let new : List ℕ = c.push_row.new.text.items in
    let states : ℕ = c.args.states in
    let used : ℕ = c.loop-y.used in
    let ends : ℕ = c.loop-y.ends in
    let long : c.number-side.result ≡ length rows =
    c.number-side.ensures.value ∙ c.side.ensures.side in
    let within : y < length rows = omega (arith, c.loop-y-test.true, long) in
    let row : take c.number-side.result c.row_cells-row.result ≡ get_or rows y [] =
    ap (λ n. take n c.row_cells-row.result) long ∙ c.row_cells-row.ensures in
    let parts : FillsRow text used states ends (get_or rows y []) new c.in_ok-now.now.0
    c.in_ok-now.now.1 =
    subst (λ r. FillsRow text used states ends r new c.in_ok-now.now.0 c.in_ok-now.now.1) row
    c.in_ok-now.ensures.parts in
    record {
      same = c.loop-y.invariant.same
          ∙ ap (λ rs. text ++ filled used (row_by_row states ends rs))
          (first_of_rest rows y within)
          ∙ parts (drop (y + 1) rows);
      ends = omega (arith, c.loop-y.invariant.ends, c.in_ok-now.ensures.ends);
    }

pub returns : goal.returns
returns c =
    let rows = c.args.frame.now in
    let past : length rows ≤ c.loop-y.y =
    omega (arith, c.loop-y-test.false, c.number-side.ensures.value, c.side.ensures.side) in
    c.loop-y.invariant.same
    ∙ ap
    (λ rs. c.loop-y.text.items
    ++ filled c.loop-y.used (row_by_row c.args.states c.loop-y.ends rs))
    (drop_all c.loop-y.y rows past)
    ∙ c.in_ok-_used.ensures []
