use Rattle.std.proofs.Common.{None, [], get_or, map, ◌∙◌, ap, arith, length, length-set}
use Rattle.cam6_planes.specs.Row.{column_bit}
use Rattle.cam6_planes.specs.Side.{side_number}
use Rattle.cam6_wiring.specs.Lines.{sees_at}
use Rattle.cam6_wiring.specs.Seen.{line_shows, number_of, address_of}
use Rattle.cam6_wiring.proofs.LineByLine.{map_same, one_more}
use Rattle.cam6_wiring.proofs.Numbers.{length-names_of}
use Rattle.cam6_wiring.proofs.lines.put_lines.Goals as goal

pub loop-k-preserved : goal.loop-k-preserved
loop-k-preserved c =
    let a = c.args in
    let now = c.loop-k in
    record {
      long = length-set _ _ _ ∙ now.invariant.long;
      shown = λ f around x l.
          let shows = line_shows (sees_at (side_number a.rows.now.side) f a.setting x a.y) in
          one_more (λ line. column_bit line x)
          (λ j. shows (get_or c.names_of-names.result j None)) now.lines [] _ now.k
          (omega (arith, now.invariant.long)) (now.invariant.shown f around x l)
          (c.put_line.ensures f around x l);
    }

pub returns-clause-lines : goal.returns-clause-lines
returns-clause-lines c = λ f around x l.
    let a = c.args in
    let shows = line_shows (sees_at (side_number a.rows.now.side) f a.setting x a.y) in
    let names = c.names_of-names in
    map_same (λ line. column_bit line x) shows c.loop-k.lines names.result [] None 12
    c.loop-k.invariant.long (ap length names.ensures ∙ length-names_of a.hood a.minor)
    (λ k h. c.loop-k.invariant.shown f around x l k (omega (arith, h))) ∙
    ap (map shows) names.ensures

pub returns-clause-address : goal.returns-clause-address
unfolding address_of
returns-clause-address c = λ f around x l. ap number_of (returns-clause-lines c f around x l)
