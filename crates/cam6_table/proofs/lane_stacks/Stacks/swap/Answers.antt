use Rattle.std.proofs.Common.{◌∙◌, arith}
use Rattle.cam6_table.proofs.LaneWords.{swap_leaves}
use Rattle.cam6_table.proofs.lane_stacks.Stacks.swap.Goals as goal

pub returns : goal.returns
returns c =
    let s = c.args.self.now in
    record {
      holds = record { low = omega arith; high = omega arith; within = c.requires.holds.within };
      each = λ lane below inside floor is.
          let said = (let low = is.low in swap_leaves lane floor s.len s.rows (omega arith)) in
          let first = (let low = is.low in c.push_unchecked.ensures.put lane below inside floor (omega arith)) in
          let second = (let low = is.low in c.push_unchecked-2.ensures.put lane below inside floor (omega arith)) in
          cc;
      others = λ lane below outside floor top.
          c.push_unchecked-2.ensures.others lane below outside floor top ∙
          c.push_unchecked.ensures.others lane below outside floor top;
      below = λ lane row low.
          let under = c.requires.holds.low in
          c.push_unchecked-2.ensures.below lane row (omega (arith, low)) ∙
          c.push_unchecked.ensures.below lane row (omega (arith, low));
    }
