use Rattle.std.proofs.Common.{arith}
use Rattle.cam6_table.proofs.LaneWords.{dup_leaves}
use Rattle.cam6_table.proofs.lane_stacks.Stacks.dup.Goals as goal

pub returns : goal.returns
returns c =
    let s = c.args.self.now in
    record {
      holds = record { low = omega arith; high = omega arith; within = c.requires.holds.within };
      each = λ lane below inside floor is.
          let said = (let low = is.low in let full = is.full in
          dup_leaves lane floor s.len s.rows (omega arith) (omega arith)) in
          let put = (let low = is.low in c.push_unchecked.ensures.put lane below inside floor (omega arith)) in
          cc;
      others = c.push_unchecked.ensures.others;
      below = λ lane row low. c.push_unchecked.ensures.below lane row (let under = c.requires.holds.low in omega (arith, low));
    }
