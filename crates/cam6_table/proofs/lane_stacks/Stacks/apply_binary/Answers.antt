use Rattle.std.proofs.Common.{◌-◌, List, ℕ, slice_index, ap, arith}
use Rattle.cam6_table.proofs.LaneWords.{top_two}
use Rattle.cam6_table.specs.Internal.Lanes.{column}
use Rattle.cam6_table.proofs.lane_stacks.Stacks.apply_binary.Goals as goal

pub returns : goal.returns
returns c =
    let s = c.args.self.now in
    record {
      holds = record { low = omega arith; high = omega arith; within = c.requires.holds.within };
      each = λ lane below inside floor is.
          let low = is.low in
          let said = top_two lane floor s.len s.rows (omega arith) in
          let a = ap (λ (row : List ℕ). slice_index row lane) c.at_depth-a.ensures in
          let b = ap (λ (row : List ℕ). slice_index row lane) c.at_depth-b.ensures in
          let fits = c.fits_in.ensures (cc) lane below inside in
          let left = c.of_all-left.ensures lane below (column lane s.rows floor (s.len - 2)) fits in
          let put = c.push_unchecked.ensures.put lane below inside floor (omega arith) in
          cc;
      others = c.push_unchecked.ensures.others;
      below = λ lane row low. c.push_unchecked.ensures.below lane row (let under = c.requires.holds.low in omega (arith, low));
    }
