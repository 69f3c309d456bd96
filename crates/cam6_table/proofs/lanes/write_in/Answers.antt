use Rattle.std.proofs.Common.{◌≡◌, ◌∙◌, ◌-◌, ◌/◌, ◌%◌, List, ℕ, Option, Bool, Some, Ok, Result}
use Rattle.std.proofs.Common.{slice_index, ap, sym, refl, arith}
use Rattle.cam6_forth.specs.declared.words.Target.TheVariants.{Both, Lower, Upper}
use Rattle.cam6_table.specs.declared.faults.RuleFault.{RuleFault}
use Rattle.cam6_table.specs.declared.outputs.State.{State}
use Rattle.cam6_entries.specs.NewBits.{is_odd}
use Rattle.cam6_table.specs.Internal.Lanes.{value_at, stack_at, bit_written}
use Rattle.cam6_table.proofs.LaneOutputs.{kept_bit, state_of, top_written}
use Rattle.cam6_table.proofs.lanes.write_in.Goals as goal

abbrev ok_state : State → Result State RuleFault
ok_state s = Ok s

pub returns-in-Both : goal.returns-in-Both
returns-in-Both c =
    let old = c.args.lanes.now in
    let rows = old.stacks.rows in
    let len = old.stacks.len in
    let low = c.chosen-lanes-in-Both in
    let high = c.chosen-lanes-in-Both-2 in
    record {
      holds = record { low = omega arith; high = omega arith; within = c.requires.holds.within };
      floors = refl;
      each = λ lane below inside.
          let v = value_at lane rows (len - 1) in
          let stack = stack_at lane rows old.floors (len - 1) in
          let values = ap (λ (row : List ℕ). slice_index row lane) c.at_depth.ensures in
          let low_is : slice_index low.result lane ≡ v % 2 =
          (low.ensures.inside lane below inside ∙ c.lowest_bits-low.ensures lane below ∙
          ap (λ u. u % 2) values) in
          let high_is : slice_index high.result lane ≡ v / 2 % 2 =
          (high.ensures.inside lane below inside ∙ c.lowest_bits-high.ensures lane below ∙
          ap (λ u. u % 2) (c.halves.ensures lane below) ∙ ap (λ u. u / 2 % 2) values) in
          rw c.in-Both.is
          (top_written Both lane len old (let low = (c.requires.floors lane below inside).in_place in omega arith) ∙
          ap (λ (b : Option Bool). ok_state (state_of stack b (Some (is_odd (v / 2)))))
          (sym (kept_bit v (slice_index low.result lane) low_is)) ∙
          ap (λ (b : Option Bool).
          ok_state (state_of stack (bit_written (slice_index low.result lane)) b))
          (sym (kept_bit (v / 2) (slice_index high.result lane) high_is)));
      others = λ lane below outside top.
          let stack = stack_at lane rows old.floors top in
          ap (λ v. state_of stack (bit_written v) (bit_written (slice_index high.result lane)))
          (low.ensures.outside lane below outside) ∙
          ap (λ v. state_of stack (bit_written (slice_index old.lower lane)) (bit_written v))
          (high.ensures.outside lane below outside);
    }

pub returns-in-Lower : goal.returns-in-Lower
returns-in-Lower c =
    let old = c.args.lanes.now in
    let rows = old.stacks.rows in
    let len = old.stacks.len in
    let low = c.chosen-lanes in
    record {
      holds = record { low = omega arith; high = omega arith; within = c.requires.holds.within };
      floors = refl;
      each = λ lane below inside.
          let v = value_at lane rows (len - 1) in
          let stack = stack_at lane rows old.floors (len - 1) in
          let values = ap (λ (row : List ℕ). slice_index row lane) c.at_depth.ensures in
          let low_is : slice_index low.result lane ≡ v % 2 =
          (low.ensures.inside lane below inside ∙ c.lowest_bits-low.ensures lane below ∙
          ap (λ u. u % 2) values) in
          rw c.in-Lower.is
          (top_written Lower lane len old
          (let under = (c.requires.floors lane below inside).in_place in omega arith) ∙
          ap (λ (b : Option Bool). ok_state (state_of stack b (bit_written (slice_index old.upper lane))))
          (sym (kept_bit v (slice_index low.result lane) low_is)));
      others = λ lane below outside top.
          let stack = stack_at lane rows old.floors top in
          ap (λ v. state_of stack (bit_written v) (bit_written (slice_index old.upper lane)))
          (low.ensures.outside lane below outside);
    }

pub returns-in-Upper : goal.returns-in-Upper
returns-in-Upper c =
    let old = c.args.lanes.now in
    let rows = old.stacks.rows in
    let len = old.stacks.len in
    let low = c.chosen-lanes-in-Upper in
    record {
      holds = record { low = omega arith; high = omega arith; within = c.requires.holds.within };
      floors = refl;
      each = λ lane below inside.
          let v = value_at lane rows (len - 1) in
          let stack = stack_at lane rows old.floors (len - 1) in
          let values = ap (λ (row : List ℕ). slice_index row lane) c.at_depth.ensures in
          let low_is : slice_index low.result lane ≡ v % 2 =
          (low.ensures.inside lane below inside ∙ c.lowest_bits-low.ensures lane below ∙
          ap (λ u. u % 2) values) in
          rw c.in-Upper.is
          (top_written Upper lane len old
          (let under = (c.requires.floors lane below inside).in_place in omega arith) ∙
          ap (λ (b : Option Bool). ok_state (state_of stack (bit_written (slice_index old.lower lane)) b))
          (sym (kept_bit v (slice_index low.result lane) low_is)));
      others = λ lane below outside top.
          let stack = stack_at lane rows old.floors top in
          ap (λ v. state_of stack (bit_written (slice_index old.lower lane)) (bit_written v))
          (low.ensures.outside lane below outside);
    }
