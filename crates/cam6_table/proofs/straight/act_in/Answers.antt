use Rattle.std.proofs.Common.{◌∙◌, ◌∷◌, None, slice_index, ap, refl, arith}
use Rattle.cam6_planes.specs.Row.{bit_number}
use Rattle.cam6_wiring.specs.Seen.{shown}
use Rattle.cam6_table.specs.declared.codes.Instruction.{Instruction}
use Rattle.cam6_table.specs.Codes.{act}
use Rattle.cam6_table.specs.Internal.Lanes.{column, end_of, state_at}
use Rattle.cam6_table.proofs.Gaps.{same_gap}
use Rattle.cam6_table.proofs.LaneOutputs.{pushed_on, done_on, others_stay}
use Rattle.cam6_table.proofs.Parting.{stands_in, is_for}
use Rattle.cam6_table.proofs.straight.act_in.Goals as goal

pub returns-in_ok-push-in-Literal : goal.returns-in_ok-push-in-Literal
returns-in_ok-push-in-Literal c =
    let old = c.args.lanes.now in
    let push = c.in_ok-push-in-Literal.ensures in
    record {
      holds = push.holds;
      floors = refl;
      each = λ lane below inside.
          let is = c.requires.floors lane below inside in
          let low = is.in_place in
          let full = is.full in
          let room = push.room in
          let holds = c.requires.holds.low in
          let stack = column lane old.stacks.rows (end_of lane old.floors) old.stacks.len in
          ap (λ (i : Instruction). act (shown (slice_index c.args.addresses.now lane)) None i
          (state_at lane old.stacks.len old)) c.in-Literal.is ∙
          pushed_on lane old c.push.new.self
          (same_gap lane c.args.span.floor old.stacks c.push.new.self old.floors push.below low)
          c.in-Literal.value (stands_in c.args.span old.stacks.len lane old.floors c.requires.holds is)
          (omega arith)
          (push.ok lane below inside (end_of lane old.floors) (omega arith) ∙
          ap (λ v. v ∷ stack) (c.in_all.ensures lane below));
      others = λ lane below outside. others_stay lane old c.push.new.self (push.others lane below outside);
    }

pub returns-in_ok-push-in-Line : goal.returns-in_ok-push-in-Line
returns-in_ok-push-in-Line c =
    let old = c.args.lanes.now in
    let push = c.in_ok-push-in-Line.ensures in
    record {
      holds = push.holds;
      floors = refl;
      each = λ lane below inside.
          let is = c.requires.floors lane below inside in
          let low = is.in_place in
          let full = is.full in
          let room = push.room in
          let holds = c.requires.holds.low in
          let stack = column lane old.stacks.rows (end_of lane old.floors) old.stacks.len in
          ap (λ (i : Instruction). act (shown (slice_index c.args.addresses.now lane)) None i
          (state_at lane old.stacks.len old)) c.in-Line.is ∙
          pushed_on lane old c.push-in-Line.new.self
          (same_gap lane c.args.span.floor old.stacks c.push-in-Line.new.self old.floors push.below low)
          (bit_number (shown (slice_index c.args.addresses.now lane) c.in-Line.line))
          (stands_in c.args.span old.stacks.len lane old.floors c.requires.holds is)
          (omega arith)
          (push.ok lane below inside (end_of lane old.floors) (omega arith) ∙
          ap (λ v. v ∷ stack) (c.bits_of.ensures lane below));
      others = λ lane below outside.
          others_stay lane old c.push-in-Line.new.self (push.others lane below outside);
    }

pub returns-in_ok-apply-in-Stack : goal.returns-in_ok-apply-in-Stack
returns-in_ok-apply-in-Stack c =
    let old = c.args.lanes.now in
    let apply = c.in_ok-apply-in-Stack.ensures in
    record {
      holds = apply.holds;
      floors = refl;
      each = λ lane below inside.
          let is = c.requires.floors lane below inside in
          ap (λ (i : Instruction). act (shown (slice_index c.args.addresses.now lane)) None i
          (state_at lane old.stacks.len old)) c.in-Stack.is ∙
          done_on lane old c.apply.new.self
          (same_gap lane c.args.span.floor old.stacks c.apply.new.self old.floors apply.below
          is.in_place) c.in-Stack.word
          (stands_in c.args.span c.apply.new.self.len lane old.floors apply.holds is)
          (apply.each lane below inside (end_of lane old.floors) (is_for c.args.span lane old.floors is));
      others = λ lane below outside. others_stay lane old c.apply.new.self (apply.others lane below outside);
    }
