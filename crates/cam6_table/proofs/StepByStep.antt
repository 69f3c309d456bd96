-- Lanes of a set do instructions in the same way: what is left in each of them.
use Rattle.std.proofs.Common.{◌≡◌, ◌<◌, ◌≤◌, ◌-◌, ℕ, List, Result, Ok, length, slice_index, subst, sym, refl, arith, ◌∙◌}
use Rattle.cam6_table.specs.declared.codes.Instruction.{Instruction}
use Rattle.cam6_table.specs.declared.floors.Floors.{Floors}
use Rattle.cam6_table.specs.declared.lanes.Lanes.{Lanes}
use Rattle.cam6_table.specs.declared.lane_stacks.NotInAllLanes.{NotInAllLanes}
use Rattle.cam6_table.specs.declared.lane_values.TheConstants.{LANES}
use Rattle.cam6_table.specs.declared.spans.Span.{Span}
use Rattle.cam6_table.specs.Internal.Lanes.{Stands, IsSpanned, IsWithin, StepsIn, ActsIn, GoOn}
use Rattle.cam6_table.specs.Internal.Lanes.{IsNext}
use Rattle.cam6_table.specs.Internal.Sets.{IsIn}
use Rattle.cam6_table.proofs.Moving.{untouched_then}
use Rattle.cam6_table.proofs.Outcomes.{still_left}
use Rattle.cam6_table.proofs.Parting.{stands_in}

same_span : (span : Span) → IsWithin span span
same_span span = record { floor = omega arith; bottom = refl; room = refl }

-- lanes that keep where their stacks lie keep their span
pub steps_of_acts : (set addresses : List ℕ) (instruction : Instruction) (span : Span)
    (old new : Lanes) (result : Result ℕ NotInAllLanes) →
    ((lane : ℕ) → lane < LANES → IsIn set lane → IsSpanned span lane old.floors) →
    ActsIn set span addresses instruction old new result →
    StepsIn set addresses instruction span old span new result
steps_of_acts set addresses instruction span old new result floors acts = record {
  holds = acts.holds;
  narrows = same_span span;
  floors = λ lane below inside.
      subst (λ (f : Floors). IsSpanned span lane f) (sym acts.floors) (floors lane below inside);
  each = acts.each;
  others = λ lane below outside. record {
    stands = λ top stands. subst (λ (f : Floors). Stands lane top f) (sym acts.floors) stands;
    spanned = λ other is.
        subst (λ (f : Floors). IsSpanned other lane f) (sym acts.floors) is;
    state = acts.others lane below outside;
  };
}

pub within_then : (span mid after : Span) → IsWithin mid span → IsWithin after mid →
    IsWithin after span
within_then span mid after first second =
    let a = first.floor in
    let b = second.floor in
    record {
      floor = omega arith;
      bottom = second.bottom ∙ first.bottom;
      room = second.room ∙ first.room;
    }

-- a lane of a narrower span
pub spanned_within : (span after : Span) (lane : ℕ) (floors : Floors) → IsWithin after span →
    IsSpanned after lane floors → IsSpanned span lane floors
spanned_within span after lane floors within is =
    let a = within.floor in
    let b = within.bottom in
    let r = within.room in
    let in_place = is.in_place in
    let bottom = is.bottom in
    let full = is.full in
    record {
      deep = is.deep;
      begins = is.begins;
      in_place = omega arith;
      bottom = omega arith;
      full = omega arith;
    }

-- an instruction more
pub one_more : (addresses : List ℕ) (code : List Instruction) (set : List ℕ) (from : ℕ)
    (old : Lanes) (remaining : ℕ) (mid : Lanes) (instruction : Instruction) (span after : Span)
    (new : Lanes) (passed to : ℕ) → remaining ≤ length code → 0 < remaining →
    IsNext code remaining instruction → to ≡ remaining - 1 - passed →
    GoOn addresses code set from old remaining mid →
    StepsIn set addresses instruction span mid after new (Ok passed) →
    GoOn addresses code set from old to new
one_more addresses code set from old remaining mid instruction span after new passed to within some
    next is goes step = record {
      inside = λ lane below inside left.
          still_left (slice_index addresses lane) code instruction remaining to mid.stacks.len
          new.stacks.len mid new lane some next
          (stands_in after new.stacks.len lane new.floors step.holds (step.floors lane below inside))
          passed is (step.each lane below inside) (goes.inside lane below inside left);
      outside = λ lane below outside.
          untouched_then old mid new lane (goes.outside lane below outside)
          (step.others lane below outside);
    }
