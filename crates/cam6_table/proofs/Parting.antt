-- Lanes part at an IF and at a case: what is left in each of them.
use Rattle.std.proofs.Common.{◌≡◌, ◌≢◌, ◌∙◌, ◌⊎◌, ◌<◌, ◌≤◌, ◌+◌, ◌-◌, ◌==◌, ℕ, zero, suc}
use Rattle.std.proofs.Common.{None, Some, Ok, Err, ap, sym, subst, refl, arith, inl, inr}
use Rattle.std.proofs.Common.{◌&&◌, IsTrue, if◌then◌else◌, nat_lt, Result, Bool, true, false, List, ◌∷◌, ◌++◌, length}
use Rattle.std.proofs.lemmas.Bool.{cases_eq}
use Rattle.std.proofs.lemmas.Bool.Decides.{nat_tests}
use Rattle.cam6_wiring.specs.Seen.{shown}
use Rattle.cam6_table.specs.declared.codes.Instruction.{Instruction}
use Rattle.cam6_table.specs.declared.codes.Instruction.TheVariants.{SkipIfZero, Case}
use Rattle.cam6_table.specs.declared.codes.Instruction.TheVariants.{CaseWord}
use Rattle.cam6_table.specs.declared.evaluation.Next.{Next}
use Rattle.cam6_table.specs.declared.faults.RuleFault.{RuleFault}
use Rattle.cam6_table.specs.declared.faults.RuleFault.TheVariants.{CaseIndex}
use Rattle.cam6_table.specs.declared.lanes.Lanes.{Lanes}
use Rattle.cam6_table.specs.declared.outputs.State.{State}
use Rattle.cam6_table.specs.Words.{Values}
use Rattle.cam6_table.specs.Meaning.{at_zero, with_top}
use Rattle.cam6_table.specs.Codes.{act, go}
use Rattle.cam6_table.specs.Internal.Lanes.{value_at, end_of, below_gap, stack_at, state_at}
use Rattle.cam6_table.specs.Internal.Lanes.{outcome_from, IsNext, LeadsTo, IsLeft, IsKept}
use Rattle.cam6_table.specs.Internal.Lanes.{Stands, Holds, IsFor, IsSpanned}
use Rattle.cam6_table.specs.Internal.Sets.{IsInOnePart}
use Rattle.cam6_table.specs.declared.floors.Floors.{Floors}
use Rattle.cam6_table.specs.declared.spans.Span.{Span}
use Rattle.cam6_table.proofs.Columns.{column_at}
use Rattle.cam6_table.proofs.Jumps.{exec-goes_on}
use Rattle.cam6_table.proofs.Outcomes.{still_left, left_at_word}

-- a mask, those of it where a value is 0, and the others
module _ (set top zeros others : ℕ) (zeros_are : zeros ≡ (if top == 0 then set else 0))
    (others_are : others ≡ (if top == 0 then 0 else set)) where
  pub not_zero : set ≡ 65535 → zeros ≡ 0 → top ≢ 0
  not_zero inside none = grind (arith, nat_tests)

  pub is_zero : set ≡ 65535 → others ≡ 0 → top ≡ 0
  is_zero inside none = grind (arith, nat_tests)

  pub set_of_others : others ≡ 65535 → set ≡ 65535
  set_of_others inside = grind (arith, nat_tests)

  pub value_of_others : others ≡ 65535 → top ≢ 0
  value_of_others inside = grind (arith, nat_tests)

abbrev done_so : State → Next → Result (State × Next) RuleFault
done_so s next = Ok (s, next)

-- a stack of a span that ends at a row
pub stands_in : (span : Span) (len lane : ℕ) (floors : Floors) → Holds span len →
    IsSpanned span lane floors → Stands lane len floors
stands_in span len lane floors holds is =
    let low = holds.low in
    let high = holds.high in
    let within = holds.within in
    let under = is.in_place in
    let full = is.full in
    record {
      deep = is.deep;
      begins = is.begins;
      in_place = omega arith;
      high = omega arith;
      within = omega arith;
    }

-- the values of such a stack that are in place
pub is_for : (span : Span) (lane : ℕ) (floors : Floors) → IsSpanned span lane floors →
    IsFor span (end_of lane floors)
is_for span lane floors is =
    let begins = is.begins in
    let full = is.full in
    record { low = is.in_place; full = omega arith }

-- what is left to a lane stays if its state is kept
pub kept_left : (address : ℕ) (code : List Instruction) (remaining top : ℕ) (lanes : Lanes)
    (after : ℕ) (new : Lanes) (lane : ℕ) → IsKept top lanes after new lane →
    IsLeft address code remaining top lanes lane → IsLeft address code remaining after new lane
kept_left address code remaining top lanes after new lane kept left = record {
  place = left.place;
  stands = kept.stands;
  left = ap (outcome_from address code (record { remaining = remaining; word = None })) kept.same ∙
      left.left;
}

-- what is left to a lane stays where its state does
pub same_left : (address : ℕ) (code : List Instruction) (remaining top : ℕ) (lanes new : Lanes)
    (lane : ℕ) → new.floors ≡ lanes.floors → state_at lane top new ≡ state_at lane top lanes →
    IsLeft address code remaining top lanes lane → IsLeft address code remaining top new lane
same_left address code remaining top lanes new lane floors same left = record {
  place = left.place;
  stands = subst (λ (f : Floors). Stands lane top f) (sym floors) left.stands;
  left = ap (outcome_from address code (record { remaining = remaining; word = None })) same ∙ left.left;
}

pub left_there : (address : ℕ) (code : List Instruction) (remaining top to after : ℕ)
    (lanes : Lanes) (lane : ℕ) → to ≡ remaining → after ≡ top →
    IsLeft address code remaining top lanes lane → IsLeft address code to after lanes lane
left_there address code remaining top to after lanes lane to_is after_is left =
    subst (λ b. IsLeft address code b after lanes lane) (sym to_is)
    (subst (λ h. IsLeft address code remaining h lanes lane) (sym after_is) left)

pub never_passes : (v distance : ℕ) → distance ≡ 0 → at_zero v distance 0 ≡ 0
never_passes zero distance is = is
never_passes (suc v) distance is = refl

pub goes_in : (v distance : ℕ) → v ≢ 0 → at_zero v distance 0 ≡ 0
goes_in zero distance other = absurd (other refl)
goes_in (suc v) distance other = refl

pub goes_past : (v distance : ℕ) → v ≡ 0 → at_zero v distance 0 ≡ distance
goes_past zero distance is = refl
goes_past (suc v) distance is = cc is

module _ (address : ℕ) (code : List Instruction) (remaining to len : ℕ) (lanes new : Lanes)
    (lane : ℕ) (some : 0 < remaining) (full : 1 + end_of lane lanes.floors ≤ len)
    (floors : new.floors ≡ lanes.floors)
    (same : state_at lane (len - 1) new ≡ state_at lane (len - 1) lanes)
    (left : IsLeft address code remaining len lanes lane) where
  top : stack_at lane lanes.stacks.rows lanes.floors len
      ≡ value_at lane lanes.stacks.rows (len - 1) ∷
      stack_at lane lanes.stacks.rows lanes.floors (len - 1)
  top =
      ap (λ (c : Values). c ++ below_gap lane lanes.stacks.rows lanes.floors)
      (column_at lane lanes.stacks.rows (end_of lane lanes.floors) len (len - 1) (omega arith)
      (omega arith))

  stands : Stands lane (len - 1) new.floors
  stands =
      let high = left.stands.high in
      let within = left.stands.within in
      subst (λ (f : Floors). Stands lane (len - 1) f) (sym floors)
      (record {
        deep = left.stands.deep;
        begins = left.stands.begins;
        in_place = omega arith;
        high = omega arith;
        within = omega arith;
      })

  -- after an IF
  pub left_after_if : (distance passed : ℕ) → IsNext code remaining (SkipIfZero distance) →
      at_zero (value_at lane lanes.stacks.rows (len - 1)) distance 0 ≡ passed →
      to ≡ remaining - 1 - passed → IsLeft address code to (len - 1) new lane
  left_after_if distance passed next passes is =
      still_left address code (SkipIfZero distance) remaining to len (len - 1) lanes new lane some next
      stands passed is
      (ap (λ (stack : Values). with_top stack (state_at lane len lanes)
      (λ v below. done_so below (go (at_zero v distance 0) None))) top ∙
      ap (λ n. done_so (state_at lane (len - 1) lanes) (go n None)) passes ∙
      ap (λ (s : State). done_so s (go passed None)) (sym same)) left

  -- at a word of a case
  pub left_in_case : (count : ℕ) → IsNext code remaining (Case count) →
      value_at lane lanes.stacks.rows (len - 1) < count → to ≤ length code →
      LeadsTo code (remaining - 1) (value_at lane lanes.stacks.rows (len - 1)) to →
      IsLeft address code to (len - 1) new lane
  left_in_case count next below within leads =
      let i = value_at lane lanes.stacks.rows (len - 1) in
      let index : nat_lt i count ≡ true = grind (arith, nat_tests) in
      left_at_word address code (Case count) remaining to len (len - 1) lanes new lane some next
      stands i within leads
      (ap (λ (stack : Values). with_top stack (state_at lane len lanes)
      (λ j below. if nat_lt j count then done_so below (go 0 (Some j)) else Err CaseIndex)) top ∙
      ap (λ b. if b then done_so (state_at lane (len - 1) lanes) (go 0 (Some i)) else Err CaseIndex)
      index ∙
      ap (λ (s : State). done_so s (go 0 (Some i))) (sym same)) left

-- at the head of a word that is looked for
module _ (address : ℕ) (code : List Instruction) (i : Instruction) (remaining len after : ℕ)
    (s : State) (some : 0 < remaining) (within : remaining ≤ length code) (next : IsNext code remaining i)
    (is : i ≡ CaseWord len after) where
  one : remaining ≡ remaining - 1 + 1
  one = omega arith

  pub word_found : outcome_from address code (record { remaining = remaining - 1; word = None }) s
      ≡ outcome_from address code (record { remaining = remaining; word = Some 0 }) s
  word_found =
      sym (exec-goes_on (shown address) code remaining (remaining - 1) (remaining - 1) (Some 0) i s s
      (go 0 None) one (omega arith) (omega arith) next
      (ap (λ (j : Instruction). act (shown address) (Some 0) j s) is))

  pub word_passed : (to word : ℕ) → to ≡ remaining - 1 - len →
      outcome_from address code (record { remaining = to; word = Some word }) s
      ≡ outcome_from address code (record { remaining = remaining; word = Some (suc word) }) s
  word_passed to word there =
      sym (exec-goes_on (shown address) code remaining (remaining - 1) to (Some (suc word)) i s s
      (go len (Some word)) one (omega arith) there next
      (ap (λ (j : Instruction). act (shown address) (Some (suc word)) j s) is))

pub if_same : (a b x y : ℕ) → a ≡ b → (if a == b then x else y) ≡ x
if_same a b x y same = grind (arith, nat_tests)

pub if_other : (a b x y : ℕ) → a ≢ b → (if a == b then x else y) ≡ y
if_other a b x y other = grind (arith, nat_tests)

pub if_none : (test : Bool) (x : ℕ) → x ≡ 0 → (if test then x else 0) ≡ 0
if_none true x none = none
if_none false x none = refl

-- a lane that waits at a place
module _ (b t remaining top : ℕ) (is : IsTrue (b == remaining && t == top)) where
  pub remaining_there : b ≡ remaining
  remaining_there = grind (arith, nat_tests)

  pub top_there : t ≡ top
  top_there = grind (arith, nat_tests)

-- the parts of a set in which a value is 0 and in which it is not
pub one_part : (set top zeros others : ℕ) → zeros ≡ (if top == 0 then set else 0) →
    others ≡ (if top == 0 then 0 else set) → (set ≡ 65535) ⊎ (set ≡ 0) →
    IsInOnePart set zeros others
one_part set top zeros others zeros_are others_are each =
    elim (cases_eq top 0) [
      | inl same ↦ (let zeros_is : zeros ≡ set = grind (arith, nat_tests) in
          let others_is : others ≡ 0 = grind (arith, nat_tests) in
          record {
            each = each;
            each_first = elim each [
              | inl inside ↦ inl (zeros_is ∙ inside)
              | inr none ↦ inr (zeros_is ∙ none)
            ];
            each_second = inr others_is;
            one = λ inside. inl (zeros_is ∙ inside);
            first_in = λ is. sym zeros_is ∙ is;
            first_only = λ is. others_is;
            second_in = λ is. absurd (omega (arith, is, others_is));
            second_only = λ is. absurd (omega (arith, is, others_is));
            none_first = λ none. zeros_is ∙ none;
            none_second = λ none. others_is;
          })
      | inr other ↦ (let zeros_is : zeros ≡ 0 = grind (arith, nat_tests) in
          let others_is : others ≡ set = grind (arith, nat_tests) in
          record {
            each = each;
            each_first = inr zeros_is;
            each_second = elim each [
              | inl inside ↦ inl (others_is ∙ inside)
              | inr none ↦ inr (others_is ∙ none)
            ];
            one = λ inside. inr (others_is ∙ inside);
            first_in = λ is. absurd (omega (arith, is, zeros_is));
            first_only = λ is. absurd (omega (arith, is, zeros_is));
            second_in = λ is. sym others_is ∙ is;
            second_only = λ is. zeros_is;
            none_first = λ none. zeros_is;
            none_second = λ none. others_is ∙ none;
          })
    ]

pub value_of_zeros : (set top first : ℕ) → first ≡ (if top == 0 then set else 0) →
    first ≡ 65535 → top ≡ 0
value_of_zeros set top first first_is inside = grind (arith, nat_tests)
