-- Stacks of lanes that have a gap: what they are after rows were written.
use Rattle.std.proofs.Common.{◌≡◌, ◌∙◌, ◌<◌, ◌≤◌, ◌+◌, ◌-◌, ℕ, List, ◌++◌, Ok, Result}
use Rattle.std.proofs.Common.{length, ap, sym, refl, arith, inl, inr}
use Rattle.std.proofs.Common.{append_assoc, append-nil, length-append}
use Rattle.std.proofs.lemmas.Bool.{cases_lt}
use Rattle.cam6_forth.specs.declared.words.StackWord.TheVariants as word
use Rattle.cam6_table.specs.declared.faults.RuleFault.{RuleFault}
use Rattle.cam6_table.specs.declared.floors.Floors.{Floors}
use Rattle.cam6_table.specs.declared.lane_stacks.Stacks.{Stacks}
use Rattle.cam6_table.specs.Words.{Values, on_stack}
use Rattle.cam6_table.specs.Internal.Lanes.{column, value_at, floor_of, end_of, width_of}
use Rattle.cam6_table.specs.Internal.Lanes.{below_gap, stack_at, Stands, StayBelow}
use Rattle.cam6_table.proofs.Columns.{column_at, length_values, no_values, same_column}
use Rattle.cam6_table.proofs.Columns.{moved_column, split_column}

abbrev ok_stack : Values → Result Values RuleFault
ok_stack values = Ok values

-- a stack that lies so
pub lies_so : (lane top floor end width : ℕ) (rows : List (List ℕ)) (floors : Floors) →
    floor_of lane floors ≡ floor → end_of lane floors ≡ end → width_of lane floors ≡ width →
    stack_at lane rows floors top
    ≡ column lane rows end top ++ column lane rows (floor - width) (end - width)
lies_so lane top floor end width rows floors floor_is end_is width_is =
    ap (λ f. column lane rows (end_of lane floors) top ++
    column lane rows (f - width_of lane floors) (end_of lane floors - width_of lane floors)) floor_is ∙
    ap (λ e. column lane rows e top ++
    column lane rows (floor - width_of lane floors) (e - width_of lane floors)) end_is ∙
    ap (λ w. column lane rows end top ++ column lane rows (floor - w) (end - w)) width_is

-- how many values a stack has
pub length_stack : (lane top : ℕ) (rows : List (List ℕ)) (floors : Floors) →
    Stands lane top floors → length (stack_at lane rows floors top) + floor_of lane floors ≡ top
length_stack lane top rows floors stands =
    let floor = floor_of lane floors in
    let end = end_of lane floors in
    let width = width_of lane floors in
    let deep = stands.deep in
    let begins = stands.begins in
    let in_place = stands.in_place in
    let all = length-append (column lane rows end top) (below_gap lane rows floors) in
    let high = length_values lane end (top - end) rows in
    let low = length_values lane (floor - width) (end - width - (floor - width)) rows in
    omega arith

-- what is below the gap stays if no row below a limit changes
pub same_gap : (lane limit : ℕ) (old new : Stacks) (floors : Floors) → StayBelow limit old new →
    end_of lane floors ≤ limit →
    below_gap lane new.rows floors ≡ below_gap lane old.rows floors
same_gap lane limit old new floors stay low =
    same_column lane (floor_of lane floors - width_of lane floors) new.rows old.rows
    (end_of lane floors - width_of lane floors)
    (λ row below. stay lane row (omega (arith, below, low)))

-- a stack that lies as another one, in rows with the same values
pub same_stack : (lane top : ℕ) (rows others : List (List ℕ)) (floors gone : Floors) →
    floor_of lane floors ≡ floor_of lane gone → end_of lane floors ≡ end_of lane gone →
    width_of lane floors ≡ width_of lane gone →
    ((row : ℕ) → value_at lane rows row ≡ value_at lane others row) →
    stack_at lane rows floors top ≡ stack_at lane others gone top
same_stack lane top rows others floors gone floor_is end_is width_is same =
    let floor = floor_of lane gone in
    let end = end_of lane gone in
    let width = width_of lane gone in
    lies_so lane top floor end width rows floors floor_is end_is width_is ∙
    ap (λ (c : Values). c ++ column lane rows (floor - width) (end - width))
    (same_column lane end rows others top (λ row below. same row)) ∙
    ap (λ (c : Values). column lane others end top ++ c)
    (same_column lane (floor - width) rows others (end - width) (λ row below. same row))

-- what is above a gap was moved
pub moved_stack : (lane end top after to low high bottom limit : ℕ) (rows others : List (List ℕ)) →
    to - after ≡ top - end →
    ((k : ℕ) → k < top - end → value_at lane rows (after + k) ≡ value_at lane others (end + k)) →
    bottom ≡ low → limit ≡ high →
    ((row : ℕ) → row < high → value_at lane rows row ≡ value_at lane others row) →
    column lane rows after to ++ column lane rows bottom limit
    ≡ column lane others end top ++ column lane others low high
moved_stack lane end top after to low high bottom limit rows others height moved low_is high_is same =
    ap (λ (c : Values). c ++ column lane rows bottom limit)
    (moved_column lane end top after to rows others height moved) ∙
    ap (λ (c : Values). column lane others end top ++ c)
    (ap (λ l. column lane rows l limit) low_is ∙ ap (λ h. column lane rows low h) high_is ∙
    same_column lane low rows others high same)

-- values were brought to their places from a row on
pub dug_stack : (lane floor width from end top : ℕ) (rows others : List (List ℕ)) →
    width ≤ floor → floor ≤ from → from ≤ end → end ≤ top →
    ((row : ℕ) → from ≤ row → row < end →
    value_at lane rows row ≡ value_at lane others (row - width)) →
    ((row : ℕ) → row < from → value_at lane rows row ≡ value_at lane others row) →
    ((row : ℕ) → end ≤ row → value_at lane rows row ≡ value_at lane others row) →
    column lane rows from top ++ column lane rows (floor - width) (from - width)
    ≡ column lane others end top ++ column lane others (floor - width) (end - width)
dug_stack lane floor width from end top rows others deep low high in_place filled below above =
    let first = column lane rows (floor - width) (from - width) in
    let upper : column lane rows end top ≡ column lane others end top =
    moved_column lane end top end top rows others refl (λ k less. above (end + k) (omega arith)) in
    let dug : column lane rows from end ≡ column lane others (from - width) (end - width) =
    moved_column lane (from - width) (end - width) from end rows others (omega arith) (λ k less.
    let there : from + k - width ≡ from - width + k = omega (arith, deep, low) in
    filled (from + k) (omega arith) (omega (arith, less, deep, low, high)) ∙
    ap (λ r. value_at lane others r) there) in
    let under : first ≡ column lane others (floor - width) (from - width) =
    same_column lane (floor - width) rows others (from - width) (λ row less.
    below row (omega (arith, less))) in
    ap (λ (c : Values). c ++ first) (split_column lane from end top rows high in_place) ∙
    append_assoc (column lane rows end top) (column lane rows from end) first ∙
    ap (λ (c : Values). c ++ (column lane rows from end ++ first)) upper ∙
    ap (λ (c : Values). column lane others end top ++ c)
    (ap (λ (c : Values). c ++ first) dug ∙
    ap (λ (c : Values). column lane others (from - width) (end - width) ++ c) under ∙
    sym (split_column lane (floor - width) (from - width) (end - width) others (omega arith)
    (omega arith)))

-- a stack with all values in place, whatever the width of its gap
pub any_width : (lane floor end width other : ℕ) (rows : List (List ℕ)) (values : Values) →
    end ≡ floor →
    values ++ column lane rows (floor - other) (end - other)
    ≡ values ++ column lane rows (floor - width) (end - width)
any_width lane floor end width other rows values is =
    ap (λ (c : Values). values ++ c)
    (no_values lane (floor - other) (end - other) rows (omega arith) ∙
    sym (no_values lane (floor - width) (end - width) rows (omega arith)))

-- a gap begins at the top of a stack with all values in place
pub cut_stack : (lane floor end width top after none : ℕ) (rows : List (List ℕ)) → floor ≡ end →
    after ≡ top → none ≡ 0 →
    column lane rows after top ++ column lane rows (floor - none) (after - none)
    ≡ column lane rows end top ++ column lane rows (floor - width) (end - width)
cut_stack lane floor end width top after none rows whole is zero_is =
    let from : floor - none ≡ end = omega arith in
    let to : after - none ≡ top = omega arith in
    ap (λ (c : Values). c ++ column lane rows (floor - none) (after - none))
    (no_values lane after top rows (omega arith)) ∙
    ap (λ l. column lane rows l (after - none)) from ∙ ap (λ h. column lane rows end h) to ∙
    sym (ap (λ (c : Values). column lane rows end top ++ c)
    (no_values lane (floor - width) (end - width) rows (omega arith)) ∙
    append-nil (column lane rows end top))

-- the top value was taken off, in place or not
pub dropped : (lane floor width end len after : ℕ) (rows : List (List ℕ)) → width ≤ floor →
    floor ≤ end → end ≤ len → floor < len → (end < len → after ≡ end) →
    (len ≤ end → after + 1 ≡ len) →
    on_stack word.Drop (column lane rows end len ++ column lane rows (floor - width) (end - width))
    ≡ Ok (column lane rows after (len - 1) ++ column lane rows (floor - width) (after - width))
dropped lane floor width end len after rows deep begins in_place some same one =
    elim (cases_lt end len) [
      | inl less ↦ (let is = same less in
          ap (λ (c : Values).
          on_stack word.Drop (c ++ column lane rows (floor - width) (end - width)))
          (column_at lane rows end len (len - 1) (omega (arith, less)) (omega (arith, less))) ∙
          ap (λ e. ok_stack (column lane rows e (len - 1) ++
          column lane rows (floor - width) (e - width))) (sym is))
      | inr most ↦ (let is = one most in
          let low : end - width ≡ after - width + 1 = omega (arith, deep, begins, in_place, some, is, most) in
          ap (λ (c : Values).
          on_stack word.Drop (c ++ column lane rows (floor - width) (end - width)))
          (no_values lane end len rows most) ∙
          ap (on_stack word.Drop) (column_at lane rows (floor - width) (end - width)
          (after - width) (omega (arith, deep, begins, in_place, some, is, most)) low) ∙
          sym (ap (λ (c : Values). ok_stack (c ++ column lane rows (floor - width) (after - width)))
          (no_values lane after (len - 1) rows (omega (arith, is)))))
    ]
