-- Rows of a band in its units.
use Rattle.std.proofs.Common.{◌≡◌, ℕ, ◌+◌, ◌*◌, ◌/◌, ◌%◌, ◌<◌, ◌≤◌, ◌∙◌, ap, sym, arith, Bool}
use Rattle.std.proofs.Common.{List, [], length, get_or, set, get_or-set_same, get_or-set_other}
use native.Mathlib.Decide.{dec_lt}
use Rattle.cam6_planes.specs.Row.{column_bit}
use Rattle.cam6_planes.specs.Side.{side_number}
use Rattle.cam6_planes.specs.declared.sides.Side.{Side}
use Rattle.cam6_planes.specs.declared.sides.Side.TheVariants.{S128, S256, S512}
use Rattle.cam6_lines.specs.Units.{columns, place, bit_in}
use Rattle.cam6_entries.proofs.UnitRows.{same_words}

-- places lie within the words of the unit's rows
pub place_within : (side : Side) (w r i : ℕ) → 64 * w ≡ columns side → r < 16 →
    i < columns side → place side r i < 64 * (16 * w)
place_within S128 w r i e h l = omega (arith, e, h, l)
place_within S256 w r i e h l = omega (arith, e, h, l)
place_within S512 w r i e h l = omega (arith, e, h, l)

-- so many words, counted in columns
pub words_begin : (side : Side) (w n : ℕ) → 64 * w ≡ columns side → 64 * (w * n) ≡ columns side * n
words_begin S128 w n e = let two : w ≡ 2 = omega (arith, e) in rw two (omega arith)
words_begin S256 w n e = let four : w ≡ 4 = omega (arith, e) in rw four (omega arith)
words_begin S512 w n e = let four : w ≡ 4 = omega (arith, e) in rw four (omega arith)

-- there are up to two units
pub two_units : (side : Side) (units : ℕ) → columns side * units ≡ side_number side → units ≤ 2
two_units S128 units all = omega (arith, all)
two_units S256 units all = omega (arith, all)
two_units S512 units all = omega (arith, all)

-- the unit of a column, and its column there

pub unit_before : (side : Side) (n x : ℕ) → x < columns side * n → x / columns side < n
unit_before S128 n x h = omega (arith, h)
unit_before S256 n x h = omega (arith, h)
unit_before S512 n x h = omega (arith, h)

pub unit_here : (side : Side) (n x : ℕ) → columns side * n ≤ x → x < columns side * (n + 1) →
    x / columns side ≡ n
unit_here S128 n x g h = omega (arith, g, h)
unit_here S256 n x g h = omega (arith, g, h)
unit_here S512 n x g h = omega (arith, g, h)

pub column_within : (side : Side) (x : ℕ) → x % columns side < columns side
column_within S128 x = omega arith
column_within S256 x = omega arith
column_within S512 x = omega arith

pub column_there : (side : Side) (x : ℕ) → columns side * (x / columns side) + x % columns side ≡ x
column_there S128 x = omega arith
column_there S256 x = omega arith
column_there S512 x = omega arith

-- row r in one more unit, where g says the bit at each column
pub unit_more : (g : ℕ → Bool) (old : List (List ℕ)) (unit : List ℕ) (side : Side) (n r : ℕ) →
    n < length old →
    ((i : ℕ) → i < columns side →
    column_bit unit (place side r i) ≡ g (columns side * n + i)) →
    ((x : ℕ) → x < columns side * n → bit_in side old r x ≡ g x) →
    (x : ℕ) → x < columns side * (n + 1) → bit_in side (set old n unit) r x ≡ g x
unit_more g old unit side n r within made below x h =
    elim (dec_lt x (columns side * n)) [
      | Prim.yes lt ↦
          ap (λ u. column_bit u (place side r (x % columns side)))
          (get_or-set_other old n (x / columns side) unit []
          (omega (arith, unit_before side n x lt))) ∙ below x lt
      | Prim.no ge ↦
          let e : x / columns side ≡ n = unit_here side n x (omega (arith, ge)) h in
          ap (λ m. column_bit (get_or (set old n unit) m []) (place side r (x % columns side))) e ∙
          ap (λ u. column_bit u (place side r (x % columns side)))
          (get_or-set_same old n unit [] within) ∙
          made (x % columns side) (column_within side x) ∙
          ap (λ m. g (columns side * m + x % columns side)) (sym e) ∙ ap g (column_there side x)
    ]

-- a row of a band that lies in one unit
pub in_one : (units : List (List ℕ)) (row : List ℕ) (side : Side) (w r : ℕ) →
    64 * w ≡ columns side → columns side ≡ side_number side →
    ((k : ℕ) → k < w → get_or row (0 + k) 0 ≡ get_or (get_or units 0 []) (w * r + k) 0) →
    (x : ℕ) → x < side_number side → column_bit row x ≡ bit_in side units r x
in_one units row side w r e whole same x h =
    let i : ℕ = x % columns side in
    let none : x / columns side ≡ 0 = unit_here side 0 x (omega arith) (omega (arith, h, whole)) in
    let there : columns side * 0 + x % columns side ≡ x =
    ap (λ n. columns side * n + x % columns side) (sym none) ∙ column_there side x in
    let here : x ≡ 64 * 0 + x % columns side = omega (arith, there) in
    ap (column_bit row) here ∙
    same_words row (get_or units 0 []) 0 (w * r) w same i
    (omega (arith, e, column_within side x)) ∙
    ap (λ n. column_bit (get_or units 0 []) (n + x % columns side)) (words_begin side w r e) ∙
    ap (λ n. column_bit (get_or units n []) (place side r (x % columns side))) (sym none)

-- and of one that lies in two
pub in_two : (units : List (List ℕ)) (row : List ℕ) (w r : ℕ) → 64 * w ≡ 256 →
    ((k : ℕ) → k < w → get_or row (0 + k) 0 ≡ get_or (get_or units 0 []) (w * r + k) 0) →
    ((k : ℕ) → k < w → get_or row (4 + k) 0 ≡ get_or (get_or units 1 []) (w * r + k) 0) →
    (x : ℕ) → x < 512 → column_bit row x ≡ bit_in S512 units r x
in_two units row w r e first second x h =
    elim (dec_lt x 256) [
      | Prim.yes lt ↦
          let none : x / 256 ≡ 0 = omega (arith, lt) in
          let here : x ≡ 64 * 0 + x % 256 = omega (arith, lt) in
          let small : x % 256 < 64 * w = omega (arith, e) in
          ap (column_bit row) here ∙
          same_words row (get_or units 0 []) 0 (w * r) w first (x % 256) small ∙
          ap (λ n. column_bit (get_or units 0 []) (n + x % 256)) (words_begin S512 w r e) ∙
          ap (λ n. column_bit (get_or units n []) (place S512 r (x % 256))) (sym none)
      | Prim.no ge ↦
          let one : x / 256 ≡ 1 = omega (arith, ge, h) in
          let here : x ≡ 64 * 4 + x % 256 = omega (arith, ge, h) in
          let small : x % 256 < 64 * w = omega (arith, e) in
          ap (column_bit row) here ∙
          same_words row (get_or units 1 []) 4 (w * r) w second (x % 256) small ∙
          ap (λ n. column_bit (get_or units 1 []) (n + x % 256)) (words_begin S512 w r e) ∙
          ap (λ n. column_bit (get_or units n []) (place S512 r (x % 256))) (sym one)
    ]
