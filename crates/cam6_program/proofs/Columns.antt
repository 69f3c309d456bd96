-- What lines and slots show at a column.
use Rattle.std.proofs.Common.{◌≡◌, ℕ, suc, ◌≤◌, ◌<◌, Bool, false, List, [], ◌∷◌, ◌++◌}
use Rattle.std.proofs.Common.{length, map, get_or, set, refl, sym, ◌∙◌, ap, arith}
use Rattle.std.proofs.Common.{true, ◌+◌, ◌==◌, ◌&&◌, nat_lt}
use Rattle.std.proofs.Common.{if◌then◌else◌, Bor, take, drop}
use Rattle.std.proofs.Math.Seq.{set-append_seam}
use Rattle.std.proofs.lemmas.Bool.{and_parts, eqb-true, ltb-true}
use Rattle.std.proofs.lemmas.List.{get_or-map, get_or_past, length-map, length-take-le}
use Rattle.std.proofs.lemmas.List.{map-append, take_more, take-map, drop-map, set_split}
use Rattle.std.proofs.lemmas.List.{get_or-set_same, length-set}
use Rattle.cam6_planes.specs.Row.{column_bit}
use Rattle.cam6_wiring.specs.Lines.{at_column}
use Rattle.cam6_program.specs.Limits.{max_slots}
use Rattle.cam6_program.specs.Meaning.{made, put_into, after_step}
use Rattle.cam6_program.specs.Running.{with_first, written_after}
use Rattle.cam6_program.specs.declared.steps.Step.{Step}

-- what a line shows
pub shown_line : (lines : List (Bor (List ℕ))) (none : Bor (List ℕ)) (line c : ℕ) →
    line < length lines → column_bit (get_or lines line none).now c
    ≡ get_or (at_column c (map (λ line. line.now) lines)) line false
shown_line lines none line c within =
    let long : length (map {A = Bor (List ℕ)} {B = List ℕ} (λ line. line.now) lines)
    ≡ length lines = length-map lines (λ line. line.now) in
    ap (λ unit. column_bit unit c)
    (sym (get_or-map (λ line. line.now) lines line none [] within)) ∙
    sym (get_or-map (λ unit. column_bit unit c) (map (λ line. line.now) lines) line [] false
    (omega (arith, long, within)))

-- past the last line there is 0
pub no_line : (lines : List (Bor (List ℕ))) (line c : ℕ) → length lines ≤ line →
    false ≡ get_or (at_column c (map (λ line. line.now) lines)) line false
no_line lines line c past =
    let units : List (List ℕ) = map (λ line. line.now) lines in
    let long : length units ≡ length lines = length-map lines (λ line. line.now) in
    let longer : length (at_column c units) ≡ length units =
    length-map units (λ unit. column_bit unit c) in
    sym (get_or_past (at_column c units) line false (omega (arith, long, longer, past)))

-- a step writes the first of the slots after those before it
pub slot_written : (lines front slots : List Bool) (step : Step) → length front ≡ step.into →
    0 < length slots →
    front ++ with_first lines front step.operation slots ≡ put_into lines step (front ++ slots)
slot_written lines front [] step place some = absurd (omega (arith, some))
slot_written lines front (held ∷ back) step place some =
    let emptied : set (front ++ (held ∷ back)) step.into false ≡ front ++ (false ∷ back) =
    ap (λ i. set (front ++ (held ∷ back)) i false) (sym place) ∙
    set-append_seam front held back false in
    sym (set-append_seam front false back (made lines (front ++ (false ∷ back)) step.operation)) ∙
    ap (λ i. set (front ++ (false ∷ back)) i (made lines (front ++ (false ∷ back)) step.operation))
    place ∙
    ap (λ slots. set slots step.into (made lines slots step.operation)) (sym emptied)

pub step_taken : (lines : List Bool) (step : Step) (old before rest new : List (List ℕ)) (c : ℕ) →
    length before ≡ step.into → 0 < length rest → old ≡ before ++ rest →
    at_column c new ≡ with_first lines (at_column c before) step.operation (at_column c rest) →
    at_column c (before ++ new) ≡ put_into lines step (at_column c old)
step_taken lines step old before rest new c place some parts is =
    let front : List Bool = at_column c before in
    map-append (λ unit. column_bit unit c) before new ∙ ap (λ slots. front ++ slots) is ∙
    slot_written lines front (at_column c rest) step
    (length-map before (λ unit. column_bit unit c) ∙ place)
    (omega (arith, some, length-map rest (λ unit. column_bit unit c))) ∙
    ap (put_into lines step) (sym (map-append (λ unit. column_bit unit c) before rest)) ∙
    ap (λ slots. put_into lines step (at_column c slots)) (sym parts)

-- a step empties the slot that it writes, whatever it held
emptied : (lines before : List Bool) (step : Step) (held : Bool) → step.into ≡ length before →
    put_into lines step (before ++ (held ∷ [])) ≡ put_into lines step (before ++ (false ∷ []))
emptied lines before step held place =
    let own : set (before ++ (held ∷ [])) step.into false ≡ before ++ (false ∷ []) =
    ap (λ i. set (before ++ (held ∷ [])) i false) place ∙ set-append_seam before held [] false in
    let blank : set (before ++ (false ∷ [])) step.into false ≡ before ++ (false ∷ []) =
    ap (λ i. set (before ++ (false ∷ [])) i false) place ∙ set-append_seam before false [] false in
    ap (λ slots. set slots step.into (made lines slots step.operation)) (own ∙ sym blank)

module _ (lines : List Bool) (step : Step) (written c : ℕ) (slots : List (List ℕ))
    (long : length slots ≡ max_slots) (within : written ≤ max_slots) where
  abbrev held : List Bool
  held = at_column c (take written slots)

  length-held : length held ≡ written
  length-held =
      length-map (take written slots) (λ unit. column_bit unit c) ∙
      length-take-le written slots (omega (arith, long, within))

  by_test : (is_next : Bool) → (is_next ≡ true → step.into ≡ written) →
      (is_next ≡ true → step.into < max_slots) →
      put_into lines step (at_column c (take (if is_next then written + 1 else written) slots))
      ≡ put_into lines step (if is_next then held ++ (false ∷ []) else held)
  by_test true place room =
      let fits : written < length slots = omega (arith, place refl, room refl, long) in
      ap (λ units. put_into lines step (at_column c units)) (take_more slots written [] fits) ∙
      ap (put_into lines step)
      (map-append (λ unit. column_bit unit c) (take written slots) (get_or slots written [] ∷ [])) ∙
      emptied lines held step (column_bit (get_or slots written []) c)
      (place refl ∙ sym length-held)
  by_test false place room = refl

  both : ((step.into == written) && nat_lt step.into max_slots) ≡ true →
      ((step.into == written) ≡ true) × (nat_lt step.into max_slots ≡ true)
  both = and_parts (step.into == written) (nat_lt step.into max_slots)

  -- a step takes the slots that are written on, whatever the next one held
  pub step_in_order :
      put_into lines step (at_column c (take (written_after written step.into) slots))
      ≡ after_step lines step held
  step_in_order =
      by_test ((step.into == written) && nat_lt step.into max_slots)
      (λ e. eqb-true step.into written (both e).0) (λ e. ltb-true step.into max_slots (both e).1) ∙
      ap (λ n. put_into lines step
      (if (step.into == n) && nat_lt step.into max_slots then held ++ (false ∷ []) else held))
      (sym length-held)

  -- what a step makes of the slots beside its own is what it puts there
  pub made_beside : step.into < written_after written step.into →
      written_after written step.into ≤ max_slots →
      made lines (at_column c (take step.into (take (written_after written step.into) slots)) ++
      (false ∷ at_column c (drop (step.into + 1) (take (written_after written step.into) slots))))
      step.operation
      ≡ get_or (after_step lines step held) step.into false
  made_beside here fits =
      let units : List (List ℕ) = take (written_after written step.into) slots in
      let bits : List Bool = at_column c units in
      let count : length bits ≡ written_after written step.into =
      length-map units (λ unit. column_bit unit c) ∙
      length-take-le (written_after written step.into) slots (omega (arith, long, fits)) in
      let room : step.into < length bits = omega (arith, here, count) in
      let next : suc step.into ≡ step.into + 1 = omega arith in
      let parts : set bits step.into false ≡
      at_column c (take step.into units) ++ (false ∷ at_column c (drop (step.into + 1) units)) =
      set_split bits step.into false room ∙
      ap (λ front. front ++ (false ∷ drop (suc step.into) bits))
      (take-map (λ unit. column_bit unit c) step.into units) ∙
      ap (λ back. at_column c (take step.into units) ++ (false ∷ back))
      (drop-map (λ unit. column_bit unit c) (suc step.into) units ∙
      ap (λ n. at_column c (drop n units)) next) in
      let emptied : List Bool = set bits step.into false in
      ap (λ bits. made lines bits step.operation) (sym parts) ∙
      sym (get_or-set_same emptied step.into (made lines emptied step.operation) false
      (omega (arith, room, length-set bits step.into false))) ∙
      ap (λ slots. get_or slots step.into false) step_in_order
