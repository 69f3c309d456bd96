use Rattle.std.proofs.Common.{◌≡◌, ◌<◌, ◌≤◌, ◌+◌, ◌∙◌, ℕ, Bool, List, ◌∷◌, ◌++◌, false, ap, take}
use Rattle.std.proofs.Common.{drop, map, arith}
use Rattle.std.proofs.lemmas.List.{take_rest}
use Rattle.cam6_wiring.specs.Lines.{at_column}
use Rattle.cam6_program.specs.Limits.{max_slots}
use Rattle.cam6_program.specs.Meaning.{made}
use Rattle.cam6_program.specs.Running.{written_after}
use Rattle.cam6_program.proofs.Columns.{made_beside}
use Rattle.cam6_program.proofs.running.put_step_result.Goals as goal

pub returns-then-into-written : goal.returns-then-into-written
returns-then-into-written c = λ x h.
    let a = c.args in
    let after = c.written_after-written in
    let lines : List Bool = at_column x (map (λ line. line.now) a.lines.now) in
    let place = c.from-into.ensures in
    let count : after.result ≡ written_after a.written a.step.into =
    after.ensures.value ∙ ap (written_after a.written) place in
    let here : a.step.into < written_after a.written a.step.into =
    omega (arith, place, count, c.if-into-written.true) in
    let fits : written_after a.written a.step.into ≤ max_slots =
    omega (arith, count, after.ensures.within) in
    let units : List (List ℕ) = take after.result a.slots.now in
    c.put_result.ensures x h ∙
    ap (λ later. made lines (at_column x (take c.from-into.result units) ++
    (false ∷ at_column x later)) a.step.operation) (take_rest units (c.from-into.result + 1)) ∙
    ap (λ n. made lines (at_column x (take n (take after.result a.slots.now)) ++
    (false ∷ at_column x (drop (n + 1) (take after.result a.slots.now)))) a.step.operation) place ∙
    ap (λ n. made lines (at_column x (take a.step.into (take n a.slots.now)) ++
    (false ∷ at_column x (drop (a.step.into + 1) (take n a.slots.now)))) a.step.operation) count ∙
    made_beside lines a.step a.written x a.slots.now c.told-slots c.requires.written here fits
