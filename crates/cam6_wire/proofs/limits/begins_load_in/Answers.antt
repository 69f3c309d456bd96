use Rattle.std.proofs.Common.{◌∙◌, sym, ap, arith, drop, take, length, eqb, ◌&&◌}
use Rattle.std.specs.Cmp.Lexicographic.{pointwise}
use Rattle.cam6_wire.specs.Limits.{load_head, begins_load}
use Rattle.cam6_wire.proofs.Heads.{head_stays, in_two_parts}
use Rattle.cam6_wire.proofs.limits.begins_load_in.Goals as goal

pub returns-then-front-ge13 : goal.returns-then-front-ge13
returns-then-front-ge13 c =
    c.begins_load.ensures
    ∙ sym (head_stays c.args.front.now c.args.part.now (omega (arith, c.if-front-ge13.true)))

pub returns-then-not-starts_with : goal.returns-then-not-starts_with
unfolding begins_load
returns-then-not-starts_with c =
    let front = c.args.front.now in
    let part = c.args.part.now in
    let rest = drop (length front) load_head in
    sym (in_two_parts load_head front part (omega (arith, c.if-front-ge13.false))
    ∙ ap (λ b. b && pointwise eqb rest (take (length rest) part))
    (sym c.starts_with.ensures.value ∙ c.if-not-starts_with.true))

pub returns : goal.returns
unfolding begins_load
returns c =
    let front = c.args.front.now in
    let part = c.args.part.now in
    let rest = drop (length front) load_head in
    c.starts_with-2.ensures.value
    ∙ ap (λ l. pointwise eqb l (take (length l) part)) c.split_at.ensures.back
    ∙ sym (in_two_parts load_head front part (omega (arith, c.if-front-ge13.false))
    ∙ ap (λ b. b && pointwise eqb rest (take (length rest) part))
    (sym c.starts_with.ensures.value ∙ c.if-not-starts_with.false))
