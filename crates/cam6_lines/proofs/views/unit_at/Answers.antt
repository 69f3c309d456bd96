use Rattle.std.proofs.Common.{◌<◌, ◌-◌, length, drop, take, get_or, [], subst, ◌∙◌, ap}
use Rattle.std.proofs.lemmas.List.{take_rest}
use Rattle.std.specs.Option.{MatchOption}
use Rattle.std.specs.Array.{IsFirstChunk}
use Rattle.cam6_lines.proofs.views.unit_at.Goals as goal

pub returns : goal.returns
returns c =
    let start = c.args.start in
    let part = get_or c.args.parts.now c.args.part [] in
    let rest = take (length part - start) (drop start part) in
    let first = subst (λ r. MatchOption r (length rest < 64)
    (λ unit. IsFirstChunk rest unit.now 64)) c.unwrap.ensures c.first_chunk.ensures.cases in
    first.same ∙ ap (take 64) (take_rest part start)
