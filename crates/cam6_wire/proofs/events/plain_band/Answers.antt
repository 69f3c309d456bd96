use Rattle.std.proofs.Common.{◌≡◌, ◌∙◌, ℕ, List, length, take, drop, true, Ok, ap, sym, subst}
use Rattle.std.specs.Str.{bytes_eq}
use Rattle.cam6_commands.specs.declared.events.Event.TheVariants.{Band}
use Rattle.cam6_wire.proofs.PlainBands.{says_band}
use Rattle.cam6_wire.proofs.events.plain_band.Goals as goal

pub returns : goal.returns
returns c =
    let line = c.args.line.now in
    let rest = c.in_ok-rest.rest.now in
    let cases = c.in_ok-rest.ensures.cases in
    let front = c.as_slice.ensures in
    says_band line rest
    (subst (λ (f : List ℕ). bytes_eq (take (length f) line) f ≡ true) front cases.0)
    (subst (λ (f : List ℕ). rest ≡ drop (length f) line) front cases.1) c.if-rest-ne2.false
    c.if-rest-ne125.false c.if-digit-lt48.false c.if-digit-gt57.false ∙
    ap (λ n. Ok (Band n)) (sym c.from.ensures)
