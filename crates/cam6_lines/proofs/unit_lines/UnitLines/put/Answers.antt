use Rattle.std.proofs.Common.{◌≡◌, ℕ, ◌+◌, ◌*◌, ◌≤◌, ◌==◌, ◌∙◌, ap, sym, subst, arith}
use Rattle.std.proofs.Common.{map, get_or, [], None}
use Rattle.std.specs.Int.{bit_at}
use Rattle.std.specs.Option.{IfSome}
use Rattle.std.proofs.lemmas.List.{get_or_past}
use Rattle.std.proofs.lemmas.Simd.{map-map}
use native.Mathlib.Decide.{dec_lt}
use Rattle.cam6_planes.specs.Row.{column_bit}
use Rattle.cam6_wiring.specs.Lines.{sees_at}
use Rattle.cam6_wiring.specs.Seen.{line_shows}
use Rattle.cam6_wiring.specs.declared.names.Name.{Name}
use Rattle.cam6_wiring.proofs.Numbers.{length-names_of}
use Rattle.cam6_wiring.specs.Wiring.{names_of}
use Rattle.cam6_wiring.specs.declared.wirings.TheConstants.{LINES}
use Rattle.cam6_lines.specs.Bands.{side_of}
use Rattle.cam6_lines.specs.Plans.{Asked}
use Rattle.cam6_lines.specs.Units.{columns, place, asked_for}
use Rattle.cam6_lines.specs.Internal.Views.{part_name, seen_from, unit_of, IsInside, IsPartFor}
use Rattle.cam6_lines.proofs.SeenParts.{rows_made, seen_part, view_inside}
use Rattle.cam6_lines.proofs.LineByLine.{map_asked}
use Rattle.cam6_lines.proofs.UnitsSeen.{line_seen}
use Rattle.cam6_lines.proofs.unit_lines.UnitLines.put.Goals as goal

pub invariant_of-self : goal.invariant_of-self
invariant_of-self c =
    let p = c.plan.inside in (
      c.plan.invariant.0.0,
      omega (arith, c.words_of_row-self-inside.ensures.most),
      λ k.
          elim (dec_lt k 12) [
            | Prim.yes lt ↦
                view_inside p.needed LINES (bit_at p.asked k == 1)
                (get_or (names_of p.hood p.minor) k None) (get_or p.views k None) c.plan.invariant.1
                (c.plan.invariant.0.1 k lt)
            | Prim.no ge ↦
                subst (λ view. IfSome view (IsInside LINES))
                (sym (get_or_past p.views k None (omega (arith, ge, c.plan.invariant.0.0)))) tt
          ],
    )

pub returns : goal.returns
returns c = λ f of r i h l.
    let a = c.args in
    let band = a.band.now in
    let side = band.planes.now.side in
    let s = side_of band in
    let x : ℕ = columns side * a.unit + i in
    let y : ℕ = band.first + r in
    let p = c.plan.inside in
    let names = names_of p.hood p.minor in
    let parts = c.put_parts.new.parts in
    let words = c.words_of_row-self-inside.result in
    let begins : 64 * words ≡ columns side =
    c.words_of_row-self-inside.ensures.value ∙ ap columns c.side.ensures.side in
    let sees = sees_at s f a.setting.now x y in
    let part : (name : Name) (at : ℕ) → IsPartFor p.needed (part_name name) at →
    column_bit (get_or parts at []) (place side (r + seen_from name) i) ≡ sees name =
    λ name at made.
    let rows = rows_made name r h in
    c.put_parts.ensures f of at (part_name name) made (r + seen_from name) i rows.0 rows.1 l ∙
    seen_part s f a.setting.now x band.first r name c.requires.within h in
    subst (λ (q : Asked). map (λ line. column_bit line (place side r i))
    (map (unit_of parts words) p.views)
    ≡ asked_for q.lines (map (line_shows sees) (names_of q.hood q.minor))) c.plan.view_is
    (map-map (λ line. column_bit line (place side r i)) (unit_of parts words) p.views ∙
    map_asked (λ view. column_bit (unit_of parts words view) (place side r i)) (line_shows sees)
    p.asked p.views names None None 12 c.plan.invariant.0.0 (length-names_of p.hood p.minor)
    (λ k below. line_seen side parts p.needed (bit_at p.asked k == 1) (get_or names k None)
    (get_or p.views k None) words r i sees begins h l (c.plan.invariant.0.1 k below) part))
