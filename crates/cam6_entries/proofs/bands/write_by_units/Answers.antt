use Rattle.std.proofs.Common.{◌≡◌, ℕ, ◌+◌, ◌*◌, ◌<◌, ◌∙◌, ap, subst, arith, Bool, List, map}
use Rattle.std.proofs.Common.{length-set}
use Rattle.cam6_planes.specs.Cells.{Cells}
use Rattle.cam6_planes.specs.Side.{side_number}
use Rattle.cam6_planes.specs.declared.sides.Side.{Side}
use Rattle.cam6_wiring.specs.Lines.{at_column}
use Rattle.cam6_wiring.specs.declared.names.Level.TheVariants.{Lower, Upper}
use Rattle.cam6_lines.specs.Bands.{IsBandOf, side_of}
use Rattle.cam6_lines.specs.Units.{columns, place, asked_for}
use Rattle.cam6_program.specs.Meaning.{bit_by}
use Rattle.cam6_entries.specs.Bands.{seen_by}
use Rattle.cam6_entries.proofs.BandRows.{unit_more, place_within, two_units}
use Rattle.cam6_entries.proofs.bands.write_by_units.Goals as goal

pub loop-unit-preserved : goal.loop-unit-preserved
loop-unit-preserved c =
    let a = c.args in
    let now = c.loop-unit in
    let band = a.band.now in
    let side : Side = band.planes.now.side in
    let own : Side = c.side-side.result in
    let begins : 64 * c.words_of_row-words.result ≡ columns side =
    c.words_of_row-words.ensures.value ∙ ap columns c.side-side.ensures.side in
    let wide : ℕ = columns side in
    let room : now.unit < 2 =
    omega (
      arith,
      two_units own c.units_of_band-unit-end.result c.units_of_band-unit-end.ensures.columns,
      c.loop-unit-test.true,
    ) in
    let seen : Cells → ℕ → ℕ → List Bool = λ f r x. seen_by a.plan.now a.setting.now f band r x in
    let shown : (f : Cells) → IsBandOf f band → (r i : ℕ) → r < 16 → i < wide →
    at_column (place side r i) (map (λ line. line.now) c.lines-lines.result)
    ≡ asked_for a.program.now.asked (seen f r (wide * now.unit + i)) = λ f of r i h l.
    ap (at_column (place side r i)) c.lines-lines.ensures ∙
    c.put.ensures f of r i h l ∙
    ap (λ mask. asked_for mask (seen f r (wide * now.unit + i))) c.requires.plan in
    record {
      lower_long = length-set _ _ _ ∙ now.invariant.lower_long;
      upper_long = length-set _ _ _ ∙ now.invariant.upper_long;
      lower = λ f of changes r x h. unit_more (λ x. bit_by Lower a.program.now (seen f r x)) now.lower
          c.run.new.lower side now.unit r (omega (arith, now.invariant.lower_long, room))
          (λ i l. c.run.ensures.lower changes (place side r i) (seen f r (wide * now.unit + i))
          (place_within side c.words_of_row-words.result r i begins h l)
          (shown f of r i h l))
          (λ x l. now.invariant.lower f of changes r x h l) x;
      upper = λ f of changes r x h. unit_more (λ x. bit_by Upper a.program.now (seen f r x)) now.upper
          c.run.new.upper side now.unit r (omega (arith, now.invariant.upper_long, room))
          (λ i l. c.run.ensures.upper changes (place side r i) (seen f r (wide * now.unit + i))
          (place_within side c.words_of_row-words.result r i begins h l)
          (shown f of r i h l))
          (λ x l. now.invariant.upper f of changes r x h l) x;
    }

pub returns-clause-lower : goal.returns-clause-lower
returns-clause-lower c = λ f of changes r x h l.
    let band = c.args.band.now in
    let own : Side = c.side-side.result in
    let all : columns own * c.loop-unit.unit ≡ side_number own =
    ap (λ n. columns own * n) (omega (arith, c.loop-unit-test.false, c.loop-unit.auto.unit-end)) ∙
    c.units_of_band-unit-end.ensures.columns in
    let whole : columns band.planes.now.side * c.loop-unit.unit ≡ side_of band =
    subst (λ z. columns z * c.loop-unit.unit ≡ side_number z) c.side-side.ensures.side all in
    c.loop-unit.invariant.lower f of changes r x h (omega (arith, l, whole))

pub returns-clause-upper : goal.returns-clause-upper
returns-clause-upper c = λ f of changes r x h l.
    let band = c.args.band.now in
    let own : Side = c.side-side.result in
    let all : columns own * c.loop-unit.unit ≡ side_number own =
    ap (λ n. columns own * n) (omega (arith, c.loop-unit-test.false, c.loop-unit.auto.unit-end)) ∙
    c.units_of_band-unit-end.ensures.columns in
    let whole : columns band.planes.now.side * c.loop-unit.unit ≡ side_of band =
    subst (λ z. columns z * c.loop-unit.unit ≡ side_number z) c.side-side.ensures.side all in
    c.loop-unit.invariant.upper f of changes r x h (omega (arith, l, whole))
