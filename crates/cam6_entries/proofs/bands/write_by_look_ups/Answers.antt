use Rattle.std.proofs.Common.{◌≡◌, ℕ, ◌+◌, ◌*◌, ◌<◌, ◌∙◌, ap, subst, arith, Bool, map}
use Rattle.std.proofs.Common.{length-set}
use Rattle.cam6_planes.specs.Cells.{Cells}
use Rattle.cam6_planes.specs.Side.{side_number}
use Rattle.cam6_planes.specs.declared.sides.Side.{Side}
use Rattle.cam6_wiring.specs.Lines.{at_column}
use Rattle.cam6_wiring.specs.Seen.{number_of}
use Rattle.cam6_wiring.specs.declared.names.Level.{Level}
use Rattle.cam6_wiring.specs.declared.names.Level.TheVariants.{Lower, Upper}
use Rattle.cam6_lines.specs.Bands.{IsBandOf, side_of}
use Rattle.cam6_lines.specs.Units.{columns, place, asked_for}
use Rattle.cam6_lookup.specs.Entries.{entry_bit}
use Rattle.cam6_program.specs.Programs.{number}
use Rattle.cam6_entries.specs.Bands.{new_bit, seen_by, all_lines}
use Rattle.cam6_entries.proofs.BandRows.{unit_more, place_within, two_units}
use Rattle.cam6_entries.proofs.LookedUp.{looked_up}
use Rattle.cam6_entries.proofs.bands.write_by_look_ups.Goals as goal

pub loop-unit-preserved : goal.loop-unit-preserved
loop-unit-preserved c =
    let a = c.args in
    let now = c.loop-unit in
    let band = a.band.now in
    let entries = a.entries.now in
    let plan = a.plan.now in
    let s : ℕ = side_of band in
    let side : Side = band.planes.now.side in
    let own : Side = c.side-side.result in
    let wide : ℕ = columns side in
    let begins : 64 * c.words_of_row-words.result ≡ wide =
    c.words_of_row-words.ensures.value ∙ ap columns c.side-side.ensures.side in
    let room : now.unit < 2 =
    omega (
      arith,
      two_units own c.units_of_band-unit-end.result c.units_of_band-unit-end.ensures.columns,
      c.loop-unit-test.true,
    ) in
    let bit : Level → Cells → ℕ → ℕ → Bool =
    λ level f r x. new_bit entries s f a.setting.now plan.hood plan.minor level x (band.first + r) in
    let shown : (f : Cells) → IsBandOf f band → (r i : ℕ) → r < 16 → i < wide →
    at_column (place side r i) (map (λ line. line.now) c.lines-lines.result)
    ≡ asked_for all_lines (seen_by plan a.setting.now f band r (wide * now.unit + i)) = λ f of r i h l.
    ap (at_column (place side r i)) c.lines-lines.ensures ∙ c.put.ensures f of r i h l ∙
    ap (λ mask. asked_for mask (seen_by plan a.setting.now f band r (wide * now.unit + i)))
    c.requires.plan in
    let entry : (level : Level) (f : Cells) → IsBandOf f band → (r i : ℕ) → r < 16 → i < wide →
    entry_bit entries (number_of (at_column (place side r i)
    (map (λ line. line.now) c.lines-lines.result))) (number level)
    ≡ bit level f r (wide * now.unit + i) = λ level f of r i h l.
    ap (λ shown. entry_bit entries (number_of shown) (number level)) (shown f of r i h l) ∙
    looked_up entries level s f a.setting.now plan.hood plan.minor (wide * now.unit + i)
    (band.first + r) in
    record {
      lower_long = length-set _ _ _ ∙ now.invariant.lower_long;
      upper_long = length-set _ _ _ ∙ now.invariant.upper_long;
      lower = λ f of r x h. unit_more (bit Lower f r) now.lower c.look_up_words.new.lower side now.unit r
          (omega (arith, now.invariant.lower_long, room))
          (λ i l. c.look_up_words.ensures.lower (place side r i)
          (place_within side c.words_of_row-words.result r i begins h l) ∙
          entry Lower f of r i h l) (λ x l. now.invariant.lower f of r x h l) x;
      upper = λ f of r x h. unit_more (bit Upper f r) now.upper c.look_up_words.new.upper side now.unit r
          (omega (arith, now.invariant.upper_long, room))
          (λ i l. c.look_up_words.ensures.upper (place side r i)
          (place_within side c.words_of_row-words.result r i begins h l) ∙
          entry Upper f of r i h l) (λ x l. now.invariant.upper f of r x h l) x;
    }

pub returns-clause-lower : goal.returns-clause-lower
returns-clause-lower c = λ f of r x h l.
    let band = c.args.band.now in
    let own : Side = c.side-side.result in
    let all : columns own * c.loop-unit.unit ≡ side_number own =
    ap (λ n. columns own * n) (omega (arith, c.loop-unit-test.false, c.loop-unit.auto.unit-end)) ∙
    c.units_of_band-unit-end.ensures.columns in
    let whole : columns band.planes.now.side * c.loop-unit.unit ≡ side_of band =
    subst (λ z. columns z * c.loop-unit.unit ≡ side_number z) c.side-side.ensures.side all in
    c.loop-unit.invariant.lower f of r x h (omega (arith, l, whole))

pub returns-clause-upper : goal.returns-clause-upper
returns-clause-upper c = λ f of r x h l.
    let band = c.args.band.now in
    let own : Side = c.side-side.result in
    let all : columns own * c.loop-unit.unit ≡ side_number own =
    ap (λ n. columns own * n) (omega (arith, c.loop-unit-test.false, c.loop-unit.auto.unit-end)) ∙
    c.units_of_band-unit-end.ensures.columns in
    let whole : columns band.planes.now.side * c.loop-unit.unit ≡ side_of band =
    subst (λ z. columns z * c.loop-unit.unit ≡ side_number z) c.side-side.ensures.side all in
    c.loop-unit.invariant.upper f of r x h (omega (arith, l, whole))
