use Rattle.std.proofs.Common.{◌+◌, ◌<◌, ◌∙◌, ap, sym, arith, subst, ◌≡◌}
use Rattle.std.specs.Option.{option_map}
use Rattle.cam6_planes.specs.Cells.{cells, torus}
use Rattle.cam6_planes.specs.Stored.{width}
use Rattle.cam6_planes.proofs.CellsAt.{torus_at}
use Rattle.cam6_wiring.specs.Name.{plane_of, other_half}
use Rattle.cam6_wiring.specs.declared.names.Half.TheVariants.{A}
use Rattle.cam6_wiring.specs.declared.neighbours.Setting.{Setting}
use Rattle.cam6_band.specs.ByTables.{bit_by_table, half_entries, setting_by, values_of}
use Rattle.cam6_band.proofs.HalfPlanes.{both_halves, plane-lt}
use Rattle.cam6_band.proofs.new_rows.step_band.Goals as goal

pub returns-in-Some-clause-new : goal.returns-in-Some-clause-new
returns-in-Some-clause-new c = λ f old p x r h l k.
    let s = width c.args.image.now in
    let tables = values_of c.args.tables.now in
    let y = c.args.y + r in
    both_halves s tables f (cells c.step_halves.new.image) y (omega (arith, k, c.requires))
    (λ level x l. c.step_halves.ensures.a f old level x r l k ∙
    ap (λ t. bit_by_table s (torus s f) (setting_by A tables) (option_map half_entries t) level x y)
    (sym c.in-Some.is))
    (λ level x l. c.step_halves.ensures.b f old level x r l k) p x h l

pub returns-in-None-clause-new : goal.returns-in-None-clause-new
returns-in-None-clause-new c = λ f old p x r h l k.
    let s = width c.args.image.now in
    let tables = values_of c.args.tables.now in
    let y = c.args.y + r in
    let within : y < s = omega (arith, k, c.requires) in
    let new = cells c.step_half.new.image in
    both_halves s tables f new y within
    (λ level x l.
    subst (λ (setting : Setting). new (plane_of (other_half setting.half) level) x y
    ≡ cells c.args.image.now (plane_of (other_half setting.half) level) x y) c.setting-b.ensures
    (c.step_half.ensures.other_half level x y l within) ∙
    old.rows (plane_of A level) x y (plane-lt A level) l (omega arith) within ∙
    sym (torus_at s f (plane_of A level) x y (plane-lt A level) l within) ∙
    ap (λ t. bit_by_table s (torus s f) (setting_by A tables) (option_map half_entries t) level x y)
    (sym c.in-None.is))
    (λ level x l.
    subst (λ (setting : Setting). new (plane_of setting.half level) x y
    ≡ bit_by_table s (torus s f) setting tables.b level x y) c.setting-b.ensures
    (c.step_half.ensures.new f old level x r l k)) p x h l
