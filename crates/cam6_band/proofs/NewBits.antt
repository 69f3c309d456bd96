-- A half's new rows, once they are put into its planes.
use Rattle.std.proofs.Common.{◌≡◌, ℕ, ◌+◌, ◌<◌, ◌∙◌, sym, ap, arith}
use Rattle.std.proofs.Common.{Bool, List, if◌then◌else◌}
use Rattle.cam6_planes.specs.Cells.{Cells}
use Rattle.cam6_planes.specs.declared.sides.Side.{Side}
use Rattle.cam6_wiring.specs.Name.{plane_of}
use Rattle.cam6_wiring.specs.declared.names.Level.{Level}
use Rattle.cam6_wiring.specs.declared.neighbours.Setting.{Setting}
use Rattle.cam6_wiring.specs.declared.wirings.Hood.{Hood}
use Rattle.cam6_wiring.specs.declared.wirings.Minor.{Minor}
use Rattle.cam6_lines.specs.Bands.{side_of}
use Rattle.cam6_lines.specs.Units.{bit_in}
use Rattle.cam6_lines.specs.declared.bands.Band.{Band}
use Rattle.cam6_entries.specs.Bands.{ShowNewBits, new_bit}
use Rattle.cam6_band.specs.Internal.HalfRows.{bit_put}
use Rattle.cam6_band.specs.declared.half_rows.PlaneRows.{PlaneRows}

-- a plane has the new bits of planes f once the rows that show them are put into it, where it had
-- the bits of f before
pub are_new : (s : ℕ) (f g new : Cells) (entries : List ℕ) (setting : Setting) (hood : Hood)
    (minor : Minor) (level : Level) (y : ℕ) (band : Band) (own : Side) (plane : PlaneRows)
    (x r : ℕ) → side_of band ≡ s → band.planes.now.side ≡ own → band.first ≡ y → x < s → r < 16 →
    ShowNewBits entries f band setting hood minor level plane.is_written plane.rows →
    new (plane_of setting.half level) x (y + r)
    ≡ bit_put own plane g (plane_of setting.half level) x y r →
    g (plane_of setting.half level) x (y + r) ≡ f (plane_of setting.half level) x (y + r) →
    new (plane_of setting.half level) x (y + r)
    ≡ new_bit entries s f setting hood minor level x (y + r)
are_new s f g new entries setting hood minor level y band own plane x r side same first h k show put
    old =
    let bit : Bool = bit_in band.planes.now.side plane.rows r x in
    put ∙
    ap (λ z. if plane.is_written then bit_in z plane.rows r x
    else g (plane_of setting.half level) x (y + r)) (sym same) ∙
    ap (λ b. if plane.is_written then bit else b) old ∙
    ap (λ n. if plane.is_written then bit else f (plane_of setting.half level) x (n + r))
    (sym first) ∙ show r x k (omega (arith, h, side)) ∙
    ap (λ n. new_bit entries (side_of band) f setting hood minor level x (n + r)) first ∙
    ap (λ n. new_bit entries n f setting hood minor level x (y + r)) side
