-- The bits that a program makes which does for the entries.
use Rattle.std.proofs.Common.{◌≡◌, ℕ, ◌%◌, ◌==◌, ◌∙◌, ap, List, map}
use Rattle.std.proofs.Common.{get_or}
use Rattle.std.proofs.Math.Nat.{div-one}
use Rattle.cam6_planes.specs.Cells.{Cells}
use Rattle.cam6_wiring.specs.Lines.{sees_at}
use Rattle.cam6_wiring.specs.Seen.{Sees, line_shows, address_of}
use Rattle.cam6_wiring.specs.Wiring.{names_of}
use Rattle.cam6_wiring.specs.declared.names.Level.{Level}
use Rattle.cam6_wiring.specs.declared.names.Level.TheVariants.{Lower, Upper}
use Rattle.cam6_wiring.specs.declared.neighbours.Setting.{Setting}
use Rattle.cam6_wiring.specs.declared.wirings.Hood.{Hood}
use Rattle.cam6_wiring.specs.declared.wirings.Minor.{Minor}
use Rattle.cam6_program.specs.Meaning.{bit_by}
use Rattle.cam6_program.specs.Programs.{Steps}
use Rattle.cam6_entries.specs.Bands.{new_bit}
use Rattle.cam6_entries.specs.Programs.{ComputesUnder}

-- the bits are those of the entry at the address that a cell shows
pub computed : (entries : List ℕ) (program : Steps) (hood : Hood) (minor : Minor) →
    ComputesUnder hood minor entries program → (level : Level) (s : ℕ) (f : Cells)
    (setting : Setting) (x y : ℕ) →
    bit_by level program (map (line_shows (sees_at s f setting x y)) (names_of hood minor))
    ≡ new_bit entries s f setting hood minor level x y
computed entries program hood minor computes Lower s f setting x y =
    let sees : Sees = sees_at s f setting x y in
    computes Lower sees ∙
    ap (λ n. n % 2 == 1) (div-one (get_or entries (address_of hood minor sees) 0))
computed entries program hood minor computes Upper s f setting x y =
    computes Upper (sees_at s f setting x y)

-- the new bit by equal entries and an equal wiring
pub same_bit : {held entries : List ℕ} {own hood : Hood} {kept minor : Minor} → held ≡ entries →
    own ≡ hood → kept ≡ minor → (level : Level) (s : ℕ) (f : Cells) (setting : Setting) (x y : ℕ) →
    new_bit held s f setting own kept level x y ≡ new_bit entries s f setting hood minor level x y
same_bit {held} {entries} {own} {hood} {kept} {minor} e h m level s f setting x y =
    ap (λ list. new_bit list s f setting own kept level x y) e ∙
    ap (λ known. new_bit entries s f setting known kept level x y) h ∙
    ap (λ known. new_bit entries s f setting hood known level x y) m
