-- Where cells look, by the cases of code.
use Rattle.std.proofs.Common.{◌≡◌, ◌⊎◌, inl, inr, ℕ, ◌==◌, ap}
use Rattle.cam6_planes.specs.Row.{west_of, east_of}
use Rattle.cam6_planes.specs.Cells.{Cells}
use Rattle.cam6_wiring.specs.Block.{side_in_block}
use Rattle.cam6_wiring.specs.Lines.{sees_at}
use Rattle.cam6_wiring.specs.Name.{phase_bit}
use Rattle.cam6_wiring.specs.Seen.{column_beside, row_beside}
use Rattle.cam6_wiring.specs.declared.names.Level.{Level}
use Rattle.cam6_wiring.specs.declared.names.Name.{Name}
use Rattle.cam6_wiring.specs.declared.names.Name.TheVariants.{Phase, Horz, Vert, MinorPhase}
use Rattle.cam6_wiring.specs.declared.names.Name.TheVariants.{MinorHorz, MinorVert}
use Rattle.cam6_wiring.specs.declared.neighbours.Setting.{Setting}
use Rattle.cam6_lines.specs.Internal.Parts.{first_beside, first_row}
use Rattle.cam6_wiring.specs.declared.names.Compass.{Compass}
use Rattle.cam6_wiring.specs.declared.names.Compass.TheVariants.{Center, North, South, West}
use Rattle.cam6_wiring.specs.declared.names.Compass.TheVariants.{East, NorthWest, NorthEast}
use Rattle.cam6_wiring.specs.declared.names.Compass.TheVariants.{SouthWest, SouthEast}

-- one of three
abbrev pub OneOf : Compass → Compass → Compass → Compass → Type 0
OneOf compass a b c = (compass ≡ a) ⊎ ((compass ≡ b) ⊎ (compass ≡ c))

pub same_column : (s : ℕ) (compass : Compass) (x : ℕ) → OneOf compass Center North South →
    column_beside s compass x ≡ x
same_column s compass x (inl e) = ap (λ k. column_beside s k x) e
same_column s compass x (inr (inl e)) = ap (λ k. column_beside s k x) e
same_column s compass x (inr (inr e)) = ap (λ k. column_beside s k x) e

pub west_column : (s : ℕ) (compass : Compass) (x : ℕ) → OneOf compass West NorthWest SouthWest →
    column_beside s compass x ≡ west_of s x
west_column s compass x (inl e) = ap (λ k. column_beside s k x) e
west_column s compass x (inr (inl e)) = ap (λ k. column_beside s k x) e
west_column s compass x (inr (inr e)) = ap (λ k. column_beside s k x) e

pub east_column : (s : ℕ) (compass : Compass) (x : ℕ) → OneOf compass East NorthEast SouthEast →
    column_beside s compass x ≡ east_of s x
east_column s compass x (inl e) = ap (λ k. column_beside s k x) e
east_column s compass x (inr (inl e)) = ap (λ k. column_beside s k x) e
east_column s compass x (inr (inr e)) = ap (λ k. column_beside s k x) e

pub north_row : (s : ℕ) (compass : Compass) (y : ℕ) → OneOf compass North NorthWest NorthEast →
    row_beside s compass y ≡ west_of s y
north_row s compass y (inl e) = ap (λ k. row_beside s k y) e
north_row s compass y (inr (inl e)) = ap (λ k. row_beside s k y) e
north_row s compass y (inr (inr e)) = ap (λ k. row_beside s k y) e

pub south_row : (s : ℕ) (compass : Compass) (y : ℕ) → OneOf compass South SouthWest SouthEast →
    row_beside s compass y ≡ east_of s y
south_row s compass y (inl e) = ap (λ k. row_beside s k y) e
south_row s compass y (inr (inl e)) = ap (λ k. row_beside s k y) e
south_row s compass y (inr (inr e)) = ap (λ k. row_beside s k y) e

pub first_north : (compass : Compass) → OneOf compass North NorthWest NorthEast →
    first_beside compass ≡ 1
first_north compass (inl e) = ap first_beside e
first_north compass (inr (inl e)) = ap first_beside e
first_north compass (inr (inr e)) = ap first_beside e

pub first_south : (compass : Compass) → OneOf compass South SouthWest SouthEast →
    first_beside compass ≡ 1
first_south compass (inl e) = ap first_beside e
first_south compass (inr (inl e)) = ap first_beside e
first_south compass (inr (inr e)) = ap first_beside e

-- under names that have the same meaning

pub seen_phase : (s : ℕ) (f : Cells) (setting : Setting) (x y : ℕ) (name : Name) (level : Level) →
    (name ≡ Phase level) ⊎ (name ≡ MinorPhase level) →
    sees_at s f setting x y name ≡ phase_bit setting.phase level
seen_phase s f setting x y name level (inl e) = ap (sees_at s f setting x y) e
seen_phase s f setting x y name level (inr e) = ap (sees_at s f setting x y) e

pub seen_horz : (s : ℕ) (f : Cells) (setting : Setting) (x y : ℕ) (name : Name) →
    (name ≡ Horz) ⊎ (name ≡ MinorHorz) →
    sees_at s f setting x y name ≡ (side_in_block setting.grid x == 1)
seen_horz s f setting x y name (inl e) = ap (sees_at s f setting x y) e
seen_horz s f setting x y name (inr e) = ap (sees_at s f setting x y) e

pub seen_vert : (s : ℕ) (f : Cells) (setting : Setting) (x y : ℕ) (name : Name) →
    (name ≡ Vert) ⊎ (name ≡ MinorVert) →
    sees_at s f setting x y name ≡ (side_in_block setting.grid y == 1)
seen_vert s f setting x y name (inl e) = ap (sees_at s f setting x y) e
seen_vert s f setting x y name (inr e) = ap (sees_at s f setting x y) e

-- they are looked for in the band's rows alone

pub first_vert : (name : Name) → (name ≡ Vert) ⊎ (name ≡ MinorVert) → first_row name ≡ 1
first_vert name (inl e) = ap first_row e
first_vert name (inr e) = ap first_row e
