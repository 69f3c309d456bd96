-- A row of all planes, half by half.
use Rattle.std.proofs.Common.{◌≡◌, ℕ, zero, suc, ◌<◌, Bool, sym, ◌∙◌, ap}
use Rattle.std.proofs.Common.{arith}
use Rattle.cam6_planes.specs.Cells.{Cells, torus, cells, stored_bit}
use Rattle.cam6_planes.specs.Stored.{Stored, width}
use Rattle.cam6_planes.proofs.CellsAt.{torus_at, torus_same}
use Rattle.cam6_wiring.specs.Name.{plane_of, on_plane}
use Rattle.cam6_wiring.specs.declared.names.Half.{Half}
use Rattle.cam6_wiring.specs.declared.names.Half.TheVariants.{A, B}
use Rattle.cam6_wiring.specs.declared.names.Level.{Level}
use Rattle.cam6_wiring.specs.declared.names.Level.TheVariants.{Lower, Upper}
use Rattle.cam6_band.specs.ByTables.{StepTables, bit_by_table, table_for, setting_by}
use Rattle.cam6_band.specs.ByTables.{step_by}

pub plane-lt : (half : Half) (level : Level) → plane_of half level < 4
plane-lt A Lower = omega arith
plane-lt A Upper = omega arith
plane-lt B Lower = omega arith
plane-lt B Upper = omega arith

module _ (s : ℕ) (tables : StepTables) (f : Cells) where
  -- the new bit of a half's plane
  abbrev pub new_bit_of : Half → Level → ℕ → ℕ → Bool
  new_bit_of half level x y =
      bit_by_table s (torus s f) (setting_by half tables) (table_for half tables) level x y

  -- within the side, a step by tables has it
  step_at : (p x y : ℕ) → p < 4 → x < s → y < s →
      step_by s tables f p x y ≡ on_plane p (λ half level. new_bit_of half level x y)
  unfolding step_by
  step_at p x y h k l =
      torus_at s (λ p x y. on_plane p (λ half level. new_bit_of half level x y)) p x y h k l

  -- planes g whose halves are both new at row y have that row of the step
  pub both_halves : (g : Cells) (y : ℕ) → y < s →
      ((level : Level) (x : ℕ) → x < s → g (plane_of A level) x y ≡ new_bit_of A level x y) →
      ((level : Level) (x : ℕ) → x < s → g (plane_of B level) x y ≡ new_bit_of B level x y) →
      (p x : ℕ) → p < 4 → x < s → g p x y ≡ step_by s tables f p x y
  both_halves g y h a b zero x k l = a Lower x l ∙ sym (step_at 0 x y k l h)
  both_halves g y h a b (suc zero) x k l = a Upper x l ∙ sym (step_at 1 x y k l h)
  both_halves g y h a b (suc (suc zero)) x k l = b Lower x l ∙ sym (step_at 2 x y k l h)
  both_halves g y h a b (suc (suc (suc zero))) x k l = b Upper x l ∙ sym (step_at 3 x y k l h)
  both_halves g y h a b (suc (suc (suc (suc p)))) x k l = absurd (omega (arith, k))

  -- planes that show the step's bits are the planes after it
  pub all_stepped : (v : Stored) → 0 < s → width v ≡ s →
      ((p x y : ℕ) → p < 4 → x < s → y < s → cells v p x y ≡ step_by s tables f p x y) →
      cells v ≡ step_by s tables f
  unfolding step_by
  all_stepped v some side shown =
      let g : Cells = λ p x y. on_plane p (λ half level. new_bit_of half level x y) in
      ap (λ n. torus n (stored_bit v.rows)) side ∙
      torus_same s (stored_bit v.rows) g some
      (λ p x y h k l.
      sym (torus_at s (stored_bit v.rows) p x y h k l) ∙
      ap (λ n. torus n (stored_bit v.rows) p x y) (sym side) ∙ shown p x y h k l ∙
      step_at p x y h k l)
