-- The rows of a band that are put into a plane one after the other.
use Rattle.std.proofs.Common.{◌≡◌, ◌≢◌, ℕ, ◌+◌, ◌<◌, ◌≤◌, ◌⊎◌, inl, inr, ◌∙◌, sym, ap, arith}
use Rattle.std.proofs.Common.{List, Bool}
use native.Mathlib.Decide.{dec_lt}
use Rattle.cam6_planes.specs.Cells.{Cells, with_row}
use Rattle.cam6_planes.specs.Row.{column_bit}
use Rattle.cam6_planes.proofs.CellsAt.{with_row-here, with_row-elsewhere}

-- what stays outside more rows stays outside fewer
pub others_more : (p y k q v : ℕ) → (q ≢ p) ⊎ ((v < y) ⊎ (y + (k + 1) ≤ v)) →
    (q ≢ p) ⊎ ((v < y) ⊎ (y + k ≤ v))
others_more p y k q v (inl other) = inl other
others_more p y k q v (inr (inl before)) = inr (inl before)
others_more p y k q v (inr (inr after)) = inr (inr (omega (arith, after)))

module _ (s : ℕ) (g new : Cells) (p y k : ℕ) (row : List ℕ) (plane : p < 4) (within : y + k < s)
    (made : new ≡ with_row s g p (y + k) (column_bit row)) where
  elsewhere : (q x v : ℕ) → q < 4 → x < s → v < s → (q ≢ p) ⊎ (v ≢ y + k) →
      new q x v ≡ g q x v
  elsewhere q x v h l m other =
      ap (λ (f : Cells). f q x v) made ∙
      with_row-elsewhere s g p (y + k) (column_bit row) q x v h l m other

  -- one more of them is there
  pub one_more_put : (bits : ℕ → ℕ → Bool) →
      ((x : ℕ) → x < s → column_bit row x ≡ bits k x) →
      ((x r : ℕ) → x < s → r < k → g p x (y + r) ≡ bits r x) →
      (x r : ℕ) → x < s → r < k + 1 → new p x (y + r) ≡ bits r x
  one_more_put bits here there x r l h =
      elim (dec_lt r k) [
        | Prim.yes lt ↦
            elsewhere p x (y + r) plane l (omega (arith, lt, within)) (inr (λ e. absurd (omega (
              arith,
              e,
              lt,
            )))) ∙ there x r l lt
        | Prim.no ge ↦
            let e : r ≡ k = omega (arith, ge, h) in
            ap (λ n. new p x (y + n)) e ∙ ap (λ (f : Cells). f p x (y + k)) made ∙
            with_row-here s g p (y + k) (column_bit row) x plane l within ∙ here x l ∙
            ap (λ n. bits n x) (sym e)
      ]

  -- outside the rows that are put so far all stays
  pub others_stay : (q x v : ℕ) → q < 4 → x < s → v < s →
      (q ≢ p) ⊎ ((v < y) ⊎ (y + (k + 1) ≤ v)) → new q x v ≡ g q x v
  others_stay q x v h l m (inl other) = elsewhere q x v h l m (inl other)
  others_stay q x v h l m (inr (inl before)) =
      elsewhere q x v h l m (inr (λ e. absurd (omega (arith, e, before))))
  others_stay q x v h l m (inr (inr after)) =
      elsewhere q x v h l m (inr (λ e. absurd (omega (arith, e, after))))
