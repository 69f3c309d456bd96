-- Rows of one length, one after another.
use Rattle.std.proofs.Common.{◌≡◌, ◌<◌, ◌+◌, ◌∙◌, ℕ, List, ◌∷◌, length, get_or, drop, cond, sym, ap, add-one}
use Rattle.std.proofs.Common.{subst, suc, false, eq-eqb, drop-cons}
use Rattle.std.specs.List.{AllByRecursion}
use Rattle.cam6_planes.specs.declared.sides.Side.{Side}
use Rattle.cam6_show_frames.specs.Frame.{colours, IsRowOf}
use Rattle.cam6_show_frames.specs.Replies.{are_long}

-- so many columns, each with a colour
abbrev pub IsLong : ℕ → List ℕ → Type 0
IsLong columns row = (length row ≡ columns) × AllByRecursion (λ colour. colour < colours) row

module _ (columns : ℕ) (rows : List (List ℕ)) (i : ℕ) (row : List ℕ) (within : i < length rows)
    (here : row ≡ get_or rows i row) where
  -- after a row that is long the others decide
  pub others_decide : length row ≡ columns
      → are_long columns (drop (i + 1) rows) ≡ are_long columns (drop i rows)
  others_decide long =
      rw (add-one i)
      (sym (
      ap (are_long columns) (drop-cons rows i row within)
      ∙ ap (λ r. are_long columns (r ∷ drop (suc i) rows)) (sym here)
      ∙ ap (λ b. cond b (are_long columns (drop (suc i) rows)) false)
      (eq-eqb (length row) columns long)
      ))

  -- it is long itself
  pub is_long : length row ≡ columns → (side : Side) → IsRowOf side row
      → IsLong columns (get_or rows i row)
  is_long long side is = let P : List ℕ → Type 0 = IsLong columns in subst P here (long, is.1)
