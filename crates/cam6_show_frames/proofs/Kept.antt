-- A frame's colours, from its rows as they are kept.
use Rattle.std.proofs.Common.{◌≡◌, ◌<◌, ◌%◌, ◌∙◌, ℕ, List, [], length, take, get_or, sym, ap}
use Rattle.std.proofs.Common.{◌∷◌, subst, arith, min, zero, suc}
use Rattle.std.proofs.Math.Nat.{mod-lt}
use Rattle.std.proofs.lemmas.List.{get_or-take, get_or_default, length-take}
use Rattle.std.proofs.lemmas.List.Elements.{All-get_or}
use Rattle.std.specs.List.{AllByRecursion}
use Rattle.cam6_planes.specs.declared.sides.Side.{Side}
use Rattle.cam6_planes.specs.Side.{side_number}
use Rattle.cam6_planes.proofs.SideNumbers.{side_least}
use Rattle.cam6_show_frames.specs.Frame.{colours, colour_at, IsRowOf, IsFrame}

-- a side counts some columns
pub side_is_some : (side : Side) → 0 < side_number side
side_is_some side = omega (arith, side_least side)

-- each colour of a row is one
pub colour_is_few : (row : List ℕ) (x : ℕ) → AllByRecursion (λ colour. colour < colours) row
    → get_or row x 0 < colours
colour_is_few [] x few = omega arith
colour_is_few (colour ∷ row) zero few = few.0
colour_is_few (colour ∷ row) (suc x) few = colour_is_few row x few.1

module _ (rows seen : List (List ℕ)) (frame : IsFrame rows) (view : rows ≡ seen) (m : ℕ)
    (many : m ≡ length rows) (kept row : List ℕ) (n x y : ℕ)
    (here : row ≡ get_or rows (y % m) row) (shown : take n kept ≡ row) where
  some : 0 < m
  some = omega (arith, many, frame.1, side_is_some frame.0)

  within : y % m < length rows
  within = omega (arith, mod-lt y some, many)

  its_row : IsRowOf frame.0 row
  its_row =
      let P : List ℕ → Type 0 = IsRowOf frame.0 in
      subst P (sym here) (All-get_or P rows (y % m) row within frame.2)

  -- the column is one of the row's, and so one of those that are kept
  column : x % m < length row
  column = omega (arith, mod-lt x some, its_row.0, frame.1, many)

  kept_so : get_or kept (x % m) 0 ≡ get_or row (x % m) 0
  kept_so =
      let shorter : length row ≡ min n (length kept) = ap length (sym shown) ∙ length-take n kept in
      let before : x % m < n = omega (arith, shorter, column) in
      sym (get_or-take n kept (x % m) 0 before) ∙ ap (λ r. get_or r (x % m) 0) shown

  same_colour : get_or kept (x % m) 0 ≡ get_or (get_or rows (y % m) []) (x % m) 0
  same_colour =
      kept_so ∙ ap (λ r. get_or r (x % m) 0) (here ∙ get_or_default rows (y % m) row [] within)

  -- the colour that is kept there is the frame's
  pub colour_kept : get_or kept (x % m) 0 ≡ colour_at seen x y
  unfolding colour_at
  colour_kept =
      same_colour
      ∙ ap (λ k. get_or (get_or rows (y % k) []) (x % k) 0) many
      ∙ ap (λ r. get_or (get_or r (y % length r) []) (x % length r) 0) view

  pub colour_kept_is_few : get_or kept (x % m) 0 < colours
  colour_kept_is_few = omega (arith, kept_so, colour_is_few row (x % m) its_row.1)
