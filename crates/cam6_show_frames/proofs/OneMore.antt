-- A row after those of a frame that is under way.
use Rattle.std.proofs.Common.{◌≡◌, ◌<◌, ◌≤◌, ◌∙◌, ◌++◌, ℕ, List, [], ◌∷◌, length, sym}
use Rattle.std.proofs.Common.{subst, arith, true, zero, suc, length-append}
use Rattle.std.proofs.lemmas.Bool.{eqb-true}
use Rattle.std.proofs.lemmas.List.Elements.{All-append}
use Rattle.std.specs.Prelude.{All}
use Rattle.cam6_planes.specs.declared.sides.Side.{Side}
use Rattle.cam6_planes.specs.Side.{side_number}
use Rattle.cam6_planes.proofs.SideNumbers.{side_least}
use Rattle.cam6_show_frames.specs.Frame.{IsRowOf, IsFrame}
use Rattle.cam6_show_frames.specs.Unfinished.{IsUnfinished, goes_on}

-- a side counts more than one column
pub side_is_many : (side : Side) → 1 < side_number side
side_is_many side = omega (arith, side_least side)

-- one row alone
only : (side : Side) (row : List ℕ) → IsRowOf side row → All (IsRowOf side) (row ∷ [])
only side row is zero d within = is
only side row is (suc k) d within = absurd (omega arith)

-- rows that are all of one side and no more than it counts
record After (side : Side) (rows : List (List ℕ)) : Type 0 where
  few : length rows ≤ side_number side
  all : All (IsRowOf side) rows

after : (rows : List (List ℕ)) (row : List ℕ) (side : Side) → IsUnfinished rows → IsRowOf side row
    → goes_on rows row ≡ true → After side (rows ++ row ∷ [])
after [] row side unfinished is on =
    record { few = omega (arith, side_is_many side); all = only side row is }
after (first ∷ rows) row side unfinished is on =
    let long : length row ≡ length first = eqb-true (length row) (length first) on in
    let same : side_number unfinished.0 ≡ side_number side =
    sym ((unfinished.2 0 [] (omega arith)).0) ∙ sym long ∙ is.0 in
    record {
      few = omega (arith, same, unfinished.1, length-append (first ∷ rows) (row ∷ []));
      all = All-append (IsRowOf side) (first ∷ rows) (row ∷ [])
          (λ k d within. ((unfinished.2 k d within).0 ∙ same, (unfinished.2 k d within).1))
          (only side row is);
    }

module _ (rows now : List (List ℕ)) (row : List ℕ) (columns : ℕ) (unfinished : IsUnfinished rows)
    (is : (side : Side) × (columns ≡ side_number side) × IsRowOf side row)
    (on : goes_on rows row ≡ true) (grown : now ≡ rows ++ row ∷ []) where
  grows : After is.0 now
  grows =
      let P : List (List ℕ) → Type 0 = After is.0 in
      subst P (sym grown) (after rows row is.0 unfinished is.2 on)

  -- fewer rows than each has columns may become a frame
  pub stays_unfinished : length now < columns → IsUnfinished now
  stays_unfinished fewer = (is.0, omega (arith, is.1, fewer), grows.all)

  -- as many rows as each has columns are a frame
  pub becomes_frame : columns ≤ length now → IsFrame now
  becomes_frame many = (is.0, omega (arith, is.1, many, grows.few), grows.all)
