-- A step that is a band further, or is moved.
use Rattle.std.proofs.Common.{◌≡◌, ℕ, ◌+◌, ◌-◌, ◌%◌, ◌<◌, ◌≤◌, ◌∙◌, sym, ap, arith}
use Rattle.std.proofs.Common.{subst, List}
use Rattle.std.proofs.Common.{refl, inl, inr}
use native.Mathlib.Decide.{dec_lt}
use Rattle.cam6_planes.specs.Cells.{Cells, cells, IsRow}
use Rattle.cam6_planes.specs.Row.{west_of}
use Rattle.cam6_planes.specs.Side.{side_number}
use Rattle.cam6_planes.specs.Stored.{Stored, width}
use Rattle.cam6_planes.specs.declared.sides.Side.{Side}
use Rattle.cam6_planes.proofs.SideNumbers.{side_words}
use Rattle.cam6_planes.proofs.WordByWord.{west_of-suc}
use Rattle.cam6_band.specs.ByTables.{StepTables, step_by}
use Rattle.cam6_band.specs.Partway.{Partway, Mid, IsSaved}
use Rattle.cam6_band.specs.Internal.NewRows.{AreOldRows, IsOutside}
use Rattle.cam6_band.specs.Internal.SavedRows.{saved_rows, mid_of}

-- sixteen rows more are no more than there are
pub a_band : (side : Side) (done : ℕ) → done < side_number side → done % 16 ≡ 0 →
    done + 16 ≤ side_number side
a_band side done h k = omega (arith, h, k, side_words side)

module _ (o p : Cells) (old new : Stored) (first last row : List (List ℕ)) (y : ℕ) where
  -- a band more is new: the others stay, and the last old one is saved
  pub a_band_more : y + 16 ≤ width old → new.side ≡ old.side →
      Partway o p (mid_of old first last y) →
      ((q x r : ℕ) → q < 4 → x < width old → r < 16 → cells new q x (y + r) ≡ p q x (y + r)) →
      ((q x v : ℕ) → q < 4 → x < width old → v < width old → IsOutside y v →
      cells new q x v ≡ cells old q x v) →
      IsRow (width old) (cells old) (y + 15) row → Partway o p (mid_of new first row (y + 16))
  a_band_more within side part made others saved =
      let same : width new ≡ width old = ap side_number side in
      let north : west_of (width old) (y + 16) ≡ y + 15 =
      ap (west_of (width old)) (omega arith) ∙
      west_of-suc (width old) (y + 15) (omega (arith, within)) in
      record {
        new = λ q x v h k l.
            elim (dec_lt v y) [
              | Prim.yes lt ↦
                  others q x v h (omega (arith, k, same)) (omega (arith, within, lt)) (inl lt) ∙
                  part.new q x v h (omega (arith, k, same)) lt
              | Prim.no ge ↦
                  let e : v ≡ y + (v - y) = omega (arith, ge) in
                  subst (λ n. cells new q x n ≡ p q x n) (sym e)
                  (made q x (v - y) h (omega (arith, k, same)) (omega (arith, l, ge)))
            ];
        old = λ q x v h k l m.
            others q x v h (omega (arith, k, same)) (omega (arith, m, same)) (inr l) ∙
            part.old q x v h (omega (arith, k, same)) (omega (arith, l)) (omega (arith, m, same));
        saved = (
          subst (λ n. IsRow n o 0 first) (sym same) part.saved.0,
          (
            subst (λ n. IsRow n o (west_of n (y + 16)) row) (sym same)
                (subst (λ n. IsRow (width old) o n row) (sym north)
                (λ q x h k. saved q x h k ∙
                part.old q x (y + 15) h k (omega arith) (omega (arith, within)))),
            tt,
          ),
        );
        first = λ some. inl refl;
        last = λ some. inr (inl (ap (λ n. west_of n (y + 16)) same ∙ north ∙ omega arith));
      }

-- what a band makes of a step that is partly done
pub band_made : (tables : StepTables) (mid : Mid) (old new : Stored)
    (first last row : List (List ℕ)) (y : ℕ) → mid_of old first last y ≡ mid →
    y + 16 ≤ width old → new.side ≡ old.side →
    ((f : Cells) → AreOldRows (width old) f y (cells old) last first → (q x r : ℕ) → q < 4 →
    x < width old → r < 16 →
    cells new q x (y + r) ≡ step_by (width old) tables f q x (y + r)) →
    ((q x v : ℕ) → q < 4 → x < width old → v < width old → IsOutside y v →
    cells new q x v ≡ cells old q x v) →
    IsRow (width old) (cells old) (y + 15) row → (o : Cells) →
    Partway o (step_by (width mid.planes) tables o) mid →
    Partway o (step_by (width mid.planes) tables o) (mid_of new first row (y + 16))
band_made tables mid old new first last row y shown within side made others saved o part =
    let own : Partway o (step_by (width old) tables o) (mid_of old first last y) =
    subst (λ m. Partway o (step_by (width m.planes) tables o) m) (sym shown) part in
    subst (λ m. Partway o (step_by (width m.planes) tables o) (mid_of new first row (y + 16))) shown
    (a_band_more o (step_by (width old) tables o) old new first last row y within side own
    (made o (record { rows = own.old; north = own.saved.1.0; first = own.saved.0 })) others saved)

-- other planes with the same cells, and the same rows that are saved
pub moved : (o p : Cells) (old new : Stored) (first last : List (List ℕ)) (done : ℕ) →
    cells new ≡ cells old → new.side ≡ old.side → Partway o p (mid_of old first last done) →
    Partway o p (mid_of new first last done)
moved o p old new first last done shown side part =
    let same : width new ≡ width old = ap side_number side in
    record {
      new = λ q x y h k l.
          ap (λ (f : Cells). f q x y) shown ∙ part.new q x y h (omega (arith, k, same)) l;
      old = λ q x y h k l m.
          ap (λ (f : Cells). f q x y) shown ∙
          part.old q x y h (omega (arith, k, same)) l (omega (arith, m, same));
      saved = (
        subst (λ n. IsRow n o 0 first) (sym same) part.saved.0,
        (subst (λ n. IsRow n o (west_of n done) last) (sym same) part.saved.1.0, tt),
      );
      first = λ some. inl refl;
      last = λ some. subst (λ n. IsSaved (done - 1) (saved_rows n first last done)) (sym same)
          (part.last some);
    }
