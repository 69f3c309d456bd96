-- How an image in the middle of a step keeps rows.
use Rattle.std.specs.Prelude.{ℕ, List, [], ◌∷◌}
use Rattle.cam6_planes.specs.Row.{west_of}
use Rattle.cam6_planes.specs.Stored.{Stored, width}
use Rattle.cam6_band.specs.Partway.{SavedRow, Mid}

-- row 0, and the row to the north of the next one that is made
abbrev pub saved_rows : ℕ → List (List ℕ) → List (List ℕ) → ℕ → List SavedRow
saved_rows s first last done =
    record { number = 0; row = first } ∷ record { number = west_of s done; row = last } ∷ []

abbrev pub mid_of : Stored → List (List ℕ) → List (List ℕ) → ℕ → Mid
mid_of planes first last done =
    record {
      planes = planes;
      done = done;
      saved = saved_rows (width planes) first last done;
    }
