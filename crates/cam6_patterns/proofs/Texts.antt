-- The text of a frame.
use Rattle.std.proofs.Common.{◌≡◌, ◌∙◌, ℕ, List, [], ◌++◌, length, get_or, sym, ap}
use Rattle.std.specs.Prelude.{codes}
use Rattle.cam6_show_frames.specs.Frame.{IsFrame}
use Rattle.cam6_patterns.specs.Writing.{header, filled, row_by_row, states_of, pattern_text}
use Rattle.cam6_patterns.specs.Writing.{text_of_frame}
use Rattle.cam6_patterns.proofs.Rows.{row_is_wide, rows_are_some}

-- the header, then the parts, and then an LF
pub text_is_whole : (rows : List (List ℕ)) → IsFrame rows → (rule : List ℕ) (side states : ℕ)
    (before begun parts whole : List ℕ) → side ≡ length rows → states ≡ states_of rows
    → before ≡ [] → begun ≡ before ++ header side side rule
    → begun ++ filled 0 (row_by_row states 0 rows) ≡ parts ++ codes "\n"
    → whole ≡ parts ++ codes "\n" → whole ≡ text_of_frame rule rows
unfolding text_of_frame pattern_text
text_is_whole rows frame rule side states before begun parts whole long few none head filling end =
    let width : side ≡ length (get_or rows 0 []) =
    long ∙ sym (row_is_wide rows frame 0 (rows_are_some rows frame)) in
    end ∙ sym filling
    ∙ ap (λ n. begun ++ filled 0 (row_by_row n 0 rows)) few
    ∙ ap (λ l. l ++ filled 0 (row_by_row (states_of rows) 0 rows))
    (head ∙ ap (λ l. l ++ header side side rule) none
    ∙ ap (λ n. header n side rule) width
    ∙ ap (λ n. header (length (get_or rows 0 [])) n rule) long)
