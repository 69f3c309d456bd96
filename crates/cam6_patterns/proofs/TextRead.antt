-- The text of rows is read as a pattern with their cells.
use Rattle.std.proofs.Common.{◌≡◌, ◌≤◌, ◌∙◌, ℕ, List, [], ◌∷◌, None, Ok, length, get_or}
use Rattle.std.proofs.Common.{refl, ap, arith, append-nil}
use Rattle.std.specs.List.{AllByRecursion}
use Rattle.std.proofs.lemmas.List.Elements.{recursion_from_All}
use Rattle.cam6_show_frames.specs.Lines.{lines}
use Rattle.cam6_patterns.specs.Pattern.{Pattern, most_cells, most_states}
use Rattle.cam6_patterns.specs.Body.{Bounds, nothing_read}
use Rattle.cam6_patterns.specs.Reading.{before, box, with_rows, and_later, lines_read, pattern_in}
use Rattle.cam6_patterns.specs.Writing.{filled, row_by_row, pattern_text}
use Rattle.cam6_patterns.specs.Laws.{AreRowsWithin, IsOneLine, TextIsReadBack}
use Rattle.cam6_patterns.proofs.LinesRead.{lines_after, filled_read}
use Rattle.cam6_patterns.proofs.RowsRead.{FitsIn, RowsRead, rows_read}
use Rattle.cam6_patterns.proofs.HeadRead.{rule_part, head_line, header_is_line, line_without_lf}
use Rattle.cam6_patterns.proofs.HeadRead.{line_is_header}

module _ (side states most : ℕ) (rule : List ℕ) (rows : List (List ℕ)) (largest : side ≤ most_cells)
    (known : states ≤ most) (few : most ≤ most_states) (one_line : IsOneLine rule)
    (fit : AreRowsWithin side states rows) where
  -- as many columns as the first row has
  abbrev width : ℕ
  width = length (get_or rows 0 [])

  -- as many columns and rows as the header says
  abbrev bounds : Bounds
  bounds = record { width = width; height = length rows; states = most }

  -- the pattern without its rows
  abbrev empty_box : Pattern
  empty_box = box None (width, length rows)

  -- the header, and the lines after it
  abbrev line : List ℕ
  line = head_line width (length rows) (rule_part rule)

  abbrev body : List ℕ
  body = filled 0 (row_by_row states 0 rows)

  -- each row fits
  rows_fit : AllByRecursion (FitsIn width states) rows
  rows_fit =
      recursion_from_All (FitsIn width states) rows
      (λ k d h. record { wide = omega (arith, fit.even k d h); within = fit.few k d h })

  narrow : width ≤ most_cells
  narrow = omega (arith, fit.wide, largest)

  low : length rows ≤ most_cells
  low = omega (arith, fit.high, largest)

  -- the cells after the header
  cells_read : RowsRead bounds few narrow low states known 0 rows [] []
  cells_read =
      rows_read bounds few narrow low states known rows rows_fit 0 [] [] (λ none. refl) (omega arith)

  -- the header is the first line
  lines_of_text : lines (pattern_text states rule rows) ≡ line ∷ lines body
  unfolding pattern_text
  lines_of_text =
      ap lines (header_is_line width (length rows) rule body)
      ∙ lines_after line (10 ∷ body) [] (lines body)
      (line_without_lf width (length rows) rule narrow low
      (recursion_from_All (λ b. (b ≡ 10) → ⊥) rule one_line)) refl
      ∙ ap (λ l. l ∷ lines body) (append-nil line)

  -- the text is read to its end
  text_read : pattern_in side most (pattern_text states rule rows)
      ≡ Ok (with_rows empty_box cells_read.0)
  unfolding pattern_in
  text_read =
      ap (λ ls. lines_read side most ls 0 (before None)) lines_of_text
      ∙ ap (λ s. and_later s (lines_read side most (lines body) 1))
      (line_is_header side most width (length rows) rule largest fit.wide fit.high)
      ∙ filled_read side most bounds empty_box (row_by_row states 0 rows) nothing_read cells_read.0
      1 cells_read.1

-- the text of rows is read as a pattern with their cells
pub text_is_read_back : TextIsReadBack
text_is_read_back side states most rule rows largest some known few one_line fit =
    let read = cells_read side states most rule rows largest known few one_line fit in (
      with_rows (empty_box side states most rule rows largest known few one_line fit) read.0,
      text_read side states most rule rows largest known few one_line fit,
      (refl, refl, refl, refl, read.2),
    )
