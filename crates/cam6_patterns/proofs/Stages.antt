-- A text is read line by line.
use Rattle.std.proofs.Common.{◌≡◌, ◌+◌, ℕ, List, [], ◌∷◌, Result, Ok, Err, refl, sym, ap, ◌∙◌}
use Rattle.cam6_show_frames.specs.Lines.{lines}
use Rattle.cam6_patterns.specs.Pattern.{Pattern}
use Rattle.cam6_patterns.specs.Body.{Bounds, Read, more, over, whole_line_read}
use Rattle.cam6_patterns.specs.Reading.{Stage, within, done, on_line, on_body, and_later, lines_read}
use Rattle.cam6_patterns.specs.Reading.{with_rows}
use Rattle.cam6_patterns.specs.Faults.{fault}
use Rattle.cam6_patterns.specs.declared.faults.PatternFault.{PatternFault}
use Rattle.cam6_patterns.specs.declared.faults.Cause.TheVariants.{NoEnd}

-- after the end there may be anything
pub lines_done : (side states : ℕ) (ls : List (List ℕ)) (n : ℕ) (p : Pattern)
    → lines_read side states ls n (done p) ≡ Ok p
lines_done side states [] n p = refl
lines_done side states (line ∷ ls) n p = lines_done side states ls (n + 1) p

module _ (side states n : ℕ) (text line later : List ℕ) (stage : Stage)
    (first : lines text ≡ line ∷ lines later) where
  -- one more line leads to another stage
  pub line_more : (next : Stage) (whole : Result Pattern PatternFault)
      → on_line side states (n + 1) stage line ≡ Ok next
      → lines_read side states (lines text) n stage ≡ whole
      → lines_read side states (lines later) (n + 1) next ≡ whole
  line_more next whole leads same =
      ap (λ s. and_later s (lines_read side states (lines later) (n + 1))) (sym leads)
      ∙ ap (λ ls. lines_read side states ls n stage) (sym first) ∙ same

  -- or it has a fault
  pub line_fault : (f : PatternFault) (whole : Result Pattern PatternFault)
      → on_line side states (n + 1) stage line ≡ Err f
      → lines_read side states (lines text) n stage ≡ whole → whole ≡ Err f
  line_fault f whole leads same =
      sym same ∙ ap (λ ls. lines_read side states ls n stage) first
      ∙ ap (λ s. and_later s (lines_read side states (lines later) (n + 1))) leads

module _ (side states n : ℕ) (text : List ℕ) (p : Pattern) (bounds : Bounds) (read : Read)
    (whole : Result Pattern PatternFault)
    (same : lines_read side states (lines text) n (within p bounds read) ≡ whole) where
  -- a line of cells, after which more may come
  pub cells_more : (line later : List ℕ) → lines text ≡ line ∷ lines later → (next : Read) → whole_line_read bounds (n + 1) line read ≡ Ok (more next)
      → lines_read side states (lines later) (n + 1) (within p bounds next) ≡ whole
  cells_more line later first next leads =
      line_more side states n text line later (within p bounds read) first (within p bounds next)
      whole (ap (on_body p bounds) leads) same

  -- or with the end in it
  pub cells_over : (line later : List ℕ) → lines text ≡ line ∷ lines later → (rows : List (List ℕ))
      → whole_line_read bounds (n + 1) line read ≡ Ok (over rows) → whole ≡ Ok (with_rows p rows)
  cells_over line later first rows leads =
      sym
      (line_more side states n text line later (within p bounds read) first
      (done (with_rows p rows)) whole (ap (on_body p bounds) leads) same)
      ∙ lines_done side states (lines later) (n + 1) (with_rows p rows)

  -- or with a fault
  pub cells_fault : (line later : List ℕ) → lines text ≡ line ∷ lines later → (f : PatternFault) → whole_line_read bounds (n + 1) line read ≡ Err f
      → whole ≡ Err f
  cells_fault line later first f leads =
      line_fault side states n text line later (within p bounds read) first f whole
      (ap (on_body p bounds) leads) same

  -- or no line is left
  pub cells_end : (none : lines text ≡ []) → whole ≡ fault n 1 NoEnd
  cells_end none = sym same ∙ ap (λ ls. lines_read side states ls n (within p bounds read)) none
