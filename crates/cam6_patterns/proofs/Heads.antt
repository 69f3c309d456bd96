-- A line before the cells.
use Rattle.std.proofs.Common.{◌≡◌, ◌≢◌, ℕ, List, ◌∷◌, Option, Result, false, length, ne_eqb}
use Rattle.std.specs.Prelude.{◌==◌}
use Rattle.cam6_patterns.specs.Header.{past_blanks, extents_in}
use Rattle.cam6_patterns.specs.Reading.{on_head, on_header}
use Rattle.cam6_patterns.specs.Outcome.{LeadsTo}
use Rattle.cam6_patterns.specs.declared.headers.Head.{Head}
use Rattle.cam6_patterns.specs.declared.faults.PatternFault.{PatternFault}

-- a line that is no remark and has a mark is the header
pub header_comes : (side states n : ℕ) (corner : Option (ℕ × ℕ)) (b : ℕ) (bytes line : List ℕ)
    (r : Result Head PatternFault) → line ≡ b ∷ bytes → b ≢ 35
    → (length (past_blanks line) == 0) ≡ false
    → LeadsTo states (on_header side states n corner (extents_in line)) r
    → LeadsTo states (on_head side states n corner line) r
header_comes side states n corner b bytes line r is other mark leads = rw is (rw (ne_eqb b 35 other, rw is at mark) (rw is at leads))
