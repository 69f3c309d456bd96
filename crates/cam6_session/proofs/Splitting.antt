-- A text is split at its LFs, from the front.
use Rattle.std.proofs.Common.{◌≡◌, ◌≢◌, ℕ, List, [], ◌∷◌, ◌++◌, Bool, true, false, cond, refl}
use Rattle.std.proofs.Common.{sym, ap, ◌∙◌, append_assoc, append-nil, ne_eqb}
use Rattle.std.proofs.lemmas.List.Elements.{All-head, All-tail}
use Rattle.std.specs.Prelude.{All, ◌==◌}
use Rattle.cam6_wire.specs.OneLine.{HasNoLf}
use Rattle.cam6_session.specs.Lines.{lines, ended_lines, begin_line, grow_line, joined}
use Rattle.cam6_session.specs.Laws.{LinesAreFound}

-- up to its first LF a text is its first line
pub first_line : (line rest : List ℕ) → HasNoLf line
    → lines (line ++ 10 ∷ rest) ≡ line ∷ lines rest
first_line [] rest free = refl
first_line (b ∷ line) rest free =
    rw (ne_eqb b 10 (All-head (λ x. x ≢ 10) b line free))
    (ap (begin_line b) (first_line line rest (All-tail (λ x. x ≢ 10) b line free)))

pub first_ended_line : (line rest : List ℕ) → HasNoLf line
    → ended_lines (line ++ 10 ∷ rest) ≡ line ∷ ended_lines rest
first_ended_line [] rest free = refl
first_ended_line (b ∷ line) rest free =
    rw (ne_eqb b 10 (All-head (λ x. x ≢ 10) b line free))
    (ap (grow_line b) (first_ended_line line rest (All-tail (λ x. x ≢ 10) b line free)))

-- bytes without an LF are the front of a text's first line
begins_first : (b : ℕ) (ls : List (List ℕ))
    → (more : List ℕ) × (later : List (List ℕ)) × (begin_line b ls ≡ (b ∷ more) ∷ later)
begins_first b [] = ([], [], refl)
begins_first b (line ∷ ls) = (line, ls, refl)

pub front_of_line : (b : ℕ) (line rest : List ℕ) → HasNoLf (b ∷ line)
    → (more : List ℕ) × (later : List (List ℕ))
    × (lines ((b ∷ line) ++ rest) ≡ ((b ∷ line) ++ more) ∷ later)
front_of_line b [] rest free =
    let first = begins_first b (lines rest) in (
      first.0,
      first.1,
      ap (λ t. cond t ([] ∷ lines rest) (begin_line b (lines rest)))
          (ne_eqb b 10 (All-head (λ x. x ≢ 10) b [] free)) ∙ first.2,
    )
front_of_line b (c ∷ line) rest free =
    let next = front_of_line c line rest (All-tail (λ x. x ≢ 10) b (c ∷ line) free) in (
      next.0,
      next.1,
      ap (λ t. cond t ([] ∷ lines ((c ∷ line) ++ rest)) (begin_line b (lines ((c ∷ line) ++ rest))))
          (ne_eqb b 10 (All-head (λ x. x ≢ 10) b (c ∷ line) free)) ∙ ap (begin_line b) next.2,
    )

-- without an LF a text is one line, which none ends
pub only_line : (line : List ℕ) → HasNoLf line → line ≢ [] → lines line ≡ line ∷ []
only_line [] free some = absurd (some refl)
only_line (b ∷ []) free some = rw (ne_eqb b 10 (All-head (λ x. x ≢ 10) b [] free)) refl
only_line (b ∷ c ∷ line) free some =
    let later = only_line (c ∷ line) (All-tail (λ x. x ≢ 10) b (c ∷ line) free) (λ e. cc) in
    rw (ne_eqb b 10 (All-head (λ x. x ≢ 10) b (c ∷ line) free)) (ap (begin_line b) later)

pub no_ended_line : (line : List ℕ) → HasNoLf line → ended_lines line ≡ []
no_ended_line [] free = refl
no_ended_line (b ∷ line) free =
    rw (ne_eqb b 10 (All-head (λ x. x ≢ 10) b line free))
    (ap (grow_line b) (no_ended_line line (All-tail (λ x. x ≢ 10) b line free)))

-- one more line after joined lines
pub joined_more : (done : List (List ℕ)) (line rest : List ℕ)
    → joined (done ++ line ∷ []) ++ rest ≡ joined done ++ (line ++ 10 ∷ rest)
joined_more [] line rest = append_assoc line (10 ∷ []) rest
joined_more (first ∷ done) line rest =
    append_assoc first (10 ∷ joined (done ++ line ∷ [])) rest
    ∙ ap (λ l. first ++ 10 ∷ l) (joined_more done line rest)
    ∙ sym (append_assoc first (10 ∷ joined done) (line ++ 10 ∷ rest))

-- the lines of joined lines with something after them
pub lines_joined : (done : List (List ℕ)) (rest : List ℕ) → All HasNoLf done
    → lines (joined done ++ rest) ≡ done ++ lines rest
lines_joined [] rest free = refl
lines_joined (line ∷ later) rest free =
    ap lines (append_assoc line (10 ∷ joined later) rest)
    ∙ first_line line (joined later ++ rest) (All-head HasNoLf line later free)
    ∙ ap (λ ls. line ∷ ls) (lines_joined later rest (All-tail HasNoLf line later free))

pub ended_lines_joined : (done : List (List ℕ)) (rest : List ℕ) → All HasNoLf done
    → ended_lines (joined done ++ rest) ≡ done ++ ended_lines rest
ended_lines_joined [] rest free = refl
ended_lines_joined (line ∷ later) rest free =
    ap ended_lines (append_assoc line (10 ∷ joined later) rest)
    ∙ first_ended_line line (joined later ++ rest) (All-head HasNoLf line later free)
    ∙ ap (λ ls. line ∷ ls) (ended_lines_joined later rest (All-tail HasNoLf line later free))

-- lines that an LF ends stay the first ones, whatever stands after them
begin_lines : (b : ℕ) (ended more : List (List ℕ))
    → (later : List (List ℕ)) × (begin_line b (ended ++ more) ≡ grow_line b ended ++ later)
begin_lines b [] more = (begin_line b more, refl)
begin_lines b (line ∷ ended) more = (more, refl)

first_begins : (b : ℕ) (is_lf : Bool) (all ended more : List (List ℕ)) → all ≡ ended ++ more
    → (later : List (List ℕ)) × (cond is_lf ([] ∷ all) (begin_line b all)
    ≡ cond is_lf ([] ∷ ended) (grow_line b ended) ++ later)
first_begins b true all ended more are = (more, ap (λ ls. [] ∷ ls) are)
first_begins b false all ended more are =
    let begun = begin_lines b ended more in (begun.0, ap (begin_line b) are ∙ begun.1)

pub ended_lines_are_first : (taken unread : List ℕ)
    → (more : List (List ℕ)) × (lines (taken ++ unread) ≡ ended_lines taken ++ more)
ended_lines_are_first [] unread = (lines unread, refl)
ended_lines_are_first (b ∷ taken) unread =
    let rest = ended_lines_are_first taken unread in
    first_begins b (b == 10) (lines (taken ++ unread)) (ended_lines taken) rest.0 rest.1

pub lines_are_found : LinesAreFound
lines_are_found done free = (
  ap lines (sym (append-nil (joined done))) ∙ lines_joined done [] free ∙ append-nil done,
  λ last one. (
    ended_lines_joined done last free
        ∙ ap (λ ls. done ++ ls) (no_ended_line last one) ∙ append-nil done,
    λ some. lines_joined done last free ∙ ap (λ ls. done ++ ls) (only_line last one some),
  ),
)
