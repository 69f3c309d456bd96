-- The first line of some bytes, and the lines after it.
use Rattle.std.proofs.Common.{◌≡◌, ◌<◌, ◌-◌, ◌==◌, get_or, ◌∙◌, ℕ, List, [], ◌∷◌, length, take}
use Rattle.std.proofs.Common.{Bool, true, false, cond, Option, Some, None, suc, refl, sym, ap, arith, nat_lt}
use Rattle.std.specs.Prelude.{IfSome}
use Rattle.std.specs.Io.BufRead.{take_through, drop_through, strip_last, DropsThrough}
use Rattle.cam6_show_frames.specs.Lines.{begin_line, lines}
use Rattle.cam6_show_frames.specs.Reading.{Reads}
use Rattle.cam6_show_frames.specs.declared.lines.Reading.TheVariants.{Line}

cut_or_whole : (ends : Bool) (n b : ℕ) (line : List ℕ)
    → cond ends (take (suc n) (b ∷ line)) (b ∷ line) ≡ b ∷ cond ends (take n line) line
cut_or_whole true n b line = refl
cut_or_whole false n b line = refl

-- a byte in front of a line that isn't empty stays when its LF goes
strip_after : (b c : ℕ) (line : List ℕ)
    → strip_last 10 (b ∷ c ∷ line) ≡ b ∷ strip_last 10 (c ∷ line)
strip_after b c line =
    let longer : suc (suc (length line)) - 1 ≡ suc (length line) = omega arith in
    let long : suc (length line) - 1 ≡ length line = omega arith in
    let some_more : nat_lt 0 (suc (suc (length line))) ≡ true = grind arith in
    let some : nat_lt 0 (suc (length line)) ≡ true = grind arith in
    rw longer
    (rw long
    (rw some_more
    (rw some
    (cut_or_whole (get_or (c ∷ line) (length line) 0 == 10) (length line) b (c ∷ line)))))

-- what is taken of some bytes begins with the first of them
begins : (lf : Bool) (c : ℕ) (line : List ℕ)
    → cond lf (c ∷ []) (c ∷ line) ≡ c ∷ cond lf [] line
begins true c line = refl
begins false c line = refl

taken_after : (b c : ℕ) (bytes : List ℕ)
    → strip_last 10 (b ∷ take_through 10 (c ∷ bytes))
    ≡ b ∷ strip_last 10 (take_through 10 (c ∷ bytes))
taken_after b c bytes =
    let taken = begins (c == 10) c (take_through 10 bytes) in
    ap (λ l. strip_last 10 (b ∷ l)) taken
    ∙ strip_after b c (cond (c == 10) [] (take_through 10 bytes))
    ∙ ap (λ l. b ∷ strip_last 10 l) (sym taken)

module _ (b : ℕ) where
  First : Bool → List ℕ → Type 0
  First lf bytes =
      cond lf ([] ∷ lines bytes) (begin_line b (lines bytes))
      ≡ strip_last 10 (cond lf (b ∷ []) (b ∷ take_through 10 bytes))
      ∷ lines (cond lf bytes (drop_through 10 bytes))

  at_lf : (bytes : List ℕ) → (b == 10) ≡ true → First true bytes
  unfolding First
  at_lf bytes is = sym (ap (λ ends. cond ends [] (b ∷ []) ∷ lines bytes) is)

  at_last : (b == 10) ≡ false → First false []
  unfolding First
  at_last other = sym (ap (λ ends. cond ends [] (b ∷ []) ∷ []) other)

  before_others : (c : ℕ) (bytes : List ℕ)
      → lines (c ∷ bytes)
      ≡ strip_last 10 (take_through 10 (c ∷ bytes)) ∷ lines (drop_through 10 (c ∷ bytes))
      → First false (c ∷ bytes)
  unfolding First
  before_others c bytes later =
      ap (begin_line b) later
      ∙ ap (λ l. l ∷ lines (drop_through 10 (c ∷ bytes))) (sym (taken_after b c bytes))

-- some bytes are the first line and the rest
first_and_rest : (b : ℕ) (bytes : List ℕ)
    → lines (b ∷ bytes)
    ≡ strip_last 10 (take_through 10 (b ∷ bytes)) ∷ lines (drop_through 10 (b ∷ bytes))
unfolding First
first_and_rest b [] = by_byte (b == 10) refl
  where
    by_byte : (lf : Bool) → (b == 10) ≡ lf → First b lf []
    by_byte true is = at_lf b [] is
    by_byte false other = at_last b other
first_and_rest b (c ∷ bytes) = by_byte (first_and_rest c bytes) (b == 10) refl
  where
    by_byte : lines (c ∷ bytes)
        ≡ strip_last 10 (take_through 10 (c ∷ bytes)) ∷ lines (drop_through 10 (c ∷ bytes))
        → (lf : Bool) → (b == 10) ≡ lf → First b lf (c ∷ bytes)
    by_byte later true is = at_lf b (c ∷ bytes) is
    by_byte later false other = before_others b c bytes later

-- a line of some byte or none was read of all bytes
line_of : (all line : List ℕ) → 0 < length line → line ≡ take_through 10 all
    → lines all ≡ strip_last 10 line ∷ lines (drop_through 10 all)
line_of [] line some is = absurd (omega (arith, ap length is, some))
line_of (b ∷ bytes) line some is =
    first_and_rest b bytes
    ∙ ap (λ l. strip_last 10 l ∷ lines (drop_through 10 (b ∷ bytes))) (sym is)

-- so it is of a reader that may not tell its bytes
pub reads_line : (old new : Option (List ℕ)) (line stripped : List ℕ) → 0 < length line
    → stripped ≡ strip_last 10 line → IfSome old (λ all. line ≡ take_through 10 all)
    → DropsThrough old new 10 → Reads Line old new stripped
reads_line None new line stripped some strips takes drops = tt
reads_line (Some all) new line stripped some strips takes drops = (
  drop_through 10 all,
  drops,
  line_of all line some takes ∙ ap (λ l. l ∷ lines (drop_through 10 all)) (sym strips),
)
