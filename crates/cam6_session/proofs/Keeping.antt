-- A line that is kept grows by a part.
use Rattle.std.proofs.Common.{◌≡◌, ◌<◌, ◌≤◌, ◌+◌, ℕ, List, ◌++◌, length, Bool, true, false, cond}
use Rattle.std.proofs.Common.{refl, ap, sym, subst, ◌∙◌, arith, length-append, [], append-nil}
use Rattle.std.proofs.Common.{Option, Some, None, IfSome, take, drop, take-take, take-append-drop}
use Rattle.std.specs.Io.{StartsWith}
use Rattle.std.specs.Io.KnownBytes.{Keeps, Consumes, IsAtEnd}
use Rattle.cam6_wire.specs.OneLine.{HasNoLf}
use Rattle.cam6_wire.specs.Limits.{max_line, max_load_line, begins_load, limit_of}
use Rattle.cam6_wire.proofs.Heads.{limit_stays}
use Rattle.cam6_session.specs.Held.{Held, Holds, Grows}
use Rattle.cam6_session.specs.Reading.{IsLongLoad, BecomesLong}

least : (b : Bool) → max_line ≤ cond b max_load_line max_line
least true = omega arith
least false = omega arith

-- every line may have as many bytes as one of any kind
limit_least : (line : List ℕ) → max_line ≤ limit_of line
limit_least line = least (begins_load line)

-- a line above its limit stays above it
stays_long : (line more : List ℕ) → limit_of line < length line
    → limit_of (line ++ more) < length (line ++ more)
stays_long line more long =
    let least = limit_least line in
    let same = limit_stays line more (omega (arith, least, long)) in
    omega (arith, same, long, length-append line more)

above : (b : Bool) (n : ℕ) → n ≤ cond b max_load_line max_line → max_line < n → b ≡ true
above true n within over = refl
above false n within over = absurd (omega (arith, within, over))

-- one that isn't, and is longer than any other line may be, begins as a load
is_load : (line : List ℕ) → length line ≤ limit_of line → max_line < length line
    → IsLongLoad line
is_load line within over = record {
  begins = above (begins_load line) (length line) within over;
  long = over;
}

abbrev at : List ℕ → Bool → Held
at bytes is_long = record { bytes = bytes; is_long = is_long }

-- a line that was too long is too long with any part after it
pub grows_long : (bytes part : List ℕ) (is_long : Bool) → is_long ≡ true
    → Grows (at bytes is_long) (at bytes is_long) part
grows_long bytes part true is line holds = stays_long line part holds
grows_long bytes part false is line holds = let never : ⊥ = cc in absurd never

-- a line may become too long
pub becomes_long : (bytes part : List ℕ) (is_long : Bool) → is_long ≡ false
    → limit_of (bytes ++ part) < length (bytes ++ part)
    → Grows (at bytes is_long) (at bytes true) part
becomes_long bytes part true is over line holds = let never : ⊥ = cc in absurd never
becomes_long bytes part false is over line holds =
    subst (λ l. limit_of (l ++ part) < length (l ++ part)) holds.0 over

-- or stays within its limit
pub grows_within : (bytes part : List ℕ) (is_long : Bool) → is_long ≡ false
    → length (bytes ++ part) ≤ limit_of (bytes ++ part)
    → Grows (at bytes is_long) (at (bytes ++ part) is_long) part
grows_within bytes part true is within line holds = let never : ⊥ = cc in absurd never
grows_within bytes part false is within line holds = (
  ap (λ l. l ++ part) holds.0,
  subst (λ l. length (l ++ part) ≤ limit_of (l ++ part)) holds.0 within,
)

-- room was taken for a load alone
pub wants_room : (bytes part : List ℕ) (is_long : Bool) → is_long ≡ false
    → length (bytes ++ part) ≤ limit_of (bytes ++ part) → max_line < length bytes + length part
    → (line : List ℕ) → Holds (at bytes is_long) line → IsLongLoad (line ++ part)
wants_room bytes part true is within over line holds = let never : ⊥ = cc in absurd never
wants_room bytes part false is within over line holds =
    subst (λ l. IsLongLoad (l ++ part)) holds.0
    (is_load (bytes ++ part) within (omega (arith, over, length-append bytes part)))

-- where no room was found, nothing was kept or taken
pub grows_nothing : (held kept : Held) → kept ≡ held → Grows held kept []
grows_nothing held kept same line holds =
    subst (λ h. Holds h (line ++ [])) (sym same) (subst (Holds held) (sym (append-nil line)) holds)

pub consumes_none : (old new : Option (List ℕ)) → Keeps old new → Consumes old new []
consumes_none None new keeps = tt
consumes_none (Some xs) None keeps = absurd keeps
consumes_none (Some xs) (Some ys) keeps = sym keeps

-- and what was shown made the line a long load
pub becomes_long_by : (old : Option (List ℕ)) (shown : List ℕ) (n : ℕ) (held : Held)
    → n ≤ length shown → IfSome old (λ xs. StartsWith xs shown) → HasNoLf (take n shown)
    → ((line : List ℕ) → Holds held line → IsLongLoad (line ++ take n shown))
    → IfSome old (BecomesLong held)
becomes_long_by None shown n held within front free long = tt
becomes_long_by (Some xs) shown n held within front free long = (
  take n shown,
  drop n xs,
  sym (take-append-drop n xs)
      ∙ ap (λ l. l ++ drop n xs) (sym (take-take n (length shown) xs within) ∙ ap (take n) front),
  free,
  long,
)

-- a reader that showed nothing is at its end
pub at_end_by : (old : Option (List ℕ)) (shown : List ℕ) → length shown ≡ 0
    → IfSome old (λ xs. length shown ≡ 0 → xs ≡ []) → IsAtEnd old
at_end_by None shown none end = tt
at_end_by (Some xs) shown none end = end none
