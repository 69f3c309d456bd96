-- A host that ended within a line, or before one.
use Rattle.std.proofs.Common.{◌≡◌, ◌≢◌, ◌-◌, ◌++◌, ◌∷◌, [], ℕ, List, Bool, true, false, refl, cond}
use Rattle.std.proofs.Common.{length, take, ◌==◌, ne_eqb, sym, subst, ap, ◌∙◌}
use Rattle.std.specs.Prelude.{Option, Some, None, IfSome}
use Rattle.std.specs.Io.{StopsAt}
use Rattle.std.specs.Io.BufRead.{take_through}
use Rattle.std.proofs.lemmas.List.Elements.{All-head, All-push, All-same, All-tail}
use Rattle.cam6_web_bridge.specs.Lines.{HasNoLf}

-- the first byte up to an LF, if none of them is one
first_is_none : (b : ℕ) (bytes : List ℕ) (test : Bool) → HasNoLf (cond test (b ∷ []) (b ∷ bytes))
    → b ≢ 10
first_is_none b bytes true free = All-head (λ b. b ≢ 10) b [] free
first_is_none b bytes false free = All-head (λ b. b ≢ 10) b bytes free

-- bytes without an LF are all that there are
all_taken : (bytes : List ℕ) → HasNoLf (take_through 10 bytes) → bytes ≡ take_through 10 bytes
all_taken [] free = refl
all_taken (b ∷ bytes) free =
    let is = ne_eqb b 10 (first_is_none b (take_through 10 bytes) (b == 10) free) in
    rw is (ap (λ l. b ∷ l)
    (all_taken bytes (All-tail (λ b. b ≢ 10) b (take_through 10 bytes) (rw is at free))))

-- what was read has no LF, if its last byte is none
pub no_lf : (read front : List ℕ) (last count : ℕ) → count ≡ length read
    → read ≡ front ++ last ∷ [] → front ≡ take (count - 1) read → last ≢ 10 → StopsAt read 10
    → HasNoLf read
no_lf read front last count is_count is is_front ne stops =
    let same : front ≡ take (length read - 1) read = is_front ∙ ap (λ n. take (n - 1) read) is_count in
    All-same (λ b. b ≢ 10) read (front ++ last ∷ []) is
    (All-push (λ b. b ≢ 10) front last (All-same (λ b. b ≢ 10) front _ same stops) ne)

-- a read up to an LF that found none gave all that there was
pub all_read : (left : Option (List ℕ)) (read : List ℕ) → HasNoLf read
    → IfSome left (λ bytes. read ≡ [] ++ take_through 10 bytes) → IfSome left (λ all. all ≡ read)
all_read None read free is = tt
all_read (Some bytes) read free is =
    all_taken bytes (subst HasNoLf is free) ∙ sym is
