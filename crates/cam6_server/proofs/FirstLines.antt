-- What the first line of a connection says, where an LF or the input's end ends it.
use Rattle.std.proofs.Common.{◌≡◌, ◌≢◌, ◌⊎◌, ◌<◌, ℕ, List, [], ◌∷◌, ◌++◌, length, Option, Some}
use Rattle.std.proofs.Common.{None, Result, Ok, Err, inl, inr, refl, ap, ◌∙◌, subst, sym, false, arith}
use Rattle.std.proofs.Common.{Bool, cond, nat_lt, length-append, append_assoc, eqb, true}
use Rattle.std.proofs.lemmas.Bool.Decides.{eqb_tells}
use Rattle.std.proofs.lemmas.List.Elements.{All-append, All-cons, All-nil}
use Rattle.cam6_session.specs.Held.{Held, Holds}
use Rattle.cam6_session.proofs.Keeping.{grows_long}
use Rattle.cam6_session.specs.Reading.{Exceeds, IsLongLoad, ReadsLine, ReadsWithin}
use Rattle.cam6_session.specs.Responding.{TakesMemory}
use Rattle.cam6_session.specs.declared.sessions.End.{End}
use Rattle.cam6_session.specs.declared.sessions.End.TheVariants.{NoMemory}
use Rattle.cam6_session.specs.declared.lines.Line.{Line}
use Rattle.cam6_session.specs.declared.lines.Line.TheVariants.{Ended, Last}
use Rattle.cam6_session.specs.declared.lines.Line.TheVariants as line_end
use Rattle.cam6_wire.proofs.Heads.{head_stays}
use Rattle.cam6_wire.specs.Commands.{IsSaid, from_value, value_of}
use Rattle.cam6_wire.specs.OneLine.{HasNoLf}
use Rattle.cam6_wire.specs.Limits.{limit_of}
use Rattle.cam6_wire.specs.Seats.{seat, seat_in}
use Rattle.cam6_wire.specs.declared.faults.LineFault.{LineFault}
use Rattle.cam6_wire.specs.declared.faults.LineFault.TheVariants.{TooLong}
use Rattle.cam6_server.specs.Connections.{BeginsLongLoad, FirstSays, IsFirst, IsSilent, ReadsFirst}
use Rattle.cam6_server.specs.Connections.{StaysSilent, Tells}

-- bytes up to their first LF, or all of them
abbrev UpToLf : List ℕ → Type 0
UpToLf rest =
    (more unread : List ℕ) × HasNoLf more
    × ((rest ≡ more ++ 10 ∷ unread) ⊎ ((rest ≡ more) × (unread ≡ [])))

one_byte_more : (byte : ℕ) (rest : List ℕ) → byte ≢ 10 → UpToLf rest → UpToLf (byte ∷ rest)
one_byte_more byte rest other (more, unread, free, inl is) = (
  byte ∷ more,
  unread,
  All-cons (λ x. x ≢ 10) byte more other free,
  inl (ap (λ l. byte ∷ l) is),
)
one_byte_more byte rest other (more, unread, free, inr (is, none)) = (
  byte ∷ more,
  unread,
  All-cons (λ x. x ≢ 10) byte more other free,
  inr (ap (λ l. byte ∷ l) is, none),
)

up_to_lf : (rest : List ℕ) → UpToLf rest
up_to_lf [] = ([], [], All-nil (λ x. x ≢ 10), inr (refl, refl))
up_to_lf (byte ∷ rest) = by_byte (eqb_tells byte 10) (up_to_lf rest)
  where
    by_byte : ((eqb byte 10 ≡ true) × (byte ≡ 10)) ⊎ ((eqb byte 10 ≡ false) × (byte ≢ 10)) →
        UpToLf rest → UpToLf (byte ∷ rest)
    by_byte (inl (tells, is)) further =
        ([], rest, All-nil (λ x. x ≢ 10), inl (ap (λ x. x ∷ rest) is))
    by_byte (inr (tells, other)) further = one_byte_more byte rest other further

some_bytes : (line more : List ℕ) → 0 < length line → line ++ more ≢ []
some_bytes [] more some = absurd (omega arith)
some_bytes (byte ∷ line) more some = λ e. cc

-- the first line goes on to its LF, or to the end of the bytes
first_of : (line rest : List ℕ) → HasNoLf line → 0 < length line →
    UpToLf rest → (more unread : List ℕ) × IsFirst (line ++ rest) (line ++ more) unread
first_of line rest free some (more, unread, further, inl is) = (
  more,
  unread,
  (
    All-append (λ x. x ≢ 10) line more free further,
    inl (ap (λ l. line ++ l) is ∙ sym (append_assoc line more (10 ∷ unread))),
  ),
)
first_of line rest free some (more, unread, further, inr (is, none)) = (
  more,
  unread,
  (
    All-append (λ x. x ≢ 10) line more free further,
    inr (some_bytes line more some, ap (λ l. line ++ l) is, none),
  ),
)

exceeded : (limit n : ℕ) → limit < n → nat_lt limit n ≡ true
exceeded limit n above = grind arith

-- a line above its limit says nothing else
too_long : (line : List ℕ) → limit_of line < length line → seat line ≡ Err TooLong
too_long line above =
    ap (λ b. cond b (Err TooLong) (from_value seat_in line (value_of line)))
    (exceeded (limit_of line) (length line) above)

-- what is kept of a line that is too long
above_limit : (bytes : List ℕ) (is_long : Bool) → is_long ≡ true → (line : List ℕ) →
    Holds (record { bytes = bytes; is_long = is_long }) line → limit_of line < length line
above_limit bytes true is line holds = holds
above_limit bytes false is line holds = let never : ⊥ = cc in absurd never

some_byte : (bytes : List ℕ) (is_long : Bool) → is_long ≡ true → (line : List ℕ) →
    Holds (record { bytes = bytes; is_long = is_long }) line → 0 < length line
some_byte bytes is_long is line holds = omega (arith, above_limit bytes is_long is line holds)

not_both : (bytes : List ℕ) (is_long : Bool) → is_long ≡ true → (line : List ℕ) →
    Holds (record { bytes = bytes; is_long = is_long }) line → TakesMemory line → ⊥
not_both bytes is_long is line holds takes =
    omega (arith, above_limit bytes is_long is line holds, takes.1)

-- a line that is too long stays so, and nothing else is said of it
module _ (held : Held) (long : held.is_long ≡ true) (part more : List ℕ) (holds : Holds held part) where
  pub still_holds : Holds held (part ++ more)
  still_holds = grows_long held.bytes more held.is_long long part holds

  pub says_too_long : seat (part ++ more) ≡ Err TooLong
  says_too_long =
      too_long (part ++ more) (above_limit held.bytes held.is_long long (part ++ more) still_holds)

module _ (said : Result ℕ LineFault) (held : Held)
    (says : (l : List ℕ) → Holds held l → IsSaid said (seat l)) where
  ended : (all unread : List ℕ) (remaining : Option (List ℕ)) → remaining ≡ Some unread →
      ReadsLine Ended all unread held → FirstSays said (Some all) remaining
  ended all unread remaining left (line, free, is, holds) =
      (line, unread, (free, inl is), inl left, says line holds)

  last : (all unread : List ℕ) (remaining : Option (List ℕ)) → remaining ≡ Some unread →
      ReadsLine Last all unread held → FirstSays said (Some all) remaining
  last all unread remaining left (line, free, some, is, none, holds) =
      (line, unread, (free, inr (some, is, none)), inl left, says line holds)

  exceeds : (line : Line) (all unread : List ℕ) (remaining : Option (List ℕ)) →
      Exceeds line all unread held → FirstSays said (Some all) remaining
  exceeds line all unread remaining (part, is, free, same, long, holds) =
      let (more, after, first) =
      first_of part unread free (some_byte held.bytes held.is_long long part holds) (up_to_lf unread) in (
        part ++ more,
        after,
        subst (λ (l : List ℕ). IsFirst l (part ++ more) after) (sym same) first,
        inr (says_too_long held long part more holds),
        says (part ++ more) (still_holds held long part more holds),
      )

  pub first_says : (line : Line) (read remaining : Option (List ℕ)) →
      (line ≡ Ended) ⊎ (line ≡ Last) → ReadsWithin line read remaining held →
      FirstSays said read remaining
  first_says line None remaining which reads = tt
  first_says line (Some all) remaining which (unread, left, inr more) =
      exceeds line all unread remaining more
  first_says line (Some all) remaining (inl is) (unread, left, inl reads) =
      ended all unread remaining left (subst (λ (l : Line). ReadsLine l all unread held) is reads)
  first_says line (Some all) remaining (inr is) (unread, left, inl reads) =
      last all unread remaining left (subst (λ (l : Line). ReadsLine l all unread held) is reads)

-- or there was no memory for it
module _ (end : End) (held : Held)
    (tells : (l : List ℕ) → Holds held l → Tells (Err end) l) where
  unheard : (all : List ℕ) (remaining : Option (List ℕ)) (line : List ℕ) →
      Holds held line → IsSilent (NoMemory false) all remaining → IsSilent end all remaining
  unheard all remaining line holds silent =
      let (is, takes) = tells line holds in
      subst (λ (e : End). IsSilent e all remaining) (sym is) silent

  in_whole : (line : Line) (all unread : List ℕ) (remaining : Option (List ℕ)) →
      remaining ≡ Some unread → (line ≡ Ended) ⊎ (line ≡ Last) → ReadsLine line all unread held →
      IsSilent end all remaining
  in_whole line all unread remaining left (inl is) reads =
      let (text, free, same, holds) = subst (λ (l : Line). ReadsLine l all unread held) is reads in
      let (named, takes) = tells text holds in
      unheard all remaining text holds (inr (inl (text, unread, (free, inl same), left, takes)))
  in_whole line all unread remaining left (inr is) reads =
      let (text, free, some, same, none, holds) =
      subst (λ (l : Line). ReadsLine l all unread held) is reads in
      let (named, takes) = tells text holds in
      unheard all remaining text holds
      (inr (inl (text, unread, (free, inr (some, same, none)), left, takes)))

  pub wanting : (line : Line) (read remaining : Option (List ℕ)) →
      (line ≡ Ended) ⊎ (line ≡ Last) → ReadsWithin line read remaining held →
      StaysSilent end read remaining
  wanting line None remaining which reads = tt
  wanting line (Some all) remaining which (unread, left, inl reads) =
      in_whole line all unread remaining left which reads
  wanting line (Some all) remaining which (unread, left, inr (part, is, free, same, long, holds)) =
      let (named, takes) = tells part holds in
      absurd (not_both held.bytes held.is_long long part holds takes)

pub reads_first : (result : Result (Result ℕ LineFault) End) (held : Held) →
    ((l : List ℕ) → Holds held l → Tells result l) →
    (line : Line) (read remaining : Option (List ℕ)) → (line ≡ Ended) ⊎ (line ≡ Last) →
    ReadsWithin line read remaining held → ReadsFirst result read remaining
reads_first (Ok said) held tells = first_says said held tells
reads_first (Err end) held tells = wanting end held tells

-- a long load stays one, however it goes on
load_stays : (line more : List ℕ) → IsLongLoad line → IsLongLoad (line ++ more)
load_stays line more load = record {
  begins = head_stays line more (omega (arith, load.long)) ∙ load.begins;
  long = omega (arith, load.long, length-append line more);
}

begins_long : (all line rest : List ℕ) → all ≡ line ++ rest → HasNoLf line → IsLongLoad line →
    BeginsLongLoad all
begins_long all line rest is free load =
    let (more, unread, first) =
    first_of line rest free (omega (arith, load.long)) (up_to_lf rest) in (
      line ++ more,
      unread,
      subst (λ (l : List ℕ). IsFirst l (line ++ more) unread) (sym is) first,
      load_stays line more load,
    )

-- or no room was found for the rest of it
pub without_room : (held : Held) (read remaining : Option (List ℕ)) →
    ReadsWithin line_end.NoMemory read remaining held → StaysSilent (NoMemory false) read remaining
without_room held None remaining reads = tt
without_room held (Some all) remaining (unread, left, inr (part, is, free, same, long, holds)) =
    let never : ⊥ = cc in absurd never
without_room held (Some all) remaining (unread, left, inl (part, free, is, load)) =
    let (line, rest, same, whole, long) = load in
    inr (inr ((part, unread, free, is, left), begins_long all line rest same whole long))
