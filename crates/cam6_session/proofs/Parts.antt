-- A line is read in parts, one a look, until its LF, the input's end or a fault.
use Rattle.std.proofs.Common.{◌≡◌, ◌≢◌, ℕ, List, [], ◌∷◌, ◌++◌, length, Option, None, Some}
use Rattle.std.proofs.Common.{Bool, true, false, cond, refl, sym, ap, subst, ◌∙◌, arith, true≢false}
use Rattle.std.proofs.Common.{append-nil, append_assoc, ne_eqb, inl, inr}
use Rattle.std.proofs.lemmas.List.Elements.{All-append}
use Rattle.std.proofs.KnownBytes.{Consumes-trans}
use Rattle.std.specs.Io.KnownBytes.{Consumes}
use Rattle.cam6_session.specs.Held.{Held, Holds, is_empty}
use Rattle.cam6_wire.specs.OneLine.{HasNoLf}
use Rattle.cam6_session.specs.Reading.{Reads, ReadsLine, ReadsTo, ReadsWithin, TakesPart}
use Rattle.cam6_session.specs.declared.lines.Extent.{Extent}
use Rattle.cam6_session.specs.declared.lines.Extent.TheVariants.{ToItsEnd, UntilTooLong}
use Rattle.cam6_session.specs.declared.lines.Line.{Line}
use Rattle.cam6_session.specs.declared.lines.Line.TheVariants.{Ended, Last, EndOfInput, ReadFault}
use Rattle.cam6_session.specs.declared.lines.Line.TheVariants as line_end
use Rattle.cam6_session.specs.declared.lines.Part.TheVariants.{More, Newline, AtEnd, Fault}
use Rattle.cam6_session.specs.declared.lines.Part.TheVariants as taking

-- a part of a line has been read, and what is kept stands for it
pub record HasRead (old new : Option (List ℕ)) (held : Held) : Type 0 where
  pub part : List ℕ
  pub free : HasNoLf part
  pub holds : Holds held part
  pub taken : Consumes old new part

abbrev at : List ℕ → Bool → Held
at bytes is_long = record { bytes = bytes; is_long = is_long }

-- nothing is kept where what is kept stands for no byte, and only there
empty_line : (bytes : List ℕ) (is_long : Bool) (line : List ℕ) → Holds (at bytes is_long) line
    → is_empty (at bytes is_long) ≡ true → line ≡ []
empty_line bytes true line holds e = absurd (true≢false (sym e))
empty_line [] false line holds e = sym holds.0
empty_line (x ∷ bytes) false line holds e =
    absurd (true≢false (sym e ∙ ne_eqb (length (x ∷ bytes)) 0 (λ e. omega arith)))

some_line : (bytes : List ℕ) (is_long : Bool) (line : List ℕ) → Holds (at bytes is_long) line
    → is_empty (at bytes is_long) ≡ false → line ≢ []
some_line bytes true [] holds e none = absurd (omega arith)
some_line bytes true (y ∷ line) holds e none = cc
some_line [] false line holds e none = true≢false e
some_line (x ∷ bytes) false line holds e none = let same = holds.0 ∙ none in cc

-- the input ended after a line that isn't empty, or where a line would begin
last_or_none : (kept : Held) (e : Bool) (line all unread : List ℕ) → is_empty kept ≡ e
    → Holds kept line → HasNoLf line → unread ≡ [] → all ≡ line ++ unread
    → ReadsLine (cond e EndOfInput Last) all unread kept
last_or_none kept true line all unread e holds free none is =
    (is ∙ ap (λ l. l ++ unread) (empty_line kept.bytes kept.is_long line holds e) ∙ none, none)
last_or_none kept false line all unread e holds free none is = (
  line,
  free,
  some_line kept.bytes kept.is_long line holds e,
  is ∙ ap (λ l. line ++ l) none ∙ append-nil line,
  none,
  holds,
)

pub more_is_read : (old now new : Option (List ℕ)) (held kept : Held) → HasRead old now held
    → TakesPart More now new held kept → HasRead old new kept
more_is_read old now new held kept read look = record {
  part = read.part ++ look.part;
  free = All-append (λ x. x ≢ 10) _ _ read.free look.free;
  holds = look.grows read.part read.holds;
  taken = Consumes-trans old now new _ _ read.taken
      (subst (Consumes now new) (append-nil look.part) look.taken);
}

-- a line that was read to its end was read as far as was wanted
pub reads_to : (extent : Extent) (result : Line) (old new : Option (List ℕ)) (held : Held)
    → Reads result old new held → ReadsTo extent result old new held
reads_to ToItsEnd result old new held reads = reads
reads_to UntilTooLong result None new held reads = tt
reads_to UntilTooLong result (Some all) new held (unread, left, line) = (unread, left, inl line)

by_excess : (old new : Option (List ℕ)) (held : Held) → HasRead old new held
    → held.is_long ≡ true → ReadsWithin Ended old new held
by_excess None new held read long = tt
by_excess (Some all) None held read long = absurd read.taken
by_excess (Some all) (Some unread) held read long =
    (unread, refl, inr (read.part, refl, read.free, read.taken, long, read.holds))

-- and so was one that is too long
pub line_exceeds : (extent : Extent) (old new : Option (List ℕ)) (held : Held)
    → HasRead old new held → (extent ≡ UntilTooLong) × (held.is_long ≡ true)
    → ReadsTo extent Ended old new held
line_exceeds extent old new held read (is, long) =
    subst (λ (e : Extent). ReadsTo e Ended old new held) (sym is) (by_excess old new held read long)

pub line_is_ended : (old now new : Option (List ℕ)) (held kept : Held) → HasRead old now held
    → TakesPart Newline now new held kept → Reads Ended old new kept
line_is_ended None now new held kept read look = tt
line_is_ended (Some all) None new held kept read look = absurd read.taken
line_is_ended (Some all) (Some remaining) None held kept read look = absurd look.taken
line_is_ended (Some all) (Some remaining) (Some unread) held kept read look =
    let line = read.part ++ look.part in
    let is : all ≡ (line ++ 10 ∷ []) ++ unread =
    Consumes-trans (Some all) (Some remaining) (Some unread) _ _ read.taken look.taken
    ∙ ap (λ l. l ++ unread) (sym (append_assoc read.part look.part (10 ∷ []))) in (
      unread,
      refl,
      (
        line,
        All-append (λ x. x ≢ 10) _ _ read.free look.free,
        is ∙ append_assoc line (10 ∷ []) unread,
        look.grows read.part read.holds,
      ),
    )

pub input_is_ended : (old now new : Option (List ℕ)) (held kept : Held) → HasRead old now held
    → TakesPart AtEnd now new held kept → Reads (cond (is_empty kept) EndOfInput Last) old new kept
input_is_ended None now new held kept read look = tt
input_is_ended (Some all) None new held kept read look = absurd read.taken
input_is_ended (Some all) (Some remaining) None held kept read look = absurd look.taken
input_is_ended (Some all) (Some remaining) (Some unread) held kept read look =
    let end = look.at_end refl in
    let same : remaining ≡ unread = look.taken ∙ ap (λ l. (l ++ []) ++ unread) end.0 in
    let none : unread ≡ [] = sym same ∙ end.1 in
    let nothing_new = ap (λ l. read.part ++ l) end.0 ∙ append-nil read.part in
    let holds : Holds kept read.part =
    subst (Holds kept) nothing_new (look.grows read.part read.holds) in
    let is = read.taken ∙ ap (λ l. read.part ++ l) same in
    (unread, refl, last_or_none kept (is_empty kept) read.part all unread refl holds read.free none is)

pub reading_failed : (old now new : Option (List ℕ)) (held kept : Held) → HasRead old now held
    → TakesPart Fault now new held kept → Reads ReadFault old new kept
reading_failed None now new held kept read look = tt
reading_failed (Some all) None new held kept read look = absurd read.taken
reading_failed (Some all) (Some remaining) None held kept read look = absurd look.taken
reading_failed (Some all) (Some remaining) (Some unread) held kept read look =
    let taken = subst (Consumes (Some remaining) (Some unread)) (append-nil look.part) look.taken in (
      unread,
      refl,
      (
        read.part ++ look.part,
        All-append (λ x. x ≢ 10) _ _ read.free look.free,
        Consumes-trans (Some all) (Some remaining) (Some unread) _ _ read.taken taken,
      ),
    )

-- no room was found for a long line, of which some part had been read
pub room_is_wanted : (old now new : Option (List ℕ)) (held kept : Held) → HasRead old now held
    → TakesPart taking.NoMemory now new held kept → Reads line_end.NoMemory old new kept
room_is_wanted None now new held kept read look = tt
room_is_wanted (Some all) None new held kept read look = absurd read.taken
room_is_wanted (Some all) (Some remaining) None held kept read look = absurd look.taken
room_is_wanted (Some all) (Some remaining) (Some unread) held kept read look =
    let wanted = look.wanted refl in
    let more = wanted.1 in
    let same : remaining ≡ unread = look.taken ∙ ap (λ l. (l ++ []) ++ unread) wanted.0 in
    let is : all ≡ (read.part ++ more.0) ++ more.1 =
    read.taken ∙ ap (λ l. read.part ++ l) more.2 ∙ sym (append_assoc read.part more.0 more.1) in (
      unread,
      refl,
      (
        read.part,
        read.free,
        read.taken ∙ ap (λ l. read.part ++ l) same,
        (
          read.part ++ more.0,
          more.1,
          is,
          All-append (λ x. x ≢ 10) _ _ read.free more.3,
          more.4 read.part read.holds,
        ),
      ),
    )
