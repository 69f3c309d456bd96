-- A session so far: the lines that it took, each answered, and how it goes on or ends from there.
use Rattle.std.proofs.Common.{◌≡◌, ℕ, List, [], ◌∷◌, ◌++◌, Option, None, Some, refl, sym, ap, ◌∙◌}
use Rattle.std.proofs.Common.{subst, inl, inr, append-nil, append_assoc, true, false, Result, Ok}
use Rattle.std.proofs.Common.{Err, arith, length-append}
use Rattle.std.proofs.lemmas.List.Elements.{All-push}
use Rattle.std.specs.Prelude.{All}
use Rattle.std.specs.Io.KnownBytes.{Appends, Keeps}
use Rattle.cam6_session.specs.Lines.{lines, ended_lines, joined}
use Rattle.cam6_session.specs.Answering.{Answering, AreAnswered}
use Rattle.cam6_wire.specs.OneLine.{HasNoLf}
use Rattle.cam6_wire.proofs.Heads.{head_stays}
use Rattle.cam6_session.proofs.Splitting as split
use Rattle.cam6_session.proofs.Answering.{answered_more}
use Rattle.cam6_session.specs.Held.{Held, Holds}
use Rattle.cam6_session.specs.Reading.{Reads, IsLongLoad}
use Rattle.cam6_session.specs.Responding.{Responds, end_at}
use Rattle.cam6_session.specs.Sessions.{StopsAt, StopsWithin, AnswersReader, AnswersUntil}
use Rattle.cam6_session.specs.declared.lines.Line.TheVariants as read
use Rattle.cam6_session.specs.declared.sessions.End.{End}
use Rattle.cam6_session.specs.declared.sessions.End.TheVariants as end
use Rattle.cam6_session.specs.declared.sessions.Stop.{Stop}
use Rattle.cam6_session.specs.declared.sessions.Stop.TheVariants as stop

appended : (old new : Option (List ℕ)) (bytes more : List ℕ) → old ≡ Some bytes
    → Appends old new more → new ≡ Some (bytes ++ more)
appended None new bytes more e appends = let never : ⊥ = cc in absurd never
appended (Some b) None bytes more e appends = absurd appends
appended (Some b) (Some c) bytes more e appends =
    let same : b ≡ bytes = cc in ap Some (appends ∙ ap (λ l. l ++ more) same)

kept : (old new : Option (List ℕ)) (bytes : List ℕ) → old ≡ Some bytes → Keeps old new
    → new ≡ Some bytes
kept None new bytes e keeps = let never : ⊥ = cc in absurd never
kept (Some b) None bytes e keeps = absurd keeps
kept (Some b) (Some c) bytes e keeps = ap Some keeps ∙ e

-- what begins with a long load has it as the front of its first line
first_is_load : (line rest : List ℕ) → HasNoLf line → IsLongLoad line
    → (first : List ℕ) × (later : List (List ℕ)) × (lines (line ++ rest) ≡ first ∷ later)
    × IsLongLoad first
first_is_load [] rest free load = let never : ⊥ = omega (arith, load.long) in absurd never
first_is_load (b ∷ line) rest free load =
    let first = split.front_of_line b line rest free in
    let front = b ∷ line in (
      front ++ first.0,
      first.1,
      first.2,
      record {
        begins = head_stays front first.0 (omega (arith, load.long)) ∙ load.begins;
        long = omega (arith, load.long, length-append front first.0);
      },
    )

module _ {S : Type 0} (by : Answering S) where
  -- of a reader with all these bytes some lines have been taken, and a writer with these bytes has
  -- their answers after them
  pub record HasRun (s : S) (all out : List ℕ) (remaining new : Option (List ℕ)) (t : S)
      : Type 0 where
    pub done : List (List ℕ)
    pub unread : List ℕ
    pub free : All HasNoLf done
    pub taken : all ≡ joined done ++ unread
    pub leaves : remaining ≡ Some unread
    pub written : List ℕ
    pub writes : new ≡ Some (out ++ written)
    pub answered : AreAnswered by s done written t

  -- one more whole line has been taken, which isn't answered
  pub record HasTaken (s : S) (all out : List ℕ) (remaining new : Option (List ℕ)) (t : S)
      (held : Held) : Type 0 where
    pub taken : List ℕ
    pub unread : List ℕ
    pub is : all ≡ taken ++ unread
    pub leaves : remaining ≡ Some unread
    pub stop : StopsAt taken unread
    pub written : List ℕ
    pub writes : new ≡ Some (out ++ written)
    pub answered : AreAnswered by s stop.done written t
    pub holds : Holds held stop.line

  -- the line is responded to so
  abbrev pub RespondsTo : Result (Unit {0}) Stop → Held → Option (List ℕ) → Option (List ℕ)
      → S → S → Type 0
  RespondsTo result held old new s t =
      (line : List ℕ) → Holds held line → Responds by result line old new s t

  module _ (s : S) (all out : List ℕ) (remaining after new : Option (List ℕ)) (t : S)
      (held : Held) (run : HasRun s all out remaining new t) where
    lines_done : (rest : List ℕ) → lines (joined run.done ++ rest) ≡ run.done ++ lines rest
    lines_done rest = split.lines_joined run.done rest run.free

    -- the reader ended, or failed, or the reads ran out
    pub ends_input : Reads read.EndOfInput remaining after held
        → AnswersReader by end.EndOfInput (Some all) after (Some out) new s t
    ends_input reads =
        let at = subst (λ u. Reads read.EndOfInput u after held) run.leaves reads in
        let are : run.done ≡ lines (joined run.done) =
        sym (append-nil run.done) ∙ sym (lines_done [])
        ∙ ap lines (append-nil (joined run.done)) in (
          joined run.done,
          [],
          run.written,
          run.taken ∙ ap (λ l. joined run.done ++ l) at.2.0,
          at.1 ∙ ap Some at.2.1,
          run.writes,
          (refl, subst (λ ls. AreAnswered by s ls run.written t) are run.answered),
        )

    pub gives_up : (unread part : List ℕ) → after ≡ Some unread → HasNoLf part
        → run.unread ≡ part ++ unread
        → AnswersReader by end.ReadFault (Some all) after (Some out) new s t
    gives_up unread part leaves free is =
        let are : run.done ≡ ended_lines (joined run.done ++ part) =
        sym (append-nil run.done) ∙ ap (λ ls. run.done ++ ls) (sym (split.no_ended_line part free))
        ∙ sym (split.ended_lines_joined run.done part run.free) in (
          joined run.done ++ part,
          unread,
          run.written,
          run.taken ∙ ap (λ l. joined run.done ++ l) is
              ∙ sym (append_assoc (joined run.done) part unread),
          leaves,
          run.writes,
          subst (λ ls. AreAnswered by s ls run.written t) are run.answered,
        )

    pub fails_reading : Reads read.ReadFault remaining after held
        → AnswersReader by end.ReadFault (Some all) after (Some out) new s t
    fails_reading reads =
        let at = subst (λ u. Reads read.ReadFault u after held) run.leaves reads in
        gives_up at.0 at.2.0 at.1 at.2.1 at.2.2

    pub meets_bound : Reads read.TurnBound remaining after held
        → AnswersReader by end.TurnBound (Some all) after (Some out) new s t
    meets_bound reads =
        let at = subst (λ u. Reads read.TurnBound u after held) run.leaves reads in
        gives_up at.0 at.2.0 at.1 at.2.1 at.2.2

    -- no room was found for a line
    pub finds_no_room : Reads read.NoMemory remaining after held
        → AnswersReader by (end.NoMemory false) (Some all) after (Some out) new s t
    finds_no_room reads =
        let at = subst (λ u. Reads read.NoMemory u after held) run.leaves reads in
        let unread = at.0 in
        let part = at.2.0 in
        let load = at.2.3 in
        let first = first_is_load load.0 load.1 load.3 load.4 in
        let ended : run.done ≡ ended_lines (joined run.done ++ part) =
        sym (append-nil run.done)
        ∙ ap (λ ls. run.done ++ ls) (sym (split.no_ended_line part at.2.1))
        ∙ sym (split.ended_lines_joined run.done part run.free) in
        let within : StopsWithin (joined run.done ++ part) unread = record {
          line = first.0;
          later = first.1;
          are = ap lines (append_assoc (joined run.done) part unread
              ∙ ap (λ l. joined run.done ++ l) (sym at.2.2)) ∙ lines_done run.unread
              ∙ ap (λ l. run.done ++ lines l) load.2
              ∙ ap (λ ls. run.done ++ ls) first.2
              ∙ ap (λ ls. ls ++ first.0 ∷ first.1) ended;
          long = first.3;
        } in (
          joined run.done ++ part,
          unread,
          run.written,
          run.taken ∙ ap (λ l. joined run.done ++ l) at.2.2
              ∙ sym (append_assoc (joined run.done) part unread),
          at.1,
          run.writes,
          inr (inr (within, subst (λ ls. AreAnswered by s ls run.written t) ended run.answered)),
        )

    -- a line was taken with its LF
    pub takes_ended : Reads read.Ended remaining after held → HasTaken s all out after new t held
    takes_ended reads =
        let at = subst (λ u. Reads read.Ended u after held) run.leaves reads in
        let line = at.2.0 in
        let taken = joined run.done ++ (line ++ 10 ∷ []) in
        let beyond : (rest : List ℕ)
        → lines (taken ++ rest) ≡ (run.done ++ line ∷ []) ++ lines rest =
        λ rest.
        ap lines (append_assoc (joined run.done) (line ++ 10 ∷ []) rest
        ∙ ap (λ l. joined run.done ++ l) (append_assoc line (10 ∷ []) rest))
        ∙ lines_done (line ++ 10 ∷ rest)
        ∙ ap (λ ls. run.done ++ ls) (split.first_line line rest at.2.1)
        ∙ sym (append_assoc run.done (line ∷ []) (lines rest)) in
        let are = ap lines (sym (append-nil taken)) ∙ beyond []
        ∙ append-nil (run.done ++ line ∷ []) in
        record {
          taken = taken;
          unread = at.0;
          is = run.taken ∙ ap (λ l. joined run.done ++ l) at.2.2
              ∙ sym (append_assoc (joined run.done) (line ++ 10 ∷ []) at.0
              ∙ ap (λ l. joined run.done ++ l) (append_assoc line (10 ∷ []) at.0));
          leaves = at.1;
          stop = record {
            done = run.done;
            line = line;
            are = are;
            whole = beyond at.0 ∙ ap (λ ls. ls ++ lines at.0) (sym are);
          };
          written = run.written;
          writes = run.writes;
          answered = run.answered;
          holds = at.2.3;
        }

    -- the last line was taken, which none ends
    pub takes_last : Reads read.Last remaining after held
        → (took : HasTaken s all out after new t held) × (took.unread ≡ [])
    takes_last reads =
        let at = subst (λ u. Reads read.Last u after held) run.leaves reads in
        let line = at.2.0 in
        let taken = joined run.done ++ line in
        let are = lines_done line
        ∙ ap (λ ls. run.done ++ ls) (split.only_line line at.2.1 at.2.2) in (
          record {
            taken = taken;
            unread = [];
            is = run.taken ∙ ap (λ l. joined run.done ++ l) at.2.3 ∙ sym (append-nil taken);
            leaves = at.1 ∙ ap Some at.2.4;
            stop = record {
              done = run.done;
              line = line;
              are = are;
              whole = ap lines (append-nil taken) ∙ sym (append-nil (lines taken));
            };
            written = run.written;
            writes = run.writes;
            answered = run.answered;
            holds = at.2.5;
          },
          refl,
        )

    -- a line was answered, and the session goes on
    pub goes_on : (then : Option (List ℕ)) (u : S) → Reads read.Ended remaining after held
        → RespondsTo (Ok tt) held new then t u → HasRun s all out after then u
    goes_on then u reads responds =
        let at = subst (λ u. Reads read.Ended u after held) run.leaves reads in
        let line = at.2.0 in
        let done = responds line at.2.3 in
        record {
          done = run.done ++ line ∷ [];
          unread = at.0;
          free = All-push HasNoLf run.done line run.free at.2.1;
          taken = run.taken ∙ ap (λ l. joined run.done ++ l) at.2.2
              ∙ sym (split.joined_more run.done line at.0);
          leaves = at.1;
          written = run.written ++ done.0;
          writes = appended new then _ _ run.writes done.2
              ∙ ap Some (append_assoc out run.written done.0);
          answered = answered_more by s t u run.done line run.written done.0 run.answered done.1;
        }

  module _ (s : S) (all out : List ℕ) (after new then : Option (List ℕ)) (t u : S)
      (held : Held) (took : HasTaken s all out after new t held) where
    served : (e : End) (written : List ℕ) → then ≡ Some (out ++ written)
        → AnswersUntil by e s took.taken took.unread written u
        → AnswersReader by e (Some all) after (Some out) then s u
    served e written is serves =
        (took.taken, took.unread, written, took.is, took.leaves, is, serves)

    fails_writing : RespondsTo (Err stop.WriteFault) held new then t u
        → AnswersReader by end.WriteFault (Some all) after (Some out) then s u
    fails_writing responds =
        let at = responds took.stop.line took.holds in
        let front = at.2.0 in
        let writes = appended new then _ front took.writes at.2.3
        ∙ ap Some (append_assoc out took.written front) in
        let answered = subst (λ l. by.answers t took.stop.line l u) at.2.2 at.1 in
        served end.WriteFault (took.written ++ front) writes
        (took.stop, took.written, front, at.2.1, t, took.answered, answered, refl)

    finds_none_done : RespondsTo (Err (stop.NoMemory true)) held new then t u
        → AnswersReader by (end.NoMemory true) (Some all) after (Some out) then s u
    finds_none_done responds =
        let at = responds took.stop.line took.holds in
        served (end.NoMemory true) took.written (kept new then _ took.writes at.3)
        (took.stop, at.0, t, took.answered, at.1, at.2)

    finds_none_undone : RespondsTo (Err (stop.NoMemory false)) held new then t u
        → AnswersReader by (end.NoMemory false) (Some all) after (Some out) then s u
    finds_none_undone responds =
        let at = responds took.stop.line took.holds in
        let answered =
        subst (AreAnswered by s took.stop.done took.written) (sym at.1) took.answered in
        served (end.NoMemory false) took.written (kept new then _ took.writes at.0)
        (inr (inl (took.stop, answered, at.2)))

    -- a line was taken, and the session stops at it
    pub stops : (at : Stop) → RespondsTo (Err at) held new then t u
        → AnswersReader by (end_at at) (Some all) after (Some out) then s u
    stops stop.WriteFault responds = fails_writing responds
    stops (stop.NoMemory true) responds = finds_none_done responds
    stops (stop.NoMemory false) responds = finds_none_undone responds

    -- or nothing is unread after it
    pub answers_last : took.unread ≡ [] → RespondsTo (Ok tt) held new then t u
        → AnswersReader by end.EndOfInput (Some all) after (Some out) then s u
    answers_last none responds =
        let at = responds took.stop.line took.holds in
        let written = took.written ++ at.0 in
        let writes = appended new then _ _ took.writes at.2
        ∙ ap Some (append_assoc out took.written at.0) in
        let answered = answered_more by s t u took.stop.done took.stop.line took.written at.0
        took.answered at.1 in
        served end.EndOfInput written writes
        (none, subst (λ ls. AreAnswered by s ls written u) (sym took.stop.are) answered)
