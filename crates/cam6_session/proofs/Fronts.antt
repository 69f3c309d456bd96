-- Whatever ends a session, what it wrote is a front of the answers to all lines.
use Rattle.std.proofs.Common.{◌≡◌, ℕ, List, [], ◌∷◌, ◌++◌, Option, None, Some, refl, sym, ap, ◌∙◌}
use Rattle.std.proofs.Common.{subst, inl, inr, append-nil, append_assoc, true, false}
use Rattle.cam6_planes.specs.declared.sides.Side.{Side}
use Rattle.cam6_model.specs.Machine.{Machine, blank}
use Rattle.cam6_wire.specs.Commands.{command}
use Rattle.cam6_session.specs.Lines.{lines, ended_lines}
use Rattle.cam6_session.specs.Answering.{Answering, AreAnswered}
use Rattle.cam6_session.specs.Answers.{text_to, after_line, by_machine}
use Rattle.cam6_session.proofs.Splitting.{ended_lines_are_first}
use Rattle.cam6_session.proofs.Answering.{answered_both, answered_more, only_replies}
use Rattle.cam6_session.specs.Sessions.{StopsAt, AnswersUntil, AnswersReader}
use Rattle.cam6_session.specs.Headline.{WritesRepliesAlone}
use Rattle.cam6_session.specs.declared.sessions.End.{End}
use Rattle.cam6_session.specs.declared.sessions.End.TheVariants as end

module _ {S : Type 0} (by : Answering S) where
  -- the first lines were answered, and a front of their answers was written; all lines and all of it
  -- where the input's end was met
  pub record HasAnswered (e : End) (s : S) (all written : List ℕ) (t : S) : Type 0 where
    pub done : List (List ℕ)
    pub later : List (List ℕ)
    pub first : lines all ≡ done ++ later
    pub missing : List ℕ
    pub answered : AreAnswered by s done (written ++ missing) t
    pub whole : e ≡ end.EndOfInput → (later ≡ []) × (missing ≡ [])

  -- all of their answers was written
  wrote_all : (e : End) (s t : S) (all written : List ℕ) (done later : List (List ℕ))
      → lines all ≡ done ++ later → (e ≡ end.EndOfInput → later ≡ [])
      → AreAnswered by s done written t → HasAnswered e s all written t
  wrote_all e s t all written done later first whole answered = record {
    done = done;
    later = later;
    first = first;
    missing = [];
    answered = subst (λ l. AreAnswered by s done l t) (sym (append-nil written)) answered;
    whole = λ same. (whole same, refl);
  }

  module _ (s t u : S) (taken unread : List ℕ) (stop : StopsAt taken unread) where
    -- the lines before the one at which it stopped were answered
    answered_before : (e : End) (written : List ℕ) → (e ≡ end.EndOfInput → ⊥)
        → AreAnswered by s stop.done written t → HasAnswered e s (taken ++ unread) written t
    answered_before e written other =
        wrote_all e s t (taken ++ unread) written stop.done (stop.line ∷ lines unread)
        (stop.whole ∙ ap (λ ls. ls ++ lines unread) stop.are
        ∙ append_assoc stop.done (stop.line ∷ []) (lines unread))
        (λ same. absurd (other same))

    -- and so was that one, but not all of its answer was written
    answered_within : (e : End) (before front rest : List ℕ) → (e ≡ end.EndOfInput → ⊥)
        → AreAnswered by s stop.done before u → by.answers u stop.line (front ++ rest) t
        → HasAnswered e s (taken ++ unread) (before ++ front) t
    answered_within e before front rest other answered stopped = record {
      done = stop.done ++ stop.line ∷ [];
      later = lines unread;
      first = stop.whole ∙ ap (λ ls. ls ++ lines unread) stop.are;
      missing = rest;
      answered =
          subst (λ l. AreAnswered by s (stop.done ++ stop.line ∷ []) l t)
          (sym (append_assoc before front rest))
          (answered_more by s u t stop.done stop.line before (front ++ rest) answered stopped);
      whole = λ same. absurd (other same);
    }

  -- whatever ends a session
  pub has_answered : (e : End) (s t : S) (taken unread written : List ℕ)
      → AnswersUntil by e s taken unread written t → HasAnswered e s (taken ++ unread) written t
  has_answered end.EndOfInput s t taken unread written serves =
      let are : lines (taken ++ unread) ≡ lines taken ++ [] =
      ap (λ l. lines (taken ++ l)) serves.0 ∙ ap lines (append-nil taken)
      ∙ sym (append-nil (lines taken)) in
      wrote_all end.EndOfInput s t (taken ++ unread) written (lines taken) [] are (λ same. refl)
      serves.1
  has_answered end.ReadFault s t taken unread written serves =
      let first = ended_lines_are_first taken unread in
      wrote_all end.ReadFault s t (taken ++ unread) written _ first.0 first.1
      (λ same. let never : ⊥ = cc in absurd never) serves
  has_answered end.TurnBound s t taken unread written serves =
      let first = ended_lines_are_first taken unread in
      wrote_all end.TurnBound s t (taken ++ unread) written _ first.0 first.1
      (λ same. let never : ⊥ = cc in absurd never) serves
  has_answered end.WriteFault s t taken unread written serves =
      subst (λ l. HasAnswered end.WriteFault s (taken ++ unread) l t) (sym serves.7)
      (answered_within s t serves.4 taken unread serves.0 end.WriteFault serves.1 serves.2 serves.3
      (λ same. cc) serves.5 serves.6)
  has_answered (end.NoMemory true) s t taken unread written serves =
      subst (λ l. HasAnswered (end.NoMemory true) s (taken ++ unread) l t) (append-nil written)
      (answered_within s t serves.2 taken unread serves.0 (end.NoMemory true) written [] serves.1
      (λ same. cc) serves.3 serves.4)
  has_answered (end.NoMemory false) s t taken unread written (inl none) =
      wrote_all (end.NoMemory false) s t (taken ++ unread) written []
      (lines (taken ++ unread)) refl (λ same. let never : ⊥ = cc in absurd never) none.1
  has_answered (end.NoMemory false) s t taken unread written (inr (inl stopped)) =
      answered_before s t t taken unread stopped.0 (end.NoMemory false) written (λ same. cc)
      stopped.1
  has_answered (end.NoMemory false) s t taken unread written (inr (inr stopped)) =
      wrote_all (end.NoMemory false) s t (taken ++ unread) written (ended_lines taken) _
      stopped.0.are (λ same. let never : ⊥ = cc in absurd never) stopped.1

-- whatever line comes, it has an answer
abbrev AnswersAll : {S : Type 0} → Answering S → Type 0
AnswersAll {S} by = (s : S) (line : List ℕ) → (text : List ℕ) × (t : S) × by.answers s line text t

module _ {S : Type 0} (by : Answering S) (answer_to : AnswersAll by) where
  -- and so have lines, one after another
  answers_to : (s : S) (later : List (List ℕ))
      → (text : List ℕ) × (t : S) × AreAnswered by s later text t
  answers_to s [] = ([], s, (refl, refl))
  answers_to s (line ∷ later) =
      let first = answer_to s line in
      let rest = answers_to first.1 later in
      (first.0 ++ rest.0, rest.1, (first.0, rest.0, first.1, first.2, refl, rest.2))

  -- of answers to all lines a front was written, or all of them
  record IsFront (e : End) (s : S) (all written : List ℕ) : Type 0 where
    pub missing : List ℕ
    pub last : S
    pub is : AreAnswered by s (lines all) (written ++ missing) last
    pub whole : e ≡ end.EndOfInput → missing ≡ []

  is_front : (e : End) (s t : S) (all written : List ℕ) → HasAnswered by e s all written t
      → IsFront e s all written
  is_front e s t all written has =
      let rest = answers_to t has.later in
      let both = answered_both by s t rest.1 has.done has.later (written ++ has.missing) rest.0
      has.answered rest.2 in
      record {
        missing = has.missing ++ rest.0;
        last = rest.1;
        is = subst (λ ls. AreAnswered by s ls (written ++ (has.missing ++ rest.0)) rest.1)
            (sym has.first)
            (subst (λ l. AreAnswered by s (has.done ++ has.later) l rest.1)
            (append_assoc written has.missing rest.0) both);
        whole = λ same.
            ap (λ l. l ++ rest.0) (has.whole same).1
            ∙ (subst (λ ls. AreAnswered by t ls rest.0 rest.1) (has.whole same).0 rest.2).0;
      }

-- so it is where the machine answers
machine_answers : AnswersAll by_machine
machine_answers m line =
    (text_to m (command line) ++ 10 ∷ [], after_line m (command line), (refl, refl))

writes_from_blank : (limit : Side) (e : End) (read remaining old new : Option (List ℕ))
    (n : Machine) → AnswersReader by_machine e read remaining old new (blank limit) n →
    WritesRepliesAlone limit e read old new
writes_from_blank limit e None remaining old new n served = tt
writes_from_blank limit e (Some all) remaining None new n served = tt
writes_from_blank limit e (Some all) remaining (Some out) new n served =
    let m = blank limit in
    let written = served.2 in
    let has = has_answered by_machine e m n served.0 served.1 written served.6 in
    let front = is_front by_machine machine_answers e m n _ written has in
    let answered =
    subst (λ l. AreAnswered by_machine m (lines l) (written ++ front.missing) front.last)
    (sym served.3) front.is in
    let are = (only_replies m front.last (lines all) (written ++ front.missing) answered).0 in
    (written, front.missing, sym are, served.5, front.whole)

pub writes_alone : (limit : Side) (e : End) (read remaining old new : Option (List ℕ))
    (m n : Machine) → m ≡ blank limit → AnswersReader by_machine e read remaining old new m n →
    WritesRepliesAlone limit e read old new
writes_alone limit e read remaining old new m n is served =
    writes_from_blank limit e read remaining old new n
    (subst (λ x. AnswersReader by_machine e read remaining old new x n) is served)
