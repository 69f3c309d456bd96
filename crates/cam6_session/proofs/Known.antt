-- The same of a reader and a writer of which it isn't known whether they tell their bytes.
use Rattle.std.proofs.Common.{ℕ, List, [], Option, None, Some, refl, sym, ap, inl, append-nil}
use Rattle.std.proofs.Common.{false, Ok, Err}
use Rattle.std.proofs.lemmas.List.Elements.{All-nil}
use Rattle.std.specs.Prelude.{IfSome}
use Rattle.cam6_session.specs.Answering.{Answering}
use Rattle.cam6_wire.specs.OneLine.{HasNoLf}
use Rattle.cam6_session.specs.Held.{Held}
use Rattle.cam6_session.specs.Reading.{Reads}
use Rattle.cam6_session.specs.Responding.{end_at}
use Rattle.cam6_session.specs.Sessions.{AnswersReader}
use Rattle.cam6_session.specs.declared.lines.Line.TheVariants as read
use Rattle.cam6_session.specs.declared.sessions.End.TheVariants as end
use Rattle.cam6_session.specs.declared.sessions.Stop.{Stop}
use Rattle.cam6_session.proofs.Runs.{HasRun, RespondsTo, ends_input, fails_reading, meets_bound}
use Rattle.cam6_session.proofs.Runs.{finds_no_room}
use Rattle.cam6_session.proofs.Runs.{takes_ended, takes_last, goes_on, stops, answers_last}

abbrev IfKnown : Option (List ℕ) → Option (List ℕ) → (List ℕ → List ℕ → Type 0) → Type 0
IfKnown read old P = IfSome read (λ all. IfSome old (λ out. P all out))

known : (P Q : List ℕ → List ℕ → Type 0) → ((all out : List ℕ) → P all out → Q all out)
    → (read old : Option (List ℕ)) → IfKnown read old P → IfKnown read old Q
known P Q then None old p = tt
known P Q then (Some all) None p = tt
known P Q then (Some all) (Some out) p = then all out p

module _ {S : Type 0} (by : Answering S) where
  -- a session so far, where the reader and the writer tell their bytes
  abbrev pub Runs : Option (List ℕ) → Option (List ℕ) → Option (List ℕ) → Option (List ℕ)
      → S → S → Type 0
  Runs read remaining old new s t =
      IfKnown read old (λ all out. HasRun by s all out remaining new t)

  pub runs_at_first : (read old : Option (List ℕ)) (s : S) → Runs read read old old s s
  runs_at_first None old s = tt
  runs_at_first (Some all) None s = tt
  runs_at_first (Some all) (Some out) s = record {
    done = [];
    unread = all;
    free = All-nil HasNoLf;
    taken = refl;
    leaves = refl;
    written = [];
    writes = ap Some (sym (append-nil out));
    answered = (refl, refl);
  }

  -- without a buffer no line is taken
  pub serves_none : (read old : Option (List ℕ)) (s : S)
      → AnswersReader by (end.NoMemory false) read read old old s s
  serves_none None old s = tt
  serves_none (Some all) None s = tt
  serves_none (Some all) (Some out) s =
      ([], all, [], refl, refl, ap Some (sym (append-nil out)), inl (refl, (refl, refl)))

  module _ (first now last old new : Option (List ℕ)) (s t : S) (held : Held)
      (runs : Runs first now old new s t) where
    abbrev Now : List ℕ → List ℕ → Type 0
    Now all out = HasRun by s all out now new t

    pub serves_all : Reads read.EndOfInput now last held
        → AnswersReader by end.EndOfInput first last old new s t
    serves_all reads =
        known Now (λ all out. AnswersReader by end.EndOfInput (Some all) last (Some out) new s t)
        (λ all out run. ends_input by s all out now last new t held run reads) first old runs

    pub serves_until_fault : Reads read.ReadFault now last held
        → AnswersReader by end.ReadFault first last old new s t
    serves_until_fault reads =
        known Now (λ all out. AnswersReader by end.ReadFault (Some all) last (Some out) new s t)
        (λ all out run. fails_reading by s all out now last new t held run reads) first old runs

    pub serves_until_bound : Reads read.TurnBound now last held
        → AnswersReader by end.TurnBound first last old new s t
    serves_until_bound reads =
        known Now (λ all out. AnswersReader by end.TurnBound (Some all) last (Some out) new s t)
        (λ all out run. meets_bound by s all out now last new t held run reads) first old runs

    pub serves_until_room : Reads read.NoMemory now last held
        → AnswersReader by (end.NoMemory false) first last old new s t
    serves_until_room reads =
        known Now
        (λ all out. AnswersReader by (end.NoMemory false) (Some all) last (Some out) new s t)
        (λ all out run. finds_no_room by s all out now last new t held run reads) first old runs

    module _ (then : Option (List ℕ)) (u : S) where
      pub runs_on : Reads read.Ended now last held → RespondsTo by (Ok tt) held new then t u
          → Runs first last old then s u
      runs_on reads responds =
          known Now (λ all out. HasRun by s all out last then u)
          (λ all out run. goes_on by s all out now last new t held run then u reads responds)
          first old runs

      pub serves_until : (at : Stop) → Reads read.Ended now last held
          → RespondsTo by (Err at) held new then t u
          → AnswersReader by (end_at at) first last old then s u
      serves_until at reads responds =
          known Now (λ all out. AnswersReader by (end_at at) (Some all) last (Some out) then s u)
          (λ all out run.
          stops by s all out last new then t u held
          (takes_ended by s all out now last new t held run reads) at responds) first old runs

      pub serves_last : Reads read.Last now last held → RespondsTo by (Ok tt) held new then t u
          → AnswersReader by end.EndOfInput first last old then s u
      serves_last reads responds =
          known Now (λ all out. AnswersReader by end.EndOfInput (Some all) last (Some out) then s u)
          (λ all out run.
          let took = takes_last by s all out now last new t held run reads in
          answers_last by s all out last new then t u held took.0 took.1 responds) first old runs

      pub serves_until_last : (at : Stop) → Reads read.Last now last held
          → RespondsTo by (Err at) held new then t u
          → AnswersReader by (end_at at) first last old then s u
      serves_until_last at reads responds =
          known Now (λ all out. AnswersReader by (end_at at) (Some all) last (Some out) then s u)
          (λ all out run.
          let took = takes_last by s all out now last new t held run reads in
          stops by s all out last new then t u held took.0 at responds) first old runs
