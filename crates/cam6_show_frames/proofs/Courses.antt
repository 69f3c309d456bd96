-- What some of the lines show, and what the others do.
use Rattle.std.proofs.Common.{◌≡◌, ◌+◌, ◌∙◌, ◌++◌, ℕ, List, [], ◌∷◌, flat_map, Option, Some, None, Ok, Err}
use Rattle.std.proofs.Common.{refl, sym, ap, option_and_then, append_assoc, append-nil}
use Rattle.std.proofs.Common.{subst}
use Rattle.std.proofs.KnownBytes.{Appends-nil, Keeps-refl}
use Rattle.std.proofs.lemmas.Grind.{flat_map-append}
use Rattle.std.specs.Option.{option_to_list}
use Rattle.std.specs.Io.KnownBytes.{Keeps, Appends}
use Rattle.cam6_show_frames.specs.declared.replies.ReplyCells.{ReplyCells}
use Rattle.cam6_show_frames.specs.Lines.{lines}
use Rattle.cam6_show_frames.specs.Replies.{said}
use Rattle.cam6_show_frames.specs.Run.{Taken, taken}
use Rattle.cam6_show_frames.specs.Course.{Course, Verdict, whole, no_reply, breaks_off, over, after_frame}
use Rattle.cam6_show_frames.specs.Course.{at_end, on_taken, on_said, course}
use Rattle.cam6_writing.specs.Front.{WritesSome}
use Rattle.cam6_show_frames.specs.Reading.{ReadsOf, Reads}
use Rattle.cam6_show_frames.specs.Showing.{shown_in, EndsSo, ShowsFrames}
use Rattle.cam6_show_frames.specs.Taking.{step, frames_of, BreaksAt, TakesLine, end_at, end_after}
use Rattle.cam6_show_frames.specs.declared.lines.Reading.{Reading}
use Rattle.cam6_show_frames.specs.declared.showing.End.{End}
use Rattle.cam6_show_frames.specs.declared.showing.Stop.{Stop}
use Rattle.cam6_show_frames.specs.declared.showing.Stop.TheVariants.{NoReply, BreaksOff, WriteFault, NoMemory}

-- a frame and what comes later
before_later : (frame : Option (List (List ℕ))) (later : Course)
    → ((after_frame frame later).frames ≡ option_to_list frame ++ later.frames)
    × ((after_frame frame later).verdict ≡ later.verdict)
before_later None later = (refl, refl)
before_later (Some frame) later = (refl, refl)

module _ (n : ℕ) (rows : List (List ℕ)) (later : ℕ → List (List ℕ) → Course) where
  -- a line that is taken
  on_step : (s : Option ReplyCells) (t : Taken) → option_and_then (taken rows) s ≡ Some t
      → on_said n rows s later ≡ after_frame t.frame (later n t.rows)
  on_step None t is = let never : ⊥ = cc in absurd never
  on_step (Some s) t is = ap (λ o. on_taken n o later) is

  -- the frames of a line come first
  frames_first : (s : Option ReplyCells)
      → (more : List (List (List ℕ)))
      × ((on_said n rows s later).frames ≡ frames_of (option_and_then (taken rows) s) ++ more)
  frames_first None = ([], refl)
  frames_first (Some s) = of_taken (taken rows s)
    where
      of_taken : (o : Option Taken)
          → (more : List (List (List ℕ))) × ((on_taken n o later).frames ≡ frames_of o ++ more)
      of_taken None = ([], refl)
      of_taken (Some t) = ((later n t.rows).frames, (before_later t.frame (later n t.rows)).0)

-- known bytes and those that were appended to them
appended : (old new : Option (List ℕ)) (known bytes : List ℕ) → old ≡ Some known
    → Appends old new bytes → new ≡ Some (known ++ bytes)
appended None new known bytes is appends = let never : ⊥ = cc in absurd never
appended (Some xs) None known bytes is appends = absurd appends
appended (Some xs) (Some ys) known bytes is appends =
    let same : xs ≡ known = cc in ap Some (appends ∙ ap (λ l. l ++ bytes) same)

kept : (old new : Option (List ℕ)) (known : List ℕ) → old ≡ Some known → Keeps old new
    → new ≡ Some known
kept None new known is keeps = let never : ⊥ = cc in absurd never
kept (Some xs) None known is keeps = absurd keeps
kept (Some xs) (Some ys) known is keeps = let same : xs ≡ known = cc in ap Some (keeps ∙ same)

regroup : (a b c d : List ℕ) → a ++ ((b ++ c) ++ d) ≡ (a ++ b) ++ (c ++ d)
regroup a b c d = ap (λ l. a ++ l) (append_assoc b c d) ∙ sym (append_assoc a b (c ++ d))

-- what is known of a reader that tells its bytes
pub of_reader : (reading : Reading) (old new : Option (List ℕ)) (line rest : List ℕ)
    → old ≡ Some rest → Reads reading old new line → ReadsOf reading rest new line
of_reader reading old new line rest is reads =
    let P : Option (List ℕ) → Type 0 = λ o. Reads reading o new line in subst P is reads

module _ (line later : List ℕ) (rest : List ℕ) (n : ℕ) (rows : List (List ℕ))
    (first : lines rest ≡ line ∷ lines later) where
  by_line : course (lines rest) n rows ≡ on_said (n + 1) rows (said line) (course (lines later))
  by_line = ap (λ l. course l n rows) first

  no_reply_here : said line ≡ None → course (lines rest) n rows ≡ over (no_reply (n + 1))
  no_reply_here is =
      by_line ∙ ap (λ s. on_said (n + 1) rows s (course (lines later))) is

  breaks_here : BreaksAt line rows → course (lines rest) n rows ≡ over (breaks_off (n + 1))
  breaks_here breaks =
      by_line
      ∙ ap (λ s. on_said (n + 1) rows s (course (lines later))) breaks.1
      ∙ ap (λ t. on_taken (n + 1) t (course (lines later))) breaks.2

  taken_here : (t : Taken) → step line rows ≡ Some t
      → course (lines rest) n rows ≡ after_frame t.frame (course (lines later) (n + 1) t.rows)
  taken_here t is = by_line ∙ on_step (n + 1) rows (course (lines later)) (said line) t is

module _ (picture : List (List ℕ) → List ℕ) (all out : List ℕ) where
  -- so many lines were taken, the pictures of the frames that they show were written, and the
  -- others go on with these rows
  pub record HasShown (n : ℕ) (rows : List (List ℕ)) (unread now : Option (List ℕ)) : Type 0 where
    pub shown : List (List (List ℕ))
    pub rest : List ℕ
    pub left : unread ≡ Some rest
    pub written : now ≡ Some (out ++ flat_map picture shown)
    pub frames : (shown_in all).frames ≡ shown ++ (course (lines rest) n rows).frames
    pub verdict : (shown_in all).verdict ≡ (course (lines rest) n rows).verdict

  pub nothing_shown : HasShown 0 [] (Some all) (Some out)
  nothing_shown = record {
    shown = [];
    rest = all;
    left = refl;
    written = ap Some (sym (append-nil out));
    frames = refl;
    verdict = refl;
  }

  abbrev pub Shows : End → Option (List ℕ) → Type 0
  Shows end new = ShowsFrames picture end (Some all) (Some out) new

  module _ (n : ℕ) (rows : List (List ℕ)) (unread now : Option (List ℕ))
      (h : HasShown n rows unread now) where
    -- a front of a line's frames was written, and then no more
    falls_short : (end : End) → ((v : Verdict) (missing : List ℕ) → EndsSo end v missing)
        → (fs more : List (List (List ℕ))) (new : Option (List ℕ))
        → (course (lines h.rest) n rows).frames ≡ fs ++ more
        → WritesSome now new (flat_map picture fs) → Shows end new
    falls_short end ends fs more new splits writes =
        let front = flat_map picture h.shown in
        let all_bytes : flat_map picture (shown_in all).frames
        ≡ front ++ ((writes.0 ++ writes.1) ++ flat_map picture more) =
        ap (flat_map picture) (h.frames ∙ ap (λ l. h.shown ++ l) splits)
        ∙ flat_map-append picture h.shown (fs ++ more)
        ∙ ap (λ l. front ++ l) (flat_map-append picture fs more)
        ∙ ap (λ l. front ++ (l ++ flat_map picture more)) writes.2 in (
          front ++ writes.0,
          writes.1 ++ flat_map picture more,
          all_bytes ∙ regroup front writes.0 writes.1 (flat_map picture more),
          appended now new (out ++ front) writes.0 h.written writes.3
              ∙ ap Some (append_assoc out front writes.0),
          ends (shown_in all).verdict (writes.1 ++ flat_map picture more),
        )

    -- nothing more was written
    pub cut_off : (end : End) → ((v : Verdict) (missing : List ℕ) → EndsSo end v missing)
        → Shows end now
    cut_off end ends =
        falls_short end ends [] (course (lines h.rest) n rows).frames now refl
        ([], [], refl, Appends-nil now)

    -- no frame comes any more
    stops : (end : End) (v : Verdict) (new : Option (List ℕ))
        → course (lines h.rest) n rows ≡ over v → EndsSo end v [] → Keeps now new → Shows end new
    stops end v new is ends keeps =
        let P : Verdict → Type 0 = λ w. EndsSo end w [] in (
          flat_map picture h.shown,
          [],
          ap (flat_map picture) (h.frames ∙ ap (λ c. h.shown ++ c.frames) is)
              ∙ ap (flat_map picture) (append-nil h.shown)
              ∙ sym (append-nil (flat_map picture h.shown)),
          kept now new (out ++ flat_map picture h.shown) h.written keeps,
          subst P (sym (h.verdict ∙ ap (λ c. c.verdict) is)) ends,
        )

    -- no line is left
    pub ends_input : h.rest ≡ [] → Shows (end_after n rows) now
    ends_input none = by_rows rows (ap (λ l. course (lines l) n rows) none)
      where
        by_rows : (r : List (List ℕ)) → course (lines h.rest) n rows ≡ at_end n r
            → Shows (end_after n r) now
        by_rows [] is = stops (end_after n []) whole now is (refl, refl) (Keeps-refl now)
        by_rows (row ∷ r) is =
            stops (end_after n (row ∷ r)) (breaks_off n) now is (refl, refl) (Keeps-refl now)

    module _ (line later : List ℕ) (first : lines h.rest ≡ line ∷ lines later) where
      -- a line was taken
      pub goes_on : (unread' now' : Option (List ℕ)) (rows' : List (List ℕ))
          → unread' ≡ Some later
          → TakesLine picture line (Ok tt) (record { old = rows; new = rows'; before = now; after = now' })
          → HasShown (n + 1) rows' unread' now'
      goes_on unread' now' rows' left takes =
          let frame = takes.0 in
          let t : Taken = record { rows = rows'; frame = frame } in
          let on = taken_here line later h.rest n rows first t takes.1 in
          let others = course (lines later) (n + 1) rows' in
          record {
            shown = h.shown ++ option_to_list frame;
            rest = later;
            left = left;
            written =
                appended now now' (out ++ flat_map picture h.shown)
                (flat_map picture (option_to_list frame)) h.written takes.2
                ∙ ap Some
                (append_assoc out (flat_map picture h.shown) (flat_map picture (option_to_list frame))
                ∙ ap (λ l. out ++ l) (sym (flat_map-append picture h.shown (option_to_list frame))));
            frames =
                h.frames ∙ ap (λ c. h.shown ++ c.frames) on
                ∙ ap (λ l. h.shown ++ l) (before_later frame others).0
                ∙ sym (append_assoc h.shown (option_to_list frame) others.frames);
            verdict = h.verdict ∙ ap (λ c. c.verdict) on ∙ (before_later frame others).1;
          }

      -- or it was not
      pub not_taken : (stop : Stop) (now' : Option (List ℕ)) (rows' : List (List ℕ))
          → TakesLine picture line (Err stop)
          (record { old = rows; new = rows'; before = now; after = now' })
          → Shows (end_at (n + 1) stop) now'
      not_taken NoReply now' rows' takes =
          stops (end_at (n + 1) NoReply) (no_reply (n + 1)) now'
          (no_reply_here line later h.rest n rows first takes.0) (refl, refl) takes.1
      not_taken BreaksOff now' rows' takes =
          stops (end_at (n + 1) BreaksOff) (breaks_off (n + 1)) now'
          (breaks_here line later h.rest n rows first takes.0) (refl, refl) takes.1
      not_taken WriteFault now' rows' takes =
          let split = frames_first (n + 1) rows (course (lines later)) (said line) in
          falls_short (end_at (n + 1) WriteFault) (λ v missing. tt) (frames_of (step line rows))
          split.0 now'
          (ap (λ c. c.frames) (by_line line later h.rest n rows first) ∙ split.1) takes
      not_taken NoMemory now' rows' takes =
          let split = frames_first (n + 1) rows (course (lines later)) (said line) in
          falls_short (end_at (n + 1) NoMemory) (λ v missing. tt) (frames_of (step line rows))
          split.0 now'
          (ap (λ c. c.frames) (by_line line later h.rest n rows first) ∙ split.1) takes
