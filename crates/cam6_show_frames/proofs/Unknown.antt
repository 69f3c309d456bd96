-- The same of a reader and a screen of which it isn't known whether they tell their bytes.
use Rattle.std.proofs.Common.{◌≡◌, ◌+◌, ℕ, List, [], Option, None, Some, Result, Ok, Err, sym, subst}
use Rattle.std.specs.Prelude.{IfSome}
use Rattle.cam6_show_frames.specs.Course.{Verdict}
use Rattle.cam6_show_frames.specs.Reading.{Reads}
use Rattle.cam6_show_frames.specs.Showing.{EndsSo, ShowsFrames}
use Rattle.cam6_show_frames.specs.Taking.{TakesLine, end_at, end_after}
use Rattle.cam6_show_frames.specs.declared.lines.Reading.TheVariants.{Line, EndOfInput}
use Rattle.cam6_show_frames.specs.declared.showing.End.{End}
use Rattle.cam6_show_frames.specs.declared.showing.Stop.{Stop}
use Rattle.cam6_show_frames.proofs.Courses.{HasShown, nothing_shown, of_reader, cut_off, ends_input}
use Rattle.cam6_show_frames.proofs.Courses.{goes_on, not_taken}

abbrev IfKnown : Option (List ℕ) → Option (List ℕ) → (List ℕ → List ℕ → Type 0) → Type 0
IfKnown read old P = IfSome read (λ all. IfSome old (λ out. P all out))

known : (P Q : List ℕ → List ℕ → Type 0) → ((all out : List ℕ) → P all out → Q all out)
    → (read old : Option (List ℕ)) → IfKnown read old P → IfKnown read old Q
known P Q then None old p = tt
known P Q then (Some all) None p = tt
known P Q then (Some all) (Some out) p = then all out p

module _ (picture : List (List ℕ) → List ℕ) (first old : Option (List ℕ)) where
  -- what has been shown so far, where the reader and the screen tell their bytes
  abbrev pub Shown : ℕ → List (List ℕ) → Option (List ℕ) → Option (List ℕ) → Type 0
  Shown n rows unread now =
      IfKnown first old (λ all out. HasShown picture all out n rows unread now)

module _ (picture : List (List ℕ) → List ℕ) where
  pub shown_at_first : (first old : Option (List ℕ)) (rows : List (List ℕ)) → rows ≡ []
      → Shown picture first old 0 rows first old
  shown_at_first None old rows none = tt
  shown_at_first (Some all) None rows none = tt
  shown_at_first (Some all) (Some out) rows none =
      let P : List (List ℕ) → Type 0 = λ r. HasShown picture all out 0 r (Some all) (Some out) in
      subst P (sym none) (nothing_shown picture all out)

  module _ (first old unread now : Option (List ℕ)) (n : ℕ) (rows : List (List ℕ))
      (shown : Shown picture first old n rows unread now) where
    abbrev Now : List ℕ → List ℕ → Type 0
    Now all out = HasShown picture all out n rows unread now

    abbrev Ends : End → Option (List ℕ) → Type 0
    Ends end new = ShowsFrames picture end first old new

    -- nothing more is shown
    pub is_cut_off : (end : End) → ((v : Verdict) (missing : List ℕ) → EndsSo end v missing)
        → Ends end now
    is_cut_off end ends =
        known Now (λ all out. ShowsFrames picture end (Some all) (Some out) now)
        (λ all out h. cut_off picture all out n rows unread now h end ends) first old shown

    -- no line is left
    pub is_at_end : (end : End) (unread' : Option (List ℕ)) (line : List ℕ) → end ≡ end_after n rows
        → Reads EndOfInput unread unread' line → Ends end now
    is_at_end end unread' line is reads =
        let P : End → Type 0 = λ e. Ends e now in
        subst P (sym is)
        (known Now (λ all out. ShowsFrames picture (end_after n rows) (Some all) (Some out) now)
        (λ all out h.
        ends_input picture all out n rows unread now h
        (of_reader EndOfInput unread unread' line h.rest h.left reads)) first old shown)

    module _ (line seen : List ℕ) (is_seen : seen ≡ line) (unread' : Option (List ℕ))
        (reads : Reads Line unread unread' line) (picture' : List (List ℕ) → List ℕ)
        (same : picture' ≡ picture) (now' : Option (List ℕ)) (rows' : List (List ℕ)) where
      abbrev Takes : (List (List ℕ) → List ℕ) → List ℕ → Result (Unit {0}) Stop → Type 0
      Takes by text result =
          TakesLine by text result
          (record { old = rows; new = rows'; before = now; after = now' })

      by_line : (result : Result (Unit {0}) Stop) → Takes picture' seen result
          → Takes picture line result
      by_line result takes =
          let P : (List (List ℕ) → List ℕ) → Type 0 = λ by. Takes by line result in
          let Q : List ℕ → Type 0 = λ text. Takes picture' text result in
          subst P same (subst Q is_seen takes)

      -- a line was taken
      pub shown_on : Takes picture' seen (Ok tt) → Shown picture first old (n + 1) rows' unread' now'
      shown_on takes =
          known Now (λ all out. HasShown picture all out (n + 1) rows' unread' now')
          (λ all out h.
          let read = of_reader Line unread unread' line h.rest h.left reads in
          goes_on picture all out n rows unread now h line read.0 read.2 unread' now' rows' read.1
          (by_line (Ok tt) takes)) first old shown

      -- or it was not
      pub is_not_taken : (end : End) (stop : Stop) → end ≡ end_at (n + 1) stop
          → Takes picture' seen (Err stop) → Ends end now'
      is_not_taken end stop is takes =
          let P : End → Type 0 = λ e. Ends e now' in
          subst P (sym is)
          (known Now (λ all out. ShowsFrames picture (end_at (n + 1) stop) (Some all) (Some out) now')
          (λ all out h.
          let read = of_reader Line unread unread' line h.rest h.left reads in
          not_taken picture all out n rows unread now h line read.0 read.2 stop now' rows'
          (by_line (Err stop) takes)) first old shown)
