-- Each look at the reader but the last takes a byte at least.
use Rattle.std.proofs.Common.{◌≡◌, ◌<◌, ◌≤◌, ℕ, List, ◌++◌, ◌+◌, ◌-◌, length, Option, None}
use Rattle.std.proofs.Common.{Some, refl, ap, ◌∙◌, arith, append-nil}
use Rattle.std.proofs.lemmas.List.{length-append}
use Rattle.std.specs.Prelude.{IfSome}
use Rattle.cam6_session.specs.Held.{Held}
use Rattle.cam6_session.specs.Reading.{Reads, TakesPart, ending}
use Rattle.cam6_session.specs.Spending.{TookAsMany}
use Rattle.cam6_session.specs.declared.lines.Line.TheVariants.{Ended}
use Rattle.cam6_session.specs.declared.lines.Part.{Part}
use Rattle.cam6_session.specs.declared.lines.Part.TheVariants.{More, Newline}
use Rattle.cam6_session.proofs.Parts.{HasRead}

module _ (before reads_left : ℕ) (some : 0 < reads_left) (held kept : Held) where
  took_one : (part : Part) (old now new : Option (List ℕ)) → HasRead old now held
      → (look : TakesPart part now new held kept) → 0 < length (look.part ++ ending part)
      → TookAsMany before reads_left old now → TookAsMany before (reads_left - 1) old new
  took_one part None now new read look one many = tt
  took_one part (Some all) None new read look one many = absurd read.taken
  took_one part (Some all) (Some remaining) None read look one many = tt
  took_one part (Some all) (Some remaining) (Some unread) read look one many =
      let is = ap length look.taken ∙ length-append (look.part ++ ending part) unread in omega arith

  pub took_more : (old now new : Option (List ℕ)) → HasRead old now held
      → TakesPart More now new held kept
      → TookAsMany before reads_left old now → TookAsMany before (reads_left - 1) old new
  took_more old now new read look =
      took_one More old now new read look (rw append-nil (look.more refl))

  pub took_newline : (old now new : Option (List ℕ)) → HasRead old now held
      → TakesPart Newline now new held kept
      → TookAsMany before reads_left old now → TookAsMany before (reads_left - 1) old new
  took_newline old now new read look =
      took_one Newline old now new read look (simp length-append (omega arith))

-- the same of a whole session so far, whose reader still tells its bytes if it told them at first
abbrev pub Spent : ℕ → ℕ → Option (List ℕ) → Option (List ℕ) → Type 0
Spent before after read remaining =
    IfSome read (λ all.
    (unread : List ℕ) × (remaining ≡ Some unread) × (before + length unread ≤ after + length all))

module _ (before between after : ℕ) where
  pub spent_more : (first now last : Option (List ℕ)) (held : Held)
      → Spent before between first now → Reads Ended now last held
      → TookAsMany between after now last → Spent before after first last
  spent_more None now last held spent reads took = tt
  spent_more (Some all) None last held spent reads took =
      let none = spent.1 in let never : ⊥ = cc in absurd never
  spent_more (Some all) (Some remaining) None held spent reads took =
      let none = reads.1 in let never : ⊥ = cc in absurd never
  spent_more (Some all) (Some remaining) (Some unread) held spent reads took =
      let is = spent.1 in
      let same : remaining ≡ spent.0 = cc in
      let still = spent.2 in
      (unread, refl, omega (arith, ap length same))
