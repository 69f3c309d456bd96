-- Lines are answered one after another.
use Rattle.std.proofs.Common.{◌≡◌, ℕ, List, [], ◌∷◌, ◌++◌, Result, Ok, Err, refl, sym, ap, ◌∙◌}
use Rattle.std.proofs.Common.{subst, append_assoc, append-nil}
use Rattle.std.specs.Prelude.{map}
use Rattle.cam6_model.specs.Machine.{Machine}
use Rattle.cam6_model.specs.Alone.{replies, after_all}
use Rattle.cam6_commands.specs.declared.commands.Command.{Command}
use Rattle.cam6_wire.specs.declared.faults.LineFault.{LineFault}
use Rattle.cam6_wire.specs.Commands.{command}
use Rattle.cam6_session.specs.Answering.{Answering, AreAnswered}
use Rattle.cam6_session.specs.Answers.{text_to, after_line, by_machine, commands, texts_of}
use Rattle.cam6_session.specs.Laws.{AnswersAreReplies, AnswersGoOn}

module _ {S : Type 0} (by : Answering S) where
  -- lines are answered as those before them left what is asked
  pub answered_both : (s u t : S) (done later : List (List ℕ)) (before after : List ℕ)
      → AreAnswered by s done before u → AreAnswered by u later after t
      → AreAnswered by s (done ++ later) (before ++ after) t
  answered_both s u t [] later before after first second =
      subst (λ x. AreAnswered by x later (before ++ after) t) first.1
      (subst (λ l. AreAnswered by u later (l ++ after) t) (sym first.0) second)
  answered_both s u t (line ∷ done) later before after first second = (
    first.0,
    first.1 ++ after,
    first.2,
    first.3,
    ap (λ l. l ++ after) first.4 ∙ append_assoc first.0 first.1 after,
    answered_both first.2 u t done later first.1 after first.5 second,
  )

  -- and so is one more line
  pub answered_more : (s u t : S) (done : List (List ℕ)) (line before text : List ℕ)
      → AreAnswered by s done before u → by.answers u line text t
      → AreAnswered by s (done ++ line ∷ []) (before ++ text) t
  answered_more s u t done line before text first answered =
      answered_both s u t done (line ∷ []) before text first
      (text, [], t, answered, sym (append-nil text), (refl, refl))

  -- what answers lines answers the first of them, and then the others
  answered_parts : (s t : S) (done later : List (List ℕ)) (written : List ℕ)
      → AreAnswered by s (done ++ later) written t
      → (before after : List ℕ) × (u : S) × AreAnswered by s done before u
      × AreAnswered by u later after t × (written ≡ before ++ after)
  answered_parts s t [] later written all = ([], written, s, (refl, refl), all, refl)
  answered_parts s t (line ∷ done) later written all =
      let rest = answered_parts all.2 t done later all.1 all.5 in (
        all.0 ++ rest.0,
        rest.1,
        rest.2,
        (all.0, rest.0, all.2, all.3, refl, rest.3),
        rest.4,
        all.4 ∙ ap (λ l. all.0 ++ l) rest.5 ∙ sym (append_assoc all.0 rest.0 rest.1),
      )

  pub answers_go_on : AnswersGoOn by
  answers_go_on s t done later written = (
    answered_parts s t done later written,
    λ parts.
        subst (λ l. AreAnswered by s (done ++ later) l t) (sym parts.5)
        (answered_both s parts.2 t done later parts.0 parts.1 parts.3 parts.4),
  )

-- the texts for what lines say, and the machine after them
abbrev texts_from : Machine → List (Result Command LineFault) → List ℕ
texts_from m said = texts_of said (replies m (commands said))

abbrev machine_from : Machine → List (Result Command LineFault) → Machine
machine_from m said = after_all m (commands said)

-- what was said is answered, and then the rest as the replies go on
texts_go_on : (m : Machine) (said : Result Command LineFault)
    (later : List (Result Command LineFault))
    → texts_from m (said ∷ later)
    ≡ (text_to m said ++ 10 ∷ []) ++ texts_from (after_line m said) later
texts_go_on m (Ok c) later = sym (append_assoc (text_to m (Ok c)) (10 ∷ []) _)
texts_go_on m (Err fault) later = sym (append_assoc (text_to m (Err fault)) (10 ∷ []) _)

machine_goes_on : (m : Machine) (said : Result Command LineFault)
    (later : List (Result Command LineFault))
    → machine_from m (said ∷ later) ≡ machine_from (after_line m said) later
machine_goes_on m (Ok c) later = refl
machine_goes_on m (Err fault) later = refl

-- the machine answers lines in no other way
pub only_replies : (m n : Machine) (taken : List (List ℕ)) (written : List ℕ)
    → AreAnswered by_machine m taken written n
    → (written ≡ texts_from m (map command taken)) × (n ≡ machine_from m (map command taken))
only_replies m n [] written all = all
only_replies m n (line ∷ later) written all =
    let said = map command later in
    let rest = only_replies all.2 n later all.1 all.5 in (
      all.4 ∙ ap (λ l. l ++ all.1) all.3.0
          ∙ ap (λ l. (text_to m (command line) ++ 10 ∷ []) ++ l)
          (rest.0 ∙ ap (λ x. texts_from x said) all.3.1)
          ∙ sym (texts_go_on m (command line) said),
      rest.1 ∙ ap (λ x. machine_from x said) all.3.1 ∙ sym (machine_goes_on m (command line) said),
    )

-- and it answers them in this one
replies_answer : (m : Machine) (taken : List (List ℕ))
    → AreAnswered by_machine m taken (texts_from m (map command taken))
    (machine_from m (map command taken))
replies_answer m [] = (refl, refl)
replies_answer m (line ∷ later) =
    let said = map command later in
    let then = after_line m (command line) in (
      text_to m (command line) ++ 10 ∷ [],
      texts_from then said,
      then,
      (refl, refl),
      texts_go_on m (command line) said,
      subst (AreAnswered by_machine then later (texts_from then said))
          (sym (machine_goes_on m (command line) said))
          (replies_answer then later),
    )

pub answers_are_replies : AnswersAreReplies
answers_are_replies m n taken written = (
  only_replies m n taken written,
  λ is.
      subst (λ l. AreAnswered by_machine m taken l n) (sym is.0)
      (subst (AreAnswered by_machine m taken (texts_from m (map command taken))) (sym is.1)
      (replies_answer m taken)),
)
