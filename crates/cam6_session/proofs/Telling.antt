-- A line is answered by what was told, or serving stops where the writer failed.
use Rattle.std.proofs.Common.{◌≡◌, ℕ, List, [], ◌∷◌, ◌++◌, Option, Result, Ok, Err, sym, ap}
use Rattle.std.proofs.Common.{◌∙◌, ◌≢◌, refl, subst, true, false, is_ok}
use Rattle.cam6_model.specs.Machine.{Machine}
use Rattle.cam6_model.specs.Alone.{reply, after}
use Rattle.cam6_commands.specs.declared.commands.Command.{Command}
use Rattle.cam6_commands.specs.declared.events.Event.{Event}
use Rattle.cam6_commands.specs.declared.outcomes.Outcome.{Outcome}
use Rattle.cam6_core.specs.State.{State}
use Rattle.cam6_core.specs.Goes.{Goes, LoadsTables, Spares}
use Rattle.cam6_core.specs.Runs.{accepted}
use Rattle.cam6_wire.specs.declared.faults.LineFault.{LineFault}
use Rattle.cam6_wire.specs.declared.faults.LineFault.TheVariants as fault
use Rattle.cam6_wire.specs.Commands.{command, IsFaultOf}
use Rattle.cam6_wire.specs.Events.{event}
use Rattle.cam6_wire.specs.Outcomes.{outcome_bytes}
use Rattle.cam6_wire.specs.Replies.{reply_bytes, fault_bytes}
use Rattle.cam6_session.specs.Answering.{Answering}
use Rattle.cam6_session.specs.Answers.{text_to, after_line, by_machine}
use Rattle.cam6_session.specs.Events.{IsDone, IsTold, by_core}
use Rattle.cam6_session.specs.Responding.{Responds, TakesMemory, Tells, TellsText}
use Rattle.cam6_session.specs.Responding.{TellsFault}
use Rattle.cam6_session.specs.declared.sessions.Stop.{Stop}
use Rattle.cam6_session.specs.declared.sessions.Stop.TheVariants.{WriteFault, NoMemory}

-- a fault that was answered is what the line says
is_said : {A : Type 0} (said : Result A LineFault) (f : LineFault) → f ≢ fault.NoMemory
    → IsFaultOf f said → said ≡ Err f
is_said said fault.NoMemory other is = absurd (other refl)
is_said said fault.TooLong other is = is
is_said said fault.NoJson other is = is
is_said said fault.NoCommand other is = is
is_said said fault.OtherSpelling other is = is

module _ {S : Type 0} (by : Answering S) (line : List ℕ) (old new : Option (List ℕ)) where
  -- a text that is the line's answer was told
  told : (result : Result (Unit {0}) Stop) (text : List ℕ) (s t : S) → Tells result text old new
      → by.answers s line (text ++ 10 ∷ []) t → Responds by result line old new s t
  told (Ok done) text s t tells answers = (text ++ 10 ∷ [], answers, tells)
  told (Err WriteFault) text s t tells answers = (text ++ 10 ∷ [], answers, tells)
  told (Err (NoMemory done)) text s t tells answers = absurd tells

  -- a text that is the line's answer was told, or no memory was found for it
  text_told : (result : Result (Unit {0}) Stop) (text : List ℕ) (s t : S)
      → TellsText result text old new → by.answers s line (text ++ 10 ∷ []) t
      → (result ≡ Err (NoMemory true) → by.does s line t) → Responds by result line old new s t
  text_told (Ok done) text s t tells answers does = (text ++ 10 ∷ [], answers, tells)
  text_told (Err WriteFault) text s t tells answers does = (text ++ 10 ∷ [], answers, tells)
  text_told (Err (NoMemory true)) text s t tells answers does =
      (text ++ 10 ∷ [], answers, does refl, tells)
  text_told (Err (NoMemory false)) text s t tells answers does = absurd tells

  -- a fault was told, or memory ran out
  fault_told : (result : Result (Unit {0}) Stop) (f : LineFault) (s : S)
      → TellsFault result f old new
      → (f ≢ fault.NoMemory → by.answers s line (fault_bytes f ++ 10 ∷ []) s)
      → (f ≡ fault.NoMemory → TakesMemory line) → Responds by result line old new s s
  fault_told result fault.NoMemory s tells answers takes =
      subst (λ r. Responds by r line old new s s) (sym tells.0) (tells.1, refl, takes refl)
  fault_told result fault.TooLong s tells answers takes =
      told result (fault_bytes fault.TooLong) s s tells
      (answers (λ e. let never : ⊥ = cc in absurd never))
  fault_told result fault.NoJson s tells answers takes =
      told result (fault_bytes fault.NoJson) s s tells
      (answers (λ e. let never : ⊥ = cc in absurd never))
  fault_told result fault.NoCommand s tells answers takes =
      told result (fault_bytes fault.NoCommand) s s tells
      (answers (λ e. let never : ⊥ = cc in absurd never))
  fault_told result fault.OtherSpelling s tells answers takes =
      told result (fault_bytes fault.OtherSpelling) s s tells
      (answers (λ e. let never : ⊥ = cc in absurd never))

module _ (result : Result (Unit {0}) Stop) (line : List ℕ) (old new : Option (List ℕ)) where
  -- the reply of a machine was told
  pub reply_told : (c : Command) (text : List ℕ) (m n : Machine) → TellsText result text old new
      → command line ≡ Ok c → text ≡ reply_bytes (reply m c) → n ≡ after m c
      → Responds by_machine result line old new m n
  reply_told c text m n tells said is stands =
      text_told by_machine line old new result text m n tells (
        ap (λ l. l ++ 10 ∷ []) (is ∙ ap (text_to m) (sym said)),
        stands ∙ ap (after_line m) (sym said),
      )
      (λ e. ap is_ok said)

  pub fault_told_by_machine : (f : LineFault) (m : Machine) → TellsFault result f old new
      → IsFaultOf f (command line) → (f ≡ fault.NoMemory → TakesMemory line)
      → Responds by_machine result line old new m m
  fault_told_by_machine f m tells said =
      fault_told by_machine line old new result f m tells
      (λ other.
      let said_is = sym (is_said (command line) f other said) in
      (ap (λ x. text_to m x ++ 10 ∷ []) said_is, ap (after_line m) said_is))

  -- what came of an event was told
  pub outcome_told : (e : Event) (r : Outcome) (s t : State)
      → TellsText result (outcome_bytes r) old new
      → (result ≡ Err (NoMemory true) → accepted r ≡ true) → event line ≡ Ok e → Goes s e r t
      → LoadsTables e r s t → Spares e s t → Responds by_core result line old new s t
  outcome_told e r s t tells done said goes loads spares =
      text_told by_core line old new result (outcome_bytes r) s t tells
      (subst (λ x. IsTold s x (outcome_bytes r ++ 10 ∷ []) t) (sym said)
      (r, goes, loads, spares, refl))
      (λ none. subst (λ x. IsDone s x t) (sym said) (r, goes, done none))

  pub fault_told_by_core : (f : LineFault) (s : State) → TellsFault result f old new
      → IsFaultOf f (event line) → (f ≡ fault.NoMemory → TakesMemory line)
      → Responds by_core result line old new s s
  fault_told_by_core f s tells said =
      fault_told by_core line old new result f s tells
      (λ other. subst (λ x. IsTold s x (fault_bytes f ++ 10 ∷ []) s)
      (sym (is_said (event line) f other said)) (refl, refl))
