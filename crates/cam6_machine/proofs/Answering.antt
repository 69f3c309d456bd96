-- What is said of a command is said of it by the machine that was there.
use Rattle.std.proofs.Common.{◌≡◌, ◌∙◌, ℕ, Bool, true, false, ◌||◌, Option, ap, refl, sym}
use Rattle.cam6_cycle.specs.declared.tables.Direction.{Direction}
use Rattle.cam6_commands.specs.declared.commands.Command.{Command}
use Rattle.cam6_commands.specs.declared.replies.Reply.{Reply}
use Rattle.cam6_model.specs.Alone.{reply, work_of}
use Rattle.cam6_model.specs.Memory.{keeps_text, has_rows, may_want_memory}
use Rattle.cam6_machine.specs.Stored.{StoredMachine, machine_of}

pub told : (old now : StoredMachine) (c d : Command) (r : Reply) → old ≡ now → d ≡ c →
    r ≡ reply (machine_of old) c → r ≡ reply (machine_of now) d
told old now c d r same is e =
    e ∙ ap (λ v. reply (machine_of v) c) same ∙ ap (reply (machine_of now)) (sym is)

-- so are the steps that it does
pub works : (old now : StoredMachine) (c d : Command) (w : Option (ℕ × Direction)) → old ≡ now →
    d ≡ c → w ≡ work_of (machine_of old) c → w ≡ work_of (machine_of now) d
works old now c d w same is e =
    e ∙ ap (λ v. work_of (machine_of v) c) same ∙ ap (work_of (machine_of now)) (sym is)

-- a command for which no memory may be wanted keeps no text, and its reply has no rows
neither : (a b : Bool) → (a || b) ≡ false → (a ≡ false) × (b ≡ false)
neither true b e = cc e
neither false b e = (refl, e)

pub wants_none : (old now : StoredMachine) (c d : Command) → old ≡ now → d ≡ c →
    may_want_memory (machine_of now) d ≡ false →
    (keeps_text (machine_of old) c ≡ false) × (has_rows (reply (machine_of old) c) ≡ false)
wants_none old now c d same is none =
    neither (keeps_text (machine_of old) c) (has_rows (reply (machine_of old) c))
    (ap (λ v. may_want_memory (machine_of v) c) same ∙
    ap (may_want_memory (machine_of now)) (sym is) ∙ none)
