-- Which commands may need memory.
use Rattle.std.specs.Prelude.{ℕ, Bool, true, false, ◌&&◌, ◌||◌, List, [], ◌∷◌, is_none}
use Rattle.cam6_wiring.specs.declared.wirings.Wiring.{Wiring}
use Rattle.cam6_commands.specs.declared.commands.NamedEntry.{NamedEntry}
use Rattle.cam6_model.specs.Rules.{Rule}
use Rattle.cam6_model.specs.Machine.{Machine}
use Rattle.cam6_forth.specs.Reading.{keeps}
use Rattle.cam6_model.specs.Refusals.{rule_refusal}
use Rattle.cam6_model.specs.Alone.{reply as reply_to}
use Rattle.cam6_commands.specs.declared.commands.Command.{Command}
use Rattle.cam6_commands.specs.declared.commands.Command.TheVariants as command
use Rattle.cam6_commands.specs.declared.replies.Done.TheVariants as done
use Rattle.cam6_commands.specs.declared.replies.Reply.{Reply}
use Rattle.cam6_commands.specs.declared.replies.Reply.TheVariants as reply

-- whether there is one at least
abbrev pub are_some : {A : Type 0} → List A → Bool
are_some [] = false
are_some (one ∷ others) = true

-- whether something is kept of the text of a rule that is defined, unless its name is refused first
abbrev pub keeps_definition : List Rule → List NamedEntry → List ℕ → Wiring → List ℕ → Bool
keeps_definition rules cycle name wiring text =
    is_none (rule_refusal rules cycle name) && keeps wiring text

-- whether something of a command's texts is kept: a rule's, or those of rules that are loaded
abbrev pub keeps_text : Machine → Command → Bool
keeps_text m (command.Rule name wiring text) = keeps_definition m.rules m.cycle name wiring text
keeps_text m (command.Load saved) = are_some saved.rules
keeps_text m _ = false

-- whether a reply has rows: those of a plane, names, or a whole machine
abbrev pub has_rows : Reply → Bool
has_rows (reply.Done (done.Rules names)) = are_some names
has_rows (reply.Done (done.Plane rows)) = are_some rows
has_rows (reply.Done (done.Save machine)) = true
has_rows _ = false

-- whether a command may need memory: a text is kept, or the reply has rows
abbrev pub may_want_memory : Machine → Command → Bool
may_want_memory m c = keeps_text m c || has_rows (reply_to m c)
