-- What a machine answers to lines.
use Rattle.std.specs.Prelude.{◌≡◌, ℕ, List, [], ◌∷◌, ◌++◌, Result, Ok, Err, is_ok, true}
use Rattle.cam6_model.specs.Machine.{Machine}
use Rattle.cam6_model.specs.Alone.{reply, after}
use Rattle.cam6_commands.specs.declared.commands.Command.{Command}
use Rattle.cam6_commands.specs.declared.replies.Reply.{Reply}
use Rattle.cam6_wire.specs.declared.faults.LineFault.{LineFault}
use Rattle.cam6_wire.specs.Commands.{command}
use Rattle.cam6_wire.specs.Replies.{reply_bytes, fault_bytes}
use Rattle.cam6_session.specs.Answering.{Answering}

-- the text of what a machine answers to what a line says: its reply, or the line's fault
abbrev pub text_to : Machine → Result Command LineFault → List ℕ
text_to m (Ok c) = reply_bytes (reply m c)
text_to m (Err fault) = fault_bytes fault

-- the machine after it; a fault leaves it
abbrev pub after_line : Machine → Result Command LineFault → Machine
after_line m (Ok c) = after m c
after_line m (Err fault) = m

-- the machine answers what a line says, and does the command that it says
abbrev pub by_machine : Answering Machine
by_machine = record {
  answers = λ m line text n.
      (text ≡ text_to m (command line) ++ 10 ∷ []) × (n ≡ after_line m (command line));
  does = λ m line n. is_ok (command line) ≡ true;
}

-- what is said among what lines say
abbrev pub among : {A : Type 0} → List (Result A LineFault) → List A
among [] = []
among (Ok a ∷ later) = a ∷ among later
among (Err fault ∷ later) = among later

-- one text for each line, as long as results come: that of the next result, or that of the fault of
-- a line that says nothing
abbrev pub texts_by : {A B : Type 0} → (B → List ℕ) → List (Result A LineFault) → List B → List ℕ
texts_by text [] came = []
texts_by text (Err fault ∷ later) came = fault_bytes fault ++ 10 ∷ texts_by text later came
texts_by text (Ok a ∷ later) [] = []
texts_by text (Ok a ∷ later) (b ∷ came) = text b ++ 10 ∷ texts_by text later came

-- the commands among what lines say
abbrev pub commands : List (Result Command LineFault) → List Command
commands = among

-- the next reply to each command, and the fault of each line that says none
abbrev pub texts_of : List (Result Command LineFault) → List Reply → List ℕ
texts_of = texts_by reply_bytes
