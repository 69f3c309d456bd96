-- Arguments that are refused: for which errors of clap's, with which text, and with which exit status.
use Rattle.std.specs.Prelude.{◌≡◌, ◌≢◌, ◌⊎◌, ◌<◌, ℕ, List, [], ◌++◌, codes, length, string_bytes, ⊤}
use Rattle.std.specs.declared.io.ErrorKind.{ErrorKind as ReadKind}
use Rattle.std.specs.declared.io.ErrorKind.TheVariants as read
use Rattle.clap.specs.Words.{IsAmong, Kinds}
use Rattle.clap.specs.declared.error.kind.ErrorKind.{ErrorKind}
use Rattle.clap.specs.declared.error.kind.ErrorKind.TheVariants.{OutOfMemory, DisplayHelp}
use Rattle.clap.specs.declared.error.kind.ErrorKind.TheVariants.{DisplayVersion}
use Rattle.cam6_arguments.specs.Program.{message_of}
use Rattle.cam6_arguments.specs.declared.programs.Program.{Program}
use Rattle.cam6_arguments.specs.declared.refusals.Refused.{Refused}
use Rattle.cam6_arguments.specs.declared.refusals.Refused.TheVariants.{Help, Words, NoMemory}

-- help, and the version, are no refusals
abbrev pub IsAnswer : ErrorKind → Type 0
IsAnswer kind = (kind ≡ DisplayHelp) ⊎ (kind ≡ DisplayVersion)

-- what an error of clap's of this kind may become
abbrev pub IsOfKind : Refused → ErrorKind → Type 0
IsOfKind (Help text) kind = IsAnswer kind
IsOfKind (Words text) kind = (IsAnswer kind → ⊥) × (kind ≢ OutOfMemory)
IsOfKind NoMemory kind = ⊤

-- help has this text, and refused arguments have it with a hint after it
abbrev pub HasText : Refused → List ℕ → List ℕ → Type 0
HasText (Help text) said hint = string_bytes text ≡ said
HasText (Words text) said hint = string_bytes text ≡ said ++ hint
HasText NoMemory said hint = ⊤

-- refused arguments end with a hint
abbrev pub EndsWith : Refused → List ℕ → Type 0
EndsWith (Help text) hint = ⊤
EndsWith (Words text) hint = (said : List ℕ) × (string_bytes text ≡ said ++ hint)
EndsWith NoMemory hint = ⊤

-- refused arguments have this text, with a hint after it; or there is a hint, and it couldn't be
-- allocated
abbrev pub IsTold : Refused → List ℕ → List ℕ → Type 0
IsTold (Help text) said hint = ⊥
IsTold (Words text) said hint = string_bytes text ≡ said ++ hint
IsTold NoMemory said hint = 0 < length hint

-- it is no help
abbrev pub IsRefusal : Refused → Type 0
IsRefusal (Help text) = ⊥
IsRefusal (Words text) = ⊤
IsRefusal NoMemory = ⊤

-- among clap's errors is help or the version, and one that is neither
abbrev pub AsksForHelp : Kinds → Type 0
AsksForHelp kinds = (kind : ErrorKind) × IsAmong kind kinds × IsAnswer kind

abbrev pub HasFault : Kinds → Type 0
HasFault kinds =
    (kind : ErrorKind) × IsAmong kind kinds × (IsAnswer kind → ⊥) × (kind ≢ OutOfMemory)

-- help comes only if clap has an error of such a kind; a refusal only if clap has another one, or
-- takes the arguments and they ask for nothing
abbrev pub Refuses : Kinds → Type 0 → Refused → Type 0
Refuses kinds nothing (Help text) = AsksForHelp kinds
Refuses kinds nothing (Words text) = HasFault kinds ⊎ ((kinds ≡ []) × nothing)
Refuses kinds nothing NoMemory = ⊤

-- arguments that can't be read: memory ran out, or one isn't UTF-8
abbrev pub IsUnreadable : Program → Refused → ReadKind → Type 0
IsUnreadable program (Help text) kind = ⊥
IsUnreadable program (Words text) kind =
    (kind ≢ read.OutOfMemory)
    × (string_bytes text ≡ message_of program (codes "an argument is not UTF-8\n"))
IsUnreadable program NoMemory kind = ⊤

-- the exit status, with the text; help succeeds
abbrev pub refusal : Program → Refused → ℕ × List ℕ
refusal program (Help text) = (0, string_bytes text)
refusal program (Words text) = (2, string_bytes text)
refusal program NoMemory = (5, message_of program (codes "no memory\n"))
