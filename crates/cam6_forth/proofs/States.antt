-- What is read of a rule that is being written.
use Rattle.std.proofs.Common.{ℕ, ◌+◌, Bool, false, List, [], ◌∷◌, ◌++◌, Option, Some, None, is_some}
use Rattle.cam6_wiring.specs.declared.wirings.Wiring.{Wiring}
use Rattle.cam6_forth.specs.declared.words.Word.{Word}
use Rattle.cam6_forth.specs.declared.words.Word.TheVariants as word
use Rattle.cam6_forth.specs.declared.reader.Context.TheVariants as context
use Rattle.cam6_forth.specs.Tokens.{Token}
use Rattle.cam6_forth.specs.Defined.{Defined}
use Rattle.cam6_forth.specs.Tree.{Body, words_of, case_words, case_size, meant}
use Rattle.cam6_forth.specs.Unfinished.{OpenIf, Opened, opened_size, Unfinished}
use Rattle.cam6_forth.specs.Unfinished.{Whole, Unnamed, Within, Braced}
use Rattle.cam6_forth.specs.Reading.{State, beginning}

-- outside definitions
abbrev pub after_all : List Defined → State
after_all done = record beginning { done = done }

-- right after `:`
abbrev pub after_colon : List Defined → State
after_colon done = record beginning { done = done; context = context.Naming }

-- in a body
abbrev pub in_body : List Defined → Token → List Word → ℕ → List Bool → State
in_body done name words size open_ifs = record {
  done = done;
  context = context.Inside;
  comment = false;
  name = name;
  words = words;
  size = size;
  open_ifs = open_ifs;
}

-- between braces
abbrev pub in_braces : List Defined → Token → List Word → ℕ → List Bool → State
in_braces done name words size open_ifs = record {
  done = done;
  context = context.Braces;
  comment = false;
  name = name;
  words = words;
  size = size;
  open_ifs = open_ifs;
}

-- the words of an IF's first body, with its ELSE
abbrev pub first_words : Wiring → List Defined → Option Body → List Word
first_words wiring done None = []
first_words wiring done (Some body) = words_of wiring done body ++ word.Else ∷ []

-- the words of open IFs
abbrev pub open_words : Wiring → List Defined → List OpenIf → List Word
open_words wiring done [] = []
open_words wiring done (open_if ∷ outer) =
    open_words wiring done outer
    ++ (words_of wiring done open_if.before
    ++ (word.If ∷ first_words wiring done open_if.first))

-- which of them have their ELSE
abbrev pub open_flags : List OpenIf → List Bool
open_flags [] = []
open_flags (open_if ∷ outer) = is_some open_if.first ∷ open_flags outer

-- the words of an opened definition
abbrev pub opened_words : Wiring → List Defined → Opened → List Word
opened_words wiring done last =
    open_words wiring done last.open_ifs ++ words_of wiring done last.said

-- the state after it
abbrev pub state_of : Wiring → Unfinished → State
state_of wiring (Whole parts) = after_all (meant wiring [] parts)
state_of wiring (Unnamed parts) = after_colon (meant wiring [] parts)
state_of wiring (Within parts last) =
    let done = meant wiring [] parts in
    in_body done last.name (opened_words wiring done last) (opened_size wiring done last)
    (open_flags last.open_ifs)
state_of wiring (Braced parts last words) =
    let done = meant wiring [] parts in
    in_braces done last.name
    (opened_words wiring done last ++ (word.Cases ∷ case_words wiring done words))
    (opened_size wiring done last + (1 + case_size wiring done words))
    (open_flags last.open_ifs)
