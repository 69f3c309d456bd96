-- The laws that tie texts, trees and faults.
use Rattle.std.specs.Prelude.{◌≡◌, ℕ, ◌-◌, ◌≤◌, ◌⊎◌, List, ◌++◌, length, take, Ok, true}
use Rattle.cam6_wiring.specs.declared.wirings.Wiring.{Wiring}
use Rattle.cam6_forth.specs.declared.words.SingleWord.{SingleWord}
use Rattle.cam6_forth.specs.declared.kinds.Kind.{Kind}
use Rattle.cam6_forth.specs.Tokens.{Token}
use Rattle.cam6_forth.specs.Defined.{Defined}
use Rattle.cam6_forth.specs.SingleWords.{IsSingle}
use Rattle.cam6_forth.specs.Tree.{Part, spell, IsRule, word_at}
use Rattle.cam6_forth.specs.Trees.{tree_of}
use Rattle.cam6_forth.specs.Texts.{AreTokensOf, IsTextOf, Begins}
use Rattle.cam6_forth.specs.Unfinished.{Unfinished, IsSound}
use Rattle.cam6_forth.specs.Faults.{AreSoundTokens, HasTokenFault, HasEndFault, HasFault}
use Rattle.cam6_forth.specs.Faults.{token_fault}
use Rattle.cam6_forth.specs.FaultOrder.{first_fault, between, has_at_most_one}
use Rattle.cam6_forth.specs.Reading.{read_text, keeps}

-- trees that are spelled alike are one
abbrev pub HasOneTree : Type 0
HasOneTree =
    (wiring : Wiring) (first second : List Part) → IsRule wiring first → IsRule wiring second →
    spell first ≡ spell second → first ≡ second

-- the tree of a text that is a rule is the one that is read from it
abbrev pub TreeIsRead : Type 0
TreeIsRead =
    (wiring : Wiring) (parts : List Part) (text : List ℕ) → IsTextOf wiring parts text →
    tree_of text ≡ parts

-- a text is a rule or has a fault
abbrev pub HasRuleOrFault : Type 0
HasRuleOrFault =
    (wiring : Wiring) (text : List ℕ) →
    ((parts : List Part) × IsTextOf wiring parts text)
    ⊎ ((number : ℕ) × (token_number : ℕ) × HasFault wiring text number token_number)

-- it has one fault, and none if it is a rule
abbrev pub HasOneFault : Type 0
HasOneFault =
    (wiring : Wiring) (text : List ℕ) (number token_number : ℕ) →
    HasFault wiring text number token_number →
    ((other other_token : ℕ) → HasFault wiring text other other_token →
    (other ≡ number) × (other_token ≡ token_number))
    × ((parts : List Part) → IsTextOf wiring parts text → ⊥)

-- tokens that have no fault so far can be completed to the tokens of a rule
abbrev pub CanBeCompleted : Type 0
CanBeCompleted =
    (wiring : Wiring) (before : List Token) (unfinished : Unfinished) →
    AreSoundTokens wiring unfinished before → Begins wiring before

-- a token's fault doesn't depend on what follows the token
abbrev pub FaultStays : Type 0
FaultStays =
    (wiring : Wiring) (first later other : List Token) (number token_number : ℕ) →
    token_number ≤ length first → HasTokenFault wiring (first ++ later) number token_number →
    HasTokenFault wiring (first ++ other) number token_number

-- the token of a fault is the first with which the tokens begin no rule
abbrev pub FaultIsFirst : Type 0
FaultIsFirst =
    (wiring : Wiring) (all : List Token) (number token_number : ℕ) →
    HasTokenFault wiring all number token_number →
    Begins wiring (take (token_number - 1) all) × (Begins wiring (take token_number all) → ⊥)

-- if the end has a fault, the tokens begin a rule but are not one
abbrev pub EndIsTooEarly : Type 0
EndIsTooEarly =
    (wiring : Wiring) (all : List Token) (number token_number : ℕ) →
    HasEndFault wiring all number token_number →
    Begins wiring all × ((parts : List Part) → AreTokensOf wiring parts all → ⊥)

-- a token that follows a rule that is being written has the first of its faults, in their order
abbrev pub FaultsInOrder : Type 0
FaultsInOrder =
    (wiring : Wiring) (unfinished : Unfinished) (kind : Kind) (token : Token) →
    IsSound wiring unfinished →
    token_fault wiring unfinished kind token ≡ first_fault wiring unfinished kind token

-- of the faults between, the order doesn't matter: a token has at most one
abbrev pub OneBetween : Type 0
OneBetween =
    (wiring : Wiring) (unfinished : Unfinished) (kind : Kind) (token : Token) →
    has_at_most_one (between wiring unfinished kind token) ≡ true

-- a known token says a single word
abbrev pub KnownIsSingle : Type 0
KnownIsSingle =
    (wiring : Wiring) (done : List Defined) (token : Token) (said : SingleWord) (size : ℕ) →
    word_at wiring done token ≡ Ok (said, size) → IsSingle wiring done token said size

-- something is kept of a text that is read as a rule
abbrev pub AcceptedIsKept : Type 0
AcceptedIsKept =
    (wiring : Wiring) (text : List ℕ) (definitions : List Defined) →
    read_text wiring text ≡ Ok definitions → keeps wiring text ≡ true
