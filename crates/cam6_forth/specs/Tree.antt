-- The tree of a rule, how it is spelled, what its words are, and which trees are rules.
use Rattle.std.specs.Prelude.{◌≡◌, ℕ, ◌+◌, ◌<◌, ◌≤◌, List, [], ◌∷◌, ◌++◌}
use Rattle.std.specs.Prelude.{length, max, codes, None, Result, Ok, Err, IsOk}
use Rattle.cam6_wiring.specs.declared.wirings.Wiring.{Wiring}
use Rattle.cam6_forth.specs.declared.kinds.Kind.TheVariants as kind
use Rattle.cam6_forth.specs.declared.words.SingleWord.{SingleWord}
use Rattle.cam6_forth.specs.declared.words.Word.{Word}
use Rattle.cam6_forth.specs.declared.words.Word.TheVariants as word
use Rattle.cam6_forth.specs.Tokens.{Token}
use Rattle.cam6_forth.specs.Kinds.{kind_of}
use Rattle.cam6_forth.specs.Limits as limits
use Rattle.cam6_forth.specs.Defined.{Defined, RuleWords}
use Rattle.cam6_forth.specs.SingleWords.{word_of, definition_at}

-- a body: its items in a row. A single word is its token: a literal with its digits, a neighbour
-- name, a stack word, an output word or a defined name
pub data Body : Type 0 where
  End : Body
  Says : (token : Token) (rest : Body) → Body
  -- IF on THEN
  Choice : (on rest : Body) → Body
  -- IF on ELSE off THEN
  Either : (on off rest : Body) → Body
  -- { words }
  Cases : (words : List Token) (rest : Body) → Body

-- a definition of the tree: its name and its body. A rule's tree is a list of them
pub record Part : Type 0 where
  pub name : Token
  pub body : Body

-- the tokens of a body
abbrev pub spell_body : Body → List Token
spell_body End = []
spell_body (Says token rest) = token ∷ spell_body rest
spell_body (Choice on rest) =
    codes "IF" ∷ (spell_body on ++ (codes "THEN" ∷ spell_body rest))
spell_body (Either on off rest) =
    codes "IF" ∷ (spell_body on
    ++ (codes "ELSE" ∷ (spell_body off ++ (codes "THEN" ∷ spell_body rest))))
spell_body (Cases words rest) = codes "{" ∷ (words ++ (codes "}" ∷ spell_body rest))

-- the tokens of a rule
abbrev pub spell : List Part → List Token
spell [] = []
spell (part ∷ parts) =
    codes ":" ∷ (part.name ∷ (spell_body part.body ++ (codes ";" ∷ spell parts)))

-- what a token says as a single word, after these definitions
abbrev pub word_at : Wiring → List Defined → Token → Result (SingleWord × ℕ) ℕ
word_at wiring done token = word_of wiring done (kind_of token) token

-- the word that a token says, or none
abbrev pub words_in : Result (SingleWord × ℕ) ℕ → List Word
words_in (Ok (said, size)) = word.Single said ∷ []
words_in (Err number) = []

-- by how much the definition grows
abbrev pub size_in : Result (SingleWord × ℕ) ℕ → ℕ
size_in (Ok (said, size)) = size
size_in (Err number) = 0

-- the words between braces
abbrev pub case_words : Wiring → List Defined → List Token → List Word
case_words wiring done [] = []
case_words wiring done (token ∷ tokens) =
    words_in (word_at wiring done token) ++ case_words wiring done tokens

-- each of them has one more than its size
abbrev pub case_size : Wiring → List Defined → List Token → ℕ
case_size wiring done [] = 0
case_size wiring done (token ∷ tokens) =
    size_in (word_at wiring done token) + 1 + case_size wiring done tokens

-- each of them is known
abbrev pub AreWords : Wiring → List Defined → List Token → Type 0
AreWords wiring done [] = Unit {0}
AreWords wiring done (token ∷ tokens) =
    IsOk (word_at wiring done token) × AreWords wiring done tokens

-- the words of a body in a row
abbrev pub words_of : Wiring → List Defined → Body → List Word
words_of wiring done End = []
words_of wiring done (Says token rest) =
    words_in (word_at wiring done token) ++ words_of wiring done rest
words_of wiring done (Choice on rest) =
    word.If ∷ (words_of wiring done on ++ (word.Then ∷ words_of wiring done rest))
words_of wiring done (Either on off rest) =
    word.If ∷ (words_of wiring done on
    ++ (word.Else ∷ (words_of wiring done off
    ++ (word.Then ∷ words_of wiring done rest))))
words_of wiring done (Cases words rest) =
    word.Cases ∷ (case_words wiring done words
    ++ (word.EndCases ∷ words_of wiring done rest))

-- the size of a body
abbrev pub size_of : Wiring → List Defined → Body → ℕ
size_of wiring done End = 0
size_of wiring done (Says token rest) =
    size_in (word_at wiring done token) + size_of wiring done rest
size_of wiring done (Choice on rest) = 1 + size_of wiring done on + size_of wiring done rest
size_of wiring done (Either on off rest) =
    2 + size_of wiring done on + size_of wiring done off + size_of wiring done rest
size_of wiring done (Cases words rest) =
    1 + case_size wiring done words + size_of wiring done rest

-- how many IFs stand in one another
abbrev pub depth_of : Body → ℕ
depth_of End = 0
depth_of (Says token rest) = depth_of rest
depth_of (Choice on rest) = max (1 + depth_of on) (depth_of rest)
depth_of (Either on off rest) = max (1 + max (depth_of on) (depth_of off)) (depth_of rest)
depth_of (Cases words rest) = depth_of rest

-- each single word of a body is known: a literal in range, a neighbour name of the wiring, a stack
-- word, an output word of the half, or the name of a definition before
abbrev pub IsKnown : Wiring → List Defined → Body → Type 0
IsKnown wiring done End = Unit {0}
IsKnown wiring done (Says token rest) =
    IsOk (word_at wiring done token) × IsKnown wiring done rest
IsKnown wiring done (Choice on rest) = IsKnown wiring done on × IsKnown wiring done rest
IsKnown wiring done (Either on off rest) =
    IsKnown wiring done on × IsKnown wiring done off × IsKnown wiring done rest
IsKnown wiring done (Cases words rest) = AreWords wiring done words × IsKnown wiring done rest

-- a definition with its words in a row
abbrev pub defined : Wiring → List Defined → Part → Defined
defined wiring done part = record {
  name = part.name;
  words = words_of wiring done part.body;
  size = size_of wiring done part.body;
}

-- a definition that may follow others
pub record IsDefinition (wiring : Wiring) (done : List Defined) (part : Part) : Type 0 where
  pub name : kind_of part.name ≡ kind.Other
  pub fresh : definition_at part.name done ≡ None
  pub known : IsKnown wiring done part.body
  pub size : size_of wiring done part.body ≤ limits.max_size
  pub depth : depth_of part.body ≤ limits.max_open_ifs

-- definitions that may follow others and one another
abbrev pub AreDefinitions : Wiring → List Defined → List Part → Type 0
AreDefinitions wiring done [] = Unit {0}
AreDefinitions wiring done (part ∷ parts) =
    IsDefinition wiring done part
    × AreDefinitions wiring (done ++ defined wiring done part ∷ []) parts

-- these definitions and then those of a tree
abbrev pub meant : Wiring → List Defined → List Part → List Defined
meant wiring done [] = done
meant wiring done (part ∷ parts) = meant wiring (done ++ defined wiring done part ∷ []) parts

-- a tree that is a rule
pub record IsRule (wiring : Wiring) (parts : List Part) : Type 0 where
  pub some : 0 < length parts
  pub limit : length parts ≤ limits.max_definitions
  pub each : AreDefinitions wiring [] parts

-- the rule of a tree
abbrev pub rule_of : Wiring → List Part → RuleWords
rule_of wiring parts = record { wiring = wiring; definitions = meant wiring [] parts }

-- the rule of some tree
abbrev pub IsOfTree : RuleWords → Type 0
IsOfTree rule =
    (parts : List Part) × IsRule rule.wiring parts × (rule ≡ rule_of rule.wiring parts)
