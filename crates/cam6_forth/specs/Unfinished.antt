-- A rule that is being written: what stands open, and how all of it is spelled.
use Rattle.std.specs.Prelude.{◌≡◌, ℕ, ◌+◌, ◌<◌, ◌≤◌, List, [], ◌∷◌, ◌++◌}
use Rattle.std.specs.Prelude.{length, codes, Option, Some, None, MatchOption}
use Rattle.cam6_wiring.specs.declared.wirings.Wiring.{Wiring}
use Rattle.cam6_forth.specs.declared.kinds.Kind.TheVariants as kind
use Rattle.cam6_forth.specs.Tokens.{Token}
use Rattle.cam6_forth.specs.Kinds.{kind_of}
use Rattle.cam6_forth.specs.Limits.{max_definitions, max_size, max_open_ifs}
use Rattle.cam6_forth.specs.Defined.{Defined}
use Rattle.cam6_forth.specs.SingleWords.{definition_at}
use Rattle.cam6_forth.specs.Tree.{Body, Part, spell_body, spell, size_of, case_size}
use Rattle.cam6_forth.specs.Tree.{depth_of, IsKnown, AreWords, AreDefinitions, meant}

-- an IF that is open: the items before it in its own body, and its first body if its ELSE has come
pub record OpenIf : Type 0 where
  pub before : Body
  pub first : Option Body

-- a definition that is being written: its name, its open IFs, the innermost first, and the items
-- that were said since
pub record Opened : Type 0 where
  pub name : Token
  pub open_ifs : List OpenIf
  pub said : Body

-- a rule that is being written
pub data Unfinished : Type 0 where
  -- definitions
  Whole : (parts : List Part) → Unfinished
  -- definitions and `:`
  Unnamed : (parts : List Part) → Unfinished
  -- definitions and an opened one
  Within : (parts : List Part) (last : Opened) → Unfinished
  -- definitions, an opened one, and after it `{` with these words
  Braced : (parts : List Part) (last : Opened) (words : List Token) → Unfinished

-- the tokens of an IF's first body, with its ELSE
abbrev pub spell_first : Option Body → List Token
spell_first None = []
spell_first (Some body) = spell_body body ++ (codes "ELSE" ∷ [])

-- the tokens of open IFs
abbrev pub spell_open_ifs : List OpenIf → List Token
spell_open_ifs [] = []
spell_open_ifs (open_if ∷ outer) =
    spell_open_ifs outer
    ++ (spell_body open_if.before ++ (codes "IF" ∷ spell_first open_if.first))

-- the tokens of an opened definition
abbrev pub spell_opened : Opened → List Token
spell_opened last =
    codes ":" ∷ (last.name ∷ (spell_open_ifs last.open_ifs ++ spell_body last.said))

-- the tokens of a rule that is being written
abbrev pub spell_unfinished : Unfinished → List Token
spell_unfinished (Whole parts) = spell parts
spell_unfinished (Unnamed parts) = spell parts ++ (codes ":" ∷ [])
spell_unfinished (Within parts last) = spell parts ++ spell_opened last
spell_unfinished (Braced parts last words) =
    spell parts ++ (spell_opened last ++ (codes "{" ∷ words))

-- the size of an IF's first body, with its ELSE
abbrev pub first_size : Wiring → List Defined → Option Body → ℕ
first_size wiring done None = 0
first_size wiring done (Some body) = size_of wiring done body + 1

-- the size of open IFs
abbrev pub open_size : Wiring → List Defined → List OpenIf → ℕ
open_size wiring done [] = 0
open_size wiring done (open_if ∷ outer) =
    open_size wiring done outer
    + (size_of wiring done open_if.before + 1 + first_size wiring done open_if.first)

-- the size of an opened definition
abbrev pub opened_size : Wiring → List Defined → Opened → ℕ
opened_size wiring done last =
    open_size wiring done last.open_ifs + size_of wiring done last.said

-- a body that may stand within this many IFs
pub record FitsAt (wiring : Wiring) (done : List Defined) (level : ℕ) (body : Body) : Type 0 where
  pub known : IsKnown wiring done body
  pub depth : level + depth_of body ≤ max_open_ifs

-- open IFs that are not too many, and their bodies may stand where they do
abbrev pub AreOpenIfs : Wiring → List Defined → List OpenIf → Type 0
AreOpenIfs wiring done [] = Unit {0}
AreOpenIfs wiring done (open_if ∷ outer) =
    FitsAt wiring done (length outer) open_if.before
    × MatchOption open_if.first (Unit {0}) (FitsAt wiring done (length outer + 1))
    × (length outer < max_open_ifs)
    × AreOpenIfs wiring done outer

-- an opened definition that has no fault so far, with the size that its open braces take
pub record IsOpened (wiring : Wiring) (done : List Defined) (last : Opened) (more : ℕ) :
    Type 0 where
  pub name : kind_of last.name ≡ kind.Other
  pub fresh : definition_at last.name done ≡ None
  pub open_ifs : AreOpenIfs wiring done last.open_ifs
  pub said : FitsAt wiring done (length last.open_ifs) last.said
  pub size : opened_size wiring done last + more ≤ max_size

-- definitions after which one more may begin
pub record AreBefore (wiring : Wiring) (parts : List Part) : Type 0 where
  pub each : AreDefinitions wiring [] parts
  pub few : length parts < max_definitions

-- a rule that is being written has no fault so far
abbrev pub IsSound : Wiring → Unfinished → Type 0
IsSound wiring (Whole parts) =
    AreDefinitions wiring [] parts × (length parts ≤ max_definitions)
IsSound wiring (Unnamed parts) = AreBefore wiring parts
IsSound wiring (Within parts last) =
    AreBefore wiring parts × IsOpened wiring (meant wiring [] parts) last 0
IsSound wiring (Braced parts last words) =
    let done = meant wiring [] parts in
    AreBefore wiring parts
    × IsOpened wiring done last (1 + case_size wiring done words)
    × AreWords wiring done words
