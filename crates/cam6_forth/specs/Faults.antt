-- The fault that a token has after the tokens before it, and the one that the end of a text has.
use Rattle.std.specs.Prelude.{◌≡◌, ◌<◌, ◌≤◌, ◌⊎◌, ℕ, ◌+◌, false, List, []}
use Rattle.std.specs.Prelude.{◌∷◌, ◌++◌, length, Option, Some, None, is_some}
use Rattle.std.specs.Prelude.{Result, Ok, Err, if◌then◌else◌, nat_lt, nat_le}
use Rattle.cam6_wiring.specs.declared.wirings.Wiring.{Wiring}
use Rattle.cam6_forth.specs.declared.words.SingleWord.{SingleWord}
use Rattle.cam6_forth.specs.declared.kinds.Kind.{Kind}
use Rattle.cam6_forth.specs.declared.kinds.Kind.TheVariants.{Colon, Semicolon, Open, OpenBrace}
use Rattle.cam6_forth.specs.declared.kinds.Kind.TheVariants.{CloseBrace, If, Else, Then, Other}
use Rattle.cam6_forth.specs.Tokens.{Token, tokens}
use Rattle.cam6_forth.specs.Kinds.{kind_of}
use Rattle.cam6_forth.specs.Comments.{Plain, is_comment, uncommented, mode_after}
use Rattle.cam6_forth.specs.Limits.{max_text, max_definitions, max_size}
use Rattle.cam6_forth.specs.Limits.{max_open_ifs, not_definable, out_of_place}
use Rattle.cam6_forth.specs.Limits.{too_large, too_many_ifs, no_definition, too_long}
use Rattle.cam6_forth.specs.Defined.{Defined}
use Rattle.cam6_forth.specs.SingleWords.{word_of, definition_at}
use Rattle.cam6_forth.specs.Tree.{Part, case_size, meant}
use Rattle.cam6_forth.specs.Unfinished.{OpenIf, Opened, opened_size, Unfinished, Whole}
use Rattle.cam6_forth.specs.Unfinished.{Unnamed, Within, Braced, spell_unfinished, IsSound}

-- a definition that would grow to this size
abbrev pub size_fault : ℕ → Option ℕ
size_fault size = if nat_le size max_size then None else Some too_large

-- the fault of a single word in a definition of this size
abbrev pub word_fault : ℕ → Result (SingleWord × ℕ) ℕ → Option ℕ
word_fault size (Err number) = Some number
word_fault size (Ok (said, more)) = size_fault (size + more)

-- outside definitions: `:` may stand, unless there are too many definitions, and `(` may
abbrev pub fault_outside : List Part → Kind → Option ℕ
fault_outside parts Colon =
    if nat_lt (length parts) max_definitions then None else Some too_long
fault_outside parts Open = None
fault_outside parts kind = Some out_of_place

-- right after `:`: only a name that isn't defined yet may stand
abbrev pub fault_naming : List Defined → Kind → Token → Option ℕ
fault_naming done Other token =
    if is_some (definition_at token done) then Some not_definable else None
fault_naming done kind token = Some not_definable

-- `;` may stand if no IF is open
abbrev pub end_of_body_fault : List OpenIf → Option ℕ
end_of_body_fault [] = None
end_of_body_fault (open_if ∷ outer) = Some out_of_place

-- IF may stand if fewer than max_open_ifs are open
abbrev pub if_fault : List OpenIf → ℕ → Option ℕ
if_fault open_ifs size =
    if nat_lt (length open_ifs) max_open_ifs then size_fault (size + 1) else Some too_many_ifs

-- ELSE may stand if the innermost open IF has none yet
abbrev pub else_fault : List OpenIf → ℕ → Option ℕ
else_fault [] size = Some out_of_place
else_fault (open_if ∷ outer) size =
    if is_some open_if.first then Some out_of_place else size_fault (size + 1)

-- THEN may stand if an IF is open
abbrev pub then_fault : List OpenIf → Option ℕ
then_fault [] = Some out_of_place
then_fault (open_if ∷ outer) = None

-- in a body of this size
abbrev pub fault_inside : Wiring → List Defined → Opened → ℕ → Kind → Token → Option ℕ
fault_inside wiring done last size Open token = None
fault_inside wiring done last size Semicolon token = end_of_body_fault last.open_ifs
fault_inside wiring done last size If token = if_fault last.open_ifs size
fault_inside wiring done last size Else token = else_fault last.open_ifs size
fault_inside wiring done last size Then token = then_fault last.open_ifs
fault_inside wiring done last size OpenBrace token = size_fault (size + 1)
fault_inside wiring done last size kind token =
    word_fault size (word_of wiring done kind token)

-- between braces, where each word has one more than its size
abbrev pub fault_braced : Wiring → List Defined → ℕ → Kind → Token → Option ℕ
fault_braced wiring done size Open token = None
fault_braced wiring done size CloseBrace token = None
fault_braced wiring done size kind token =
    word_fault (size + 1) (word_of wiring done kind token)

-- the fault of a token of this kind that follows a rule that is being written
abbrev pub token_fault : Wiring → Unfinished → Kind → Token → Option ℕ
token_fault wiring (Whole parts) kind token = fault_outside parts kind
token_fault wiring (Unnamed parts) kind token = fault_naming (meant wiring [] parts) kind token
token_fault wiring (Within parts last) kind token =
    let done = meant wiring [] parts in
    fault_inside wiring done last (opened_size wiring done last) kind token
token_fault wiring (Braced parts last words) kind token =
    let done = meant wiring [] parts in
    fault_braced wiring done
    (opened_size wiring done last + (1 + case_size wiring done words)) kind token

-- the fault of an end that follows it: a text may end after a definition alone
abbrev pub end_fault : Unfinished → Option ℕ
end_fault (Whole []) = Some no_definition
end_fault (Whole (part ∷ parts)) = None
end_fault unfinished = Some out_of_place

-- these tokens have no fault so far, and spell what is being written, comments left out
pub record AreSoundTokens (wiring : Wiring) (unfinished : Unfinished) (before : List Token) :
    Type 0 where
  pub spelled : uncommented Plain before ≡ spell_unfinished unfinished
  pub sound : IsSound wiring unfinished

-- a token outside comments has this fault after the tokens before it
pub record HasTokenFault (wiring : Wiring) (all : List Token) (number token_number : ℕ) :
    Type 0 where
  pub before : List Token
  pub token : Token
  pub later : List Token
  pub tokens : all ≡ before ++ token ∷ later
  pub counted : token_number ≡ length before + 1
  pub unfinished : Unfinished
  pub sound : AreSoundTokens wiring unfinished before
  pub closed : is_comment (mode_after Plain before) ≡ false
  pub fault : token_fault wiring unfinished (kind_of token) token ≡ Some number

-- the end of the tokens has this fault: a comment is open, or what is being written may not end
pub record HasEndFault (wiring : Wiring) (all : List Token) (number token_number : ℕ) :
    Type 0 where
  pub counted : token_number ≡ length all + 1
  pub unfinished : Unfinished
  pub sound : AreSoundTokens wiring unfinished all
  pub fault :
      (if is_comment (mode_after Plain all) then Some out_of_place else end_fault unfinished)
      ≡ Some number

-- a text with this fault: it is too long, or a token has the fault, or the end
abbrev pub HasFault : Wiring → List ℕ → ℕ → ℕ → Type 0
HasFault wiring text number token_number =
    ((max_text < length text) × (number ≡ too_long) × (token_number ≡ 0))
    ⊎ ((length text ≤ max_text)
    × (HasTokenFault wiring (tokens text) number token_number
    ⊎ HasEndFault wiring (tokens text) number token_number))
