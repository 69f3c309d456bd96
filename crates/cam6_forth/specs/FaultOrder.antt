-- The faults that a token can have after what is being written, each defined by itself, and the
-- order in which they are tried.
use Rattle.std.specs.Prelude.{ℕ, ◌+◌, Bool, true, false, not, ◌&&◌, List, [], ◌∷◌, length, max}
use Rattle.std.specs.Prelude.{Option, Some, None, is_some, if◌then◌else◌, nat_lt, nat_le}
use Rattle.cam6_wiring.specs.declared.wirings.Wiring.{Wiring}
use Rattle.cam6_wiring.specs.Wiring.{line_of}
use Rattle.cam6_forth.specs.declared.kinds.Kind.{Kind}
use Rattle.cam6_forth.specs.declared.kinds.Kind.TheVariants.{Colon, Semicolon, Open, Close}
use Rattle.cam6_forth.specs.declared.kinds.Kind.TheVariants.{OpenBrace, CloseBrace, If, Else, Then}
use Rattle.cam6_forth.specs.declared.kinds.Kind.TheVariants.{Digits, Stack, Output, Name, Other}
use Rattle.cam6_forth.specs.Tokens.{Token}
use Rattle.cam6_forth.specs.Limits.{max_definitions, max_size, max_open_ifs}
use Rattle.cam6_forth.specs.Limits.{unknown_word, not_definable, out_of_place, too_large}
use Rattle.cam6_forth.specs.Limits.{too_many_ifs, wrong_output, literal_range, too_long}
use Rattle.cam6_forth.specs.Defined.{Defined}
use Rattle.cam6_wiring.specs.Name.{is_same_half}
use Rattle.cam6_forth.specs.SingleWords.{definition_at}
use Rattle.cam6_forth.specs.Tree.{case_size, meant}
use Rattle.cam6_forth.specs.Unfinished.{OpenIf, Unfinished, Whole, Unnamed, Within, Braced}
use Rattle.cam6_forth.specs.Unfinished.{opened_size}

-- the definitions before the body in which a token stands, if it stands in one
abbrev pub before_body : Wiring → Unfinished → Option (List Defined)
before_body wiring (Whole parts) = None
before_body wiring (Unnamed parts) = None
before_body wiring (Within parts last) = Some (meant wiring [] parts)
before_body wiring (Braced parts last words) = Some (meant wiring [] parts)

-- 20, in a body: no earlier name, or a neighbour name that the hood and the minor lack
abbrev pub is_unknown : Wiring → Option (List Defined) → Kind → Token → Bool
is_unknown wiring None kind token = false
is_unknown wiring (Some done) (Name name) token =
    not (is_some (line_of wiring.hood wiring.minor name))
is_unknown wiring (Some done) Other token = not (is_some (definition_at token done))
is_unknown wiring (Some done) kind token = false

-- 21, after `:`: a token that is reserved, or a name that is defined already
abbrev pub is_taken : List Defined → Kind → Token → Bool
is_taken done Other token = is_some (definition_at token done)
is_taken done kind token = true

abbrev pub is_not_definable : Wiring → Unfinished → Kind → Token → Bool
is_not_definable wiring (Unnamed parts) kind token = is_taken (meant wiring [] parts) kind token
is_not_definable wiring unfinished kind token = false

-- 22, outside definitions: any token but `:`, and but `(`, which begins a comment
abbrev pub is_outside : Kind → Bool
is_outside Colon = true
is_outside Open = true
is_outside kind = false

-- an IF is open
abbrev pub is_open : List OpenIf → Bool
is_open [] = false
is_open (open_if ∷ outer) = true

-- and the innermost one has no ELSE yet
abbrev pub wants_else : List OpenIf → Bool
wants_else [] = false
wants_else (open_if ∷ outer) = not (is_some open_if.first)

-- 22, in a body: `:`, `)` or `}`; ELSE or THEN without its IF, or a second ELSE; `;` while an IF
-- is open
abbrev pub is_misplaced : List OpenIf → Kind → Bool
is_misplaced open_ifs Colon = true
is_misplaced open_ifs Close = true
is_misplaced open_ifs CloseBrace = true
is_misplaced open_ifs Else = not (wants_else open_ifs)
is_misplaced open_ifs Then = not (is_open open_ifs)
is_misplaced open_ifs Semicolon = is_open open_ifs
is_misplaced open_ifs kind = false

-- 22, between braces: one of `:` `;` `)` `{` IF ELSE THEN
abbrev pub is_no_case : Kind → Bool
is_no_case Colon = true
is_no_case Semicolon = true
is_no_case Close = true
is_no_case OpenBrace = true
is_no_case If = true
is_no_case Else = true
is_no_case Then = true
is_no_case kind = false

abbrev pub is_out_of_place : Unfinished → Kind → Bool
is_out_of_place (Whole parts) kind = not (is_outside kind)
is_out_of_place (Unnamed parts) kind = false
is_out_of_place (Within parts last) kind = is_misplaced last.open_ifs kind
is_out_of_place (Braced parts last words) kind = is_no_case kind

-- a token's own size: a defined name has its definition's, or 1 if that is 0
abbrev pub defined_size : Option (ℕ × ℕ) → ℕ
defined_size None = 0
defined_size (Some (position, size)) = max size 1

abbrev pub own_size : List Defined → Kind → Token → ℕ
own_size done (Digits value) token = 1
own_size done (Stack word) token = 1
own_size done (Output output) token = 1
own_size done (Name name) token = 1
own_size done Other token = defined_size (definition_at token done)
own_size done If token = 1
own_size done Else token = 1
own_size done OpenBrace token = 1
own_size done kind token = 0

-- and between braces, where a word has one more
abbrev pub case_own_size : List Defined → Kind → Token → ℕ
case_own_size done Open token = 0
case_own_size done CloseBrace token = 0
case_own_size done kind token = own_size done kind token + 1

-- more on this size takes it above the limit
abbrev pub takes_above : ℕ → ℕ → Bool
takes_above size more = nat_le size max_size && not (nat_le (size + more) max_size)

-- 23: the token that takes the size of the definition above the limit
abbrev pub is_too_large : Wiring → Unfinished → Kind → Token → Bool
is_too_large wiring (Within parts last) kind token =
    let done = meant wiring [] parts in
    takes_above (opened_size wiring done last) (own_size done kind token)
is_too_large wiring (Braced parts last words) kind token =
    let done = meant wiring [] parts in
    takes_above (opened_size wiring done last + (1 + case_size wiring done words))
    (case_own_size done kind token)
is_too_large wiring unfinished kind token = false

-- 24: an IF in a definition with max_open_ifs open IFs
abbrev pub is_too_deep : Unfinished → Kind → Bool
is_too_deep (Within parts last) If = not (nat_lt (length last.open_ifs) max_open_ifs)
is_too_deep unfinished kind = false

-- 25, in a body: an output word of the other half
abbrev pub is_of_the_other_half : Wiring → Option (List Defined) → Kind → Bool
is_of_the_other_half wiring (Some done) (Output output) =
    not (is_same_half output.half wiring.half)
is_of_the_other_half wiring body kind = false

-- 26, in a body: a literal above 65,535
abbrev pub is_above_the_range : Option (List Defined) → Kind → Bool
is_above_the_range (Some done) (Digits None) = true
is_above_the_range body kind = false

-- 28: a `:` that begins one definition too many
abbrev pub is_one_too_many : Unfinished → Kind → Bool
is_one_too_many (Whole parts) Colon = not (nat_lt (length parts) max_definitions)
is_one_too_many unfinished kind = false

-- faults by number, and whether a token has them
abbrev pub Faults : Type 0
Faults = List (ℕ × Bool)

-- the faults that are tried after 22 and before 23
abbrev pub between : Wiring → Unfinished → Kind → Token → Faults
between wiring unfinished kind token =
    let body = before_body wiring unfinished in
    (unknown_word, is_unknown wiring body kind token)
    ∷ (too_many_ifs, is_too_deep unfinished kind)
    ∷ (wrong_output, is_of_the_other_half wiring body kind)
    ∷ (literal_range, is_above_the_range body kind)
    ∷ (too_long, is_one_too_many unfinished kind)
    ∷ []

-- the first of these faults that a token has, or else what comes next
abbrev pub first_of : Faults → Option ℕ → Option ℕ
first_of [] next = next
first_of ((number, has) ∷ later) next = if has then Some number else first_of later next

-- 21 is tried first, then 22, and 23 after all others
abbrev pub first_fault : Wiring → Unfinished → Kind → Token → Option ℕ
first_fault wiring unfinished kind token =
    first_of ((not_definable, is_not_definable wiring unfinished kind token)
    ∷ (out_of_place, is_out_of_place unfinished kind) ∷ [])
    (first_of (between wiring unfinished kind token)
    (first_of ((too_large, is_too_large wiring unfinished kind token) ∷ []) None))

-- whether a token has none of these faults
abbrev pub has_none : Faults → Bool
has_none [] = true
has_none ((number, has) ∷ later) = not has && has_none later

-- or at most one
abbrev pub has_at_most_one : Faults → Bool
has_at_most_one [] = true
has_at_most_one ((number, has) ∷ later) =
    if has then has_none later else has_at_most_one later
