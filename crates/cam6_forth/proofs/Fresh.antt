-- There is always a name that isn't taken.
use Rattle.std.proofs.Common.{◌≡◌, ◌<◌, ◌+◌, ℕ, Bool, true, false, List, [], ◌∷◌, ◌++◌}
use Rattle.std.proofs.Common.{length, refl, ap, arith, Some, None, cond, length-append}
use Rattle.std.specs.Str.{bytes_eq}
use Rattle.std.proofs.lemmas.Slice.Eq.{bytes_eq-Decides}
use Rattle.cam6_forth.specs.declared.kinds.Kind.TheVariants as kind
use Rattle.cam6_forth.specs.Tokens.{Token}
use Rattle.cam6_forth.specs.Spellings.{stack_word, output_word, neighbour_name, plain_name}
use Rattle.cam6_forth.specs.Spellings.{primed_name, block_name, added_name, minor_name}
use Rattle.cam6_forth.specs.Kinds.{kind_of, mark}
use Rattle.cam6_forth.specs.Defined.{Defined}
use Rattle.cam6_forth.specs.SingleWords.{definition_at, position_from}

-- the bytes of all names
abbrev pub all_names : List Defined → List ℕ
all_names [] = []
all_names (definition ∷ later) = definition.name ++ all_names later

-- a name that is longer than all of them
abbrev pub fresh_name : List Defined → Token
fresh_name done = 122 ∷ all_names done

-- no reserved token begins with `z`
pub fresh-other : (bytes : List ℕ) → kind_of (122 ∷ bytes) ≡ kind.Other
unfolding kind_of mark stack_word output_word neighbour_name plain_name primed_name block_name
    added_name minor_name
fresh-other bytes = refl

-- a longer token is no name of theirs
pub longer-is-none : (token : Token) (done : List Defined) (position : ℕ) →
    length (all_names done) < length token → position_from position token done ≡ None
longer-is-none token [] position longer = refl
longer-is-none token (definition ∷ later) position longer =
    let lengths = length-append definition.name (all_names later) in
    by_test (bytes_eq definition.name token) (bytes_eq-Decides definition.name token).0
    (longer-is-none token later (position + 1) (omega arith))
  where
    by_test : (same : Bool) → (same ≡ true → definition.name ≡ token) →
        position_from (position + 1) token later ≡ None →
        cond same (Some (position, definition.size)) (position_from (position + 1) token later) ≡ None
    by_test true is none =
        (let equal : length definition.name ≡ length token = ap length (is refl) in
        let lengths = length-append definition.name (all_names later) in
        absurd (omega arith))
    by_test false is none = none

pub fresh-free : (done : List Defined) → definition_at (fresh_name done) done ≡ None
fresh-free done = longer-is-none (fresh_name done) done 0 (omega arith)
