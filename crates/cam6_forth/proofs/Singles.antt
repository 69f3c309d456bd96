-- What a known token says by itself.
use Rattle.std.proofs.Common.{◌≡◌, ℕ, ◌+◌, Bool, true, false, List, [], ◌∷◌, ◌++◌, length, ◌∙◌, max}
use Rattle.std.proofs.Common.{refl, ap, subst, arith, Option, Some, None, Result, Ok, Err, cond}
use Rattle.std.specs.Option.{is_some}
use Rattle.std.proofs.lemmas.Option.{same_Some}
use Rattle.std.specs.Str.{bytes_eq}
use Rattle.std.proofs.lemmas.Slice.Eq.{bytes_eq-Decides}
use Rattle.cam6_wiring.specs.declared.names.Half.{Half}
use Rattle.cam6_wiring.specs.declared.names.Half.TheVariants.{A, B}
use Rattle.cam6_wiring.specs.declared.wirings.Wiring.{Wiring}
use Rattle.cam6_wiring.specs.declared.names.Name.{Name}
use Rattle.cam6_wiring.specs.Wiring.{line_of}
use Rattle.cam6_forth.specs.declared.words.SingleWord.{SingleWord}
use Rattle.cam6_forth.specs.declared.words.SingleWord.TheVariants as single
use Rattle.cam6_forth.specs.declared.words.Output.{Output}
use Rattle.cam6_forth.specs.declared.kinds.Kind.{Kind}
use Rattle.cam6_forth.specs.declared.kinds.Kind.TheVariants as kind
use Rattle.cam6_forth.specs.Tokens.{Token}
use Rattle.cam6_forth.specs.Kinds.{kind_of}
use Rattle.cam6_forth.specs.Limits.{wrong_output, unknown_word}
use Rattle.cam6_forth.specs.Defined.{Defined}
use Rattle.cam6_wiring.specs.Name.{is_same_half}
use Rattle.cam6_forth.specs.SingleWords.{position_from, definition_at}
use Rattle.cam6_forth.specs.SingleWords.{literal_word, defined_word, word_of, IsSingle}
use Rattle.cam6_forth.specs.Laws.{KnownIsSingle}
use Rattle.cam6_forth.specs.Spellings.{output_word, neighbour_name}
use Rattle.cam6_forth.proofs.Marks.{IsOfKind, of_kind}

abbrev Said : Type 0
Said = Result (SingleWord × ℕ) ℕ

abbrev some_word : SingleWord → Said
some_word said = Ok (said, 1)

-- a position that is found from a start on, with the size there: it is the first of the name
abbrev IsPlaced : ℕ → Token → List Defined → ℕ → ℕ → Type 0
IsPlaced start name done position size =
    (before : List Defined) × (definition : Defined) × (later : List Defined)
    × (done ≡ before ++ definition ∷ later) × (position ≡ start + length before)
    × (definition.name ≡ name) × ((from : ℕ) → position_from from name before ≡ None)
    × (size ≡ definition.size)

placed_first : (start : ℕ) (name : Token) (definition : Defined) (later : List Defined) (b : Bool)
    (position size : ℕ) → bytes_eq definition.name name ≡ b →
    cond b (Some (start, definition.size)) (position_from (start + 1) name later)
    ≡ Some (position, size) →
    (position_from (start + 1) name later ≡ Some (position, size) →
    IsPlaced (start + 1) name later position size) →
    IsPlaced start name (definition ∷ later) position size
placed_first start name definition later true position size named found rest =
    let same = same_Some (start, definition.size) (position, size) found in
    let at : start ≡ position = ap (λ p. p.0) same in
    let is : definition.size ≡ size = ap (λ p. p.1) same in (
      [],
      definition,
      later,
      refl,
      omega (arith, at),
      (bytes_eq-Decides definition.name name).0 named,
      λ from. refl,
      omega (arith, is),
    )
placed_first start name definition later false position size named found rest =
    let (before, here, after, split, at, is_named, none, is) = rest found in (
      definition ∷ before,
      here,
      after,
      ap (λ l. definition ∷ l) split,
      omega (arith, at),
      is_named,
      λ from.
          ap (λ b. cond b (Some (from, definition.size)) (position_from (from + 1) name before))
          named ∙ none (from + 1),
      is,
    )

placed : (start : ℕ) (name : Token) (done : List Defined) (position size : ℕ) →
    position_from start name done ≡ Some (position, size) → IsPlaced start name done position size
placed start name [] position size found = cc
placed start name (definition ∷ later) position size found =
    placed_first start name definition later (bytes_eq definition.name name) position size refl found
    (λ f. placed (start + 1) name later position size f)

same_half : (first second : Half) → is_same_half first second ≡ true → first ≡ second
same_half A A same = refl
same_half A B same = cc same
same_half B A same = cc same
same_half B B same = refl

module _ (wiring : Wiring) (done : List Defined) (token : Token) where
  abbrev Holds : Said → Type 0
  Holds (Ok (said, size)) = IsSingle wiring done token said size
  Holds (Err number) = Unit {0}

  single_literal : (o : Option ℕ) → IsOfKind token (kind.Digits o) → Holds (literal_word o)
  single_literal None of_digits = tt
  single_literal (Some value) of_digits = (of_digits.0, of_digits.1, refl)

  single_name : (name : Name) (o : Option ℕ) → neighbour_name token ≡ Some name →
      line_of wiring.hood wiring.minor name ≡ o →
      Holds (cond (is_some o) (some_word (single.Name name)) (Err unknown_word))
  single_name name None named e = tt
  single_name name (Some line) named e = (named, (line, e), refl)

  single_output : (output : Output) (b : Bool) → output_word token ≡ Some output →
      is_same_half output.half wiring.half ≡ b →
      Holds (cond b (some_word (single.Output output.target)) (Err wrong_output))
  single_output output false spelled same = tt
  single_output output true spelled same = (
    spelled ∙
        ap (λ half. Some (record { half = half; target = output.target }))
        (same_half output.half wiring.half same),
    refl,
  )

  single_defined : (o : Option (ℕ × ℕ)) → definition_at token done ≡ o → Holds (defined_word o)
  single_defined None e = tt
  single_defined (Some (position, size)) e =
      let (before, definition, later, split, at, named, none, is) =
      placed 0 token done position size e in
      (before, definition, later, split, omega (arith, at), named, none 0, ap (λ n. max n 1) is)

  single_word : (k : Kind) → IsOfKind token k → Holds (word_of wiring done k token)
  single_word (kind.Digits value) is = single_literal value is
  single_word (kind.Stack stack) is = (is, refl)
  single_word (kind.Output output) is =
      single_output output (is_same_half output.half wiring.half) is refl
  single_word (kind.Name name) is =
      single_name name (line_of wiring.hood wiring.minor name) is refl
  single_word kind.Other is = single_defined (definition_at token done) refl
  single_word _ is = tt

-- a known token says a single word
pub known_is_single : KnownIsSingle
known_is_single wiring done token said size is =
    subst (Holds wiring done token) is
    (single_word wiring done token (kind_of token) (of_kind token))
