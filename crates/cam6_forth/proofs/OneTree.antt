-- What spells a tree is read as that tree.
use Rattle.std.proofs.Common.{◌≡◌, List, [], ◌∷◌, ◌++◌, refl, sym, ap, ◌∙◌}
use Rattle.std.proofs.Common.{append_assoc, append-nil, codes, None, Some}
use Rattle.std.specs.Result.{IsOk}
use Rattle.cam6_wiring.specs.declared.wirings.Wiring.{Wiring}
use Rattle.cam6_forth.specs.declared.kinds.Kind.{Kind}
use Rattle.cam6_forth.specs.declared.kinds.Kind.TheVariants as kind
use Rattle.cam6_forth.specs.Tokens.{Token}
use Rattle.cam6_forth.specs.Kinds.{kind_of}
use Rattle.cam6_forth.specs.Defined.{Defined}
use Rattle.cam6_forth.specs.SingleWords.{word_of}
use Rattle.cam6_forth.specs.Tree.{Body, End, Says, Choice, Either, Cases, Part, spell_body}
use Rattle.cam6_forth.specs.Tree.{spell, IsKnown, AreWords, AreDefinitions, defined}
use Rattle.cam6_forth.specs.Laws.{HasOneTree, TreeIsRead}
use Rattle.cam6_forth.specs.Unfinished.{OpenIf, Unfinished, Whole, Within, Braced}
use Rattle.cam6_forth.specs.Trees.{join, longer, written_on, parts_of, tree_of}
use Rattle.cam6_forth.proofs.Steps.{kind-if, kind-else, kind-then, kind-open_brace}
use Rattle.cam6_forth.proofs.Steps.{kind-close_brace, kind-semicolon}

abbrev after : List Part → Token → List OpenIf → Body → Unfinished
after parts name open_ifs said =
    Within parts (record { name = name; open_ifs = open_ifs; said = said })

abbrev braces : List Part → Token → List OpenIf → Body → List Token → Unfinished
braces parts name open_ifs said words =
    Braced parts (record { name = name; open_ifs = open_ifs; said = said }) words

join-end : (a : Body) → join a End ≡ a
join-end End = refl
join-end (Says token rest) = ap (Says token) (join-end rest)
join-end (Choice on rest) = ap (Choice on) (join-end rest)
join-end (Either on off rest) = ap (Either on off) (join-end rest)
join-end (Cases words rest) = ap (Cases words) (join-end rest)

join-assoc : (a b c : Body) → join (join a b) c ≡ join a (join b c)
join-assoc End b c = refl
join-assoc (Says token rest) b c = ap (Says token) (join-assoc rest b c)
join-assoc (Choice on rest) b c = ap (Choice on) (join-assoc rest b c)
join-assoc (Either on off rest) b c = ap (Either on off) (join-assoc rest b c)
join-assoc (Cases words rest) b c = ap (Cases words) (join-assoc rest b c)

written-append : (u : Unfinished) (xs ys : List Token) →
    written_on u (xs ++ ys) ≡ written_on (written_on u xs) ys
written-append u [] ys = refl
written-append u (x ∷ xs) ys = written-append (longer u (kind_of x) x) xs ys

module _ (wiring : Wiring) (known : List Defined) (parts : List Part) (name : Token) where
  -- a single word
  one_word : (k : Kind) (token : Token) (open_ifs : List OpenIf) (said : Body) →
      IsOk (word_of wiring known k token) →
      longer (after parts name open_ifs said) k token
      ≡ after parts name open_ifs (join said (Says token End))
  one_word kind.Colon token open_ifs said ok = cc
  one_word kind.Semicolon token open_ifs said ok = cc ok
  one_word kind.Open token open_ifs said ok = cc
  one_word kind.Close token open_ifs said ok = cc
  one_word kind.OpenBrace token open_ifs said ok = cc ok
  one_word kind.CloseBrace token open_ifs said ok = cc
  one_word kind.If token open_ifs said ok = cc ok
  one_word kind.Else token open_ifs said ok = cc ok
  one_word kind.Then token open_ifs said ok = cc ok
  one_word _ token open_ifs said ok = refl

  -- a word between braces
  one_case : (k : Kind) (token : Token) (open_ifs : List OpenIf) (said : Body)
      (words : List Token) → IsOk (word_of wiring known k token) →
      longer (braces parts name open_ifs said words) k token
      ≡ braces parts name open_ifs said (words ++ token ∷ [])
  one_case kind.CloseBrace token open_ifs said words ok = cc ok
  one_case _ token open_ifs said words ok = refl

  cases : (tokens words : List Token) (open_ifs : List OpenIf) (said : Body) →
      AreWords wiring known tokens →
      written_on (braces parts name open_ifs said words) tokens
      ≡ braces parts name open_ifs said (words ++ tokens)
  cases [] words open_ifs said are =
      ap (braces parts name open_ifs said) (sym (append-nil words))
  cases (token ∷ tokens) words open_ifs said are =
      ap (λ u. written_on u tokens) (one_case (kind_of token) token open_ifs said words are.0) ∙
      cases tokens (words ++ token ∷ []) open_ifs said are.1 ∙
      ap (braces parts name open_ifs said) (append_assoc words (token ∷ []) tokens)

  -- the items of a body
  body : (b : Body) (open_ifs : List OpenIf) (said : Body) → IsKnown wiring known b →
      written_on (after parts name open_ifs said) (spell_body b)
      ≡ after parts name open_ifs (join said b)
  body End open_ifs said ok = ap (after parts name open_ifs) (sym (join-end said))
  body (Says token rest) open_ifs said ok =
      ap (λ u. written_on u (spell_body rest))
      (one_word (kind_of token) token open_ifs said ok.0) ∙
      body rest open_ifs (join said (Says token End)) ok.1 ∙
      ap (after parts name open_ifs) (join-assoc said (Says token End) rest)
  body (Choice on rest) open_ifs said ok =
      let inner : OpenIf = record { before = said; first = None } in
      let from_then = codes "THEN" ∷ spell_body rest in
      ap (λ k. written_on (longer (after parts name open_ifs said) k (codes "IF"))
      (spell_body on ++ from_then)) kind-if ∙
      written-append (after parts name (inner ∷ open_ifs) End) (spell_body on) from_then ∙
      ap (λ u. written_on u from_then) (body on (inner ∷ open_ifs) End ok.0) ∙
      ap (λ k. written_on (longer (after parts name (inner ∷ open_ifs) on) k (codes "THEN"))
      (spell_body rest)) kind-then ∙
      body rest open_ifs (join said (Choice on End)) ok.1 ∙
      ap (after parts name open_ifs) (join-assoc said (Choice on End) rest)
  body (Either on off rest) open_ifs said ok =
      let inner : OpenIf = record { before = said; first = None } in
      let halved : OpenIf = record { before = said; first = Some on } in
      let from_then = codes "THEN" ∷ spell_body rest in
      let from_else = codes "ELSE" ∷ (spell_body off ++ from_then) in
      ap (λ k. written_on (longer (after parts name open_ifs said) k (codes "IF"))
      (spell_body on ++ from_else)) kind-if ∙
      written-append (after parts name (inner ∷ open_ifs) End) (spell_body on) from_else ∙
      ap (λ u. written_on u from_else) (body on (inner ∷ open_ifs) End ok.0) ∙
      ap (λ k. written_on (longer (after parts name (inner ∷ open_ifs) on) k (codes "ELSE"))
      (spell_body off ++ from_then)) kind-else ∙
      written-append (after parts name (halved ∷ open_ifs) End) (spell_body off) from_then ∙
      ap (λ u. written_on u from_then) (body off (halved ∷ open_ifs) End ok.1) ∙
      ap (λ k. written_on (longer (after parts name (halved ∷ open_ifs) off) k (codes "THEN"))
      (spell_body rest)) kind-then ∙
      body rest open_ifs (join said (Either on off End)) ok.2 ∙
      ap (after parts name open_ifs) (join-assoc said (Either on off End) rest)
  body (Cases words rest) open_ifs said ok =
      let from_close = codes "}" ∷ spell_body rest in
      ap (λ k. written_on (longer (after parts name open_ifs said) k (codes "{"))
      (words ++ from_close)) kind-open_brace ∙
      written-append (braces parts name open_ifs said []) words from_close ∙
      ap (λ u. written_on u from_close) (cases words [] open_ifs said ok.0) ∙
      ap (λ k. written_on (longer (braces parts name open_ifs said words) k (codes "}"))
      (spell_body rest)) kind-close_brace ∙
      body rest open_ifs (join said (Cases words End)) ok.1 ∙
      ap (after parts name open_ifs) (join-assoc said (Cases words End) rest)

-- definitions after others
all_parts : (wiring : Wiring) (known : List Defined) (before parts : List Part) →
    AreDefinitions wiring known parts →
    written_on (Whole before) (spell parts) ≡ Whole (before ++ parts)
all_parts wiring known before [] each = ap Whole (sym (append-nil before))
all_parts wiring known before (part ∷ parts) each =
    let later = codes ";" ∷ spell parts in
    written-append (after before part.name [] End) (spell_body part.body) later ∙
    ap (λ u. written_on u later)
    (body wiring known before part.name part.body [] End each.0.known) ∙
    ap (λ k. written_on (longer (after before part.name [] part.body) k (codes ";"))
    (spell parts)) kind-semicolon ∙
    all_parts wiring (known ++ defined wiring known part ∷ []) (before ++ part ∷ []) parts
    each.1 ∙
    ap Whole (append_assoc before (part ∷ []) parts)

-- the tree of a text is read from it
pub tree_is_read : TreeIsRead
unfolding tree_of
tree_is_read wiring parts text is =
    ap (λ ts. parts_of (written_on (Whole []) ts)) is.all.spelled ∙
    ap parts_of (all_parts wiring [] [] parts is.all.rule.each)

-- trees that are spelled alike are one
pub one_tree : HasOneTree
one_tree wiring first second one other e =
    sym (ap parts_of (all_parts wiring [] [] first one.each)) ∙
    ap (λ ts. parts_of (written_on (Whole []) ts)) e ∙
    ap parts_of (all_parts wiring [] [] second other.each)
