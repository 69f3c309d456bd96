-- Items after items, and definitions after definitions.
use Rattle.std.proofs.Common.{◌≡◌, ◌+◌, List, [], ◌∷◌, ◌++◌, refl, sym, ap, append_assoc}
use Rattle.std.proofs.Common.{append-nil, arith, max}
use Rattle.cam6_wiring.specs.declared.wirings.Wiring.{Wiring}
use Rattle.cam6_forth.specs.Tokens.{Token}
use Rattle.cam6_forth.specs.Defined.{Defined}
use Rattle.cam6_forth.specs.Tree.{Body, End, Says, Choice, Either, Cases, Part}
use Rattle.cam6_forth.specs.Tree.{spell_body, spell, words_of, size_of, depth_of, IsKnown}
use Rattle.cam6_forth.specs.Tree.{AreWords, case_words, case_size, defined, IsDefinition}
use Rattle.cam6_forth.specs.Tree.{AreDefinitions, meant, word_at, words_in, size_in}
use Rattle.cam6_forth.specs.Trees.{join}

-- the spelling of both
pub spell_body-join : (a b : Body) → spell_body (join a b) ≡ spell_body a ++ spell_body b
spell_body-join End b = refl
spell_body-join (Says t rest) b = ap (λ x. t ∷ x) (spell_body-join rest b)
spell_body-join (Choice on rest) b = rw (spell_body-join rest b) (simp append_assoc)
spell_body-join (Either on off rest) b = rw (spell_body-join rest b) (simp append_assoc)
spell_body-join (Cases ws rest) b = rw (spell_body-join rest b) (simp append_assoc)

-- how deep the deeper one is
pub depth_of-join : (a b : Body) → depth_of (join a b) ≡ max (depth_of a) (depth_of b)
depth_of-join End b = omega arith
depth_of-join (Says t rest) b = depth_of-join rest b
depth_of-join (Choice on rest) b = rw (depth_of-join rest b) (omega arith)
depth_of-join (Either on off rest) b = rw (depth_of-join rest b) (omega arith)
depth_of-join (Cases ws rest) b = depth_of-join rest b

module _ (w : Wiring) (done : List Defined) where
  -- the words of both
  pub words_of-join : (a b : Body) →
      words_of w done (join a b) ≡ words_of w done a ++ words_of w done b
  words_of-join End b = refl
  words_of-join (Says t rest) b =
      rw (words_of-join rest b) (sym (append_assoc (words_in (word_at w done t)) _ _))
  words_of-join (Choice on rest) b = rw (words_of-join rest b) (simp append_assoc)
  words_of-join (Either on off rest) b = rw (words_of-join rest b) (simp append_assoc)
  words_of-join (Cases ws rest) b = rw (words_of-join rest b) (simp append_assoc)

  -- the size of both
  pub size_of-join : (a b : Body) →
      size_of w done (join a b) ≡ size_of w done a + size_of w done b
  size_of-join End b = omega arith
  size_of-join (Says t rest) b = rw (size_of-join rest b) (omega arith)
  size_of-join (Choice on rest) b = rw (size_of-join rest b) (omega arith)
  size_of-join (Either on off rest) b = rw (size_of-join rest b) (omega arith)
  size_of-join (Cases ws rest) b = rw (size_of-join rest b) (omega arith)

  -- known words of both
  pub known-join : (a b : Body) → IsKnown w done a → IsKnown w done b → IsKnown w done (join a b)
  known-join End b known last = last
  known-join (Says t rest) b known last = (known.0, known-join rest b known.1 last)
  known-join (Choice on rest) b known last = (known.0, known-join rest b known.1 last)
  known-join (Either on off rest) b known last =
      (known.0, known.1, known-join rest b known.2 last)
  known-join (Cases ws rest) b known last = (known.0, known-join rest b known.1 last)

  -- words between braces, and one more
  pub case_words-more : (ws : List Token) (t : Token) →
      case_words w done (ws ++ t ∷ []) ≡ case_words w done ws ++ words_in (word_at w done t)
  case_words-more [] t = append-nil (words_in (word_at w done t))
  case_words-more (first ∷ ws) t =
      rw (case_words-more ws t) (sym (append_assoc (words_in (word_at w done first)) _ _))

  pub case_size-more : (ws : List Token) (t : Token) →
      case_size w done (ws ++ t ∷ []) ≡ case_size w done ws + (size_in (word_at w done t) + 1)
  case_size-more [] t = omega arith
  case_size-more (first ∷ ws) t = rw (case_size-more ws t) (omega arith)

  pub words-more : (ws : List Token) (t : Token) → AreWords w done ws → AreWords w done (t ∷ []) →
      AreWords w done (ws ++ t ∷ [])
  words-more [] t known last = last
  words-more (first ∷ ws) t known last = (known.0, words-more ws t known.1 last)

-- the spelling of definitions, and of one more
pub spell-more : (parts : List Part) (part : Part) →
    spell (parts ++ part ∷ []) ≡ spell parts ++ spell (part ∷ [])
spell-more [] part = refl
spell-more (first ∷ parts) part = rw (spell-more parts part) (simp append_assoc)

-- definitions, and one more that may follow them
pub meant-more : (w : Wiring) (parts : List Part) (part : Part) (done : List Defined) →
    meant w done (parts ++ part ∷ [])
    ≡ meant w done parts ++ defined w (meant w done parts) part ∷ []
meant-more w [] part done = refl
meant-more w (first ∷ parts) part done = meant-more w parts part (done ++ defined w done first ∷ [])

pub definitions-more : (w : Wiring) (parts : List Part) (part : Part) (done : List Defined) →
    AreDefinitions w done parts → IsDefinition w (meant w done parts) part →
    AreDefinitions w done (parts ++ part ∷ [])
definitions-more w [] part done each last = (last, tt)
definitions-more w (first ∷ parts) part done each last =
    (each.0, definitions-more w parts part (done ++ defined w done first ∷ []) each.1 last)
