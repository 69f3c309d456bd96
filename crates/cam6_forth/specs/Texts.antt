-- Which text is which rule.
use Rattle.std.specs.Prelude.{◌≡◌, ℕ, ◌≤◌, ◌++◌, List, length, false}
use Rattle.cam6_wiring.specs.declared.wirings.Wiring.{Wiring}
use Rattle.cam6_forth.specs.Tokens.{Token, tokens}
use Rattle.cam6_forth.specs.Comments.{uncommented, mode_after, is_comment, Plain}
use Rattle.cam6_forth.specs.Limits.{max_text}
use Rattle.cam6_forth.specs.Tree.{Part, spell, IsRule}

-- tokens that spell a rule, their comments left out
pub record AreTokensOf (wiring : Wiring) (parts : List Part) (all : List Token) : Type 0 where
  pub spelled : uncommented Plain all ≡ spell parts
  pub closed : is_comment (mode_after Plain all) ≡ false
  pub rule : IsRule wiring parts

-- a text that is a rule
pub record IsTextOf (wiring : Wiring) (parts : List Part) (text : List ℕ) : Type 0 where
  pub short : length text ≤ max_text
  pub all : AreTokensOf wiring parts (tokens text)

-- tokens that begin the tokens of a rule
abbrev pub Begins : Wiring → List Token → Type 0
Begins wiring first =
    (later : List Token) × (parts : List Part) × AreTokensOf wiring parts (first ++ later)
