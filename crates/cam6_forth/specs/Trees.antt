-- The tree of a text, read token by token: a plain reader, right for texts that are rules.
use Rattle.std.specs.Prelude.{ℕ, List, [], ◌∷◌, ◌++◌, Option, Some, None}
use Rattle.cam6_forth.specs.declared.kinds.Kind.{Kind}
use Rattle.cam6_forth.specs.declared.kinds.Kind.TheVariants as kind
use Rattle.cam6_forth.specs.Tokens.{Token, tokens}
use Rattle.cam6_forth.specs.Kinds.{kind_of}
use Rattle.cam6_forth.specs.Comments.{uncommented, Plain}
use Rattle.cam6_forth.specs.Tree.{Body, End, Says, Choice, Either, Cases, Part}
use Rattle.cam6_forth.specs.Unfinished.{OpenIf, Opened, Unfinished, Whole, Unnamed, Within, Braced}

-- the items of one body, and then those of another
abbrev pub join : Body → Body → Body
join End last = last
join (Says token rest) last = Says token (join rest last)
join (Choice on rest) last = Choice on (join rest last)
join (Either on off rest) last = Either on off (join rest last)
join (Cases words rest) last = Cases words (join rest last)

-- an opened definition with one more item
abbrev pub with_item : Opened → Body → Opened
with_item last item = record last { said = join last.said item }

-- an IF with its first body, if its ELSE has come, and the body that was said since
abbrev pub whole_if : Option Body → Body → Body
whole_if None said = Choice said End
whole_if (Some first) said = Either first said End

-- one more token in a body
abbrev pub longer_body : List Part → Opened → List OpenIf → Kind → Token → Unfinished
longer_body parts last open_ifs kind.Semicolon token =
    Whole (parts ++ record { name = last.name; body = last.said } ∷ [])
longer_body parts last open_ifs kind.If token =
    Within parts (record last {
      open_ifs = record { before = last.said; first = None } ∷ open_ifs;
      said = End;
    })
longer_body parts last (inner ∷ outer) kind.Else token =
    Within parts (record last {
      open_ifs = record inner { first = Some last.said } ∷ outer;
      said = End;
    })
longer_body parts last (inner ∷ outer) kind.Then token =
    Within parts (record last {
      open_ifs = outer;
      said = join inner.before (whole_if inner.first last.said);
    })
longer_body parts last open_ifs kind.OpenBrace token = Braced parts last []
longer_body parts last open_ifs _ token = Within parts (with_item last (Says token End))

-- one more token
abbrev pub longer : Unfinished → Kind → Token → Unfinished
longer (Whole parts) kind token = Unnamed parts
longer (Unnamed parts) kind token =
    Within parts (record { name = token; open_ifs = []; said = End })
longer (Within parts last) kind token = longer_body parts last last.open_ifs kind token
longer (Braced parts last words) kind.CloseBrace token =
    Within parts (with_item last (Cases words End))
longer (Braced parts last words) _ token = Braced parts last (words ++ token ∷ [])

-- all tokens
abbrev pub written_on : Unfinished → List Token → Unfinished
written_on unfinished [] = unfinished
written_on unfinished (token ∷ later) =
    written_on (longer unfinished (kind_of token) token) later

abbrev pub parts_of : Unfinished → List Part
parts_of (Whole parts) = parts
parts_of (Unnamed parts) = []
parts_of (Within parts last) = []
parts_of (Braced parts last words) = []

-- the tree of a text
unfoldable pub tree_of : List ℕ → List Part
tree_of text = parts_of (written_on (Whole []) (uncommented Plain (tokens text)))
