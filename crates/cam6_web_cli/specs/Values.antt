-- What the word at an option says.
use Rattle.std.specs.Prelude.{List, [], ◌∷◌, Option, Some, None}
use Rattle.std.specs.Net.Grammar.{IsSocketText}
use Rattle.std.specs.declared.net.socket_addr.SocketAddr.{SocketAddr}
use Rattle.clap.specs.Words.{Text}
use Rattle.cam6_planes.specs.Side.{side_named}
use Rattle.cam6_planes.specs.declared.sides.Side.{Side}
use Rattle.cam6_planes.specs.declared.sides.Side.TheVariants.{S512}

-- the side that is said, or else 512
abbrev pub side_by : Option Text → Option Side
side_by None = Some S512
side_by (Some word) = side_named word

-- each word writes the address in its place
abbrev pub AreAddresses : List Text → List SocketAddr → Type 0
AreAddresses [] [] = Unit {0}
AreAddresses [] (address ∷ addresses) = ⊥
AreAddresses (word ∷ words) [] = ⊥
AreAddresses (word ∷ words) (address ∷ addresses) =
    IsSocketText word address × AreAddresses words addresses
