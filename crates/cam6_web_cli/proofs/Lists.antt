-- Words are read one after another.
use Rattle.std.proofs.Common.{◌≡◌, ◌≤◌, ◌-◌, ◌++◌, ◌∷◌, [], List, sym, subst}
use Rattle.std.proofs.Common.{append-nil, append_assoc, arith, drop, get_or, length, take, take_all}
use Rattle.std.specs.Net.Grammar.{IsSocketText}
use Rattle.std.specs.declared.net.socket_addr.SocketAddr.{SocketAddr}
use Rattle.std.specs.Borrow.{Bor}
use Rattle.clap.specs.Walk.{Text, texts}
use Rattle.cam6_web_cli.specs.Values.{AreAddresses}

-- of these words all but a rest have been read as addresses
pub record AreRead (words rest : List Text) (addresses : List SocketAddr) : Type 0 where
  pub all : (more : List SocketAddr) → AreAddresses rest more
      → AreAddresses words (addresses ++ more)
  pub rest_is : (all : List SocketAddr) → AreAddresses words all
      → (more : List SocketAddr) × AreAddresses rest more

pub none_are_read : (words : List Text) → AreRead words words []
none_are_read words = record { all = λ more are. are; rest_is = λ all are. (all, are) }

-- the addresses after the first one
later_addresses : (first : Text) (later : List Text) (more : List SocketAddr)
    → AreAddresses (first ∷ later) more → (others : List SocketAddr) × AreAddresses later others
later_addresses first later [] are = absurd are
later_addresses first later (address ∷ others) are = (others, are.1)

pub one_more_is_read : (words : List Text) (first : Text) (later : List Text)
    (addresses : List SocketAddr) (address : SocketAddr) → IsSocketText first address
    → AreRead words (first ∷ later) addresses → AreRead words later (addresses ++ address ∷ [])
one_more_is_read words first later addresses address is so = record {
  all = λ more are. subst (λ l. AreAddresses words l) (sym (append_assoc addresses (address ∷ []) more))
      (so.all (address ∷ more) (is, are));
  rest_is = λ all are.
      let more = so.rest_is all are in later_addresses first later more.0 more.1;
}

-- the words after the first one, as the code has them
later_words : (first : Bor Text) (later : List (Bor Text))
    → later ≡ take (length (first ∷ later) - 1) (drop 1 (first ∷ later))
later_words first later = sym (take_all (length (first ∷ later) - 1) later (omega arith))

-- one more word is read as an address
pub reads_on : (words : List Text) (rest : List (Bor Text)) (d : Bor Text)
    (addresses new : List SocketAddr) (address : SocketAddr) → 1 ≤ length rest
    → IsSocketText (get_or rest 0 d).now address → new ≡ addresses ++ address ∷ []
    → AreRead words (texts rest) addresses
    → AreRead words (texts (take (length rest - 1) (drop 1 rest))) new
reads_on words [] d addresses new address some is more so = absurd (omega arith)
reads_on words (first ∷ later) d addresses new address some is more so =
    rw more
    (subst (λ l. AreRead words (texts l) (addresses ++ address ∷ [])) (later_words first later)
    (one_more_is_read words first.now (texts later) addresses address is so))

-- all words are read
pub all_are_read : (words : List Text) (rest : List (Bor Text)) (addresses : List SocketAddr)
    → length rest ≡ 0 → AreRead words (texts rest) addresses → AreAddresses words addresses
all_are_read words [] addresses none so =
    subst (λ l. AreAddresses words l) (append-nil addresses) (so.all [] tt)
all_are_read words (first ∷ later) addresses none so = absurd (omega arith)
