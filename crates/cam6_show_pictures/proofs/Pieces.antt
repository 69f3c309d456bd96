-- Pieces of bytes one after another, and fronts of them that were written.
use Rattle.std.proofs.Common.{◌≡◌, ◌≤◌, ◌<◌, ◌+◌, ℕ, zero, suc, List, [], ◌∷◌, ◌++◌, Option}
use Rattle.std.proofs.Common.{Result, Ok, Err, is_err, true, refl, sym, ap, ◌∙◌, append-nil, append_assoc, arith, subst}
use Rattle.std.proofs.KnownBytes.{Appends-trans, Appends-nil}
use Rattle.std.proofs.lemmas.Grind.{flat_map-append}
use Rattle.std.specs.Prelude.{flat_map}
use Rattle.std.specs.List.{range_with_len}
use Rattle.std.specs.Io.KnownBytes.{Appends}
use Rattle.cam6_show_frames.specs.declared.showing.Unshown.{Unshown}
use Rattle.cam6_writing.specs.Front.{WritesSome}
use Rattle.cam6_show_frames.specs.Front.{WritesFront}

-- numbers from a on, one more
numbers_more : (a n j : ℕ) → a + n ≡ j → range_with_len a (suc n) ≡ range_with_len a n ++ j ∷ []
numbers_more a zero j is = let same : a ≡ j = omega arith in ap (λ k. k ∷ []) same
numbers_more a (suc n) j is = ap (λ l. a ∷ l) (numbers_more (a + 1) n j (omega arith))

-- numbers from a on are a front of more of them
numbers_split : (a n m : ℕ) → m ≤ n
    → (rest : List ℕ) × (range_with_len a n ≡ range_with_len a m ++ rest)
numbers_split a n zero few = (range_with_len a n, refl)
numbers_split a zero (suc m) few = absurd (omega arith)
numbers_split a (suc n) (suc m) few =
    let rest = numbers_split (a + 1) n m (omega arith) in
    (rest.0, ap (λ l. a ∷ l) rest.1)

module _ (f : ℕ → List ℕ) where
  -- one piece more
  one_more : (n : ℕ)
      → flat_map f (range_with_len 0 (suc n)) ≡ flat_map f (range_with_len 0 n) ++ f n
  one_more n =
      ap (flat_map f) (numbers_more 0 n n (omega arith))
      ∙ flat_map-append f (range_with_len 0 n) (n ∷ [])
      ∙ ap (λ l. flat_map f (range_with_len 0 n) ++ l) (append-nil (f n))

  pub piece_more : (n : ℕ)
      → flat_map f (range_with_len 0 (n + 1)) ≡ flat_map f (range_with_len 0 n) ++ f n
  piece_more n =
      let on : n + 1 ≡ suc n = omega arith in
      ap (λ k. flat_map f (range_with_len 0 k)) on ∙ one_more n

  -- the first pieces are a front of more of them
  pub first_pieces : (n m : ℕ) → m ≤ n → (rest : List ℕ)
      × (flat_map f (range_with_len 0 n) ≡ flat_map f (range_with_len 0 m) ++ rest)
  first_pieces n m few =
      let rest = numbers_split 0 n m few in
      (flat_map f rest.0, ap (flat_map f) rest.1 ∙ flat_map-append f (range_with_len 0 m) rest.0)

-- a front of bytes is a front of more of them
pub some_of_more : (old new : Option (List ℕ)) (bytes more all : List ℕ) → all ≡ bytes ++ more
    → WritesSome old new bytes → WritesSome old new all
some_of_more old new bytes more all is some = (
  some.0,
  some.1 ++ more,
  is ∙ ap (λ l. l ++ more) some.2 ∙ append_assoc some.0 some.1 more,
  some.3,
)

-- all of some bytes, and then a front of others
pub some_after : (old now new : Option (List ℕ)) (bytes more all : List ℕ) → all ≡ bytes ++ more
    → Appends old now bytes → WritesSome now new more → WritesSome old new all
some_after old now new bytes more all is whole some = (
  bytes ++ some.0,
  some.1,
  is ∙ ap (λ l. bytes ++ l) some.2 ∙ sym (append_assoc bytes some.0 some.1),
  Appends-trans old now new bytes some.0 whole some.3,
)

-- all of them is a front
pub some_of_all : (old new : Option (List ℕ)) (bytes more all : List ℕ) → all ≡ bytes ++ more
    → Appends old new bytes → WritesSome old new all
some_of_all old new bytes more all is whole = (bytes, more, is, whole)

-- nothing was written
pub none_written : (old : Option (List ℕ)) (all : List ℕ) → WritesSome old old all
none_written old all = ([], all, refl, Appends-nil old)

-- after a fault a front is all that is known
pub front_at_fault : (result : Result (Unit {0}) Unshown) (old new : Option (List ℕ))
    (all : List ℕ) → is_err result ≡ true → WritesSome old new all
    → WritesFront result old new all
front_at_fault (Err fault) old new all failed some = some
front_at_fault (Ok done) old new all failed some = let never : ⊥ = cc in absurd never

-- the first pieces were written, and no more
pub some_pieces : (f : ℕ → List ℕ) (n m : ℕ) (old now : Option (List ℕ)) → m ≤ n
    → Appends old now (flat_map f (range_with_len 0 m))
    → WritesSome old now (flat_map f (range_with_len 0 n))
some_pieces f n m old now few before =
    let rest = first_pieces f n m few in
    some_of_all old now _ rest.0 _ rest.1 before

-- the first pieces were written, and a front of the next one
pub some_pieces_more : (f : ℕ → List ℕ) (n m : ℕ) (old now new : Option (List ℕ)) → m < n
    → (bytes : List ℕ) → bytes ≡ f m → Appends old now (flat_map f (range_with_len 0 m))
    → WritesSome now new bytes → WritesSome old new (flat_map f (range_with_len 0 n))
some_pieces_more f n m old now new few bytes is before more =
    let rest = first_pieces f n (m + 1) (omega arith) in
    let both = some_after old now new _ (f m) _ (piece_more f m) before
    (subst (WritesSome now new) is more) in
    some_of_more old new _ rest.0 _ rest.1 both

-- the first pieces were written, and the next one
pub pieces_more : (f : ℕ → List ℕ) (m : ℕ) (old now new : Option (List ℕ)) (bytes : List ℕ)
    → bytes ≡ f m → Appends old now (flat_map f (range_with_len 0 m)) → Appends now new bytes
    → Appends old new (flat_map f (range_with_len 0 (m + 1)))
pieces_more f m old now new bytes is before more =
    subst (Appends old new) (sym (piece_more f m))
    (Appends-trans old now new _ (f m) before (subst (Appends now new) is more))

-- bytes that were written, and then others, in whole or a front of them
pub front_after : (result : Result (Unit {0}) Unshown) (old now new : Option (List ℕ))
    (bytes more all : List ℕ) → all ≡ bytes ++ more → Appends old now bytes
    → WritesFront result now new more → WritesFront result old new all
front_after (Ok done) old now new bytes more all is whole rest =
    subst (Appends old new) (sym is) (Appends-trans old now new bytes more whole rest)
front_after (Err fault) old now new bytes more all is whole rest =
    some_after old now new bytes more all is whole rest
