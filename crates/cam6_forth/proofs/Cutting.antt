-- Tokens at the front of a text.
use Rattle.std.proofs.Common.{◌≡◌, ◌<◌, ◌≤◌, ◌+◌, ℕ, Bool, true, false, List, [], ◌∷◌}
use Rattle.std.proofs.Common.{◌++◌, take, drop, length, get_or, refl, sym, ap, ◌∙◌}
use Rattle.std.proofs.Common.{append_assoc, add-one, arith, drop-cons, suc, zero, cond}
use Rattle.std.proofs.Common.{append-nil, length-take, length-drop, get_or-drop, add-zero}
use Rattle.std.proofs.Math.Seq.{take-suc}
use Rattle.std.specs.List.{slice_split, filter, onto_first}
use Rattle.std.proofs.lemmas.List.Splits.{slice_split-cons_yes, slice_split-cons_no}
use Rattle.std.proofs.lemmas.Bool.{false≢true}
use Rattle.cam6_forth.specs.Tokens.{is_space, is_filled, tokens, with_front}

tokens-space : (b : ℕ) (bs : List ℕ) → is_space b ≡ true → tokens (b ∷ bs) ≡ tokens bs
tokens-space b bs space = ap (filter is_filled) (slice_split-cons_yes is_space b bs space)

-- a space before tokens makes no difference
pub tokens-skip : (text : List ℕ) (i : ℕ) → i < length text →
    is_space (get_or text i 0) ≡ true → tokens (drop (i + 1) text) ≡ tokens (drop i text)
tokens-skip text i within space =
    rw (add-one, drop-cons text i 0)
    (sym (tokens-space (get_or text i 0) (drop (suc i) text) space))

with_front-onto : (front : List ℕ) (b : ℕ) (parts : List (List ℕ)) →
    with_front front (onto_first b parts) ≡ with_front (front ++ b ∷ []) parts
with_front-onto front b [] = refl
with_front-onto front b (part ∷ parts) =
    ap (λ x. x ∷ parts) (sym (append_assoc front (b ∷ []) part))

-- a byte that isn't a space lengthens the front
pub parts-more : (text : List ℕ) (i : ℕ) → i < length text →
    is_space (get_or text i 0) ≡ false →
    with_front (take i text) (slice_split is_space (drop i text))
    ≡ with_front (take (i + 1) text) (slice_split is_space (drop (i + 1) text))
parts-more text i within filled =
    let b = get_or text i 0 in
    let rest = drop (suc i) text in
    rw (add-one, drop-cons text i 0, take-suc text i 0)
    (ap (with_front (take i text)) (slice_split-cons_no is_space b rest filled)
    ∙ with_front-onto (take i text) b (slice_split is_space rest))

-- an empty front
pub parts-none : (text : List ℕ) →
    slice_split is_space text ≡ with_front [] (slice_split is_space text)
parts-none [] = refl
parts-none (b ∷ bs) = by_first (slice_split is_space bs) (is_space b)
  where
    by_first : (parts : List (List ℕ)) (space : Bool) →
        cond space ([] ∷ parts) (onto_first b parts)
        ≡ with_front [] (cond space ([] ∷ parts) (onto_first b parts))
    by_first parts true = refl
    by_first [] false = refl
    by_first (part ∷ parts) false = refl

first_end : (front rest : List ℕ) → 0 < length front →
    (0 < length rest → is_space (get_or rest 0 0) ≡ true) →
    filter is_filled (with_front front (slice_split is_space rest)) ≡ front ∷ tokens rest
first_end [] rest some stops = absurd (omega arith)
first_end (b ∷ bs) [] some stops = ap (λ x. x ∷ []) (append-nil (b ∷ bs))
first_end (b ∷ bs) (y ∷ ys) some stops =
    let split = slice_split-cons_yes is_space y ys (stops (omega arith)) in
    ap (λ parts. filter is_filled (with_front (b ∷ bs) parts)) split
    ∙ ap (λ x. x ∷ tokens ys) (append-nil (b ∷ bs))
    ∙ sym (ap (λ parts. (b ∷ bs) ∷ filter is_filled parts) split)

-- a run that isn't empty, before a space or the end, is the first token
pub first_is : (text : List ℕ) (n : ℕ) → 0 < n → n ≤ length text →
    slice_split is_space text ≡ with_front (take n text) (slice_split is_space (drop n text)) →
    (n < length text → is_space (get_or text n 0) ≡ true) →
    tokens text ≡ take n text ∷ tokens (drop n text)
first_is text n some within parts stops =
    ap (filter is_filled) parts
    ∙ first_end (take n text) (drop n text) (simp length-take (omega arith))
    (λ more. let before : n < length text = omega (arith, length-drop n text) in
    simp (get_or-drop, add-zero) (stops before))

-- a text that begins with no space has a run that isn't empty
pub run_some : (text : List ℕ) (n : ℕ) → 0 < length text →
    is_space (get_or text 0 0) ≡ false →
    (n < length text → is_space (get_or text n 0) ≡ true) → 0 < n
run_some text zero some filled stops = absurd (false≢true (sym filled ∙ stops some))
run_some text (suc n) some filled stops = omega arith
