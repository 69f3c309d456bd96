-- Lists that a loop makes longer by one element in each round.
use Rattle.std.proofs.Common.{◌≡◌, ◌∙◌, ◌<◌, ◌+◌, ◌++◌, ◌∷◌, [], ℕ, List, length, get_or, map, take}
use Rattle.std.proofs.Common.{drop, Option, Some, None, option_map, option_and_then}
use Rattle.std.proofs.Common.{refl, sym, ap, append_assoc}
use Rattle.std.proofs.lemmas.List.{map_push, take_more, drop_more}
use Rattle.serde_json.specs.Data.{Data, Items, item}
use Rattle.serde_json.specs.View.{view, items_view}
use Rattle.serde_json.specs.declared.value.Value.{Value}

-- one more element is written, where what is written grows by one for each element
pub one_more_of : {A B C : Type 0} (f : A → C) (g : B → C) (all : List B → List C) →
    ((bs : List B) (b : B) → all (bs ++ b ∷ []) ≡ all bs ++ g b ∷ []) → (had new : List A) (a : A)
    (bs : List B) (i : ℕ) (d : B) → i < length bs → f a ≡ g (get_or bs i d) →
    new ≡ had ++ a ∷ [] → map f had ≡ all (take i bs) → map f new ≡ all (take (i + 1) bs)
one_more_of f g all grows had new a bs i d within same pushed given =
    ap (map f) pushed ∙ map_push f had a ∙ ap (λ cs. cs ++ f a ∷ []) given ∙
    ap (λ c. all (take i bs) ++ c ∷ []) same ∙ sym (grows (take i bs) (get_or bs i d)) ∙
    sym (ap all (take_more bs i d within))

-- one more element is written
pub one_more_written : {A B C : Type 0} (f : A → C) (g : B → C) (had new : List A) (a : A)
    (bs : List B) (i : ℕ) (d : B) → i < length bs → f a ≡ g (get_or bs i d) →
    new ≡ had ++ a ∷ [] → map f had ≡ map g (take i bs) → map f new ≡ map g (take (i + 1) bs)
one_more_written f g = one_more_of f g (map g) (map_push g)

-- what is read of a list of values, each of which is read by f
abbrev pub IsReader : {A : Type 0} → (Data → Option A) → (Items → Option (List A)) → Type 0
IsReader f read = (d : Data) (ds : Items) → read (item d ds)
    ≡ option_and_then (λ a. option_and_then (λ rest. Some (a ∷ rest)) (read ds)) (f d)

at_next : {A : Type 0} (read : Items → Option (List A)) (values : List Value) (i : ℕ) (v : Value) →
    i < length values → v ≡ get_or values i v →
    read (items_view (drop i values)) ≡ read (item (view v) (items_view (drop (i + 1) values)))
at_next read values i v within is =
    ap (λ l. read (items_view l)) (drop_more values i v within) ∙
    ap (λ x. read (items_view (x ∷ drop (i + 1) values))) (sym is)

joined : {A : Type 0} (had new : List A) (a : A) → new ≡ had ++ a ∷ [] → (o : Option (List A)) →
    option_map (λ rest. new ++ rest) o
    ≡ option_map (λ rest. had ++ rest) (option_and_then (λ rest. Some (a ∷ rest)) o)
joined had new a pushed None = refl
joined had new a pushed (Some rest) = rw (pushed, append_assoc) refl

-- one more element is read
pub one_more_read : {A : Type 0} (f : Data → Option A) (read : Items → Option (List A)) →
    IsReader f read → (values : List Value) (i : ℕ) (v : Value) (had new : List A) (a : A) →
    i < length values → v ≡ get_or values i v → f (view v) ≡ Some a → new ≡ had ++ a ∷ [] →
    (all : Option (List A)) →
    option_map (λ rest. had ++ rest) (read (items_view (drop i values))) ≡ all →
    option_map (λ rest. new ++ rest) (read (items_view (drop (i + 1) values))) ≡ all
one_more_read f read step values i v had new a within is found pushed all given =
    let later = items_view (drop (i + 1) values) in
    joined had new a pushed (read later) ∙
    ap (option_map (λ rest. had ++ rest)) (sym (at_next read values i v within is ∙
    step (view v) later ∙
    ap (option_and_then (λ x. option_and_then (λ rest. Some (x ∷ rest)) (read later))) found)) ∙
    given

-- one element is none
pub none_read : {A : Type 0} (f : Data → Option A) (read : Items → Option (List A)) →
    IsReader f read → (values : List Value) (i : ℕ) (v : Value) (had : List A) →
    i < length values → v ≡ get_or values i v → f (view v) ≡ None → (all : Option (List A)) →
    option_map (λ rest. had ++ rest) (read (items_view (drop i values))) ≡ all → None ≡ all
none_read f read step values i v had within is missing all given =
    let later = items_view (drop (i + 1) values) in
    ap (option_map (λ rest. had ++ rest)) (sym (at_next read values i v within is ∙
    step (view v) later ∙
    ap (option_and_then (λ x. option_and_then (λ rest. Some (x ∷ rest)) (read later))) missing)) ∙
    given
