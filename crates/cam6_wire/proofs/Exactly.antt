-- An object with as many keys as are found in it has these keys and no others.
use Rattle.std.proofs.Common.{◌≡◌, ◌≤◌, ◌+◌, ℕ, List, Option, Some, None}
use Rattle.std.proofs.Common.{Ordering, Less, Equal, Greater, refl, sym, ap, ◌∙◌, subst, arith}
use Rattle.std.specs.Prelude.{⊤}
use Rattle.std.specs.Ordering.{nat_cmp, match_ordering}
use Rattle.std.specs.Cmp.Lexicographic.{slice_cmp}
use Rattle.std.proofs.lemmas.Map.Lookups.{exact_bytes}
use Rattle.serde_json.specs.Data.{Data, object, Members, no_members, member}
use Rattle.serde_json.specs.Find.{get_member}
use Rattle.cam6_wire.specs.Fields.{count}
use Rattle.cam6_wire.proofs.Ordered.{IsBefore, InOrder, IsOrdered, before_later, turned}

-- each of these members is found
abbrev pub AreFound : Members → Members → Type 0
AreFound no_members held = ⊤
AreFound (member key d wanted) held =
    (get_member key held ≡ Some d) × AreFound wanted held

never_found : {A : Type 0} (a : A) (o : Option A) → o ≡ None → o ≡ Some a → ⊥
never_found a o none found = cc

none_before : (key : List ℕ) (held : Members) → IsBefore key held →
    get_member key held ≡ None
none_before key no_members before = refl
none_before key (member next d held) before =
    ap
    (λ o. match_ordering o (get_member key held) (Some d) (get_member key held)) before.0 ∙
    none_before key held before.1

found_later : (key next : List ℕ) (d : Data) (held : Members) →
    slice_cmp nat_cmp key next ≡ Greater →
    get_member key (member next d held) ≡ get_member key held
found_later key next d held after =
    ap (λ o. match_ordering o (get_member key held) (Some d) (get_member key held)) after

all_later : (next : List ℕ) (e : Data) (wanted held : Members) → IsBefore next wanted →
    AreFound wanted (member next e held) → AreFound wanted held
all_later next e no_members held before found = tt
all_later next e (member key d wanted) held before found = (
  sym (found_later key next e held (turned next key Less before.0)) ∙ found.0,
  all_later next e wanted held before.1 found.1,
)

-- a key that stands before the first isn't found
not_first : (key next : List ℕ) (d e : Data) (held : Members) →
    slice_cmp nat_cmp key next ≡ Less → IsBefore next held →
    get_member key (member next e held) ≡ Some d → ⊥
not_first key next d e held is before found =
    never_found d (get_member key (member next e held))
    (none_before key (member next e held) (is, before_later key next held is before)) found

-- where the first key is found first, the others are found later
rest_later : (key next : List ℕ) (e : Data) (wanted held : Members) →
    slice_cmp nat_cmp key next ≡ Equal → IsBefore key wanted →
    AreFound wanted (member next e held) → AreFound wanted held
rest_later key next e wanted held is before found =
    all_later next e wanted held
    (subst (λ k. IsBefore k wanted) (exact_bytes key next is) before) found

-- where the first key stands after the first, all are found later
first_later : (key next : List ℕ) (d e : Data) (wanted held : Members) →
    slice_cmp nat_cmp key next ≡ Greater → IsBefore key wanted →
    AreFound (member key d wanted) (member next e held) →
    AreFound (member key d wanted) held
first_later key next d e wanted held is before found =
    all_later next e (member key d wanted) held
    (turned key next Greater is, before_later next key wanted (turned key next Greater is) before)
    found

no_more_by : (key next : List ℕ) (d e : Data) (wanted held : Members) (o : Ordering) →
    slice_cmp nat_cmp key next ≡ o → IsBefore key wanted → IsBefore next held →
    AreFound (member key d wanted) (member next e held) →
    (AreFound wanted held → count wanted ≤ count held) →
    (AreFound (member key d wanted) held → count wanted + 1 ≤ count held) →
    count wanted + 1 ≤ count held + 1
no_more_by key next d e wanted held Less is before also found rest all =
    absurd (not_first key next d e held is also found.0)
no_more_by key next d e wanted held Equal is before also found rest all =
    omega (arith, rest (rest_later key next e wanted held is before found.1))
no_more_by key next d e wanted held Greater is before also found rest all =
    omega (arith, all (first_later key next d e wanted held is before found))

-- there are as many keys as are found
no_more : (wanted held : Members) → InOrder wanted → InOrder held →
    AreFound wanted held → count wanted ≤ count held
no_more no_members held order also found = omega arith
no_more (member key d wanted) no_members order also found =
    absurd (never_found d None refl found.0)
no_more (member key d wanted) (member next e held) order also found =
    no_more_by key next d e wanted held (slice_cmp nat_cmp key next) refl order.0 also.0 found
    (λ found. no_more wanted held order.1 also.1 found)
    (λ found. no_more (member key d wanted) held order also.1 found)

inner : {A : Type 0} (a b : A) → Some a ≡ Some b → a ≡ b
inner a b same = cc

found_here : (key next : List ℕ) (d e : Data) (held : Members) →
    slice_cmp nat_cmp key next ≡ Equal → get_member key (member next e held) ≡ Some d → e ≡ d
found_here key next d e held is found =
    inner e d
    (sym
    (ap (λ o. match_ordering o (get_member key held) (Some e) (get_member key held)) is) ∙
    found)

same_by : (key next : List ℕ) (d e : Data) (wanted held : Members) (o : Ordering) →
    slice_cmp nat_cmp key next ≡ o → InOrder (member key d wanted) →
    InOrder (member next e held) → count held ≡ count wanted →
    AreFound (member key d wanted) (member next e held) →
    (AreFound wanted held → held ≡ wanted) →
    member next e held ≡ member key d wanted
same_by key next d e wanted held Less is order also same found rest =
    absurd (not_first key next d e held is also.0 found.0)
same_by key next d e wanted held Equal is order also same found rest =
    ap (λ k. member k e held) (sym (exact_bytes key next is)) ∙
    ap (λ x. member key x held) (found_here key next d e held is found.0) ∙
    ap (member key d) (rest (rest_later key next e wanted held is order.0 found.1))
same_by key next d e wanted held Greater is order also same found rest =
    let more : count wanted + 1 ≤ count held =
    no_more (member key d wanted) held order also.1
    (first_later key next d e wanted held is order.0 found) in
    let never : ⊥ = omega (arith, more, same) in
    absurd never

-- members that are as many as those found are those found
pub exactly : (wanted held : Members) → InOrder wanted → InOrder held →
    count held ≡ count wanted → AreFound wanted held → held ≡ wanted
exactly no_members no_members order also same found = refl
exactly no_members (member next e held) order also same found =
    let never : ⊥ = omega (arith, same) in
    absurd never
exactly (member key d wanted) no_members order also same found =
    absurd (never_found d None refl found.0)
exactly (member key d wanted) (member next e held) order also same found =
    same_by key next d e wanted held (slice_cmp nat_cmp key next) refl order also
    (omega (arith, same)) found
    (λ found. exactly wanted held order.1 also.1 (omega (arith, same)) found)

-- an object with these members
pub these : (wanted held : Members) → InOrder wanted → count held ≡ count wanted →
    IsOrdered (object held) → AreFound wanted held → object held ≡ object wanted
these wanted held order same given found =
    ap object (exactly wanted held order given.0 same found)
