-- Units that are seen in parts, from a row on.
use Rattle.std.proofs.Common.{◌≡◌, ℕ, zero, suc, ◌+◌, ◌*◌, ◌/◌, ◌%◌, ◌<◌, Bool, true, false, ◌&&◌}
use Rattle.std.proofs.Common.{List, [], ◌∷◌, get_or, length, take, drop, Option, Some, None}
use Rattle.std.proofs.Common.{refl, sym, ◌∙◌, ap, arith}
use Rattle.std.proofs.lemmas.List.{get_or-take, get_or-drop}
use Rattle.cam6_planes.specs.Row.{word_column, column_bit}
use Rattle.cam6_planes.specs.declared.sides.Side.{Side}
use Rattle.cam6_planes.specs.declared.sides.Side.TheVariants.{S128, S256, S512}
use Rattle.cam6_planes.proofs.Blank.{column_bit-zeros}
use Rattle.cam6_planes.proofs.WordByWord.{column_bit-at}
use Rattle.cam6_wiring.specs.Seen.{line_shows}
use Rattle.cam6_wiring.specs.declared.names.Name.{Name}
use Rattle.cam6_lines.specs.Units.{columns, place, place as place_of}
use Rattle.cam6_lines.specs.Internal.Views.{part_name, seen_from, unit_of, IsPartFor, IsSeen}
use Rattle.cam6_lines.specs.declared.views.View.{View}
use Rattle.cam6_lines.specs.declared.views.Needed.{Needed}

-- the columns of a unit that is seen from a word on
unit_column : (part : List ℕ) (start x : ℕ) → x < 4096 →
    column_bit (take 64 (drop start part)) x ≡ column_bit part (64 * start + x)
unit_column part start x h =
    let k : ℕ = x / 64 in
    let c : ℕ = x % 64 in
    let within : x % 64 < 64 = omega arith in
    let below : x / 64 < 64 = omega (arith, h) in
    let e : x ≡ 64 * (x / 64) + x % 64 = omega arith in
    let there : 64 * (start + x / 64) + x % 64 ≡ 64 * start + x = omega arith in
    ap (column_bit (take 64 (drop start part))) e ∙
    column_bit-at (take 64 (drop start part)) k c within ∙
    ap (λ w. word_column w c) (get_or-take 64 (drop start part) k 0 below ∙
    get_or-drop start part k 0) ∙
    sym (column_bit-at part (start + k) c within) ∙ ap (column_bit part) there

pub place_below : (side : Side) (r i : ℕ) → r < 16 → i < columns side → place side r i < 4096
place_below S128 r i h l = omega (arith, h, l)
place_below S256 r i h l = omega (arith, h, l)
place_below S512 r i h l = omega (arith, h, l)

place_there : (side : Side) (words r from i : ℕ) → 64 * words ≡ columns side →
    64 * (words * from) + place side r i ≡ place side (r + from) i
place_there S128 words r from i e =
    let two : words ≡ 2 = omega (arith, e) in rw two (omega arith)
place_there S256 words r from i e =
    let four : words ≡ 4 = omega (arith, e) in rw four (omega arith)
place_there S512 words r from i e =
    let four : words ≡ 4 = omega (arith, e) in rw four (omega arith)

-- a line shows what its part does, where it is asked for and has a name, and 0 elsewhere
pub line_seen : (side : Side) (parts : List (List ℕ)) (needed : Needed) (asked : Bool)
    (known : Option Name) (view : Option View) (words r i : ℕ) (sees : Name → Bool) →
    64 * words ≡ columns side → r < 16 → i < columns side → IsSeen needed asked known view →
    ((name : Name) (place : ℕ) → IsPartFor needed (part_name name) place →
    column_bit (get_or parts place []) (place_of side (r + seen_from name) i) ≡ sees name) →
    column_bit (unit_of parts words view) (place_of side r i) ≡ (asked && line_shows sees known)
line_seen side parts needed false known view words r i sees e h l seen is =
    ap (λ v. column_bit (unit_of parts words v) (place_of side r i)) seen ∙
    column_bit-zeros 64 (place_of side r i)
line_seen side parts needed true None view words r i sees e h l seen is =
    ap (λ v. column_bit (unit_of parts words v) (place_of side r i)) seen ∙
    column_bit-zeros 64 (place_of side r i)
line_seen side parts needed true (Some name) None words r i sees e h l seen is = absurd seen
line_seen side parts needed true (Some name) (Some view) words r i sees e h l seen is =
    let part = get_or parts view.part [] in
    unit_column part (words * view.row) (place_of side r i) (place_below side r i h l) ∙
    ap (λ n. column_bit part (64 * (words * n) + place_of side r i)) seen.1 ∙
    ap (column_bit part) (place_there side words r (seen_from name) i e) ∙ is name view.part seen.0

-- the items of a list, one after the other
abbrev pub items : {A : Type 0} → ℕ → ℕ → List A → A → List A
items zero from xs d = []
items (suc n) from xs d = get_or xs from d ∷ items n (suc from) xs d

items_rest : {A : Type 0} (n from : ℕ) (x : A) (xs : List A) (d : A) →
    items n (suc from) (x ∷ xs) d ≡ items n from xs d
items_rest zero from x xs d = refl
items_rest (suc n) from x xs d = ap (λ ys. get_or xs from d ∷ ys) (items_rest n (suc from) x xs d)

pub items_all : {A : Type 0} (n : ℕ) (xs : List A) (d : A) → length xs ≡ n → items n 0 xs d ≡ xs
items_all zero [] d h = refl
items_all zero (x ∷ xs) d h = absurd (omega (arith, h))
items_all (suc n) [] d h = absurd (omega (arith, h))
items_all (suc n) (x ∷ xs) d h =
    ap (λ ys. x ∷ ys) (items_rest n 0 x xs d ∙ items_all n xs d (omega (arith, h)))
