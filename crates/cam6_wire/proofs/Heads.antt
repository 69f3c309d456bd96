-- The first bytes of a line, by which its limit goes.
use Rattle.std.proofs.Common.{◌≡◌, ◌≤◌, ℕ, List, [], ◌∷◌, ◌++◌, length, take, drop, Bool, true, false}
use Rattle.std.proofs.Common.{◌&&◌, eqb, refl, ap, ◌∙◌, arith, cond}
use Rattle.std.specs.Cmp.Lexicographic.{pointwise}
use Rattle.std.proofs.lemmas.List.{take-append-le}
use Rattle.cam6_wire.specs.Limits.{max_line, max_load_line, load_head, begins_load, limit_of}

-- however a line goes on, its first bytes stay
pub head_stays : (line more : List ℕ) → 13 ≤ length line →
    begins_load (line ++ more) ≡ begins_load line
unfolding begins_load
head_stays line more long = ap (pointwise eqb load_head) (take-append-le 13 line more long)

-- and so does its limit
pub limit_stays : (line more : List ℕ) → 13 ≤ length line →
    limit_of (line ++ more) ≡ limit_of line
limit_stays line more long = ap (λ b. cond b max_load_line max_line) (head_stays line more long)

either_way : (x y : ℕ) → eqb x y ≡ eqb y x
either_way x y = grind arith

regroup : (a b c d : Bool) → a ≡ b → (a && (c && d)) ≡ ((b && c) && d)
regroup true b c d e = ap (λ x. (x && c) && d) e
regroup false b c d e = ap (λ x. (x && c) && d) e

-- a head that lies in two parts
pub in_two_parts : (head front part : List ℕ) → length front ≤ length head →
    pointwise eqb head (take (length head) (front ++ part))
    ≡ (pointwise eqb front (take (length front) head)
    && pointwise eqb (drop (length front) head) (take (length (drop (length front) head)) part))
in_two_parts head [] part within = refl
in_two_parts [] (x ∷ front) part within = absurd (omega (arith, within))
in_two_parts (h ∷ head) (x ∷ front) part within =
    ap (λ b. eqb h x && b) (in_two_parts head front part (omega (arith, within)))
    ∙ regroup (eqb h x) (eqb x h) _ _ (either_way h x)
