-- The lights of a palette, one after another.
use Rattle.std.proofs.Common.{◌≡◌, ◌<◌, ◌+◌, ◌-◌, ℕ, zero, suc, List, [], ◌∷◌, ◌++◌, length, take}
use Rattle.std.proofs.Common.{Some, None, option_and_then, option_map, refl, sym, ap, ◌∙◌}
use Rattle.std.proofs.Common.{arith, cond, eq-eqb}
use Rattle.std.proofs.Math.ListN.{set}
use Rattle.std.proofs.lemmas.List.{take_more_set}
use Rattle.cam6_show_pictures.specs.declared.looks.Light.{Light}
use Rattle.cam6_show_pictures.specs.Palette.{light_at, lights_said, palette_said}

-- one light more
pub light_more : (text : List ℕ) (n : ℕ) (palette : List Light) (light : Light)
    → n < length palette → lights_said text n ≡ Some (take n palette)
    → light_at text n ≡ Some light → lights_said text (n + 1) ≡ Some (take (n + 1) (set palette n light))
unfolding lights_said
light_more text n palette light few before this =
    let on : n + 1 ≡ suc n = omega arith in
    ap (lights_said text) on
    ∙ ap (option_and_then (λ lights. option_map (λ light. lights ++ light ∷ []) (light_at text n)))
    before
    ∙ ap (option_map (λ light. take n palette ++ light ∷ [])) this
    ∙ sym (ap (λ l. Some l) (take_more_set palette n light few))

-- where one isn't said, no later ones are
pub none_more : (text : List ℕ) (n : ℕ) → lights_said text n ≡ None → (more : ℕ)
    → lights_said text (more + n) ≡ None
unfolding lights_said
none_more text n none zero = let same : zero + n ≡ n = omega arith in ap (lights_said text) same ∙ none
none_more text n none (suc more) =
    let on : suc more + n ≡ suc (more + n) = omega arith in
    ap (lights_said text) on
    ∙ ap (option_and_then (λ lights. option_map (λ light. lights ++ light ∷ [])
    (light_at text (more + n)))) (none_more text n none more)

pub none_said : (text : List ℕ) (n : ℕ) (lights : List Light) (all : ℕ) → n < all
    → lights_said text n ≡ Some lights → light_at text n ≡ None → lights_said text all ≡ None
unfolding lights_said
none_said text n lights all few before this =
    let none : lights_said text (suc n) ≡ None =
    ap (option_and_then (λ lights. option_map (λ light. lights ++ light ∷ []) (light_at text n)))
    before ∙ ap (option_map (λ light. lights ++ light ∷ [])) this in
    let rest : all - suc n + suc n ≡ all = omega arith in
    sym (ap (lights_said text) rest) ∙ none_more text (suc n) none (all - suc n)

-- a word of that length says the lights, or none
pub palette_is : (text : List ℕ) → length text ≡ 111 → palette_said text ≡ lights_said text 16
palette_is text long =
    ap (λ b. cond b (lights_said text 16) None) (eq-eqb (length text) 111 long)

-- no lights are said
pub none_said_at_all : (text : List ℕ) → lights_said text 0 ≡ Some []
unfolding lights_said
none_said_at_all text = refl
