-- Four words say a part of the torus.
use Rattle.std.proofs.Common.{◌≡◌, ◌<◌, ℕ, cond, None, List, [], length, get_or, sym, ap, ◌∙◌}
use Rattle.std.proofs.Common.{arith, eq-eqb}
use Rattle.std.proofs.lemmas.List.{get_or-map, length-map}
use Rattle.std.specs.Borrow.{Bor}
use Rattle.clap.specs.Walk.{Text, texts}
use Rattle.cam6_draw_cli.specs.DrawWords.{window_of, window_asked_for}

-- a word among others
text_at_index : (words : List (Bor Text)) (i : ℕ) (d : Bor Text) → i < length words
    → (get_or words i d).now ≡ get_or (texts words) i []
text_at_index words i d within = sym (get_or-map (λ w. w.now) words i d [] within)

-- four words say a window
pub window_is : (words : List (Bor Text)) (a b c d : Bor Text) → length words ≡ 4
    → window_asked_for (get_or words 0 a).now (get_or words 1 b).now (get_or words 2 c).now
    (get_or words 3 d).now ≡ window_of (texts words)
window_is words a b c d four =
    let x = get_or (texts words) 0 [] in
    let y = get_or (texts words) 1 [] in
    let w = get_or (texts words) 2 [] in
    let h = get_or (texts words) 3 [] in
    let long : length (texts words) ≡ 4 = length-map words (λ w. w.now) ∙ four in
    ap (λ t. window_asked_for t (get_or words 1 b).now (get_or words 2 c).now (get_or words 3 d).now)
    (text_at_index words 0 a (omega arith))
    ∙ ap (λ t. window_asked_for x t (get_or words 2 c).now (get_or words 3 d).now)
    (text_at_index words 1 b (omega arith))
    ∙ ap (λ t. window_asked_for x y t (get_or words 3 d).now) (text_at_index words 2 c (omega arith))
    ∙ ap (λ t. window_asked_for x y w t) (text_at_index words 3 d (omega arith))
    ∙ sym (ap (λ t. cond t (window_asked_for x y w h) None) (eq-eqb (length (texts words)) 4 long))
