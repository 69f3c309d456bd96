-- Lines of bands that are spelled plainly say those bands.
use Rattle.std.proofs.Common.{◌≡◌, ◌∙◌, ℕ, suc, zero, ◌<◌, ◌≤◌, ◌+◌, ◌-◌, List, [], ◌∷◌, ◌++◌, true}
use Rattle.std.proofs.Common.{codes, length, take, drop, Ok, refl, sym, ap, arith}
use Rattle.std.proofs.Common.{take-append-drop}
use Rattle.std.specs.Prelude.{slice_index_or}
use Rattle.std.specs.Cmp.Lexicographic.{same_text}
use Rattle.std.specs.Str.{bytes_eq, is_utf8, chars}
use Rattle.cam6_wire.specs.Limits.{begins_load}
use Rattle.cam6_wire.specs.Commands.{sole_number}
use Rattle.serde_json.proofs.OnLiterals.{serde_json_on_literals}
use Rattle.cam6_commands.specs.declared.events.Event.TheVariants.{Band}
use Rattle.cam6_wire.specs.Events.{event, band_of}

abbrev pub plain_front : List ℕ
plain_front = codes "{\"event\":\"band\",\"board\":"

says_digit : (k : ℕ) → k < 10 → event (plain_front ++ (48 + k) ∷ 125 ∷ []) ≡ Ok (Band k)
unfolding serde_json_on_literals is_utf8 chars begins_load sole_number band_of
says_digit zero small = refl
says_digit (suc zero) small = refl
says_digit (suc (suc zero)) small = refl
says_digit (suc (suc (suc zero))) small = refl
says_digit (suc (suc (suc (suc zero)))) small = refl
says_digit (suc (suc (suc (suc (suc zero))))) small = refl
says_digit (suc (suc (suc (suc (suc (suc zero)))))) small = refl
says_digit (suc (suc (suc (suc (suc (suc (suc zero))))))) small = refl
says_digit (suc (suc (suc (suc (suc (suc (suc (suc zero)))))))) small = refl
says_digit (suc (suc (suc (suc (suc (suc (suc (suc (suc zero))))))))) small = refl
says_digit (suc (suc (suc (suc (suc (suc (suc (suc (suc (suc k)))))))))) small =
    absurd (omega arith)

two : (xs : List ℕ) → length xs ≡ 2 → xs ≡ slice_index_or xs 0 0 ∷ slice_index_or xs 1 0 ∷ []
two [] long = absurd (omega (arith, long))
two (x ∷ []) long = absurd (omega (arith, long))
two (x ∷ y ∷ []) long = refl
two (x ∷ y ∷ z ∷ xs) long = absurd (omega (arith, long))

-- a line of this front, a digit and a brace
pub says_band : (line rest : List ℕ) → bytes_eq (take (length plain_front) line) plain_front ≡ true →
    rest ≡ drop (length plain_front) line → length rest ≡ 2 → slice_index_or rest 1 0 ≡ 125 →
    48 ≤ slice_index_or rest 0 0 → slice_index_or rest 0 0 ≤ 57 →
    event line ≡ Ok (Band (slice_index_or rest 0 0 - 48))
says_band line rest front after long brace least most =
    let digit = slice_index_or rest 0 0 in
    let whole : line ≡ plain_front ++ (48 + (digit - 48)) ∷ 125 ∷ [] =
    sym (take-append-drop (length plain_front) line) ∙
    ap (λ x. x ++ drop (length plain_front) line) (same_text _ _ (sym front)) ∙
    ap (λ x. plain_front ++ x) (sym after ∙ two rest long) ∙
    ap (λ x. plain_front ++ digit ∷ x ∷ []) brace ∙
    ap (λ x. plain_front ++ x ∷ 125 ∷ []) (let e : digit ≡ 48 + (digit - 48) = omega (arith, least) in e) in
    ap event whole ∙ says_digit (digit - 48) (omega (arith, least, most))
