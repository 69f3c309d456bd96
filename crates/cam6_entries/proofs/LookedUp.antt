-- The bits of entries that are looked up where all twelve lines are asked for.
use Rattle.std.proofs.Common.{◌≡◌, ℕ, suc, ◌-◌, ◌/◌, ◌%◌, ◌^◌, ◌==◌, ◌&&◌, ◌∙◌, ap, sym, refl, arith}
use Rattle.std.proofs.Common.{Bool, List, [], ◌∷◌, map, length, get_or}
use Rattle.std.proofs.Math.Nat.{div-one, pow-suc}
use Rattle.std.proofs.lemmas.List.{length-map}
use Rattle.cam6_planes.specs.Cells.{Cells}
use Rattle.cam6_wiring.specs.Lines.{sees_at}
use Rattle.cam6_wiring.specs.Seen.{line_shows, number_of, address_of}
use Rattle.cam6_wiring.specs.Wiring.{names_of}
use Rattle.cam6_wiring.specs.declared.names.Level.{Level}
use Rattle.cam6_wiring.specs.declared.names.Level.TheVariants.{Lower, Upper}
use Rattle.cam6_wiring.specs.declared.neighbours.Setting.{Setting}
use Rattle.cam6_wiring.specs.declared.wirings.Hood.{Hood}
use Rattle.cam6_wiring.specs.declared.wirings.Minor.{Minor}
use Rattle.cam6_wiring.proofs.Numbers.{length-names_of, number_of-lt}
use Rattle.cam6_lines.specs.Units.{asked_for}
use Rattle.cam6_lookup.specs.Entries.{entry_bit}
use Rattle.cam6_program.specs.Programs.{number}
use Rattle.cam6_entries.specs.Bands.{new_bit, all_lines}

-- a mask with a bit for each line asks for what they all show
each_asked : (bits : List Bool) → asked_for (2 ^ length bits - 1) bits ≡ bits
each_asked [] = refl
each_asked (bit ∷ bits) =
    let n : ℕ = length bits in
    let odd : (2 ^ suc n - 1) % 2 ≡ 1 = omega (arith, pow-suc 2 n, number_of-lt bits) in
    let half : (2 ^ suc n - 1) / 2 ≡ 2 ^ n - 1 = omega (arith, pow-suc 2 n, number_of-lt bits) in
    ap (λ d. ((d == 1) && bit) ∷ asked_for ((2 ^ suc n - 1) / 2) bits) odd ∙
    ap (λ mask. bit ∷ asked_for mask bits) half ∙ ap (λ rest. bit ∷ rest) (each_asked bits)

all_asked : (bits : List Bool) → length bits ≡ 12 → asked_for all_lines bits ≡ bits
all_asked bits twelve =
    ap (λ n. asked_for (2 ^ n - 1) bits) (sym twelve) ∙ each_asked bits

-- the entry at the address that all lines show has the new bits
pub looked_up : (entries : List ℕ) (level : Level) (s : ℕ) (f : Cells) (setting : Setting)
    (hood : Hood) (minor : Minor) (x y : ℕ) →
    entry_bit entries (number_of (asked_for all_lines
    (map (line_shows (sees_at s f setting x y)) (names_of hood minor)))) (number level)
    ≡ new_bit entries s f setting hood minor level x y
unfolding address_of
looked_up entries Lower s f setting hood minor x y =
    let bits : List Bool = map (line_shows (sees_at s f setting x y)) (names_of hood minor) in
    ap (λ shown. entry_bit entries (number_of shown) 0)
    (all_asked bits (length-map _ _ ∙ length-names_of hood minor)) ∙
    ap (λ n. n % 2 == 1) (div-one (get_or entries (number_of bits) 0))
looked_up entries Upper s f setting hood minor x y =
    let bits : List Bool = map (line_shows (sees_at s f setting x y)) (names_of hood minor) in
    ap (λ shown. entry_bit entries (number_of shown) 1)
    (all_asked bits (length-map _ _ ∙ length-names_of hood minor))
