-- Programs that do for entries under a neighbourhood.
use Rattle.std.proofs.Common.{◌≡◌, ℕ, ◌+◌, ◌*◌, ◌<◌, ◌==◌, ◌∙◌, ap, arith, Bool, false}
use Rattle.std.proofs.Common.{List, [], ◌∷◌, map, get_or, Option, None, Some, IfSome}
use Rattle.std.specs.Int.{bit_at}
use Rattle.std.proofs.lemmas.List.{length-map}
use Rattle.cam6_wiring.specs.Seen.{Sees, line_shows, number_of, address_of}
use Rattle.cam6_wiring.specs.Wiring.{names_of, minor_names}
use Rattle.cam6_wiring.specs.declared.wirings.Hood.{Hood}
use Rattle.cam6_wiring.specs.declared.wirings.Hood.TheVariants.{Margolus}
use Rattle.cam6_wiring.specs.declared.wirings.Minor.{Minor}
use Rattle.cam6_wiring.proofs.Numbers.{length-names_of, number_of-lt, number_of-below_4096}
use Rattle.cam6_program.specs.Computing.{Computes}
use Rattle.cam6_program.specs.Programs.{Steps, number}
use Rattle.cam6_entries.specs.Programs.{ComputesUnder, without_lines_8_and_9}

-- a number of the lowest eight bits, and of bits from the eleventh on
no_middle : (low high n : ℕ) → low < 256 → n ≡ low + 1024 * high → without_lines_8_and_9 n ≡ n
no_middle low high n small e = omega (arith, small, e)

eight_and_more : (a b c d e f g h : Bool) (more : List Bool) →
    number_of (a ∷ b ∷ c ∷ d ∷ e ∷ f ∷ g ∷ h ∷ false ∷ false ∷ more)
    ≡ number_of (a ∷ b ∷ c ∷ d ∷ e ∷ f ∷ g ∷ h ∷ []) + 1024 * number_of more
eight_and_more a b c d e f g h more = omega arith

nothing_there : (a b c d e f g h : Bool) (more : List Bool) →
    without_lines_8_and_9 (number_of (a ∷ b ∷ c ∷ d ∷ e ∷ f ∷ g ∷ h ∷ false ∷ false ∷ more))
    ≡ number_of (a ∷ b ∷ c ∷ d ∷ e ∷ f ∷ g ∷ h ∷ false ∷ false ∷ more)
nothing_there a b c d e f g h more =
    no_middle (number_of (a ∷ b ∷ c ∷ d ∷ e ∷ f ∷ g ∷ h ∷ [])) (number_of more) _
    (number_of-lt (a ∷ b ∷ c ∷ d ∷ e ∷ f ∷ g ∷ h ∷ []))
    (eight_and_more a b c d e f g h more)

-- under N/MARG lines 8 and 9 show 0
unnamed : (minor : Minor) (sees : Sees) →
    without_lines_8_and_9 (number_of (map (line_shows sees) (names_of Margolus minor)))
    ≡ number_of (map (line_shows sees) (names_of Margolus minor))
unnamed minor sees =
    nothing_there _ _ _ _ _ _ _ _ (map (line_shows sees) (minor_names minor))

-- so a program does for the entries that computes those without these lines
pub does_under_margolus : (entries shown : List ℕ) (program : Steps) → Computes shown program →
    ((address : ℕ) → address < 4096 →
    get_or shown address 0 ≡ get_or entries (without_lines_8_and_9 address) 0) →
    (minor : Minor) → ComputesUnder Margolus minor entries program
unfolding address_of
does_under_margolus entries shown program computes same minor = λ level sees.
    let bits : List Bool = map (line_shows sees) (names_of Margolus minor) in
    computes level bits
    (length-map (names_of Margolus minor) (line_shows sees) ∙ length-names_of Margolus minor) ∙
    ap (λ entry. bit_at entry (number level) == 1) (
    same (number_of bits) (number_of-below_4096 (line_shows sees) (names_of Margolus minor)
    (omega (arith, length-names_of Margolus minor))) ∙
    ap (λ address. get_or entries address 0) (unnamed minor sees))

-- and under any neighbourhood one that computes all of them
pub does_under_any : (entries : List ℕ) (program : Steps) → Computes entries program →
    (hood : Hood) (minor : Minor) → ComputesUnder hood minor entries program
unfolding address_of
does_under_any entries program computes hood minor = λ level sees.
    computes level (map (line_shows sees) (names_of hood minor))
    (length-map (names_of hood minor) (line_shows sees) ∙ length-names_of hood minor)

-- what holds of a program holds of one that there may be
pub if_some : {P Q : Steps → Type 0} (found : Option Steps) →
    ((program : Steps) → P program → Q program) → IfSome found P → IfSome found Q
if_some None follows holds = holds
if_some (Some program) follows holds = follows program holds
