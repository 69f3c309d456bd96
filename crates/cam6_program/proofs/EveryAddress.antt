-- What is right at every address is right for all that the lines can show.
use Rattle.std.proofs.Common.{◌≡◌, ℕ, ◌<◌, ◌^◌, Bool, true, false, List, length, get_or, nat_eq}
use Rattle.std.proofs.Common.{[], Option, Some, None, refl, sym, ◌∙◌, ap, arith}
use Rattle.std.specs.Option.{is_none}
use Rattle.cam6_planes.specs.Row.{column_bit}
use Rattle.cam6_wiring.specs.Seen.{number_of, shown}
use Rattle.cam6_wiring.specs.declared.names.Level.{Level}
use Rattle.cam6_wiring.specs.declared.names.Level.TheVariants.{Lower, Upper}
use Rattle.cam6_wiring.specs.declared.wirings.TheConstants.{LINES}
use Rattle.cam6_wiring.proofs.LinesOfNames.{bit_number-one}
use Rattle.cam6_wiring.proofs.Numbers.{bit_at-number_of, number_of-lt}
use Rattle.cam6_lookup.specs.Entries.{entry_bit}
use Rattle.cam6_lines.specs.Units.{asked_for}
use Rattle.cam6_program.specs.declared.steps.Source.{Source}
use Rattle.cam6_program.specs.Computing.{Computes}
use Rattle.cam6_program.specs.Meaning.{given, after_steps}
use Rattle.cam6_program.specs.Programs.{Steps, number, source_of, keeps}
use Rattle.cam6_program.specs.Running.{MakesAtAddresses}

-- bits make an address
pub address-lt : (bits : List Bool) → length bits ≡ LINES → number_of bits < 2 ^ LINES
address-lt bits long = omega (arith, number_of-lt bits, ap (λ n. 2 ^ n) long)

-- which shows them
pub shown_bit : (bits : List Bool) (line : ℕ) →
    shown (number_of bits) line ≡ get_or bits line false
shown_bit bits line =
    ap (λ n. nat_eq n 1) (bit_at-number_of bits line) ∙ bit_number-one (get_or bits line false)

given_from_none : (level : Level) (bits lines slots : List Bool) (source : Option Source) →
    is_none source ≡ true → get_or bits (number level) false ≡ given level bits lines slots source
given_from_none level bits lines slots None none = refl
given_from_none level bits lines slots (Some source) none = absurd cc

-- a level that is kept has the bit of its own line
pub kept_bit : (level : Level) (program : Steps) (unit : List ℕ) → keeps level program ≡ true →
    ((address : ℕ) → address < 2 ^ LINES → column_bit unit address ≡ shown address (number level)) →
    MakesAtAddresses level program unit
kept_bit level program unit kept shows bits long =
    let lines : List Bool = asked_for program.asked bits in
    shows (number_of bits) (address-lt bits long) ∙ shown_bit bits (number level) ∙
    given_from_none level bits lines (after_steps lines program.steps [])
    (source_of level program) kept

-- where both levels have the bits of the entries at every address
pub computes : (entries : List ℕ) (program : Steps) (lower upper : List ℕ) →
    MakesAtAddresses Lower program lower → MakesAtAddresses Upper program upper →
    ((address : ℕ) → address < 2 ^ LINES →
    column_bit lower address ≡ entry_bit entries address 0) →
    ((address : ℕ) → address < 2 ^ LINES →
    column_bit upper address ≡ entry_bit entries address 1) →
    Computes entries program
computes entries program lower upper makes_lower makes_upper has_lower has_upper Lower bits long =
    sym (makes_lower bits long) ∙ has_lower (number_of bits) (address-lt bits long)
computes entries program lower upper makes_lower makes_upper has_lower has_upper Upper bits long =
    sym (makes_upper bits long) ∙ has_upper (number_of bits) (address-lt bits long)
