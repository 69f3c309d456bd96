-- The limits of a text, and the numbers of its faults.
use Rattle.std.specs.Prelude.{ℕ}
use Rattle.cam6_forth.specs.declared.faults.TokenFault.{TokenFault}
use Rattle.cam6_forth.specs.declared.faults.TokenFault.TheVariants.{UnknownWord, NotDefinable}
use Rattle.cam6_forth.specs.declared.faults.TokenFault.TheVariants.{OutOfPlace, TooLarge}
use Rattle.cam6_forth.specs.declared.faults.TokenFault.TheVariants.{TooManyIfs, OtherHalf}
use Rattle.cam6_forth.specs.declared.faults.TokenFault.TheVariants.{LiteralRange, NoDefinition}
use Rattle.cam6_forth.specs.declared.faults.TokenFault.TheVariants.{TooLong}

-- the most bytes of a text, definitions of a text, size of a definition, and IFs that are open
-- together in one definition
abbrev pub max_text : ℕ
max_text = 8192

abbrev pub max_definitions : ℕ
max_definitions = 64

abbrev pub max_size : ℕ
max_size = 4096

abbrev pub max_open_ifs : ℕ
max_open_ifs = 16

-- the largest literal
abbrev pub max_literal : ℕ
max_literal = 65535

-- in a body, a name that isn't known there, or that the hood and the minor lack
abbrev pub unknown_word : ℕ
unknown_word = 20

-- after `:`, a reserved token or a name already defined
abbrev pub not_definable : ℕ
not_definable = 21

-- a token, or the end of the text, where it may not stand
abbrev pub out_of_place : ℕ
out_of_place = 22

-- the definition grows above its largest size
abbrev pub too_large : ℕ
too_large = 23

-- one more IF than may be open together
abbrev pub too_many_ifs : ℕ
too_many_ifs = 24

-- an output word of the other half
abbrev pub wrong_output : ℕ
wrong_output = 25

-- a literal above 65,535
abbrev pub literal_range : ℕ
literal_range = 26

-- a text without a definition
abbrev pub no_definition : ℕ
no_definition = 27

-- one more definition than a text may have, or a longer text
abbrev pub too_long : ℕ
too_long = 28

-- the number of a fault
abbrev pub fault_number : TokenFault → ℕ
fault_number UnknownWord = unknown_word
fault_number NotDefinable = not_definable
fault_number OutOfPlace = out_of_place
fault_number TooLarge = too_large
fault_number TooManyIfs = too_many_ifs
fault_number OtherHalf = wrong_output
fault_number LiteralRange = literal_range
fault_number NoDefinition = no_definition
fault_number TooLong = too_long
