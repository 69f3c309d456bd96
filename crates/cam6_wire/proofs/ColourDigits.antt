-- The digits of colours are ASCII.
use Rattle.std.proofs.Common.{ℕ, List, [], ◌∷◌, map, zero, suc, arith}
use Rattle.std.specs.Str.{IsAscii}
use Rattle.cam6_planes.proofs.AsciiTexts.{digits-ascii}
use Rattle.cam6_wire.specs.Replies.{colour_digit}

pub colour_digits-ascii : (colours : List ℕ) → IsAscii (map colour_digit colours)
colour_digits-ascii [] i = omega arith
colour_digits-ascii (colour ∷ colours) zero = digits-ascii colour
colour_digits-ascii (colour ∷ colours) (suc i) = colour_digits-ascii colours i
