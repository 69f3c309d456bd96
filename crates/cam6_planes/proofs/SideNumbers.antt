-- What every side has.
use Rattle.std.proofs.Common.{◌≡◌, ◌≤◌, ◌%◌, Some, lit≤, refl}
use Rattle.cam6_planes.specs.Limits.{max_columns}
use Rattle.cam6_planes.specs.Side.{side_number, side_of}
use Rattle.cam6_planes.specs.declared.sides.Side.{Side}
use Rattle.cam6_planes.specs.declared.sides.Side.TheVariants.{S128, S256, S512}

pub side_least : (s : Side) → 128 ≤ side_number s
side_least S128 = lit≤ tt
side_least S256 = lit≤ tt
side_least S512 = lit≤ tt

pub side_most : (s : Side) → side_number s ≤ max_columns
side_most S128 = lit≤ tt
side_most S256 = lit≤ tt
side_most S512 = lit≤ tt

pub side_words : (s : Side) → side_number s % 128 ≡ 0
side_words S128 = refl
side_words S256 = refl
side_words S512 = refl

pub side_of_number : (s : Side) → side_of (side_number s) ≡ Some s
side_of_number S128 = refl
side_of_number S256 = refl
side_of_number S512 = refl
