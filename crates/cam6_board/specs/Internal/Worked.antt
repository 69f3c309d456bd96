-- The image that a job works on, which is away only in the midst of a band.
use Rattle.std.specs.Prelude.{[], Option, Some, None}
use Rattle.cam6_planes.specs.declared.sides.Side.TheVariants.{S128}
use Rattle.cam6_board.specs.declared.images.Image.{Image}
use Rattle.cam6_board.specs.declared.images.Image.TheVariants.{Rest}

abbrev pub image_of : Option Image → Image
image_of None = Rest (record { planes = record { side = S128; limit = S128; rows = [] } })
image_of (Some image) = image
