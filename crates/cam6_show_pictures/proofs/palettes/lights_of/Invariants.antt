use Rattle.std.proofs.Common.{◌≡◌, Some, length, take}
use Rattle.cam6_show_pictures.specs.Palette.{lights_said}
use Rattle.cam6_show_pictures.proofs.palettes.lights_of.Given as goal

abbrev pub invariant-loop-n : goal.invariant-loop-n
invariant-loop-n l =
    (length l.palette ≡ 16) × (lights_said l.text l.n ≡ Some (take l.n l.palette))
