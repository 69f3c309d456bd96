-- When two wirings are one: in every part.
use Rattle.std.specs.Prelude.{Bool, true, false, ◌&&◌}
use Rattle.cam6_wiring.specs.Name.{is_same_half}
use Rattle.cam6_wiring.specs.declared.wirings.Hood.{Hood}
use Rattle.cam6_wiring.specs.declared.wirings.Hood.TheVariants.{Moore, VonNeumann, Margolus}
use Rattle.cam6_wiring.specs.declared.wirings.Hood.TheVariants.{MargolusPhase, MargolusHorzVert}
use Rattle.cam6_wiring.specs.declared.wirings.Minor.{Minor}
use Rattle.cam6_wiring.specs.declared.wirings.Minor.TheVariants.{Centers, Phases, HorzVert}
use Rattle.cam6_wiring.specs.declared.wirings.Wiring.{Wiring}

-- whether two neighbourhoods are one
abbrev pub is_same_hood : Hood → Hood → Bool
is_same_hood Moore Moore = true
is_same_hood VonNeumann VonNeumann = true
is_same_hood Margolus Margolus = true
is_same_hood MargolusPhase MargolusPhase = true
is_same_hood MargolusHorzVert MargolusHorzVert = true
is_same_hood _ _ = false

-- whether two minor assignments are one
abbrev pub is_same_minor : Minor → Minor → Bool
is_same_minor Centers Centers = true
is_same_minor Phases Phases = true
is_same_minor HorzVert HorzVert = true
is_same_minor _ _ = false

-- whether two wirings are one
abbrev pub is_same_wiring : Wiring → Wiring → Bool
is_same_wiring first second =
    is_same_half first.half second.half && is_same_hood first.hood second.hood
    && is_same_minor first.minor second.minor
