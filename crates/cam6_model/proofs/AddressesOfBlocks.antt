-- Two ways of seeing that agree on the names of a block show one address, where the wiring has no
-- other names.
use Rattle.std.proofs.Common.{◌≡◌, ◌≢◌, Bool, true, List, [], ◌∷◌, map, refl, ap}
use mathlib.Core.Path.{Path}
use Rattle.cam6_wiring.specs.Seen.{Sees, line_shows, number_of, address_of}
use Rattle.cam6_wiring.specs.Wiring.{names_of, is_margolus}
use Rattle.cam6_wiring.specs.declared.names.Compass.TheVariants.{Center}
use Rattle.cam6_wiring.specs.declared.names.Level.{Level}
use Rattle.cam6_wiring.specs.declared.names.Level.TheVariants.{Lower, Upper}
use Rattle.cam6_wiring.specs.declared.names.Name.TheVariants as name
use Rattle.cam6_wiring.specs.declared.names.Rotation.{Rotation}
use Rattle.cam6_wiring.specs.declared.names.Rotation.TheVariants.{Clockwise, Opposite}
use Rattle.cam6_wiring.specs.declared.names.Rotation.TheVariants.{CounterClockwise}
use Rattle.cam6_wiring.specs.declared.wirings.Hood.{Hood}
use Rattle.cam6_wiring.specs.declared.wirings.Hood.TheVariants.{Moore, VonNeumann, Margolus}
use Rattle.cam6_wiring.specs.declared.wirings.Hood.TheVariants.{MargolusPhase, MargolusHorzVert}
use Rattle.cam6_wiring.specs.declared.wirings.Minor.{Minor}
use Rattle.cam6_wiring.specs.declared.wirings.Minor.TheVariants.{Centers, Phases, HorzVert}

-- two ways of seeing agree on the names of a block
pub record Agrees (a b : Sees) : Type 0 where
  pub centre : (level : Level) → a (name.Beside Center level) ≡ b (name.Beside Center level)
  pub inside : (rotation : Rotation) (level : Level) →
      a (name.InBlock rotation level) ≡ b (name.InBlock rotation level)
  pub phase : (level : Level) → a (name.Phase level) ≡ b (name.Phase level)
  pub horz : a name.Horz ≡ b name.Horz
  pub vert : a name.Vert ≡ b name.Vert
  pub minor_phase : (level : Level) → a (name.MinorPhase level) ≡ b (name.MinorPhase level)
  pub minor_horz : a name.MinorHorz ≡ b name.MinorHorz
  pub minor_vert : a name.MinorVert ≡ b name.MinorVert

same_twelve : {a0 a1 a2 a3 a4 a5 a6 a7 a8 a9 a10 a11 : Bool}
    {b0 b1 b2 b3 b4 b5 b6 b7 b8 b9 b10 b11 : Bool} →
    a0 ≡ b0 → a1 ≡ b1 → a2 ≡ b2 → a3 ≡ b3 → a4 ≡ b4 → a5 ≡ b5 → a6 ≡ b6 → a7 ≡ b7 → a8 ≡ b8 →
    a9 ≡ b9 → a10 ≡ b10 → a11 ≡ b11 →
    Path (List Bool)
    (a0 ∷ a1 ∷ a2 ∷ a3 ∷ a4 ∷ a5 ∷ a6 ∷ a7 ∷ a8 ∷ a9 ∷ a10 ∷ a11 ∷ [])
    (b0 ∷ b1 ∷ b2 ∷ b3 ∷ b4 ∷ b5 ∷ b6 ∷ b7 ∷ b8 ∷ b9 ∷ b10 ∷ b11 ∷ [])
same_twelve e0 e1 e2 e3 e4 e5 e6 e7 e8 e9 e10 e11 = cc

-- lines 0 to 7, and the others
with_block : (a b : Sees) → Agrees a b → {a8 a9 a10 a11 b8 b9 b10 b11 : Bool} →
    a8 ≡ b8 → a9 ≡ b9 → a10 ≡ b10 → a11 ≡ b11 →
    Path (List Bool)
    (a (name.Beside Center Lower) ∷ a (name.Beside Center Upper)
    ∷ a (name.InBlock Clockwise Lower) ∷ a (name.InBlock CounterClockwise Lower)
    ∷ a (name.InBlock Opposite Lower)
    ∷ a (name.InBlock Clockwise Upper) ∷ a (name.InBlock CounterClockwise Upper)
    ∷ a (name.InBlock Opposite Upper) ∷ a8 ∷ a9 ∷ a10 ∷ a11 ∷ [])
    (b (name.Beside Center Lower) ∷ b (name.Beside Center Upper)
    ∷ b (name.InBlock Clockwise Lower) ∷ b (name.InBlock CounterClockwise Lower)
    ∷ b (name.InBlock Opposite Lower)
    ∷ b (name.InBlock Clockwise Upper) ∷ b (name.InBlock CounterClockwise Upper)
    ∷ b (name.InBlock Opposite Upper) ∷ b8 ∷ b9 ∷ b10 ∷ b11 ∷ [])
with_block a b agrees e8 e9 e10 e11 =
    same_twelve (agrees.centre Lower) (agrees.centre Upper)
    (agrees.inside Clockwise Lower) (agrees.inside CounterClockwise Lower)
    (agrees.inside Opposite Lower)
    (agrees.inside Clockwise Upper) (agrees.inside CounterClockwise Upper)
    (agrees.inside Opposite Upper) e8 e9 e10 e11

lines_agree : (a b : Sees) → Agrees a b → (hood : Hood) (minor : Minor) →
    is_margolus hood ≡ true → minor ≢ Centers →
    map (line_shows a) (names_of hood minor) ≡ map (line_shows b) (names_of hood minor)
lines_agree a b is Moore minor h alone = cc h
lines_agree a b is VonNeumann minor h alone = cc h
lines_agree a b is Margolus Centers h alone = absurd (alone refl)
lines_agree a b is MargolusPhase Centers h alone = absurd (alone refl)
lines_agree a b is MargolusHorzVert Centers h alone = absurd (alone refl)
lines_agree a b is Margolus Phases h alone =
    with_block a b is refl refl (is.minor_phase Lower) (is.minor_phase Upper)
lines_agree a b is Margolus HorzVert h alone =
    with_block a b is refl refl is.minor_horz is.minor_vert
lines_agree a b is MargolusPhase Phases h alone =
    with_block a b is (is.phase Lower) (is.phase Upper) (is.minor_phase Lower)
    (is.minor_phase Upper)
lines_agree a b is MargolusPhase HorzVert h alone =
    with_block a b is (is.phase Lower) (is.phase Upper) is.minor_horz is.minor_vert
lines_agree a b is MargolusHorzVert Phases h alone =
    with_block a b is is.horz is.vert (is.minor_phase Lower) (is.minor_phase Upper)
lines_agree a b is MargolusHorzVert HorzVert h alone =
    with_block a b is is.horz is.vert is.minor_horz is.minor_vert

-- so they show one address, where the wiring has no other names
pub addresses_agree : (a b : Sees) → Agrees a b → (hood : Hood) (minor : Minor) →
    is_margolus hood ≡ true → minor ≢ Centers → address_of hood minor a ≡ address_of hood minor b
unfolding address_of
addresses_agree a b is hood minor h alone = ap number_of (lines_agree a b is hood minor h alone)
