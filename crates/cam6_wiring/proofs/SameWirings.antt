-- Halves, neighbourhoods, minor assignments and wirings that are the same, and the test of them in
-- memory.
use Rattle.std.proofs.Common.{◌≡◌, Bool, true, false, ◌&&◌, refl, sym, ◌∙◌, ap, subst, true≢false}
use Rattle.cam6_wiring.specs.Laws.{WiringsAreThemselves}
use Rattle.cam6_wiring.specs.Name.{is_same_half}
use Rattle.cam6_wiring.specs.Same.{is_same_hood, is_same_minor, is_same_wiring}
use Rattle.cam6_wiring.specs.Wiring.{wired}
use Rattle.cam6_wiring.specs.declared.names.Half.{Half}
use Rattle.cam6_wiring.specs.declared.names.Half.TheVariants.{A, B}
use Rattle.cam6_wiring.specs.declared.wirings.Hood.{Hood}
use Rattle.cam6_wiring.specs.declared.wirings.Hood.TheVariants.{Moore, VonNeumann, Margolus}
use Rattle.cam6_wiring.specs.declared.wirings.Hood.TheVariants.{MargolusPhase, MargolusHorzVert}
use Rattle.cam6_wiring.specs.declared.wirings.Minor.{Minor}
use Rattle.cam6_wiring.specs.declared.wirings.Minor.TheVariants.{Centers, Phases, HorzVert}
use Rattle.cam6_wiring.specs.declared.wirings.Wiring.{Wiring}
use Rattle.cam6_wiring.specs.contracts.names.HalfPartialEq.TheImpl as half
use Rattle.cam6_wiring.specs.contracts.wirings.HoodPartialEq.TheImpl as hood
use Rattle.cam6_wiring.specs.contracts.wirings.MinorPartialEq.TheImpl as minor

pub half-eq : (a b : Half) → half.eq-value.it a b ≡ is_same_half a b
half-eq A A = refl
half-eq B B = refl
half-eq _ _ = refl

pub hood-eq : (a b : Hood) → hood.eq-value.it a b ≡ is_same_hood a b
hood-eq Moore Moore = refl
hood-eq VonNeumann VonNeumann = refl
hood-eq Margolus Margolus = refl
hood-eq MargolusPhase MargolusPhase = refl
hood-eq MargolusHorzVert MargolusHorzVert = refl
hood-eq _ _ = refl

pub minor-eq : (a b : Minor) → minor.eq-value.it a b ≡ is_same_minor a b
minor-eq Centers Centers = refl
minor-eq Phases Phases = refl
minor-eq HorzVert HorzVert = refl
minor-eq _ _ = refl

both : (a b : Bool) → a && b ≡ true → (a ≡ true) × (b ≡ true)
both true b h = (refl, h)
both false b h = absurd (true≢false (sym h))

pub half_is : (a b : Half) → is_same_half a b ≡ true → a ≡ b
half_is A A h = refl
half_is B B h = refl
half_is _ _ h = cc

pub hood_is : (a b : Hood) → is_same_hood a b ≡ true → a ≡ b
hood_is Moore Moore h = refl
hood_is VonNeumann VonNeumann h = refl
hood_is Margolus Margolus h = refl
hood_is MargolusPhase MargolusPhase h = refl
hood_is MargolusHorzVert MargolusHorzVert h = refl
hood_is _ _ h = cc

pub minor_is : (a b : Minor) → is_same_minor a b ≡ true → a ≡ b
minor_is Centers Centers h = refl
minor_is Phases Phases h = refl
minor_is HorzVert HorzVert h = refl
minor_is _ _ h = cc

pub half_self : (a : Half) → is_same_half a a ≡ true
half_self A = refl
half_self B = refl

pub hood_self : (a : Hood) → is_same_hood a a ≡ true
hood_self Moore = refl
hood_self VonNeumann = refl
hood_self Margolus = refl
hood_self MargolusPhase = refl
hood_self MargolusHorzVert = refl

pub minor_self : (a : Minor) → is_same_minor a a ≡ true
minor_self Centers = refl
minor_self Phases = refl
minor_self HorzVert = refl

-- wirings of the same parts
pub same_wiring : (first second : Wiring) → first.half ≡ second.half →
    first.hood ≡ second.hood → first.minor ≡ second.minor → first ≡ second
same_wiring first second half_e hood_e minor_e =
    ap (λ x. wired x first.hood first.minor) half_e ∙
    ap (λ x. wired second.half x first.minor) hood_e ∙
    ap (wired second.half second.hood) minor_e

-- a wiring is the same as no other
pub wiring_is : (first second : Wiring) → is_same_wiring first second ≡ true → first ≡ second
wiring_is first second h =
    let minor = both _ (is_same_minor first.minor second.minor) h in
    let hood = both (is_same_half first.half second.half) _ minor.0 in
    same_wiring first second (half_is first.half second.half hood.0)
    (hood_is first.hood second.hood hood.1) (minor_is first.minor second.minor minor.1)

-- and as itself
pub wiring_self : (wiring : Wiring) → is_same_wiring wiring wiring ≡ true
wiring_self wiring =
    rw (half_self wiring.half, hood_self wiring.hood, minor_self wiring.minor) refl

pub wirings_are_themselves : WiringsAreThemselves
wirings_are_themselves first second = (
  wiring_is first second,
  λ same. subst (λ (wiring : Wiring). is_same_wiring first wiring ≡ true) same (wiring_self first),
)
