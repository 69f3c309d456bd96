-- Keys that are the same, and the test of keys in memory.
use Rattle.std.proofs.Common.{◌≡◌, ℕ, List, Bool, true, false, ◌&&◌, refl, sym, ◌∙◌, ap, true≢false}
use Rattle.std.proofs.Common.{string_bytes}
use mathlib.Core.Bool.{beq}
use Rattle.std.proofs.lemmas.Slice.Eq.{bytes_eq-Decides}
use Rattle.std.specs.Str.{bytes_eq}
use Rattle.cam6_wiring.specs.Name.{is_same_half}
use Rattle.cam6_wiring.specs.Same.{is_same_hood, is_same_minor, is_same_wiring}
use Rattle.cam6_wiring.specs.declared.wirings.Wiring.{Wiring}
use Rattle.cam6_wiring.proofs.SameWirings.{half-eq, hood-eq, minor-eq, same_wiring}
use Rattle.cam6_wiring.proofs.SameWirings.{wiring_is, wiring_self}
use Rattle.cam6_cache.specs.Keys.{TableKey, is_same_key, is_same_way}
use Rattle.cam6_cache.specs.Internal.Entries.{key_of}
use Rattle.cam6_cache.specs.declared.keys.NamedKey.{NamedKey}
use Rattle.cam6_cache.specs.contracts.keys.NamedKeyPartialEq.TheImpl as impl

way-eq : (a b : Bool) → beq a b ≡ is_same_way a b
way-eq false false = refl
way-eq false true = refl
way-eq true false = refl
way-eq true true = refl

regrouped : (a b c d e : Bool) → a && (b && (c && (d && e))) ≡ (a && b && c) && d && e
regrouped false b c d e = refl
regrouped true false c d e = refl
regrouped true true false d e = refl
regrouped true true true d e = refl

-- the test of keys in memory is that of the keys
pub key-eq : (k l : NamedKey) → impl.eq-value.it k l ≡ is_same_key (key_of k) (key_of l)
key-eq k l =
    rw (half-eq k.half l.half, hood-eq k.hood l.hood, minor-eq k.minor l.minor)
    (rw (way-eq k.inverted l.inverted)
    (regrouped (is_same_half k.half l.half) (is_same_hood k.hood l.hood)
    (is_same_minor k.minor l.minor) (bytes_eq (string_bytes k.text) (string_bytes l.text))
    (is_same_way k.inverted l.inverted)))

both : (a b : Bool) → a && b ≡ true → (a ≡ true) × (b ≡ true)
both true b h = (refl, h)
both false b h = absurd (true≢false (sym h))

way_is : (a b : Bool) → is_same_way a b ≡ true → a ≡ b
way_is false false h = refl
way_is true true h = refl
way_is _ _ h = cc

way_self : (a : Bool) → is_same_way a a ≡ true
way_self false = refl
way_self true = refl

-- the key of these parts
abbrev made : Wiring → List ℕ → Bool → TableKey
made wiring text inverted = record { wiring = wiring; text = text; inverted = inverted }

-- keys of the same parts
same_parts : (first second : TableKey) → first.wiring ≡ second.wiring →
    first.text ≡ second.text → first.inverted ≡ second.inverted → first ≡ second
same_parts first second wiring_e text_e way_e =
    ap (λ x. made x first.text first.inverted) wiring_e ∙
    ap (λ x. made second.wiring x first.inverted) text_e ∙
    ap (made second.wiring second.text) way_e

-- a key is the same as no other
pub key_is : (first second : TableKey) → is_same_key first second ≡ true → first ≡ second
key_is first second h =
    let way = both _ (is_same_way first.inverted second.inverted) h in
    let text = both (is_same_wiring first.wiring second.wiring)
    (bytes_eq first.text second.text) way.0 in
    same_parts first second (wiring_is first.wiring second.wiring text.0)
    ((bytes_eq-Decides first.text second.text).0 text.1)
    (way_is first.inverted second.inverted way.1)

-- and as itself
pub key_self : (key : TableKey) → is_same_key key key ≡ true
key_self key =
    rw (wiring_self key.wiring)
    (rw (way_self key.inverted, (bytes_eq-Decides key.text key.text).1 refl) refl)

-- keys in memory of the same parts
pub named_alike : (own other : NamedKey) → own.half ≡ other.half → own.hood ≡ other.hood →
    own.minor ≡ other.minor → string_bytes own.text ≡ string_bytes other.text →
    own.inverted ≡ other.inverted → key_of own ≡ key_of other
named_alike own other half_e hood_e minor_e text_e way_e =
    same_parts (key_of own) (key_of other)
    (same_wiring (key_of own).wiring (key_of other).wiring half_e hood_e minor_e) text_e way_e
