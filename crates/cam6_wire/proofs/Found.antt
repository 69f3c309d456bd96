-- What stands at a key, where something is read there.
use Rattle.std.proofs.Common.{◌≡◌, ℕ, ◌*◌, ◌/◌, length, List, cond, ◌==◌, Option, Some, None}
use Rattle.std.proofs.Common.{IfSome}
use Rattle.std.proofs.Common.{option_and_then, Result, Ok, Err, refl, ap, ◌∙◌}
use Rattle.std.specs.Result.{result_ok}
use Rattle.std.proofs.lemmas.Option.{IfSome_then}
use Rattle.std.proofs.lemmas.Bool.Decides.{Decides-eqb}
use Rattle.hex.specs.Hex.{decode_sized}
use Rattle.cam6_planes.specs.Digits.{bits_of_digits}
use Rattle.cam6_planes.specs.Side.{side_number, side_of}
use Rattle.cam6_planes.specs.declared.sides.Side.{Side}
use Rattle.hex.specs.declared.error.FromHexError.{FromHexError}
use Rattle.serde_json.specs.Data.{Data, null, boolean, number, string, array, object}
use Rattle.serde_json.specs.Data.{unsigned, negative, float, Members}
use Rattle.serde_json.specs.Find.{get, as_str}
use Rattle.cam6_wire.specs.Fields.{count, has_size, number_in, number_at, text_at}
use Rattle.cam6_wire.specs.Fields.{bits_at, ◌>>=◌}
use Rattle.cam6_wire.specs.Numbers.{natural}
use Rattle.cam6_wiring.specs.Texts.{half_text, hood_text, minor_text, grid_text}
use Rattle.cam6_wiring.specs.Texts.{half_named, hood_named, minor_named, grid_named}
use Rattle.cam6_wiring.proofs.NamesOfTexts.{half_in, hood_in, minor_in, grid_in}
use Rattle.cam6_wire.proofs.Steps.{of_step, of_test}

at_key : {A : Type 0} (shown : A → Data) (f : Data → Option A) →
    ((d : Data) → IfSome (f d) (λ a. d ≡ shown a)) → (o : Option Data) →
    IfSome (option_and_then f o) (λ a. o ≡ Some (shown a))
at_key shown f holds None = tt
at_key shown f holds (Some d) = IfSome_then (f d) (holds d) (λ a is. ap Some is)

pub number_shown : (d : Data) → IfSome (number_in d) (λ n. d ≡ natural n)
number_shown null = tt
number_shown (boolean b) = tt
number_shown (number (unsigned n)) = refl
number_shown (number (negative z)) = tt
number_shown (number (float x)) = tt
number_shown (string s) = tt
number_shown (array items) = tt
number_shown (object held) = tt

text_in : (d : Data) → IfSome (as_str d) (λ text. d ≡ string text)
text_in null = tt
text_in (boolean b) = tt
text_in (number n) = tt
text_in (string s) = refl
text_in (array items) = tt
text_in (object held) = tt

pub number_found : (key : List ℕ) (d : Data) →
    IfSome (number_at key d) (λ n. get key d ≡ Some (natural n))
number_found key d = at_key natural number_in number_shown (get key d)

pub text_found : (key : List ℕ) (d : Data) →
    IfSome (text_at key d) (λ text. get key d ≡ Some (string text))
text_found key d = at_key string as_str text_in (get key d)

abbrev pub AreDigits : List ℕ → Data → List ℕ → Type 0
AreDigits key d bits =
    (side : Side) × (digits : List ℕ) × (decode_sized digits (side_number side / 8) ≡ Ok bits) ×
    (get key d ≡ Some (string digits))

bits_in : (key digits : List ℕ) (d : Data) → get key d ≡ Some (string digits) →
    IfSome (bits_of_digits digits) (AreDigits key d)
bits_in key digits d found = by_side (side_of (4 * length digits))
  where
    by_result : (side : Side) (r : Result (List ℕ) FromHexError) →
        decode_sized digits (side_number side / 8) ≡ r →
        IfSome (result_ok r) (AreDigits key d)
    by_result side (Ok bits) is = (side, digits, is, found)
    by_result side (Err fault) is = tt

    by_side : (o : Option Side) →
        IfSome (o >>= λ side. result_ok (decode_sized digits (side_number side / 8)))
        (AreDigits key d)
    by_side None = tt
    by_side (Some side) = by_result side (decode_sized digits (side_number side / 8)) refl

pub bits_found : (key : List ℕ) (d : Data) → IfSome (bits_at key d) (AreDigits key d)
bits_found key d =
    of_step (λ text. get key d ≡ Some (string text)) (AreDigits key d)
    bits_of_digits (λ text found. bits_in key text d found) (text_at key d) (text_found key d)

-- what is named at a key
named_at : {A : Type 0} (shown : A → List ℕ) (named : List ℕ → Option A) →
    ((text : List ℕ) → IfSome (named text) (λ a. text ≡ shown a)) → (key : List ℕ) (d : Data) →
    IfSome (text_at key d >>= named) (λ a. get key d ≡ Some (string (shown a)))
named_at shown named holds key d =
    of_step (λ text. get key d ≡ Some (string text))
    (λ a. get key d ≡ Some (string (shown a))) named
    (λ text found. IfSome_then (named text) (holds text)
    (λ a is. found ∙ ap (λ s. Some (string s)) is))
    (text_at key d) (text_found key d)

pub half_found : (key : List ℕ) (d : Data) →
    IfSome (text_at key d >>= half_named) (λ half. get key d ≡ Some (string (half_text half)))
half_found key d = named_at half_text half_named half_in key d

pub hood_found : (key : List ℕ) (d : Data) →
    IfSome (text_at key d >>= hood_named) (λ hood. get key d ≡ Some (string (hood_text hood)))
hood_found key d = named_at hood_text hood_named hood_in key d

pub minor_found : (key : List ℕ) (d : Data) →
    IfSome (text_at key d >>= minor_named) (λ minor. get key d ≡ Some (string (minor_text minor)))
minor_found key d = named_at minor_text minor_named minor_in key d

pub grid_found : (key : List ℕ) (d : Data) →
    IfSome (text_at key d >>= grid_named) (λ grid. get key d ≡ Some (string (grid_text grid)))
grid_found key d = named_at grid_text grid_named grid_in key d

-- an object of so many keys
of_count : {A : Type 0} (P : A → Type 0) (n m : ℕ) (x : Option A) →
    (m ≡ n → IfSome x P) → IfSome (cond (m == n) x None) P
of_count P n m x holds =
    of_test P (m == n) x None (λ is. holds ((Decides-eqb m n).0 is)) tt

pub of_object : {A : Type 0} (n : ℕ) (f : Data → Option A) (R : Data → Type 0)
    (P : Data → A → Type 0) →
    ((held : Members) → count held ≡ n → R (object held) →
    IfSome (f (object held)) (P (object held))) →
    (d : Data) → R d → IfSome (cond (has_size n d) (f d) None) (P d)
of_object n f R P holds null given = tt
of_object n f R P holds (boolean b) given = tt
of_object n f R P holds (number x) given = tt
of_object n f R P holds (string s) given = tt
of_object n f R P holds (array items) given = tt
of_object n f R P holds (object held) given =
    of_count (P (object held)) n (count held) (f (object held)) (λ same. holds held same given)
