-- A saved machine's JSON value has no float and doesn't nest deep.
use Rattle.std.proofs.Common.{◌≡◌, ◌≤◌, ℕ, List, [], ◌∷◌, false, ◌||◌, map, refl, ap, ◌∙◌, arith}
use Rattle.hex.specs.Hex.{encode_lower}
use Rattle.serde_json.specs.Data.{Data, string, depth, items_depth}
use Rattle.serde_json.specs.View.{items_of}
use Rattle.serde_json.specs.Written.{has_float, items_have_float}
use Rattle.cam6_commands.specs.declared.saved.SavedMachine.{SavedMachine}
use Rattle.cam6_wire.specs.Numbers.{natural}
use Rattle.cam6_wire.specs.Saved.{entry_data, rule_data, rows_data, saved_data, load_data}
use Rattle.cam6_wire.specs.declared.saved.Version.{Version}
use Rattle.cam6_wire.specs.declared.saved.Version.TheVariants.{First, Second}

none_float : {A : Type 0} (f : A → Data) (xs : List A) → ((x : A) → has_float (f x) ≡ false) →
    items_have_float (items_of (map f xs)) ≡ false
none_float f [] none = refl
none_float f (x ∷ xs) none =
    ap (λ b. b || items_have_float (items_of (map f xs))) (none x) ∙ none_float f xs none

rows_float : (rows : List (List ℕ)) → has_float (rows_data rows) ≡ false
rows_float rows = none_float string (map encode_lower rows) (λ row. refl)

pub saved_without_float : (version : Version) (saved : SavedMachine) →
    has_float (saved_data version saved) ≡ false
saved_without_float First saved =
    rw (
      none_float natural saved.colours (λ n. refl),
      none_float entry_data saved.cycle (λ e. refl),
      none_float rows_data saved.planes rows_float,
      none_float rule_data saved.rules (λ r. refl),
    ) refl
saved_without_float Second saved =
    rw (
      none_float natural saved.colours (λ n. refl),
      none_float entry_data saved.cycle (λ e. refl),
      none_float rows_data saved.planes rows_float,
      none_float rule_data saved.rules (λ r. refl),
    ) refl

pub load_without_float : (version : Version) (saved : SavedMachine) →
    has_float (load_data (saved_data version saved)) ≡ false
load_without_float version saved = rw (saved_without_float version saved) refl

flat_items : {A : Type 0} (f : A → Data) (n : ℕ) (xs : List A) → ((x : A) → depth (f x) ≤ n) →
    items_depth (items_of (map f xs)) ≤ n
flat_items f n [] flat = omega arith
flat_items f n (x ∷ xs) flat = omega (arith, flat x, flat_items f n xs flat)

flat_rows : (rows : List (List ℕ)) → depth (rows_data rows) ≤ 1
flat_rows rows =
    omega (arith, flat_items string 0 (map encode_lower rows) (λ row. omega arith))

pub flat_saved : (version : Version) (saved : SavedMachine) →
    depth (saved_data version saved) ≤ 3
flat_saved First saved =
    omega (
      arith,
      flat_items natural 0 saved.colours (λ n. omega arith),
      flat_items entry_data 1 saved.cycle (λ e. omega arith),
      flat_items rows_data 1 saved.planes flat_rows,
      flat_items rule_data 1 saved.rules (λ r. omega arith),
    )
flat_saved Second saved =
    omega (
      arith,
      flat_items natural 0 saved.colours (λ n. omega arith),
      flat_items entry_data 1 saved.cycle (λ e. omega arith),
      flat_items rows_data 1 saved.planes flat_rows,
      flat_items rule_data 1 saved.rules (λ r. omega arith),
    )

pub flat_load : (version : Version) (saved : SavedMachine) →
    depth (load_data (saved_data version saved)) ≤ 4
flat_load version saved = omega (arith, flat_saved version saved)
