-- What a line says, by the value that it is: as commands show it, or as events do.
use Rattle.std.proofs.Common.{◌≡◌, ◌<◌, ◌≤◌, ℕ, List, [], ◌∷◌, length, Bool, true, false, nat_lt}
use Rattle.std.proofs.Common.{cond, Option, Some, None, IfSome, ok_or, Result, Ok, Err, refl, ap}
use Rattle.std.proofs.Common.{◌∙◌, arith, IsUtf8}
use Rattle.std.proofs.lemmas.Str.{is_utf8-from_IsUtf8, IsUtf8-from_is_utf8}
use Rattle.std.specs.Str.{is_utf8}
use Rattle.serde_json.specs.Data.{Data}
use Rattle.serde_json.specs.Read.{read}
use Rattle.serde_json.proofs.OnLiterals.{serde_json_on_literals}
use Rattle.cam6_wire.specs.Limits.{limit_of}
use Rattle.cam6_wire.specs.Commands.{value_of, from_value, said_by}
use Rattle.cam6_wire.specs.declared.faults.LineFault.{LineFault}
use Rattle.cam6_wire.specs.declared.faults.LineFault.TheVariants.{NoCommand, TooLong}
use Rattle.cam6_wire.proofs.Steps.{of_value}
use Rattle.cam6_wire.proofs.Ordered.{IsOrdered, value_is_ordered}

-- the value of a line of text
pub value_found : (line : List ℕ) (d : Data) → IsUtf8 line → read line ≡ Some d →
    value_of line ≡ Some d
value_found line d text e = ap (λ b. cond b (read line) None) (is_utf8-from_IsUtf8 line text) ∙ e

-- a line that is no JSON has none
pub no_value : (line : List ℕ) → (IsUtf8 line → read line ≡ None) → value_of line ≡ None
no_value line none = unless (is_utf8 line) refl
  where
    unless : (b : Bool) → is_utf8 line ≡ b → cond b (read line) None ≡ None
    unless false is = refl
    unless true is = none (IsUtf8-from_is_utf8 line is)

by_text : (valid : Bool) (o : Option Data) (d : Data) → cond valid o None ≡ Some d →
    (valid ≡ true) × (o ≡ Some d)
by_text true o d is = (refl, is)
by_text false o d is = let never : ⊥ = cc in absurd never

-- a line that has a value is UTF-8, and is read as the value
pub is_text : (line : List ℕ) (d : Data) → value_of line ≡ Some d →
    (is_utf8 line ≡ true) × (read line ≡ Some d)
is_text line d is = by_text (is_utf8 line) (read line) d is

some_byte : (line : List ℕ) (d : Data) → read line ≡ Some d → 0 < length line
unfolding serde_json_on_literals
some_byte [] d is = absurd (cc is)
some_byte (byte ∷ bytes) d is = omega arith

-- a line with a value isn't empty
pub not_empty : (line : List ℕ) (d : Data) → value_of line ≡ Some d → 0 < length line
not_empty line d is = some_byte line d (is_text line d is).1

not_long : (limit n : ℕ) → n ≤ limit → nat_lt limit n ≡ false
not_long limit n within = grind arith

-- a line within the limit says what its value shows
pub is_said : {A : Type 0} (shown : Data → Option A) (line : List ℕ) (d : Data) (a : A) →
    length line ≤ limit_of line → value_of line ≡ Some d → shown d ≡ Some a →
    said_by shown line ≡ Ok a
is_said shown line d a within is shows =
    ap (λ b. cond b (Err TooLong) (from_value shown line (value_of line)))
    (not_long (limit_of line) (length line) within) ∙
    ap (from_value shown line) is ∙ ap (λ o. ok_or o NoCommand) shows

-- a line that says something isn't too long
not_too_long : {A : Type 0} (limit n : ℕ) (said : Result A LineFault) (a : A) (b : Bool) →
    nat_lt limit n ≡ b → cond b (Err TooLong) said ≡ Ok a → (n ≤ limit) × (said ≡ Ok a)
not_too_long limit n said a true is e = let never : ⊥ = cc in absurd never
not_too_long limit n said a false is e = (grind arith, e)

found : {A : Type 0} (o : Option A) (a : A) → ok_or o NoCommand ≡ Ok a → o ≡ Some a
found None a e = let never : ⊥ = cc in absurd never
found (Some x) a e = let same : x ≡ a = cc in ap Some same

-- it has a value, which shows that
has_value : {A : Type 0} (shown : Data → Option A) (line : List ℕ) (o : Option Data) (a : A) →
    from_value shown line o ≡ Ok a → (d : Data) × (o ≡ Some d) × (shown d ≡ Some a)
has_value shown line None a e = let never : ⊥ = cc in absurd never
has_value shown line (Some d) a e = (d, refl, found (shown d) a e)

-- where what is shown by a value that is read has a form, the value of a line that says something
-- has it
pub is_shown : {A : Type 0} (shown : Data → Option A) (Form : Data → A → Type 0) →
    ((d : Data) → IsOrdered d → IfSome (shown d) (Form d)) → (line : List ℕ) (a : A) →
    said_by shown line ≡ Ok a →
    (length line ≤ limit_of line) × ((d : Data) × (value_of line ≡ Some d) × Form d a)
is_shown shown Form forms line a said =
    let short =
    not_too_long (limit_of line) (length line) (from_value shown line (value_of line)) a _ refl
    said in
    let value = has_value shown line (value_of line) a short.1 in
    let ordered = of_value IsOrdered (value_of line) value.0 (value_is_ordered line) value.1 in
    let form = of_value (Form value.0) (shown value.0) a (forms value.0 ordered) value.2 in
    (short.0, (value.0, value.1, form))

-- a line that says something has a byte, and isn't too long
pub is_within : {A : Type 0} (shown : Data → Option A) (line : List ℕ) (a : A) →
    said_by shown line ≡ Ok a → (0 < length line) × (length line ≤ limit_of line)
is_within shown line a said =
    let short =
    not_too_long (limit_of line) (length line) (from_value shown line (value_of line)) a _ refl
    said in
    let value = has_value shown line (value_of line) a short.1 in
    (not_empty line value.0 value.1, short.0)
