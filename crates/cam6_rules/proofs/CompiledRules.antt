-- The rules of a map, looked up by name.
use Rattle.std.proofs.Common.{◌≡◌, ℕ, suc, ◌+◌, List, [], ◌∷◌, Bool, true, false, cond}
use Rattle.std.proofs.Common.{Option, Some, None, String, Global, refl, sym, ap, ◌∙◌, map, arith}
use Rattle.std.proofs.Common.{string_bytes, option_map, slice_get}
use Rattle.std.specs.Map.{lookup, remove_entry}
use Rattle.std.specs.List.{position, position_from}
use Rattle.std.specs.Str.{bytes_eq}
use Rattle.std.proofs.lemmas.Iterator.Adapters.{position_from-zero}
use Rattle.std.specs.String.{string_eq}
use Rattle.std.proofs.lemmas.Option.{slice_get-map}
use Rattle.indexmap.specs.IndexMap.{insert_entry}
use Rattle.cam6_model.specs.Effects.{with_rule, without_rule}
use Rattle.cam6_model.specs.Rules.{Rule, rule_named, wiring_for, wiring_of}
use Rattle.cam6_rules.specs.Numbers.{rule_at}
use Rattle.cam6_rules.specs.Internal.Numbered.{rules_of, rule_number}
use Rattle.cam6_rules.specs.declared.compiled.CompiledRule.{CompiledRule}

-- whether a key of the map is this name
abbrev pub is_name : List ℕ → String Global → Bool
is_name name key = bytes_eq name (string_bytes key)

-- a rule as it is listed
abbrev pub listed : String Global × CompiledRule → Rule
listed e = record { name = string_bytes e.0; wiring = e.1.wiring; text = e.1.text }

pub rule_named-rules_of : (name : List ℕ) (es : List (String Global × CompiledRule)) →
    option_map (λ (r : CompiledRule). r.wiring) (lookup (is_name name) es)
    ≡ wiring_of name (rules_of es)
rule_named-rules_of name [] = refl
rule_named-rules_of name (e ∷ es) =
    found (bytes_eq name (string_bytes e.0)) (rule_named-rules_of name es)
  where
    found : (b : Bool)
        → option_map (λ (r : CompiledRule). r.wiring) (lookup (is_name name) es)
        ≡ wiring_of name (rules_of es)
        → option_map (λ (r : CompiledRule). r.wiring) (cond b (Some e.1) (lookup (is_name name) es))
        ≡ wiring_for (cond b (Some (listed e)) (rule_named name (rules_of es)))
    found true h = refl
    found false h = h

-- a number that is counted from i on
counted : ℕ → Option ℕ → Option ℕ
counted i = option_map (λ number. i + number)

number_from-rules_of : (i : ℕ) (name : List ℕ) (es : List (String Global × CompiledRule)) →
    position_from (is_name name) i (map (λ e. e.0) es) ≡ counted i (rule_number name (rules_of es))
unfolding counted
number_from-rules_of i name [] = refl
number_from-rules_of i name (e ∷ es) =
    found (bytes_eq name (string_bytes e.0)) (number_from-rules_of (i + 1) name es)
  where
    one_more : (o : Option ℕ) → counted (i + 1) o ≡ counted i (option_map suc o)
    one_more None = refl
    one_more (Some number) = ap Some (omega arith)

    found : (b : Bool)
        → position_from (is_name name) (i + 1) (map (λ e. e.0) es)
        ≡ counted (i + 1) (rule_number name (rules_of es))
        → cond b (Some i) (position_from (is_name name) (i + 1) (map (λ e. e.0) es))
        ≡ counted i (cond b (Some 0) (option_map suc (rule_number name (rules_of es))))
    found true h = ap Some (omega arith)
    found false h = h ∙ one_more (rule_number name (rules_of es))

counted_from_0 : (o : Option ℕ) → counted 0 o ≡ o
unfolding counted
counted_from_0 None = refl
counted_from_0 (Some number) = ap Some (omega arith)

pub rule_number-rules_of : (name : List ℕ) (es : List (String Global × CompiledRule)) →
    position (is_name name) (map (λ e. e.0) es) ≡ rule_number name (rules_of es)
rule_number-rules_of name es =
    position_from-zero (is_name name) (map (λ e. e.0) es) ∙ number_from-rules_of 0 name es ∙
    counted_from_0 (rule_number name (rules_of es))

pub rules_of-insert_entry : (es : List (String Global × CompiledRule)) (k : String Global)
    (v : CompiledRule) →
    rules_of (insert_entry string_eq es k v) ≡ with_rule (listed (k, v)) (rules_of es)
rules_of-insert_entry [] k v = refl
rules_of-insert_entry (e ∷ es) k v =
    put (bytes_eq (string_bytes k) (string_bytes e.0)) (rules_of-insert_entry es k v)
  where
    new : Rule
    new = listed (k, v)

    first : Rule
    first = listed e

    put : (b : Bool)
        → rules_of (insert_entry string_eq es k v) ≡ with_rule new (rules_of es)
        → rules_of (cond b ((e.0, v) ∷ es) (e ∷ insert_entry string_eq es k v))
        ≡ cond b (record first { wiring = v.wiring; text = v.text } ∷ rules_of es)
        (first ∷ with_rule new (rules_of es))
    put true h = refl
    put false h = ap (λ l. first ∷ l) h

pub rules_of-remove_entry : (name : List ℕ) (es : List (String Global × CompiledRule)) →
    rules_of (remove_entry (is_name name) es) ≡ without_rule name (rules_of es)
rules_of-remove_entry name [] = refl
rules_of-remove_entry name (e ∷ es) =
    by_test (bytes_eq name (string_bytes e.0)) (rules_of-remove_entry name es)
  where
    by_test : (b : Bool) → rules_of (remove_entry (is_name name) es)
        ≡ without_rule name (rules_of es) →
        rules_of (cond b es (e ∷ remove_entry (is_name name) es))
        ≡ cond b (rules_of es) (listed e ∷ without_rule name (rules_of es))
    by_test true rest = refl
    by_test false rest = ap (λ l. listed e ∷ l) rest

pub rule_at-rules_of : (es : List (String Global × CompiledRule)) (number : ℕ) →
    rule_at (rules_of es) (Some number) ≡ option_map listed (slice_get es number)
rule_at-rules_of es number = slice_get-map listed es number

-- a rule that is found at a number
pub rule_found : (es : List (String Global × CompiledRule)) (number : ℕ)
    (e : String Global × CompiledRule) → Some e ≡ slice_get es number →
    rule_at (rules_of es) (Some number) ≡ Some (listed e)
rule_found es number e found =
    rule_at-rules_of es number ∙ ap (option_map listed) (sym found)

pub no_rule_found : (es : List (String Global × CompiledRule)) (number : ℕ) →
    None ≡ slice_get es number → rule_at (rules_of es) (Some number) ≡ None
no_rule_found es number none =
    rule_at-rules_of es number ∙ ap (option_map listed) (sym none)
