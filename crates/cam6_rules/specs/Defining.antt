-- What is said of a rule that is to be defined, and of rules that were saved.
use Rattle.std.specs.Prelude.{◌≡◌, Bool, true, false, List, [], ◌∷◌, ◌++◌, Option, Some, None}
use Rattle.std.specs.Prelude.{Result, Ok, Err, ⊤}
use Rattle.cam6_model.specs.Rules.{Rule}
use Rattle.cam6_model.specs.Refusals.{is_rule_after, are_rules_after}
use Rattle.cam6_commands.specs.declared.refusals.Refusal.{Refusal}
use Rattle.cam6_rules.specs.declared.rules.NotDefined.{NotDefined}
use Rattle.cam6_rules.specs.declared.rules.NotDefined.TheVariants.{Refused, NoMemory}

-- it is defined if there is no refusal, and refused if there is one; if an allocation failed,
-- nothing is said
abbrev pub IsDefinedUnless : Option Refusal → Result (Unit {0}) NotDefined → Type 0
IsDefinedUnless refusal (Ok done) = refusal ≡ None
IsDefinedUnless refusal (Err (Refused refused)) = refusal ≡ Some refused
IsDefinedUnless refusal (Err NoMemory) = ⊤

-- a rule that may be defined after the old rules stands after them, or it may not be
abbrev pub IsAdded : Bool → List Rule → List Rule → Rule → Type 0
IsAdded true old new rule = (is_rule_after old rule ≡ true) × (new ≡ old ++ rule ∷ [])
IsAdded false old new rule = is_rule_after old rule ≡ false

-- rules that may be defined one after another are, all of them, or they may not be and none is
abbrev pub AreDefined : List Rule → Option (List Rule) → Type 0
AreDefined rules (Some kept) = (are_rules_after [] rules ≡ true) × (kept ≡ rules)
AreDefined rules None = are_rules_after [] rules ≡ false
