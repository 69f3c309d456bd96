-- What was said of a text that was tried.
use Rattle.std.specs.Prelude.{◌≡◌, ℕ, List, Some, None, Result, Ok, Err, ⊤}
use Rattle.std.specs.Str.{IsUtf8}
use Rattle.cam6_wiring.specs.declared.wirings.Wiring.{Wiring}
use Rattle.cam6_table.specs.declared.compiling.NotCompiled.{NotCompiled}
use Rattle.cam6_table.specs.declared.compiling.NotCompiled.TheVariants.{Text, Stops, NoMemory}
use Rattle.cam6_rules.specs.Compiled.{Compiled}
use Rattle.cam6_model.specs.Refusals.{words_refusal}
use Rattle.cam6_commands.specs.declared.refusals.Refusal.TheVariants as refused

-- a text was tried: it is UTF-8 and a rule that stops nowhere and is kept, or it is refused for its
-- fault, or for the least address at which it stops; if an allocation failed, nothing is said
abbrev pub IsVerdict : Wiring → List ℕ → Result Compiled NotCompiled → Type 0
IsVerdict wiring text (Ok rule) =
    (words_refusal wiring text ≡ None) × (rule.wiring ≡ wiring) × (rule.text ≡ text) × IsUtf8 text
IsVerdict wiring text (Err (Text fault)) =
    words_refusal wiring text ≡ Some (refused.Text fault)
IsVerdict wiring text (Err (Stops address fault)) =
    words_refusal wiring text ≡ Some (refused.Stops address fault)
IsVerdict wiring text (Err NoMemory) = ⊤
