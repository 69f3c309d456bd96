-- The texts of rules, as a command has them.
use Rattle.std.specs.Prelude.{⊤}
use Rattle.std.specs.List.{AllByRecursion}
use Rattle.std.specs.Str.{IsUtf8}
use Rattle.cam6_commands.specs.declared.commands.Command.{Command}
use Rattle.cam6_commands.specs.declared.commands.Command.TheVariants.{Rule, Load}

-- the text of the rule that a command defines, if it defines one, is UTF-8, and so are those of the
-- rules that it loads
abbrev pub HasText : Command → Type 0
HasText (Rule name wiring text) = IsUtf8 text
HasText (Load saved) = AllByRecursion (λ rule. IsUtf8 rule.text) saved.rules
HasText _ = ⊤
