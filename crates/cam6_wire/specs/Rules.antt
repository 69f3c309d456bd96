-- A rule, as an object says it.
use Rattle.std.specs.Prelude.{codes, Option, Some}
use Rattle.serde_json.specs.Data.{Data}
use Rattle.cam6_commands.specs.declared.saved.NamedRule.{NamedRule}
use Rattle.cam6_wire.specs.Fields.{text_at, ◌>>=◌}
use Rattle.cam6_wire.specs.Wirings.{wiring_in}

-- the rule of the keys half, hood, minor, name and text
abbrev pub rule_fields : Data → Option NamedRule
rule_fields d = do
  name ← text_at (codes "name") d
  wiring ← wiring_in d
  text ← text_at (codes "text") d
  Some (record { name = name; wiring = wiring; text = text })
