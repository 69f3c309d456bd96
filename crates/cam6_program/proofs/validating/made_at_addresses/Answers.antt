use Rattle.std.proofs.Common.{◌∙◌, ap}
use Rattle.cam6_wiring.specs.Lines.{at_column}
use Rattle.cam6_wiring.specs.Seen.{number_of}
use Rattle.cam6_lines.specs.Units.{asked_for}
use Rattle.cam6_program.proofs.EveryAddress.{address-lt}
use Rattle.cam6_program.proofs.validating.made_at_addresses.Goals as goal

pub kept_or-requires : goal.kept_or-requires
kept_or-requires c = λ made bits long.
    c.run.ensures.lower made (number_of bits) bits (address-lt bits long)
    (ap (at_column (number_of bits)) c.each_ref.ensures.items ∙
    c.asked_lines-lines.ensures bits long ∙ ap (λ mask. asked_for mask bits) c.asked.ensures)

pub kept_or-requires-2 : goal.kept_or-requires-2
kept_or-requires-2 c = λ made bits long.
    c.run.ensures.upper made (number_of bits) bits (address-lt bits long)
    (ap (at_column (number_of bits)) c.each_ref.ensures.items ∙
    c.asked_lines-lines.ensures bits long ∙ ap (λ mask. asked_for mask bits) c.asked.ensures)
