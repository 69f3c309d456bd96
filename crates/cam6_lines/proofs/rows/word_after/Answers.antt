use Rattle.std.proofs.Common.{◌+◌, ◌*◌, ◌∙◌, arith}
use Rattle.cam6_planes.proofs.WordByWord.{east_of-last, east_of-lt}
use Rattle.cam6_lines.proofs.rows.word_after.Goals as goal

pub returns-then-i-words-clause-word : goal.returns-then-i-words-clause-word
returns-then-i-words-clause-word c = λ h.
    east_of-lt (64 * c.args.words) (64 * c.args.i + 63) (omega arith) ∙ omega arith

pub returns-else-i-words-clause-word : goal.returns-else-i-words-clause-word
returns-else-i-words-clause-word c = λ h.
    east_of-last (64 * c.args.words) (64 * c.args.i + 63) (omega arith)
