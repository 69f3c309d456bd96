use Rattle.std.proofs.Common.{arith}
use Rattle.cam6_forth.proofs.Cutting.{parts-none}
use Rattle.cam6_forth.proofs.tokens.run_len.Goals as goal

pub loop-end-init : goal.loop-end-init
loop-end-init c = record { within = omega arith; parts = parts-none c.args.text.now }
