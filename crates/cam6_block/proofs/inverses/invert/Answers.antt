use Rattle.std.proofs.Common.{arith}
use Rattle.cam6_block.proofs.Phases.{phase_number-lt}
use Rattle.cam6_block.proofs.inverses.invert.Goals as goal

pub fill_shown-requires-clause-one_to_one : goal.fill_shown-requires-clause-one_to_one
fill_shown-requires-clause-one_to_one c phase =
    c.loop-phase.invariant phase (omega (arith, phase_number-lt phase))

pub returns-clause-reversible : goal.returns-clause-reversible
returns-clause-reversible c = record {
  blocks = search;
  alone = search;
  one_to_one = λ phase. c.loop-phase.invariant phase (omega (arith, phase_number-lt phase));
}
