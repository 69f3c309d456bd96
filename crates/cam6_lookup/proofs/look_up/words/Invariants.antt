use Rattle.cam6_lookup.proofs.Lanes.{Has, bit_shown}
use Rattle.cam6_lookup.proofs.look_up.words.Given as goal

abbrev pub invariant-loop-pass : goal.invariant-loop-pass
invariant-loop-pass l = record {
  lower : Has (bit_shown l.entries l.rows l.i 0) l.lower l.pass;
  upper : Has (bit_shown l.entries l.rows l.i 1) l.upper l.pass;
}
