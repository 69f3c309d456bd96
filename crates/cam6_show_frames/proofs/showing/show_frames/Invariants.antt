use Rattle.std.proofs.Common.{◌≡◌}
use Rattle.cam6_show_frames.proofs.Counted.{Counted}
use Rattle.cam6_show_frames.proofs.Unknown.{Shown}
use Rattle.cam6_show_frames.proofs.showing.show_frames.Given as goal

abbrev pub invariant-loop-before : goal.invariant-loop-before
invariant-loop-before g l = record {
  same : g.S.Screen.picture l.screen ≡ g.S.Screen.picture l.fn.screen;
  shown : Shown (g.S.Screen.picture l.fn.screen) (g.R.Read.remaining l.fn.reader)
      (g.S.Screen.contents l.fn.screen) l.before l.run (g.R.Read.remaining l.reader)
      (g.S.Screen.contents l.screen);
  counted : Counted (g.R.Read.remaining l.fn.reader) l.before (g.R.Read.remaining l.reader);
}
