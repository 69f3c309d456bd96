use Rattle.std.proofs.Common.{◌∙◌, refl, sym, arith}
use Rattle.cam6_show_frames.proofs.Counted.{counted_on, none_counted, others_after, others_at, so_many}
use Rattle.cam6_show_frames.proofs.Unknown.{shown_at_first, is_cut_off, is_at_end, shown_on, is_not_taken}
use Rattle.cam6_show_frames.specs.declared.showing.End.TheVariants.{ReadFault, NoMemory, TooManyLines}
use Rattle.cam6_show_frames.proofs.showing.show_frames.Goals as goal

pub loop-before-init : goal.loop-before-init
loop-before-init g c = record {
  same = refl;
  shown =
      shown_at_first (g.S.Screen.picture c.args.screen.now) (g.R.Read.remaining c.args.reader.now)
      (g.S.Screen.contents c.args.screen.now) c.new-run.result c.new-run.ensures;
  counted = none_counted (g.R.Read.remaining c.args.reader.now);
}

pub returns-in-ReadFault-clause-shown : goal.returns-in-ReadFault-clause-shown
returns-in-ReadFault-clause-shown g c =
    is_cut_off _ _ _ _ _ _ _ c.loop-before.invariant.shown ReadFault (λ v missing. tt)

pub returns-in-NoMemory-clause-shown : goal.returns-in-NoMemory-clause-shown
returns-in-NoMemory-clause-shown g c =
    is_cut_off _ _ _ _ _ _ _ c.loop-before.invariant.shown NoMemory (λ v missing. tt)

pub returns-clause-shown : goal.returns-clause-shown
returns-clause-shown g c =
    is_cut_off _ _ _ _ _ _ _ c.loop-before.invariant.shown TooManyLines (λ v missing. tt)

pub returns-in-EndOfInput-clause-shown : goal.returns-in-EndOfInput-clause-shown
returns-in-EndOfInput-clause-shown g c =
    is_at_end _ _ _ _ _ _ _ c.loop-before.invariant.shown c.end_after.result
    (g.R.Read.remaining c.read_line.new.reader) c.read_line.new.line.items c.end_after.ensures
    c.in-EndOfInput.ensures

pub returns-in-Err-clause-shown : goal.returns-in-Err-clause-shown
returns-in-Err-clause-shown g c =
    is_not_taken _ _ _ _ _ _ _ c.loop-before.invariant.shown c.read_line.new.line.items
    c.deref.result.now c.deref.ensures.value (g.R.Read.remaining c.read_line.new.reader)
    c.in-Line.ensures (g.S.Screen.picture c.loop-before.screen) c.loop-before.invariant.same
    (g.S.Screen.contents c.take_line.new.screen) c.take_line.new.run c.end_at.result c.in-Err.stop
    c.end_at.ensures c.in-Err.ensures.taken

pub loop-before-preserved : goal.loop-before-preserved
loop-before-preserved g c = record {
  same = c.in-Ok.ensures.stays ∙ c.loop-before.invariant.same;
  shown =
      shown_on _ _ _ _ _ _ _ c.loop-before.invariant.shown c.read_line.new.line.items
      c.deref.result.now c.deref.ensures.value (g.R.Read.remaining c.read_line.new.reader)
      c.in-Line.ensures (g.S.Screen.picture c.loop-before.screen) c.loop-before.invariant.same
      (g.S.Screen.contents c.take_line.new.screen) c.take_line.new.run c.in-Ok.ensures.taken;
  counted =
      counted_on _ _ (g.R.Read.remaining c.read_line.new.reader) _ c.read_line.new.line.items
      c.loop-before.invariant.counted c.in-Line.ensures;
}

pub returns-clause-lines : goal.returns-clause-lines
returns-clause-lines g c = λ is. so_many _ _ _ _ c.loop-before.invariant.counted (omega arith)

pub returns-in-EndOfInput-clause-lines : goal.returns-in-EndOfInput-clause-lines
returns-in-EndOfInput-clause-lines g c =
    λ is. absurd (others_after _ _ (sym c.end_after.ensures ∙ is))

pub returns-in-Err-clause-lines : goal.returns-in-Err-clause-lines
returns-in-Err-clause-lines g c = λ is. absurd (others_at _ _ (sym c.end_at.ensures ∙ is))
