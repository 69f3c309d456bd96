use Rattle.std.proofs.Common.{◌≢◌, ◌+◌, [], ◌∷◌, ◌++◌, take, sym, ap, subst, ◌∙◌, rules, arith}
use Rattle.std.proofs.Common.{append-nil, length, refl}
use Rattle.std.proofs.lemmas.Bool.{eqb-true}
use Rattle.std.proofs.lemmas.Bool.Decides.{nat_tests}
use Rattle.std.proofs.lemmas.List.{take_more, length-take-le}
use Rattle.std.proofs.lemmas.List.Elements.{All-nil}
use Rattle.std.specs.Io.KnownBytes.{Consumes}
use Rattle.std.specs.Io.BufRead.{FillKeeps}
use Rattle.std.proofs.BufReadLemmas.{Consumes_shown}
use Rattle.cam6_session.proofs.Keeping.{grows_nothing, consumes_none, becomes_long_by, at_end_by}
use Rattle.cam6_session.proofs.lines.take_part.Goals as goal

pub returns-in-Err : goal.returns-in-Err
returns-in-Err g c = record {
  part = [];
  free = search rules;
  grows = search rules;
  taken = search rules;
  more = λ e. cc;
  at_end = λ e. cc;
  wanted = λ e. cc;
}

pub returns-else-len-shown : goal.returns-else-len-shown
returns-else-len-shown g c =
    let len = c.line_len-len in
    let shown = c.in-Ok.shown.now in
    let rested = c.fill_buf.follows.lender-at-none in
    let keeps = FillKeeps _ (g.R.Read.remaining rested) (g.R.BufRead.consumable_len rested) in
    let filled = subst keeps c.in-Ok.is c.fill_buf.follows.holds-at-none in
    let moved = Consumes_shown _ _ _ _ shown len.result len.ensures.within
    c.in-Ok.ensures.front c.in-Ok.ensures.end filled.0 filled.1
    c.consume-else-len-shown.ensures.bytes in
    record {
      part = take len.result shown;
      free = len.ensures.before;
      grows = search rules;
      taken = subst (Consumes _ _) (sym (append-nil _)) moved.0;
      more = λ e.
          rw (length-take-le len.result shown len.ensures.within) (grind (arith, nat_tests));
      at_end = λ e. cc;
      wanted = λ e. cc;
    }

pub returns-then-len-shown : goal.returns-then-len-shown
returns-then-len-shown g c =
    let len = c.line_len-len in
    let shown = c.in-Ok.shown.now in
    let rested = c.fill_buf.follows.lender-at-none in
    let keeps = FillKeeps _ (g.R.Read.remaining rested) (g.R.BufRead.consumable_len rested) in
    let filled = subst keeps c.in-Ok.is c.fill_buf.follows.holds-at-none in
    let moved = Consumes_shown _ _ _ _ shown (len.result + 1) (omega arith)
    c.in-Ok.ensures.front c.in-Ok.ensures.end filled.0 filled.1 c.consume.ensures.bytes in
    let found = c.if-len-shown.true in
    let with_lf = take_more shown len.result 0 found
    ∙ ap (λ x. take len.result shown ++ x ∷ []) (len.ensures.at found) in
    record {
      part = take len.result shown;
      free = len.ensures.before;
      grows = search rules;
      taken = subst (Consumes _ _) with_lf moved.0;
      more = λ e. cc;
      at_end = λ e. cc;
      wanted = λ e. cc;
    }

pub returns-in_default : goal.returns-in_default
returns-in_default g c =
    let len = c.line_len-len in
    let shown = c.in-Ok.shown.now in
    let rested = c.fill_buf.follows.lender-at-none in
    let keeps = FillKeeps _ (g.R.Read.remaining rested) (g.R.BufRead.consumable_len rested) in
    let filled = subst keeps c.in-Ok.is c.fill_buf.follows.holds-at-none in
    record {
      part = [];
      free = All-nil (λ x. x ≢ 10);
      grows = grows_nothing c.args.line.now c.add.new.self c.in_default.ensures.kept;
      taken = consumes_none _ _ filled.0;
      more = λ e. cc;
      at_end = λ e. cc;
      wanted = λ e. (
        refl,
        becomes_long_by (g.R.Read.remaining c.args.reader.now) shown len.result c.args.line.now
            len.ensures.within c.in-Ok.ensures.front len.ensures.before
            c.in_default.ensures.wanted,
      );
    }

pub returns-then-is_empty : goal.returns-then-is_empty
returns-then-is_empty g c =
    let shown = c.in-Ok.shown.now in
    let rested = c.fill_buf.follows.lender-at-none in
    let keeps = FillKeeps _ (g.R.Read.remaining rested) (g.R.BufRead.consumable_len rested) in
    let filled = subst keeps c.in-Ok.is c.fill_buf.follows.holds-at-none in
    record {
      part = [];
      free = All-nil (λ x. x ≢ 10);
      grows = grows_nothing c.args.line.now c.args.line.now refl;
      taken = consumes_none _ _ filled.0;
      more = λ e. cc;
      at_end = λ e. (
        refl,
        at_end_by _ shown (eqb-true (length shown) 0 (sym c.if-is_empty.ensures))
            c.in-Ok.ensures.end,
      );
      wanted = λ e. cc;
    }
