use Rattle.std.proofs.Common.{◌≡◌, []}
use Rattle.cam6_handoff.specs.Boot.{AreBlankDesksTo}
use Rattle.cam6_handoff.specs.declared.rule.View.TheVariants.{First}
use Rattle.cam6_handoff.proofs.start.add_desks.Given as goal

abbrev pub invariant-loop-row : goal.invariant-loop-row
invariant-loop-row l = record {
  same : l.first.table_id ≡ l.initial.first.table_id;
  next : l.first.me ≡ (First l.row 0, []);
  limits : l.limits ≡ l.fn.limits;
  made : AreBlankDesksTo l.row l.limits l.desks.items;
}
