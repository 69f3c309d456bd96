use Rattle.std.proofs.Common.{ℕ, List, replicate, None, sym, subst}
use Rattle.atomic_table.specs.Table.{opening}
use Rattle.cam6_handoff.specs.Rule.{Rule}
use Rattle.cam6_handoff.specs.declared.rule.View.TheVariants.{First}
use Rattle.cam6_handoff.proofs.Keeps.{opens, take_zeros}
use Rattle.cam6_handoff.proofs.start.boot.Goals as goal

pub vacant-requires : goal.vacant-requires
vacant-requires c =
    let n : ℕ = c.args.users in
    subst (λ (ws : List ℕ). Rule n (opening ws (replicate n None) (First 0 0)))
    (sym (take_zeros n 32 c.requires.users)) (opens n)
