use Rattle.cam6_table.proofs.Jumps.{last-before}
use Rattle.cam6_table.proofs.codes.Instructions.before.Goals as goal

pub returns : goal.returns
returns c =
    last-before c.self.inside.back_to_front.items c.args.self.now c.args.remaining c.index.result.now
    c.self.view_is c.requires c.index.ensures
