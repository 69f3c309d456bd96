use Rattle.std.proofs.Common.{sym, ap, ◌∙◌}
use Rattle.cam6_forth.specs.Reading.{read, numbered}
use Rattle.cam6_forth.proofs.TextLaws.{read_is_tree}
use Rattle.cam6_forth.proofs.parser.read_text.Goals as goal

pub new-requires : goal.new-requires
new-requires c =
    let w = c.args.wiring in
    let reader = c.loop-token.reader in
    let n = c.loop-token.token_number in
    record {
      definitions = read_is_tree w c.args.text.now c.in-Ok-finish.definitions.items
          (sym c.loop-token.invariant.same ∙ ap (read w reader n) c.in_default.ensures.token
          ∙ ap (λ r. numbered r n) c.in-Ok-finish.ensures);
    }
