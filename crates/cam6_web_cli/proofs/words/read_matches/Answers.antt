use Rattle.cam6_web_cli.proofs.Given.{asked_so, refused_so}
use Rattle.cam6_web_cli.proofs.words.read_matches.Goals as goal

pub returns-in-Ok-clause-asked : goal.returns-in-Ok-clause-asked
returns-in-Ok-clause-asked c =
    asked_so _ _ _ _ c.in-Ok.numbers _ c.texts_at.ensures c.texts_at-in-Ok.ensures c.in-Ok.ensures
    c.with_lists.result c.with_lists.ensures.asked

pub returns-in-Ok-clause-refused : goal.returns-in-Ok-clause-refused
returns-in-Ok-clause-refused c =
    refused_so _ _ _ _ c.in-Ok.numbers _ c.texts_at.ensures c.texts_at-in-Ok.ensures
    c.in-Ok.ensures c.with_lists.result c.with_lists.ensures.refused
