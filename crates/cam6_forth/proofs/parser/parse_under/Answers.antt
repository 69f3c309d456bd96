use Rattle.cam6_forth.proofs.TextLaws as text_laws
use Rattle.cam6_forth.proofs.parser.parse_under.Goals as goal

pub returns-clause-accepted : goal.returns-clause-accepted
returns-clause-accepted c =
    text_laws.accepted_from _ c.args.text.now c.read_text.result c.read_text.ensures.exact

pub returns-clause-refused : goal.returns-clause-refused
returns-clause-refused c =
    text_laws.refused_from _ c.args.text.now c.read_text.result c.read_text.ensures.exact

pub returns-clause-rule : goal.returns-clause-rule
returns-clause-rule c =
    text_laws.rule_from _ c.args.text.now c.read_text.result c.read_text.ensures.exact

pub returns-clause-fault : goal.returns-clause-fault
returns-clause-fault c =
    text_laws.fault_from _ c.args.text.now c.read_text.result c.read_text.ensures.exact
