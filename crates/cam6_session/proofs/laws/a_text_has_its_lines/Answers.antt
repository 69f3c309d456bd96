use Rattle.cam6_session.proofs.Splitting.{lines_are_found}
use Rattle.cam6_session.proofs.laws.a_text_has_its_lines.Goals as goal

pub returns : goal.returns
returns c = record { law = lines_are_found }
