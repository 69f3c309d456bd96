use Rattle.cam6_wiring.proofs.NamesOfTexts.{texts_name_what_they_are_of}
use Rattle.cam6_wiring.proofs.laws.texts_name_what_they_are_of.Goals as goal

pub returns : goal.returns
returns c = record { law = texts_name_what_they_are_of }
