use Rattle.cam6_rules.proofs.Naming.{same_rules}
use Rattle.cam6_rules.proofs.laws.numbers_and_names_of_rules_agree.Goals as goal

pub returns : goal.returns
returns c = record { law = λ rules entry own a b. same_rules rules entry own }
