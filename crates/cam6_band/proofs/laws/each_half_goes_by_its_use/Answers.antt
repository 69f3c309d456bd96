use Rattle.cam6_band.proofs.Uses.{goes_by_its_use}
use Rattle.cam6_band.proofs.laws.each_half_goes_by_its_use.Goals as goal

pub returns : goal.returns
returns c = record { law = goes_by_its_use c.each_use_has_its_table.ensures.law }
