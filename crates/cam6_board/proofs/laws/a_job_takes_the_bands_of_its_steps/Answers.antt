use Rattle.cam6_board.proofs.Counting.{jobs_end}
use Rattle.cam6_board.proofs.laws.a_job_takes_the_bands_of_its_steps.Goals as goal

pub returns : goal.returns
returns c = record { law = jobs_end }
