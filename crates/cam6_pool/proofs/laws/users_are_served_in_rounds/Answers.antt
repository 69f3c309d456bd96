use Rattle.cam6_pool.proofs.RoundRobin.{users_are_served_in_rounds}
use Rattle.cam6_pool.proofs.laws.users_are_served_in_rounds.Goals as goal

pub returns : goal.returns
returns c = record { law = users_are_served_in_rounds }
