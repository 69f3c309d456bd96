use Rattle.cam6_station.proofs.stations.Station.load.Goals as goal

pub returns-in-Err-clause-back : goal.returns-in-Err-clause-back
returns-in-Err-clause-back g c = record {
  left = c.lost.ensures.left;
  home = c.lost.ensures.home;
  stands = λ m by st. c.lost.ensures.stands m by c.args.job st;
}
