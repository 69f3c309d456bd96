use Rattle.cam6_server.proofs.hosts.new_server.Goals as goal

pub host_of-requires-clause-desks : goal.host_of-requires-clause-desks
host_of-requires-clause-desks g c = λ i desk at. record {
  own = c.blank_desks_are_their_users.ensures.law _ _ c.in_ok-desks.ensures.desks i desk at;
  rests = c.blank_desks_rest.ensures.law _ _ c.in_ok-desks.ensures.desks i desk at;
}

pub boards_at-requires : goal.boards_at-requires
boards_at-requires g c = λ i seat at. (c.in_ok-desks.ensures.seats.each i seat at).idle
