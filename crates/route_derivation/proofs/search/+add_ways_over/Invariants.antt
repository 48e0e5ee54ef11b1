use Rattle.route_derivation.proofs.search.+add_ways_over.Given as goal

abbrev pub decreases-add_ways_over : goal.decreases-add_ways_over
decreases-add_ways_over l = l.room
