use Rattle.simulator_recovery.proofs.Lemmas.RoutesGoing.PassageOver.{passed_free}
use Rattle.simulator_recovery.proofs.routes_going.trains_free_their_routes.Goals as goal

pub returns : goal.returns
returns c = passed_free c.passage_frees_all_that_it_may.ensures c.a_route_leads_over_sections_that_are_there.ensures
