use Rattle.ixl.specs.inside.RoutesAtRest.{AllRest}
use Rattle.ixl.proofs.idle_routes.all_rest.Given as goal

abbrev pub invariant-loop-number : goal.invariant-loop-number
invariant-loop-number l = AllRest l.number l.state
