use Rattle.std.proofs.Common.{◌<◌, length, subst}
use Rattle.ixl_state.specs.State.{HasRoute, StateView}
use Rattle.ixl_state.proofs.RouteChange.{kept-at}
use Rattle.ixl_state.proofs.state.State.table.Goals as goal

pub returns-clause-there : goal.returns-clause-there
returns-clause-there c = λ number lt.
    subst (λ (s : StateView). number < length s.sited.table.rows → HasRoute s number) c.self.view_is (λ below. kept-at c.self.inside.table c.self.inside.routes.items number c.self.invariant.routes_are below) lt
