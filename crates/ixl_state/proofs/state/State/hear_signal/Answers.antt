use Rattle.ixl_known.specs.Field.{Rest}
use Rattle.ixl_state.proofs.Turns.{goes-of, state-kept}
use Rattle.ixl_state.proofs.state.State.hear_signal.Goals as goal

pub invariant_of-self : goal.invariant_of-self
invariant_of-self c =
    let inside = c.self.inside in
    let rest : Rest = record { routes = inside.routes.items; created = inside.created; resumed = inside.resumed; closed = inside.closed } in
    state-kept inside.table rest c.args.now 30 _ inside.field c.args.outbox.now c.hear_signal.new.self c.hear_signal.new.outbox inside.routes.items inside.locks (c.hear_signal.ensures.goes rest) c.self.invariant

pub returns-clause-goes : goal.returns-clause-goes
returns-clause-goes c =
    let inside = c.self.inside in
    let rest : Rest = record { routes = inside.routes.items; created = inside.created; resumed = inside.resumed; closed = inside.closed } in
    goes-of inside.table rest c.args.now 30 _ inside.field c.args.self.now c.args.outbox.now c.hear_signal.new.self c.hear_signal.new.outbox c.self.view_is (c.hear_signal.ensures.goes rest)
