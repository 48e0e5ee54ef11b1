use Rattle.ixl_known.specs.Field.{Rest}
use Rattle.ixl_state.proofs.Turns.{goes-of, state-kept}
use Rattle.ixl_state.proofs.state.State.give_aspect.Goals as goal

pub invariant_of-self : goal.invariant_of-self
invariant_of-self c =
    let inside = c.self.inside in
    let rest : Rest = record { routes = inside.routes.items; created = inside.created; resumed = inside.resumed; closed = inside.closed } in
    state-kept inside.table rest c.args.now 2 _ inside.field c.args.outbox.now c.give_aspect.new.self c.give_aspect.new.outbox inside.routes.items inside.locks (c.give_aspect.ensures rest) c.self.invariant

pub returns : goal.returns
returns c =
    let inside = c.self.inside in
    let rest : Rest = record { routes = inside.routes.items; created = inside.created; resumed = inside.resumed; closed = inside.closed } in
    goes-of inside.table rest c.args.now 2 _ inside.field c.args.self.now c.args.outbox.now c.give_aspect.new.self c.give_aspect.new.outbox c.self.view_is (c.give_aspect.ensures rest)
