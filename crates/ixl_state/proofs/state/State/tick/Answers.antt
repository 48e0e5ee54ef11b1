use Rattle.std.proofs.Common.{arith}
use Rattle.ixl_known.specs.Field.{Rest}
use Rattle.ixl_state.proofs.Turns.{few-controllers, goes-at-most, state-kept}
use Rattle.ixl_state.proofs.state.State.tick.Goals as goal

pub invariant_of-self : goal.invariant_of-self
invariant_of-self c =
    let inside = c.self.inside in
    let rest : Rest = record { routes = inside.routes.items; created = inside.created; resumed = inside.resumed; closed = inside.closed } in
    state-kept inside.table rest c.args.now _ _ inside.field c.args.outbox.now c.tick.new.self c.tick.new.outbox inside.routes.items inside.locks (c.tick.ensures rest) c.self.invariant

pub returns : goal.returns
returns c =
    let inside = c.self.inside in
    let rest : Rest = record { routes = inside.routes.items; created = inside.created; resumed = inside.resumed; closed = inside.closed } in
    let few = few-controllers inside.table inside.field c.self.invariant.field_is c.names_what_is_there.ensures.station in
    goes-at-most inside.table rest c.args.now _ 160 _ inside.field c.args.self.now c.args.outbox.now c.tick.new.self c.tick.new.outbox c.self.view_is (omega (arith, few.0, few.1, few.2)) (c.tick.ensures rest)
