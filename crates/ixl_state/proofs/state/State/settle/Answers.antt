use Rattle.ixl_known.specs.Field.{Rest}
use Rattle.ixl_state.proofs.Turns.{clocked-kept, clocked-view}
use Rattle.ixl_state.proofs.state.State.settle.Goals as goal

pub invariant_of-self : goal.invariant_of-self
invariant_of-self c = clocked-kept c.self.inside.table (record { routes = c.self.inside.routes.items; created = c.self.inside.created; resumed = c.self.inside.resumed; closed = c.self.inside.closed }) c.args.now c.self.inside.field c.settle.new.self c.self.inside.routes.items c.self.inside.locks c.settle.ensures.field c.self.invariant

pub returns-clause-state : goal.returns-clause-state
returns-clause-state c =
    let inside = c.self.inside in
    let rest : Rest = record { routes = inside.routes.items; created = inside.created; resumed = inside.resumed; closed = inside.closed } in
    clocked-view inside.table rest c.args.now inside.field c.settle.new.self c.args.self.now c.self.view_is c.settle.ensures.field
