use Rattle.ixl_known.specs.Field.{Rest}
use Rattle.ixl_state.proofs.Turns.{field-under}
use Rattle.ixl_state.proofs.state.State.keeps_its_key.Goals as goal

pub returns : goal.returns
returns c =
    let inside = c.self.inside in
    let rest : Rest = record { routes = inside.routes.items; created = inside.created; resumed = inside.resumed; closed = inside.closed } in
    field-under inside.table rest inside.field c.args.self.now c.self.view_is c.self.invariant.field_is.keys
