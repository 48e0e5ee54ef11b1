use Rattle.std.proofs.Common.{◌∙◌, ap}
use Rattle.std.specs.Option.{option_map}
use Rattle.simulator_spec.specs.layout.declared.ids.RouteId.{RouteId}
use Rattle.simulator_spec.specs.ixl_spec.Table.{SitedTable}
use Rattle.node_kinds.specs.Interlockings.{authority_of}
use Rattle.node_kinds.proofs.thing_known.signal.Goals as goal

pub returns : goal.returns
returns c =
    c.authority_of.ensures
    ∙ ap (λ (p : SitedTable). authority_of p.table.rows (option_map (λ (r : RouteId). r.0) c.authority.result)) c.table.ensures.sited
    ∙ ap (authority_of c.args.ixl.now.state.sited.table.rows) c.authority.ensures
