use Rattle.std.proofs.Common.{◌∙◌, ap}
use Rattle.std.specs.Option.{option_map}
use Rattle.ixl_state.specs.layout.declared.ids.RouteId.{RouteId}
use Rattle.ixl_state.specs.ixl_spec.Table.{SitedTable}
use Rattle.embedded_ixl.specs.Display.{authority_of}
use Rattle.embedded_ixl.proofs.display.authority_at.Goals as goal

pub returns : goal.returns
returns c =
    c.authority_of.ensures
    ∙ ap (λ (p : SitedTable). authority_of p.table.rows (option_map (λ (r : RouteId). r.0) c.authority.result)) c.table.ensures.sited
    ∙ ap (authority_of c.args.ixl.now.state.sited.table.rows) c.authority.ensures
