use Rattle.std.proofs.Common.{◌∙◌, ap, length, arith}
use Rattle.simulator_spec.specs.ixl_spec.Table.{SitedTable}
use Rattle.simulator_spec.specs.ixl_spec.closings.Closed.{track}
use Rattle.node_kinds.specs.Kept.{is_held, is_locked, places_where}
use Rattle.node_kinds.proofs.closings_kept.locked.Goals as goal

pub first_sections-sections-requires : goal.first_sections-sections-requires
first_sections-sections-requires c =
    let each = c.is_of_its_site.ensures.table.reporters.each in
    let few = c.names_what_is_there.ensures.station.limits.sections in
    let is = ap length c.reporters.ensures in
    omega (arith, each, few, is)

pub points_held-points-requires : goal.points_held-points-requires
points_held-points-requires c =
    let each = c.names_what_is_there.ensures.there.each_point in
    let few = c.names_what_is_there.ensures.station.limits.points in
    let is = ap length c.point_sections.ensures in
    omega (arith, each, few, is)

pub returns : goal.returns
returns c =
    let state = c.args.state.now in
    let locks = is_locked state.sited.table state.ixl in
    let holds = is_held state.sited.table state.ixl in
    let sited = c.table-table.ensures.sited in
    let sections = c.first_sections-sections.ensures locks c.sections_locked.ensures ∙ ap (λ list. places_where locks (length list)) (c.reporters.ensures ∙ ap (λ (s : SitedTable). s.table.reporters) sited) in
    let points = c.points_held-points.ensures ∙ ap (λ list. places_where holds (length list)) (c.point_sections.ensures ∙ ap (λ (s : SitedTable). s.table.point_sections) sited) in
    c.track.ensures ∙ ap (λ row. track row c.points_held-points.result) sections ∙ ap (track (places_where locks (length state.sited.table.reporters))) points
