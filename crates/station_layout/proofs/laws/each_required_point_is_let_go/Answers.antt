use Rattle.station_layout.proofs.LetGoOnce.{one_place, point_told}
use Rattle.station_layout.proofs.laws.each_required_point_is_let_go.Goals as goal

pub returns-clause-told : goal.returns-clause-told
returns-clause-told c l station once sound a sections texts are tells p required =
    let awaited = c.required_points_await_a_section_of_the_route.ensures l station once sound a p required.0 required.1
    in let has = (c.a_route_leads_over_its_sections_alone.ensures l once a sections are awaited.0).1 awaited.2
    in point_told l a sections texts tells p (c.required_points_are_there.ensures l station a p required.0 required.1) required awaited.0 has awaited.1

pub returns-clause-once : goal.returns-clause-once
returns-clause-once c = one_place
