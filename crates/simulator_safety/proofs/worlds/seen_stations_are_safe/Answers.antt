use Rattle.simulator_safety.proofs.Safe.{safe}
use Rattle.simulator_safety.proofs.worlds.seen_stations_are_safe.Goals as goal

pub returns : goal.returns
returns c site table world machine seen once station is promise sees of =
    safe site table world machine seen is (c.a_route_leads_over_its_sections_alone.ensures site once) c.equal_numbers_are_same.ensures.other (c.required_points_are_there.ensures site station) promise sees of
