use Rattle.std.proofs.Common.{◌≡◌, List, None, drop, false, length, replicate}
use Rattle.std.specs.List.{fold}
use Rattle.station_layout.specs.SeenByLines.{with_aspect, with_occupancy, with_position, with_set}
use Rattle.station_layout.specs.declared.sighting.Sighting.{Sighting}
use Rattle.station_layout.proofs.seen.seen_by.Given as goal

-- what the lines that are left make of what is seen so far
abbrev pub invariant-loop-sighting : goal.invariant-loop-sighting
invariant-loop-sighting l =
    let left : List Sighting = drop l.sighting-index l.sightings in
    (fold with_aspect l.seen.aspects.items left ≡ fold with_aspect (replicate (length l.layout.signals) None) l.sightings)
    × (fold with_position l.seen.positions.items left ≡ fold with_position (replicate (length l.layout.points) None) l.sightings)
    × (fold with_occupancy l.seen.occupancies.items left ≡ fold with_occupancy (replicate (length l.layout.sections) None) l.sightings)
    × (fold with_set l.seen.set.items left ≡ fold with_set (replicate (length l.layout.routes) false) l.sightings)
