-- What a line to the operator tells, by what it tells of.
use Rattle.std.specs.Prelude.{ℕ, List, Option, Some, None}
use Rattle.control_table.specs.layout.Entries.{Site}
use Rattle.lane_chart.specs.declared.lane.Kind.TheVariants as kind
use Rattle.lane_chart.specs.declared.lane.Lane.{Lane}
use Rattle.replay_lines.specs.Names.{route_named}
use Rattle.node_record.specs.KnownTold.{aspect_seen, authority_seen, link_lane, link_seen, point_lane, position_seen, progress_seen, section_lane, section_seen, signal_lane, told_of}
use Rattle.node_record.specs.declared.known_told.Thing.{Thing}
use Rattle.node_record.specs.declared.known_told.Thing.TheVariants as thing
use Rattle.node_record.specs.declared.told.Told.{Told}

-- the lane of what has one at a node
abbrev pub node_lane : Site → Thing → List ℕ → Option Lane
node_lane l thing.Link name = link_lane l name
node_lane l thing.Authority name = signal_lane l kind.Authority name
node_lane l thing.Aspect name = signal_lane l kind.Aspect name
node_lane l other name = None

abbrev pub lane_of : Site → Thing → List ℕ → Option Lane
lane_of l thing.Section name = section_lane l name
lane_of l thing.Point name = point_lane l name
lane_of l thing.Route name = Some (record { kind = kind.Route; place = (route_named l name).0 })
lane_of l other name = node_lane l other name

abbrev pub thing_told : Site → Thing → List ℕ → List ℕ → List (List ℕ) → Option Told
thing_told l thing.Link name word more = told_of (link_lane l name) (link_seen word)
thing_told l thing.Section name word more = told_of (section_lane l name) (section_seen word)
thing_told l thing.Point name word more = told_of (point_lane l name) (position_seen word)
thing_told l thing.Authority name word more = told_of (signal_lane l kind.Authority name) (authority_seen l word more)
thing_told l thing.Aspect name word more = told_of (signal_lane l kind.Aspect name) (aspect_seen word)
thing_told l thing.Route name word more = told_of (lane_of l thing.Route name) (progress_seen word)
