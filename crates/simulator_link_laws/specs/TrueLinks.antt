-- The links of a station whose clocks are true: to one part in a thousand between any two moments, give or take ten
-- microseconds.
use Rattle.std.specs.Prelude.{ℕ, suc, ◌<◌, List, [], ◌∷◌}
use Rattle.simulator_spec.specs.layout.Entries.{Site}
use Rattle.simulator_spec.specs.rasta_core.EachLink.{AreTimely, AreTimelyBy}
use Rattle.simulator_spec.specs.rasta_core.Links.{Links, run_links, seen}
use Rattle.simulator_spec.specs.rasta_core.TrueClocks.{IsOffSince, Moment, Offset, moment_of as moment_of_end}
use Rattle.simulator_spec.specs.rasta_core.identity.Role.{Role}
use Rattle.simulator_spec.specs.rasta_core.identity.Role.TheVariants as role
use Rattle.simulator_spec.specs.ixl_spec.Table.{Table}
use Rattle.simulator_spec.specs.simulator_event.declared.event.Event.{Event}
use Rattle.simulator_spec.specs.Happens.{happens}
use Rattle.simulator_spec.specs.Links.{AreLinksOf, names_at}
use Rattle.simulator_spec.specs.Nodes.{links}
use Rattle.simulator_spec.specs.State.{WorldState}
use Rattle.simulator_spec.specs.TrueClocks.{KeepTime, StaysSteady}
use Rattle.simulator_link_laws.specs.Events.{events_of}
use Rattle.simulator_link_laws.specs.Whole.{IsWhole}

-- the links after a list of events of their station
abbrev pub links_after : Site → Table → List Event → WorldState → Links → Links
links_after site table [] world network = network
links_after site table (first ∷ others) world network = links_after site table others (happens site table first world) (run_links (events_of site table first world) network)

-- Links that keep time, of a station whose nodes are all there.
pub record AreTrueLinks (site : Site) (world : WorldState) (network : Links) : Type 0 where
  pub are : AreLinksOf site world network
  pub timely : AreTimely (links site) (names_at site) network
  pub whole : IsWhole site world

-- the node at an end of a link: the interlocking is the client of each
abbrev pub node_on : ℕ → Role → ℕ
node_on link role.Client = 0
node_on link role.Server = suc link

-- The clock at an end of a link is off so far since two moments, and stays steady from both over what is still to come.
pub record IsOffOn (site : Site) (table : Table) (todo : List Event) (world : WorldState) (network : Links) (link : ℕ) (who : Role) (offset : Offset) : Type 0 where
  pub slow : Moment
  pub fast : Moment
  pub since : IsOffSince slow fast (moment_of_end who (seen link network)) offset
  pub slow_steady : StaysSteady site table (node_on link who) slow todo world
  pub fast_steady : StaysSteady site table (node_on link who) fast todo world

-- The links of a station that has kept time so far, and keeps it over what is still to come.
pub record KeepLinks (site : Site) (table : Table) (todo : List Event) (world : WorldState) (network : Links) : Type 0 where
  pub offsets : ℕ → Role → Offset
  pub timely : AreTimelyBy (links site) (names_at site) offsets network
  pub are : AreLinksOf site world network
  pub whole : IsWhole site world
  pub off : (link : ℕ) → link < links site → (who : Role) → IsOffOn site table todo world network link who (offsets link who)
  pub time : KeepTime site table todo world
