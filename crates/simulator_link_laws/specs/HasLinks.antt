-- The links that a station has had since its beginning, and what is true of each.
use Rattle.std.specs.Prelude.{◌≡◌, ◌≢◌, ℕ, ◌+◌, ◌<◌, true, List, [], Some}
use Rattle.simulator_spec.specs.layout.Entries.{Site}
use Rattle.simulator_spec.specs.rasta_core.Ends.{Receives, Sent, is_taken}
use Rattle.simulator_spec.specs.rasta_core.Events.{IsDelivered}
use Rattle.simulator_spec.specs.rasta_core.Links.{Links, LinksEvent, MayRunLinks, begun, run_links}
use Rattle.simulator_spec.specs.rasta_core.Run.{Ends, called, end_of}
use Rattle.simulator_spec.specs.rasta_core.Safe.{AreSafe}
use Rattle.simulator_spec.specs.rasta_core.Sentences.{IsOpening, IsOut, freshness, receipt_at}
use Rattle.simulator_spec.specs.rasta_core.Names.{Names}
use Rattle.simulator_spec.specs.rasta_core.identity.Role.{Role}
use Rattle.simulator_link_laws.specs.Whole.{IsWhole}
use Rattle.simulator_spec.specs.Links.{AreLinksOf, names_at, starts_at_zero}
use Rattle.simulator_spec.specs.Nodes.{links}
use Rattle.simulator_spec.specs.State.{WorldState}

-- A world's links are those of its layout after a list of events that may happen to them, from their beginning on.
pub record HasLinks (site : Site) (world : WorldState) : Type 0 where
  pub events : List LinksEvent
  pub may : MayRunLinks (links site) (names_at site) events (begun (names_at site) starts_at_zero)
  pub are : AreLinksOf site world (run_links events (begun (names_at site) starts_at_zero))

-- these links
abbrev pub links_in : {site : Site} {world : WorldState} → HasLinks site world → Links
links_in {site} has = run_links has.events (begun (names_at site) starts_at_zero)

-- What its theorem says of a link.
pub record IsSafeLink (names : Names) (ends : Ends) : Type 0 where
  -- what one end took is a beginning of what the other gave, and no more is held for confirmed
  pub safe : AreSafe ends
  -- items are taken only from a datagram that was sent less than 1802 ms of true time before
  pub fresh : (who : Role) (bytes : List ℕ) (connection : ℕ) (datagram : Sent) → IsDelivered ends bytes connection datagram
      → (receipt_at who bytes ends).items ≢ [] → ends.time < datagram.at + freshness
  -- what is taken was sent in the connection that the end is in then
  pub own : (who : Role) (bytes : List ℕ) (connection : ℕ) (datagram : Sent) → IsDelivered ends bytes connection datagram
      → is_taken (receipt_at who bytes ends).verdict ≡ true → (end_of who (called who (Receives bytes connection) ends)).connection ≡ Some datagram.connection
  -- an end outside takes nothing but a new request
  pub opening : (who : Role) (bytes : List ℕ) (connection : ℕ) (datagram : Sent) → IsDelivered ends bytes connection datagram → IsOut who ends
      → is_taken (receipt_at who bytes ends).verdict ≡ true → IsOpening names who ends datagram

-- A station as it always is: it has its links, and all its nodes.
pub record IsStanding (site : Site) (world : WorldState) : Type 0 where
  pub linked : HasLinks site world
  pub whole : IsWhole site world
