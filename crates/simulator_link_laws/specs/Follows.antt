-- What happens to a world as what happens to its links.
use Rattle.std.specs.Prelude.{List}
use Rattle.simulator_spec.specs.layout.Entries.{Site}
use Rattle.simulator_spec.specs.rasta_core.Links.{Links, LinksEvent, MayRunLinks, run_links}
use Rattle.simulator_spec.specs.Links.{AreLinksOf, names_at}
use Rattle.simulator_spec.specs.Nodes.{links}
use Rattle.simulator_spec.specs.State.{WorldState}

-- The links of a world follow it to the next: a list of events that may happen to them leads to those of the next.
pub record Follows (site : Site) (new : WorldState) (before : Links) : Type 0 where
  pub events : List LinksEvent
  pub may : MayRunLinks (links site) (names_at site) events before
  pub are : AreLinksOf site new (run_links events before)
