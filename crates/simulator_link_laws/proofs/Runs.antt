-- The links of a world after more events, and a station after a list of events.
use Rattle.std.proofs.Common.{◌≡◌, List, [], ◌∷◌, ◌++◌, None, sym, subst}
use Rattle.simulator_spec.specs.layout.Entries.{Site}
use Rattle.simulator_spec.specs.ixl_spec.Table.{Table}
use Rattle.simulator_spec.specs.rasta_core.Links.{begun, run_links}
use Rattle.simulator_spec.specs.simulator_event.declared.event.Event.{Event}
use Rattle.simulator_spec.specs.Happens.{happens}
use Rattle.simulator_spec.specs.Links.{AreLinksOf, names_at, starts_at_zero}
use Rattle.simulator_spec.specs.Nodes.{links}
use Rattle.simulator_spec.specs.Refusals.{refusal}
use Rattle.simulator_spec.specs.State.{WorldState}
use Rattle.simulator_link_laws.proofs.Reached.{may_joined, run_joined}
use Rattle.simulator_link_laws.specs.Follows.{Follows}
use Rattle.simulator_spec.specs.Run.{CanHappen, after_all}
use Rattle.simulator_link_laws.specs.HasLinks.{HasLinks, IsStanding}

pub links_go_on : (site : Site) (world new : WorldState) (has : HasLinks site world) → Follows site new (run_links has.events (begun (names_at site) starts_at_zero)) → HasLinks site new
links_go_on site world new has more = record {
  events = has.events ++ more.events;
  may = may_joined (links site) (names_at site) has.events more.events (begun (names_at site) starts_at_zero) has.may more.may;
  are = subst (AreLinksOf site new) (sym (run_joined has.events more.events (begun (names_at site) starts_at_zero))) more.are;
}

pub all_stand : (site : Site) (table : Table) → ((event : Event) (world : WorldState) → IsStanding site world → refusal site event world ≡ None → IsStanding site (happens site table event world))
    → (events : List Event) (world : WorldState) → IsStanding site world → CanHappen site table events world → IsStanding site (after_all site table events world)
all_stand site table kept [] world stands can = stands
all_stand site table kept (first ∷ others) world stands can = all_stand site table kept others (happens site table first world) (kept first world stands can.0) can.1
