-- What is kept of one detector by its steps in which no contact comes is kept by each event but those that bring it a contact.
use Rattle.simulator_recovery.proofs.Words.Basics.{◌≡◌, ℕ, List, [], ◌∷◌, Option, None, Some, slice_get}
use Rattle.simulator_recovery.proofs.Words.Links.{Each, AreTimely, AreLinks, Links, run_links}
use Rattle.simulator_recovery.proofs.Words.Controllers.{HostState, Section}
use Rattle.simulator_recovery.proofs.Words.Interlockings.{IsTableOf, Table}
use Rattle.simulator_recovery.proofs.Words.Stations.{Site, Once, IsStation, Event, happens, AreLinksOf, names_at, detector_link, links, refusal, CanHappen, after_all, ClockedControllerState, WorldState, events_of}
use Rattle.simulator_recovery.proofs.Words.Recovery.{LawsBelow}
use Rattle.simulator_recovery.proofs.Lemmas.Ground.ControllersOnLinks.{Lists, lists_at}
use Rattle.simulator_recovery.proofs.Lemmas.Sections.SectionsAlways.{Reporting, reporting_on}
use Rattle.simulator_recovery.proofs.Lemmas.Sections.SectionsInCount.{Quiet, quiet_allows}
use Rattle.simulator_recovery.proofs.Lemmas.Sections.SectionsKept.{Brings, StepKept, event_so}

module _ (laws : LawsBelow) (site : Site) (table : Table) (station : IsStation site) (once : Once site) (is_table : IsTableOf site table) (at : ℕ)
    (Q : Option ℕ → HostState (List Section) → Lists → Type 0) (keeps : StepKept Quiet Q) where
  abbrev link : ℕ
  link = detector_link site at

  -- a station with its links, and this detector there
  pub record IsSoIn (world : WorldState) (network : Links) : Type 0 where
    pub timely : AreTimely (links site) (names_at site) network
    pub are : AreLinksOf site world network
    pub reporting : Reporting laws site table station once is_table world network
    pub so : (c : ClockedControllerState (List Section)) → slice_get world.detectors at ≡ Some c → Q c.connection c.host (lists_at network link)

  named : AreLinks (links site) (names_at site)
  named = laws.layouts_name_their_links site station once

  so_on : (happening : Event) (world : WorldState) (network : Links) → refusal site happening world ≡ None → Brings site table at Quiet happening → IsSoIn world network
      → IsSoIn (happens site table happening world) (run_links (events_of site table happening world) network)
  so_on happening world network may brings o =
      let whole = o.reporting.stands.whole
      in let follows = laws.events_are_those_of_the_links_exactly site table happening world network named whole o.timely o.are may
      in record {
        timely = laws.links_keep_time_run (links site) (names_at site) (events_of site table happening world) network named o.timely follows.may;
        are = follows.are;
        reporting = reporting_on laws site table station once is_table happening world network
            (record { named = named; whole = whole; timely = o.timely; are = o.are; may = may; follows = follows }) o.reporting;
        so = event_so laws site table at Quiet Q keeps quiet_allows world network whole o.are o.so happening brings;
      }

  pub all_so : (events : List Event) (world : WorldState) (network : Links) → CanHappen site table events world → Each (Brings site table at Quiet) events → IsSoIn world network
      → (after : Links) × IsSoIn (after_all site table events world) after
  all_so [] world network can brings o = (network, o)
  all_so (first ∷ others) world network can brings o =
      all_so others (happens site table first world) (run_links (events_of site table first world) network) can.1 brings.1 (so_on first world network can.0 brings.0 o)
