-- A detector that owes no report of a section owes none while nothing is told of it.
use Rattle.simulator_recovery.proofs.Words.Basics.{◌≡◌, ℕ, ◌∙◌, false, List, length, Some, slice_get, sym, subst, arith, same_Some, slice_get_within}
use Rattle.simulator_recovery.proofs.Words.Links.{Each, AreTimely}
use Rattle.simulator_recovery.proofs.Words.Interlockings.{IsReportedIn, IsTableOf, At, Table}
use Rattle.simulator_recovery.proofs.Words.Stations.{Site, Once, IsStation, Event, names_at, detector_link, links, CanHappen, after_all, WorldState, links_in, IsReached}
use Rattle.simulator_recovery.proofs.Words.Recovery.{IsUpOn, LeavesSection, OwesNone, LawsBelow}
use Rattle.simulator_recovery.proofs.Lemmas.Ground.SectionsEvents.{HasHeld}
use Rattle.simulator_recovery.proofs.Lemmas.Ground.EndCalls.{at_place}
use Rattle.simulator_recovery.proofs.Lemmas.Sections.SectionsAlways.{Reporting, reporting_first, reporting_held, reporting_on, timely_of}
use Rattle.simulator_recovery.proofs.Lemmas.Sections.SectionsOver.{all_over, first_over}

module _ (laws : LawsBelow) (site : Site) (table : Table) (station : IsStation site) (once : Once site) (is_table : IsTableOf site table) where
  pub stays_paid : (old : WorldState) (events : List Event) (section : ℕ) → IsReached site table old → CanHappen site table events old → Each (LeavesSection site table section) events → (reporter : ℕ × ℕ) → slice_get table.reporters section ≡ Some reporter
      → IsUpOn (detector_link site reporter.0) old → OwesNone table old section → OwesNone table (after_all site table events old) section
  stays_paid old events section reached can leaves reporter reported up (r, r_there, owes) = by_first (subst (λ (p : ℕ × ℕ). At old.detectors p.0 (λ controller. At controller.host.object p.1 (λ one. one.owes ≡ false))) (same_Some r reporter (sym r_there ∙ reported)) owes)
    where
      held : HasHeld laws site table station once (Reporting laws site table station once is_table) (reporting_first laws site table station once is_table) (reporting_on laws site table station once is_table) old
      held = reporting_held laws site table station once is_table old reached

      timely : AreTimely (links site) (names_at site) (links_in held.has)
      timely = timely_of laws site table station once is_table old held.has

      there : IsReportedIn site.detectors section reporter
      there = is_table.reporters.their section reporter reported

      by_first : At old.detectors reporter.0 (λ controller. At controller.host.object reporter.1 (λ one. one.owes ≡ false)) → OwesNone table (after_all site table events old) section
      by_first (c, e, (x, f, free)) =
          let over = all_over laws site table station once is_table section reporter reported x.occupancy (length ((links_in held.has).ends (detector_link site reporter.0)).server.given) events old (links_in held.has) can leaves
          (first_over laws site table station once is_table section reporter reported old (links_in held.has) timely held.has.are held.holds up c e x f free)
          in let inside = slice_get_within site.detectors reporter.0 there.0 there.1
          in let many = over.1.reporting.stands.whole.detectors
          in let controller = at_place (after_all site table events old).detectors reporter.0 (omega (arith, inside, many))
          in let stays = (over.1.stays controller.0 controller.1).stays
          in (reporter, reported, (controller.0, controller.1, (stays.section, stays.there, stays.free)))
