-- In the window of a detector's link that is up at most as many items wait as it has room for.
use Rattle.simulator_recovery.proofs.Words.Basics.{◌≡◌, ℕ, ◌<◌, ◌≤◌, ◌∙◌, true, List, length, Some, sym, ap, subst, arith, none-some, false≢true}
use Rattle.simulator_recovery.proofs.Words.Links.{settled, AreTimely, reading_of, seen, Ends, LinkState, is_open, Plays, joined, left, AreTogether, Ordered, alone, together, unbegun, Names, Unconfirmed, window_size}
use Rattle.simulator_recovery.proofs.Words.Interlockings.{IsTableOf, Table}
use Rattle.simulator_recovery.proofs.Words.Stations.{Site, Once, IsStation, names_at, detector_link, links, WorldState, links_in, IsReached}
use Rattle.simulator_recovery.proofs.Words.Recovery.{AreInOne, IsUpOn, LawsBelow}
use Rattle.simulator_spec.specs.rasta_core.LinkAndFlow.{IsInside, asking}
use Rattle.simulator_recovery.proofs.Lemmas.Ground.SectionsEvents.{HasHeld}
use Rattle.simulator_recovery.proofs.Lemmas.Talk.ClientLinks.{up_open}
use Rattle.simulator_recovery.proofs.Lemmas.Links.HandedOver.{server_is}
use Rattle.simulator_recovery.proofs.Lemmas.Links.InOne.{in_one}
use Rattle.simulator_recovery.proofs.Lemmas.Ground.LinkCounts.{settled_open}
use Rattle.simulator_recovery.proofs.Lemmas.Sections.SectionsAlways.{Reporting, reporting_first, reporting_held, reporting_on, timely_of}

few_together : (names : Names) (ends : Ends) → is_open ends.server.link.phase ≡ true → AreTogether names ends → length ends.server.link.waiting ≤ window_size
few_together names ends opened t = choose t.server_plays
  where
    by_inside : IsInside ends.server.link t.server → length ends.server.link.waiting ≤ window_size
    by_inside i = subst (λ (w : List Unconfirmed). length w ≤ window_size) (sym i.keeps.waiting) t.order.back.waits.few

    choose : Plays ends.server.link t.server t.client → length ends.server.link.waiting ≤ window_size
    choose (joined has) = by_inside has.inside
    choose (asking on) = by_inside on.inside
    choose (left shut keeps) = absurd (false≢true (sym shut ∙ opened))

few_ordered : (names : Names) (ends : Ends) (connection : ℕ) → ends.client.connection ≡ Some connection → ends.server.connection ≡ Some connection → is_open ends.server.link.phase ≡ true → Ordered names ends → length ends.server.link.waiting ≤ window_size
few_ordered names ends connection client server opened (unbegun none) = absurd (none-some connection (sym none ∙ client))
few_ordered names ends connection client server opened (alone a) = absurd (a.not_of_server (server ∙ sym client ∙ a.of_client))
few_ordered names ends connection client server opened (together t) = few_together names ends opened t

module _ (laws : LawsBelow) (site : Site) (table : Table) (station : IsStation site) (once : Once site) (is_table : IsTableOf site table) where
  pub few_wait : (world : WorldState) (place : ℕ) → IsReached site table world → place < length site.detectors → (up : IsUpOn (detector_link site place) world) → length up.server.link.waiting ≤ window_size
  few_wait world place reached inside up = subst (λ (n : ℕ). n ≤ window_size) (ap (λ (l : LinkState). length l.waiting) (is ∙ (settled_open (reading_of up.server.clock) up.server.link (up_open _ up.server_up)).0)) few
    where
      below : detector_link site place < links site
      below = omega (arith, inside)

      held : HasHeld laws site table station once (Reporting laws site table station once is_table) (reporting_first laws site table station once is_table) (reporting_on laws site table station once is_table) world
      held = reporting_held laws site table station once is_table world reached

      timely : AreTimely (links site) (names_at site) (links_in held.has)
      timely = timely_of laws site table station once is_table world held.has

      one : AreInOne (detector_link site place) (links_in held.has)
      one = in_one laws site (detector_link site place) world (links_in held.has) below timely held.has.are up

      is : ((links_in held.has).ends (detector_link site place)).server.link ≡ settled (reading_of up.server.clock) up.server.link
      is = server_is site (detector_link site place) below world (links_in held.has) held.has.are up

      few : length ((links_in held.has).ends (detector_link site place)).server.link.waiting ≤ window_size
      few = few_ordered (names_at site (detector_link site place)) (seen (detector_link site place) (links_in held.has)) one.connection one.client one.server
          (ap (λ (l : LinkState). is_open l.phase) is ∙ up_open _ up.server_up) (held.holds.stands.ordered (detector_link site place) below)
