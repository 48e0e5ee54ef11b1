-- What an interlocking knows of sections is what its clients have taken, event by event.
use Rattle.simulator_recovery.proofs.Words.Basics.{◌≡◌, ℕ, ◌<◌, ◌∙◌, true, false, List, [], length, map, Some, None, slice_get, refl, sym, ap, subst, arith, false≢true}
use Rattle.simulator_recovery.proofs.Words.Links.{created, settled, Call, Receives, reading_of, Links, MayCallOn, begun as begun_links, run_links, seen, at_link, LinkState, is_client, is_open, is_up}
use Rattle.simulator_recovery.proofs.Words.Interlockings.{IsTableOf, ClientState, is_outside, new_client, as_call, Stage, IxlState, KnownDetectorState, clocked_detector, Detector, StepSoFar, begun_with, empty_outbox, Table}
use Rattle.simulator_recovery.proofs.Words.Stations.{Site, Event, Deliver, NodeId, Beginning, Outset, at_zero, new_detector_of, new_ixl, world_at, happens, interlocking_step, AreLinksOf, names_at, starts_at_zero, connection_of, copy_of, refusal, detector_link, key_of, links, partners, WorldState, node_call, events_of, interlocking_events}
use Rattle.simulator_recovery.proofs.Words.Machine.{ClientIsAfter, taken_after}
use Rattle.simulator_recovery.proofs.Words.Recovery.{ClientHasActedOn, LawsBelow}
use Rattle.simulator_spec.specs.ixl_spec.Step as ixl
use Rattle.simulator_recovery.proofs.Lemmas.Ground.ClientItem.{partners_length}
use Rattle.simulator_recovery.proofs.Lemmas.Ground.SectionsEvents.{CanBe, CanStep, event_kept}
use Rattle.simulator_recovery.proofs.Lemmas.Talk.ClientLinks.{ClockedStands, clocked_stands, not_false, outside_is}
use Rattle.simulator_recovery.proofs.Lemmas.Ground.IxlClients.{mapped_at}
use Rattle.simulator_recovery.proofs.Lemmas.Ground.IxlSoFar.{at_node}
use Rattle.simulator_recovery.proofs.Lemmas.Ground.LinkCounts.{settled_open}
use Rattle.simulator_recovery.proofs.Lemmas.Ground.EndCalls.{at_place, none_long}
use Rattle.simulator_recovery.proofs.Lemmas.Sections.SectionsClient.{Clocked, ClockedAt, Holds, Knows, after_client, keep, knows_clocked}
use Rattle.simulator_recovery.proofs.Lemmas.Sections.SectionsIxl.{step_held}
use Rattle.simulator_recovery.proofs.Lemmas.Talk.StationTalk.{Before, SameLists, Talking, at_link_is, before, clocked_link, took}

-- what is known of the sections of all detectors is what was taken
abbrev pub AllKnow : Site → IxlState → Links → Type 0
AllKnow site known network = (place : ℕ) (one : KnownDetectorState) → slice_get known.detectors place ≡ Some one → Knows one (took network (detector_link site place))

same_known : (site : Site) (known : IxlState) (old new : Links) → SameLists old new → AllKnow site known old → AllKnow site known new
same_known site known old new same all place one e = subst (Knows one) (sym (same.taken (detector_link site place))) (all place one e)

new_known : (site : Site) (table : Table) (begins : Beginning) (network : Links) → AllKnow site (new_ixl site table begins) network
unfolding new_ixl new_client created
new_known site table begins network place one e = let made = mapped_at (new_detector_of site begins) site.detectors place one e in record {
  outside = λ out. ap (λ (k : KnownDetectorState). k.occupied) made.2;
  last = λ up. absurd (false≢true (ap (λ (k : KnownDetectorState). is_up k.client.link.phase) (sym made.2) ∙ up));
}

module _ (clients : LawsBelow) (laws : LawsBelow) (site : Site) (table : Table) (is_table : IsTableOf site table) (input : ixl.Input) (connection : ℕ) (happening : Event) (world : WorldState) (network : Links) (step : CanStep site table input connection happening world network)
    (talking : Talking site world network) (all : AllKnow site world.interlocking.ixl network) where
  abbrev now : ℕ
  now = reading_of world.interlocking.clock

  abbrev link_of : ℕ → LinkState
  link_of place = (network.ends (detector_link site place)).client.link

  abbrev took_of : ℕ → List (List ℕ)
  took_of place = took network (detector_link site place)

  clocked_all : Clocked clients now connection link_of took_of (length site.detectors) (map (clocked_detector now) world.interlocking.ixl.detectors) []
  unfolding at_node
  clocked_all place known e = let found = mapped_at (clocked_detector now) world.interlocking.ixl.detectors place known e in subst (λ (k : KnownDetectorState). ClockedAt clients now connection link_of took_of (length site.detectors) place k []) (sym found.2) (of_one found.0 found.1)
    where
      of_one : (one : KnownDetectorState) → slice_get world.interlocking.ixl.detectors place ≡ Some one → ClockedAt clients now connection link_of took_of (length site.detectors) place (clocked_detector now one) []
      of_one one f = record {
        within = b.there;
        none = refl;
        link_is = link_is;
        counts = subst (ClockedStands now) (sym (after_client _ _)) (clocked_stands now one.client b.counts);
        asks = ap (λ (l : LinkState). is_client l.identity.role) link_is ∙ b.asks;
        nothing = λ opened down. nothing (ap (λ (l : LinkState). is_open l.phase) (sym same_link) ∙ opened) (ap (λ (l : LinkState). is_up l.phase) (sym same_link) ∙ down);
        knows = knows_clocked now one (took_of place) b.counts (all place one f);
      }
        where
          b : Before laws site table is_table input connection world network step.can.named step.can.whole step.can.timely step.can.are step.comes step.may talking.stands talking.speaks talking.talk (Detector place) one.client
          b = (before laws site table is_table input connection world network step.can.named step.can.whole step.can.timely step.can.are step.comes step.may talking.stands talking.speaks talking.talk).detectors place one f

          same_link : (clocked_detector now one).client.link ≡ settled now one.client.link
          same_link = ap (λ (c : ClientState). c.link) (after_client _ _) ∙ clocked_link now one.client

          link_is : (clocked_detector now one).client.link ≡ link_of place
          link_is = same_link ∙ b.link_is

          nothing : is_open (settled now one.client.link).phase ≡ true → is_up (settled now one.client.link).phase ≡ false → took_of place ≡ []
          nothing opened down =
              let so = settled_open now one.client.link opened
              in let was_down : is_up one.client.link.phase ≡ false = ap (λ (l : LinkState). is_up l.phase) (sym so.0) ∙ down
              in none_long (took_of place) (subst (λ (s : Stage). ClientHasActedOn one.client.peer s (length (took_of place)))
              (outside_is one.client.stage (not_false (is_outside one.client.stage) (is_up one.client.link.phase) b.talks.outside was_down)) (b.talks.acted so.1))

  abbrev done : StepSoFar
  done = interlocking_step site table input world.interlocking

  abbrev after : Links
  after = run_links (interlocking_events site table input connection world.interlocking) network

  held : Holds clients now connection link_of took_of (length site.detectors) done.ixl.detectors done.calls
  held = step_held now table (Clocked clients now connection link_of took_of (length site.detectors)) (Holds clients now connection link_of took_of (length site.detectors)) (keep clients now connection link_of took_of (length site.detectors)) (key_of site) input (begun_with world.interlocking.ixl empty_outbox) clocked_all

  step_knows : AllKnow site done.ixl after
  step_knows place known e = subst (Knows known) (sym (is_after.taken ∙ taken_is)) (held place known e).knows
    where
      link : ℕ
      link = detector_link site place

      there : place < length site.detectors
      there = (held place known e).within

      below : link < links site
      below = omega (arith, there)

      is_after : ClientIsAfter (at_link link (map (node_call site connection) done.calls)) (seen link network) (seen link after)
      is_after = laws.a_client_of_many_makes_a_step (links site) (names_at site) (map (node_call site connection) done.calls) network step.can.named step.can.timely step.may link below

      clock_is : reading_of (network.ends link).client.clock ≡ now
      clock_is = let id = at_place (partners site) link (subst (λ (n : ℕ). link < n) (sym (partners_length site)) below) in ap reading_of (step.can.are.clients link id.0 id.1).clock_is

      calls_are : at_link link (map (node_call site connection) done.calls) ≡ map (as_call connection) (at_node (Detector place) done.calls)
      calls_are = at_link_is site connection (Detector place) there done.calls (laws.interlockings_call_their_nodes site table input connection world network step.can.named step.can.whole step.can.timely step.can.are step.comes)

      taken_is : taken_after (reading_of (network.ends link).client.clock) (at_link link (map (node_call site connection) done.calls)) (link_of place) (took_of place)
          ≡ taken_after now (map (as_call connection) (at_node (Detector place) done.calls)) (link_of place) (took_of place)
      taken_is = ap (λ (n : ℕ). taken_after n (at_link link (map (node_call site connection) done.calls)) (link_of place) (took_of place)) clock_is ∙ ap (λ (cs : List Call). taken_after now cs (link_of place) (took_of place)) calls_are

pub knows_first : (site : Site) (table : Table) (outset : Outset) → AllKnow site (world_at site table outset).interlocking.ixl (begun_links (names_at site) starts_at_zero)
unfolding world_at
knows_first site table outset = new_known site table at_zero (begun_links (names_at site) starts_at_zero)

pub knows_on : LawsBelow → (laws : LawsBelow) → ((site : Site) (node : NodeId) (bytes : List ℕ) (world : WorldState) (before : Links) → AreLinksOf site world before → refusal site (Deliver node bytes) world ≡ None
    → (link : ℕ) → MayCallOn (names_at site link) (Receives bytes (connection_of (copy_of bytes world))) before) → (site : Site) (table : Table) → IsTableOf site table → (happening : Event) (world : WorldState) (network : Links) → CanBe site table happening world network → Talking site world network → AllKnow site world.interlocking.ixl network
    → AllKnow site (happens site table happening world).interlocking.ixl (run_links (events_of site table happening world) network)
knows_on clients laws may_come site table is_table happening world network can talking all = event_kept laws may_come site table (Talking site) (AllKnow site) (same_known site)
    (λ input connection one w n step given before. step_knows clients laws site table is_table input connection one w n step given before)
    (λ begins w one n whole lists before all. new_known site table begins n) happening world network can talking all
