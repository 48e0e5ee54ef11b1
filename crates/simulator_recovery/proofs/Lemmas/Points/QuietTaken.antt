-- What the client of a detector has taken grows, event by event: where its link is up after an event, it has taken what it had before, and perhaps more.
use Rattle.simulator_recovery.proofs.Words.Basics.{◌≡◌, ◌≢◌, ◌⊎◌, inl, inr, ℕ, ◌∙◌, true, false, List, [], ◌++◌, append-nil, map, Some, None, slice_get, refl, sym, ap, subst, false≢true}
use Rattle.simulator_recovery.proofs.Words.Links.{created, receiving, Call, Receives, reading_of, Links, MayCallOn, run_links, OutboxState, LinkState, is_up, all_made, made_by}
use Rattle.simulator_recovery.proofs.Words.Interlockings.{IsTableOf, ClientState, new_client, ClientSoFar, LinkCall, as_call, begun, MakesAfterReceipt, MakesOwn, link_after, hearing, ticking, IxlState, KnownDetectorState, changed, clocked_detector, Detector, Node, Point, Signal, StepSoFar, begun_with, empty_outbox, Table}
use Rattle.simulator_recovery.proofs.Words.Stations.{Site, Event, Deliver, NodeId, Beginning, new_detector_of, new_ixl, happens, interlocking_step, AreLinksOf, names_at, connection_of, copy_of, refusal, detector_link, key_of, WorldState, events_of, interlocking_events}
use Rattle.simulator_recovery.proofs.Words.Machine.{taken_after}
use Rattle.simulator_recovery.proofs.Words.Recovery.{LawsBelow}
use Rattle.simulator_spec.specs.ixl_spec.Step as ixl
use Rattle.simulator_recovery.proofs.Lemmas.Ground.SectionsEvents.{CanBe, CanStep, event_kept}
use Rattle.simulator_recovery.proofs.Lemmas.Ground.AspectCalls.{noted_at}
use Rattle.simulator_recovery.proofs.Lemmas.Ground.ClientBehind.{all_took_behind}
use Rattle.simulator_recovery.proofs.Lemmas.Ground.IxlClients.{mapped_at}
use Rattle.simulator_recovery.proofs.Lemmas.Ground.IxlSoFar.{at_itself, at_node, at_other, is_node, other_place, set_at}
use Rattle.simulator_recovery.proofs.Lemmas.Ground.EndCalls.{map_both}
use Rattle.simulator_recovery.proofs.Lemmas.Sections.SectionsClient.{after_both, after_client, link_is_made, own_keeps}
use Rattle.simulator_recovery.proofs.Lemmas.Sections.SectionsIxl.{SectionsKeep, heard_by, step_held, ticked_by}
use Rattle.simulator_recovery.proofs.Lemmas.Talk.StationTalk.{Before, SameLists, Talking, before, clocked_link, took, took_behind_step}

-- ---- one of the detectors, with the calls of its link

module _ (place : ℕ) (F : KnownDetectorState → List LinkCall → Type 0) where
  abbrev pub OfDetector : List KnownDetectorState → List (Node × LinkCall) → Type 0
  OfDetector detectors calls = (known : KnownDetectorState) → slice_get detectors place ≡ Some known → F known (at_node (Detector place) calls)

  -- some detector is another, by these calls more
  changed_detector : (k : ℕ) (new : KnownDetectorState) (more : List LinkCall) (detectors : List KnownDetectorState) (calls : List (Node × LinkCall))
      → (place ≡ k → F new (at_node (Detector place) calls ++ more)) → OfDetector detectors calls → OfDetector (changed (λ old. new) k detectors) (noted_at (Detector k) more calls)
  changed_detector k new more detectors calls so all known e = choose (set_at k new detectors place known e)
    where
      choose : ((place ≡ k) × (known ≡ new)) ⊎ ((place ≢ k) × (slice_get detectors place ≡ Some known)) → F known (at_node (Detector place) (noted_at (Detector k) more calls))
      choose (inl (same, f)) = subst (λ (n : ℕ). F known (at_node (Detector place) (noted_at (Detector n) more calls))) same
          (subst (λ (x : KnownDetectorState). F x (at_node (Detector place) (noted_at (Detector place) more calls))) (sym f) (subst (F new) (sym (at_itself (Detector place) calls more)) (so same)))
      choose (inr (apart, f)) = subst (F known) (sym (at_other (Detector place) (Detector k) (other_place place k (λ same. apart (sym same))) calls more)) (all known f)

  other_calls : (node : Node) → is_node (Detector place) node ≡ false → (more : List LinkCall) (detectors : List KnownDetectorState) (calls : List (Node × LinkCall)) → OfDetector detectors calls
      → OfDetector detectors (noted_at node more calls)
  other_calls node differ more detectors calls all known e = subst (F known) (sym (at_other (Detector place) node differ calls more)) (all known e)

-- ---- a step

module _ (laws : LawsBelow) (now connection place : ℕ) (link : LinkState) (had : List (List ℕ)) where
  -- what its client has taken by these calls
  abbrev pub so_far : List LinkCall → List (List ℕ)
  so_far calls = taken_after now (map (as_call connection) calls) link had

  so_far_behind : (calls more : List LinkCall) (then_link : LinkState) → then_link ≡ (all_made now (map (as_call connection) calls) link).link
      → so_far (calls ++ more) ≡ taken_after now (map (as_call connection) more) then_link (so_far calls)
  so_far_behind calls more then_link is = ap (λ (cs : List Call). taken_after now cs link had) (map_both (as_call connection) calls more)
      ∙ (all_took_behind now connection (map (as_call connection) calls) (map (as_call connection) more) link had
      ∙ ap (λ (l : LinkState). taken_after now (map (as_call connection) more) l (so_far calls)) (sym is))

  link_behind : (calls more : List LinkCall) (then_link after : LinkState) → then_link ≡ (all_made now (map (as_call connection) calls) link).link → after ≡ link_after now more then_link
      → after ≡ (all_made now (map (as_call connection) (calls ++ more)) link).link
  link_behind calls more then_link after is made = made ∙ (link_is_made now connection more then_link ∙ (ap (λ (l : LinkState). (all_made now (map (as_call connection) more) l).link) is
      ∙ sym (after_both now connection calls more link)))

  -- where the clock alone has acted
  pub record AtClock (known : KnownDetectorState) (calls : List LinkCall) : Type 0 where
    pub none : calls ≡ []
    pub link_is : known.client.link ≡ link

  -- a client that is up has taken what it had, and perhaps more
  pub record Grows (known : KnownDetectorState) (calls : List LinkCall) : Type 0 where
    pub link_is : known.client.link ≡ (all_made now (map (as_call connection) calls) link).link
    pub grows : is_up known.client.link.phase ≡ true → (more : List (List ℕ)) × (so_far calls ≡ had ++ more)

  still_grows : (known : KnownDetectorState) (calls : List LinkCall) → AtClock known calls → Grows known calls
  unfolding all_made taken_after
  still_grows known calls c = subst (Grows known) (sym c.none) (record { link_is = c.link_is; grows = λ up. ([], sym (append-nil had)) })

  -- a datagram that comes first
  hears_grows : (known : KnownDetectorState) (bytes : List ℕ) (outbox : OutboxState) → AtClock known [] → Grows (heard_by now bytes known outbox) (hearing now bytes (begun known.client outbox)).calls
  unfolding link_after taken_after made_by
  hears_grows known bytes outbox c = record {
    link_is = ap (λ (x : ClientState). x.link) same_client ∙ (made.1.link_is ∙ (ap (λ (cs : List LinkCall). link_after now cs known.client.link) (sym made.1.calls_are)
        ∙ (link_is_made now connection done.calls known.client.link ∙ ap (λ (l : LinkState). (all_made now (map (as_call connection) done.calls) l).link) c.link_is)));
    grows = λ up. (items, taken_is (ap (λ (x : ClientState). is_up x.link.phase) (sym same_client) ∙ up));
  }
    where
      done : ClientSoFar
      done = hearing now bytes (begun known.client outbox)

      items : List (List ℕ)
      items = (receiving now bytes known.client.link).items

      made : MakesAfterReceipt now bytes (begun known.client outbox) done
      made = laws.client_step_is_calls_receipt now bytes (begun known.client outbox)

      same_client : (heard_by now bytes known outbox).client ≡ done.client
      same_client = after_client _ done.client

      taken_is : is_up done.client.link.phase ≡ true → so_far done.calls ≡ had ++ items
      taken_is up = ap (λ (l : LinkState). taken_after now (map (as_call connection) done.calls) l had) (sym c.link_is)
          ∙ (ap (λ (cs : List LinkCall). taken_after now (map (as_call connection) cs) known.client.link had) made.1.calls_are
          ∙ (own_keeps now connection made.0 made.2 (receiving now bytes known.client.link).link (had ++ items) (ap (λ (l : LinkState). is_up l.phase) (sym made.1.link_is) ∙ up)).1)

  heard_here : (known : KnownDetectorState) (bytes : List ℕ) (outbox : OutboxState) (calls : List LinkCall) → AtClock known calls
      → Grows (heard_by now bytes known outbox) (calls ++ (hearing now bytes (begun known.client outbox)).calls)
  heard_here known bytes outbox calls c = subst (λ (cs : List LinkCall). Grows (heard_by now bytes known outbox) (cs ++ (hearing now bytes (begun known.client outbox)).calls)) (sym c.none)
      (hears_grows known bytes outbox (subst (AtClock known) c.none c))

  -- a tick
  ticks_grows : (known : KnownDetectorState) (outbox : OutboxState) (calls : List LinkCall) → Grows known calls → Grows (ticked_by now known outbox) (calls ++ (ticking now (begun known.client outbox)).calls)
  ticks_grows known outbox calls h = record {
    link_is = ap (λ (x : ClientState). x.link) same_client ∙ link_behind calls done.calls known.client.link done.client.link h.link_is (made.1.link_is
        ∙ ap (λ (cs : List LinkCall). link_after now cs known.client.link) (sym made.1.calls_are));
    grows = λ up. so (ap (λ (x : ClientState). is_up x.link.phase) (sym same_client) ∙ up);
  }
    where
      done : ClientSoFar
      done = ticking now (begun known.client outbox)

      made : MakesOwn now (begun known.client outbox) done
      made = laws.client_step_is_calls_tick now (begun known.client outbox)

      same_client : (ticked_by now known outbox).client ≡ done.client
      same_client = after_client _ done.client

      so : is_up done.client.link.phase ≡ true → (more : List (List ℕ)) × (so_far (calls ++ done.calls) ≡ had ++ more)
      so up =
          let kept = own_keeps now connection made.0 made.2 known.client.link (so_far calls) (ap (λ (l : LinkState). is_up l.phase) (sym made.1.link_is) ∙ up)
          in let before_it = h.grows kept.0
          in (
            before_it.0,
            so_far_behind calls done.calls known.client.link h.link_is
                ∙ (ap (λ (cs : List LinkCall). taken_after now (map (as_call connection) cs) known.client.link (so_far calls)) made.1.calls_are ∙ (kept.1 ∙ before_it.1)),
          )

  pub keep : SectionsKeep now (OfDetector place AtClock) (OfDetector place Grows)
  keep = record {
    weaker = λ detectors calls all known e. still_grows known (at_node (Detector place) calls) (all known e);
    hears = λ k known bytes outbox detectors calls e all. changed_detector place Grows k (heard_by now bytes known outbox) (hearing now bytes (begun known.client outbox)).calls detectors calls
        (λ same. heard_here known bytes outbox (at_node (Detector place) calls) (all known (ap (slice_get detectors) same ∙ e)))
        (λ other f. still_grows other (at_node (Detector place) calls) (all other f));
    ticks = λ k known outbox detectors calls e all. changed_detector place Grows k (ticked_by now known outbox) (ticking now (begun known.client outbox)).calls detectors calls
        (λ same. ticks_grows known outbox (at_node (Detector place) calls) (all known (ap (slice_get detectors) same ∙ e))) all;
    signal = λ k more detectors calls all. other_calls place Grows (Signal k) refl more detectors calls all;
    point = λ k more detectors calls all. other_calls place Grows (Point k) refl more detectors calls all;
  }

-- ---- an event

-- a detector's client that is up has taken these items, and perhaps more
abbrev pub HasTaken : Site → ℕ → List (List ℕ) → IxlState → Links → Type 0
HasTaken site place had known network = (one : KnownDetectorState) → slice_get known.detectors place ≡ Some one → is_up one.client.link.phase ≡ true
    → (more : List (List ℕ)) × (took network (detector_link site place) ≡ had ++ more)

module _ (clients : LawsBelow) (laws : LawsBelow) (site : Site) (table : Table) (is_table : IsTableOf site table) (place : ℕ) where
  pub record TakenAt (had : List (List ℕ)) (world : WorldState) (network : Links) : Type 0 where
    pub talking : Talking site world network
    pub is : took network (detector_link site place) ≡ had

  same_taken : (had : List (List ℕ)) (known : IxlState) (old new : Links) → SameLists old new → HasTaken site place had known old → HasTaken site place had known new
  same_taken had known old new same all one e up = let before_it = all one e up in (before_it.0, same.taken (detector_link site place) ∙ before_it.1)

  new_taken : (had : List (List ℕ)) (begins : Beginning) (network : Links) → HasTaken site place had (new_ixl site table begins) network
  unfolding new_ixl new_client created
  new_taken had begins network one e up = let made = mapped_at (new_detector_of site begins) site.detectors place one e in
      absurd (false≢true (ap (λ (k : KnownDetectorState). is_up k.client.link.phase) (sym made.2) ∙ up))

  module _ (input : ixl.Input) (connection : ℕ) (happening : Event) (world : WorldState) (network : Links) (step : CanStep site table input connection happening world network) (had : List (List ℕ))
      (given : TakenAt had world network) where
    abbrev now : ℕ
    now = reading_of world.interlocking.clock

    abbrev at : ℕ
    at = detector_link site place

    abbrev link : LinkState
    link = (network.ends at).client.link

    abbrev done : StepSoFar
    done = interlocking_step site table input world.interlocking

    abbrev after : Links
    after = run_links (interlocking_events site table input connection world.interlocking) network

    abbrev BeforeIt : ClientState → Type 0
    BeforeIt = Before laws site table is_table input connection world network step.can.named step.can.whole step.can.timely step.can.are step.comes step.may given.talking.stands given.talking.speaks
        given.talking.talk (Detector place)

    before_it : (known : KnownDetectorState) → slice_get world.interlocking.ixl.detectors place ≡ Some known → BeforeIt known.client
    before_it known e = (before laws site table is_table input connection world network step.can.named step.can.whole step.can.timely step.can.are step.comes step.may given.talking.stands
        given.talking.speaks given.talking.talk).detectors place known e

    clocked_all : OfDetector place (AtClock clients now connection place link (took network at)) (map (clocked_detector now) world.interlocking.ixl.detectors) []
    unfolding at_node
    clocked_all known e =
        let found = mapped_at (clocked_detector now) world.interlocking.ixl.detectors place known e
        in subst (λ (k : KnownDetectorState). AtClock clients now connection place link (took network at) k []) (sym found.2) (record {
          none = refl;
          link_is = ap (λ (c : ClientState). c.link) (after_client _ _) ∙ (clocked_link now found.0.client ∙ (before_it found.0 found.1).link_is);
        })

    held : OfDetector place (Grows clients now connection place link (took network at)) done.ixl.detectors done.calls
    held = step_held now table (OfDetector place (AtClock clients now connection place link (took network at))) (OfDetector place (Grows clients now connection place link (took network at)))
        (keep clients now connection place link (took network at)) (key_of site) input (begun_with world.interlocking.ixl empty_outbox) clocked_all

    module _ (was : KnownDetectorState) (was_there : slice_get world.interlocking.ixl.detectors place ≡ Some was) where
      taken_is : took after at ≡ so_far clients now connection place link (took network at) (at_node (Detector place) done.calls)
      taken_is = took_behind_step laws site table is_table input connection world network step.can.named step.can.whole step.can.timely step.can.are step.comes step.may given.talking.stands
          given.talking.speaks given.talking.talk (Detector place) (before_it was was_there).there

      step_taken : HasTaken site place had done.ixl after
      step_taken one e up =
          let grown = (held one e).grows up
          in (grown.0, taken_is ∙ (grown.1 ∙ ap (λ (list : List (List ℕ)). list ++ grown.0) given.is))

  pub taken_on : ((at_site : Site) (node : NodeId) (bytes : List ℕ) (one : WorldState) (links : Links) → AreLinksOf at_site one links → refusal at_site (Deliver node bytes) one ≡ None
      → (link : ℕ) → MayCallOn (names_at at_site link) (Receives bytes (connection_of (copy_of bytes one))) links)
      → (happening : Event) (world : WorldState) (network : Links) → CanBe site table happening world network → (was : KnownDetectorState) → slice_get world.interlocking.ixl.detectors place ≡ Some was
      → Talking site world network → HasTaken site place (took network (detector_link site place)) (happens site table happening world).interlocking.ixl (run_links (events_of site table happening world) network)
  taken_on may_come happening world network can was there talking = event_kept laws may_come site table Given (HasTaken site place had) (same_taken had)
      (λ input connection one w n step given before. step_taken input connection one w n step had given.0 given.1 given.2)
      (λ begins w one n whole lists given before. new_taken had begins n) happening world network can (record { talking = talking; is = refl }, was, there)
      (λ one e up. ([], sym (append-nil had)))
    where
      had : List (List ℕ)
      had = took network (detector_link site place)

      Given : WorldState → Links → Type 0
      Given w n = TakenAt had w n × (one : KnownDetectorState) × (slice_get w.interlocking.ixl.detectors place ≡ Some one)
