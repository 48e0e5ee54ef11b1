-- A whole step of an interlocking calls links.
use Rattle.std.proofs.Common.{◌≡◌, ℕ, List, [], refl, ap, sym, ◌∙◌, subst}
use Rattle.std.specs.Prelude.{Option, Some, None, option_map, slice_get}
use Rattle.ixl_state.specs.rasta_core.Clock.{settled}
use Rattle.ixl_state.specs.rasta_core.Outbox.{OutboxState}
use Rattle.ixl_state.specs.rasta_core.State.{LinkState, is_up}
use Rattle.ixl_state.specs.ixl_client.Client.{ClientState}
use Rattle.ixl_state.specs.ixl_client.Made.{link_after}
use Rattle.ixl_state.specs.ixl_client.Step.{clocked, fallen}
use Rattle.ixl_state.specs.ixl_spec.StepSoFar.{Detector, Node, StepSoFar, Point, Signal}
use Rattle.ixl_state.specs.ixl_spec.State.{KnownDetectorState, IxlState, KnownSignalState, KnownPointState}
use Rattle.ixl_state.specs.ixl_spec.Step.{Commands, Datagram, Input, Reply, Tick, all_clocked, client_at, clocked_detector, clocked_known_signal, clocked_known_point, stepped, ticked}
use Rattle.ixl.specs.Interlocking.{HasStepped, InterlockingState, step_of}
use Rattle.ixl_laws.specs.Called.{ActsOnTaken, HandsOut, IsNobody, ReceivesFirst, Stays, acted_at, calls_at, datagrams_of, items_taken, receipt_at}
use Rattle.ixl_laws.specs.Nodes.{of_node}
use Rattle.ixl_laws.proofs.CalledGiven.{given_called}
use Rattle.ixl_laws.proofs.CalledSoFar.{Called, CalledAt, SoFar}
use Rattle.ixl_laws.proofs.CalledSteps.{ClientLaws, rules_called, tick_called}
use Rattle.ixl_laws.proofs.Clients.{detection_at, detector_client, detector_kept, known_signal_client, known_signal_kept, mapped_option, point_at, signal_at, known_point_client, known_point_kept}
use Rattle.ixl_laws.proofs.Hears.{fallen_peer}
use Rattle.ixl_laws.proofs.PickedByTest.{either}

-- ---- the clock

pub clocked_link : (now : ℕ) (client : ClientState) → (clocked now client).link ≡ settled now client.link
unfolding clocked fallen
clocked_link now client = either (λ (c : ClientState). c.link ≡ settled now client.link) (is_up (settled now client.link).phase) _ _ refl refl

pub clocked_peer : (now : ℕ) (client : ClientState) → (clocked now client).peer ≡ client.peer
unfolding clocked
clocked_peer now client = fallen_peer (record client { link = settled now client.link })

pub clocked_clients : (now : ℕ) (node : Node) (ixl : IxlState) → client_at node (all_clocked now ixl) ≡ option_map (clocked now) (client_at node ixl)
unfolding all_clocked
clocked_clients now (Signal place) ixl =
    signal_at place (all_clocked now ixl) ∙ ap known_signal_kept (mapped_option (clocked_known_signal now) place ixl.known_signals) ∙ kept (slice_get ixl.known_signals place) ∙ ap (option_map (clocked now)) (sym (signal_at place ixl))
  where
    kept : (known_signal : Option KnownSignalState) → known_signal_kept (option_map (clocked_known_signal now) known_signal) ≡ option_map (clocked now) (known_signal_kept known_signal)
    kept None = refl
    kept (Some known_signal) = ap Some (known_signal_client known_signal.aspect known_signal.number known_signal.indicated (clocked now known_signal.client))
clocked_clients now (Point place) ixl =
    point_at place (all_clocked now ixl) ∙ ap known_point_kept (mapped_option (clocked_known_point now) place ixl.known_points) ∙ kept (slice_get ixl.known_points place) ∙ ap (option_map (clocked now)) (sym (point_at place ixl))
  where
    kept : (known_point : Option KnownPointState) → known_point_kept (option_map (clocked_known_point now) known_point) ≡ option_map (clocked now) (known_point_kept known_point)
    kept None = refl
    kept (Some known_point) = ap Some (known_point_client known_point.side known_point.moved (clocked now known_point.client))
clocked_clients now (Detector place) ixl =
    detection_at place (all_clocked now ixl) ∙ ap detector_kept (mapped_option (clocked_detector now) place ixl.detectors) ∙ kept (slice_get ixl.detectors place) ∙ ap (option_map (clocked now)) (sym (detection_at place ixl))
  where
    kept : (detector : Option KnownDetectorState) → detector_kept (option_map (clocked_detector now) detector) ≡ option_map (clocked now) (detector_kept detector)
    kept None = refl
    kept (Some detector) = ap Some (detector_client detector.occupied (clocked now detector.client))

-- ---- a step

module _ (now : ℕ) (laws : ClientLaws now) (old : InterlockingState) where
  abbrev first : IxlState
  first = all_clocked now old.state.ixl

  abbrev On : Input → StepSoFar → Type 0
  On input part = SoFar now first (receipt_at now input old) part

  ticked_called : (input : Input) (part : StepSoFar) → On input part → On input (ticked now input part)
  unfolding ticked
  ticked_called Tick part on = tick_called now laws first (receipt_at now Tick old) (λ node. refl) part on
  ticked_called (Commands command) part on = on
  ticked_called (Datagram bytes) part on = on

  step_called : (input : Input) → On input (step_of now input old.state)
  unfolding stepped
  step_called input = ticked_called input _ (rules_called now laws first (receipt_at now input old) old.state.sited.table _ (given_called now laws old input))

  module _ (input : Input) (new : InterlockingState) (answer : Reply) (step : HasStepped now input old new answer) where
    so_far : On input (step_of now input old.state)
    so_far = step_called input

    abbrev sent_at : Node → List (List ℕ)
    sent_at node = of_node node so_far.sent

    abbrev CalledIn : Node → Option ClientState → Option ClientState → Type 0
    CalledIn node before after = CalledAt now first (receipt_at now input old) node (calls_at now input old node) (acted_at now input old node) (sent_at node) before after

    called_in : (node : Node) (kept : Option ClientState) → client_at node old.state.ixl ≡ kept → CalledIn node (option_map (clocked now) kept) (client_at node new.state.ixl)
    called_in node kept is = subst (λ before. CalledIn node before (client_at node new.state.ixl)) (clocked_clients now node old.state.ixl ∙ ap (option_map (clocked now)) is)
        (subst (λ (i : IxlState). CalledIn node (client_at node first) (client_at node i)) (sym step.ixl) (so_far.each node))

    module _ (node : Node) (before : ClientState) (is : client_at node old.state.ixl ≡ Some before) where
      pub client_stays : Stays node before new
      client_stays = by_new (client_at node new.state.ixl) refl (called_in node (Some before) is) where
        by_new : (kept : Option ClientState) → client_at node new.state.ixl ≡ kept → CalledIn node (Some (clocked now before)) kept → Stays node before new
        by_new None also called = absurd called
        by_new (Some after) also called = record { after = after; there = also; same = called.same ∙ clocked_peer now before }

      module _ (after : ClientState) (also : client_at node new.state.ixl ≡ Some after) where
        called : Called now first (receipt_at now input old) node (calls_at now input old node) (acted_at now input old node) (sent_at node) (clocked now before) after
        called = subst (CalledIn node (Some (clocked now before))) also (called_in node (Some before) is)

        pub link_is_made : after.link ≡ link_after now (calls_at now input old node) (settled now before.link)
        link_is_made = called.link ∙ ap (link_after now (calls_at now input old node)) (clocked_link now before)

        pub acts_on_taken : ActsOnTaken (items_taken now (calls_at now input old node) (settled now before.link)) (acted_at now input old node) after.link
        acts_on_taken = subst (λ (l : LinkState). ActsOnTaken (items_taken now (calls_at now input old node) l) (acted_at now input old node) after.link) (clocked_link now before) called.items

      pub receives_first : ReceivesFirst (receipt_at now input old node) (calls_at now input old node)
      receives_first = (called client_stays.after client_stays.there).receives

      sent_is : sent_at node ≡ datagrams_of now (calls_at now input old node) (settled now before.link)
      sent_is = (called client_stays.after client_stays.there).datagrams ∙ ap (datagrams_of now (calls_at now input old node)) (clocked_link now before)

    module _ (node : Node) (is : client_at node old.state.ixl ≡ None) where
      none_came : (kept : Option ClientState) → client_at node new.state.ixl ≡ kept → CalledIn node None kept → (client_at node new.state.ixl ≡ None) × (calls_at now input old node ≡ []) × (sent_at node ≡ [])
      none_came None also called = (also, called.0, called.1)
      none_came (Some after) also called = absurd called

      nobody : (client_at node new.state.ixl ≡ None) × (calls_at now input old node ≡ []) × (sent_at node ≡ [])
      nobody = none_came (client_at node new.state.ixl) refl (called_in node None is)

      pub nobody_is_called : IsNobody now input old new node
      nobody_is_called = record { none = nobody.0; calls = nobody.1 }

    pub hands_out : HandsOut now input old new
    hands_out = record {
      sent = so_far.sent;
      outbox = ap (λ (o : OutboxState). o.datagrams) step.outbox ∙ so_far.outbox;
      each = λ node before is. sent_is node before is;
      nobody = λ node none. (nobody node none).2;
    }
