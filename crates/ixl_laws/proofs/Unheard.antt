-- A datagram that the link of its sender refuses leaves what a step without it leaves.
use Rattle.std.proofs.Common.{◌≡◌, ℕ, zero, suc, Bool, true, false, if◌then◌else◌, List, [], ◌∷◌, ◌++◌, append-nil, refl, ap, sym, ◌∙◌, subst}
use Rattle.std.specs.Prelude.{map, not, Option, Some, None, Result, Ok, Err, slice_get}
use Rattle.std.proofs.lemmas.Bool.{false≢true}
use Rattle.std.specs.FinSet.{empty}
use Rattle.ixl_state.specs.rasta_pdu.PduRead.{reading}
use Rattle.ixl_state.specs.rasta_pdu.declared.fault.PduFault.{PduFault}
use Rattle.ixl_state.specs.rasta_pdu.declared.pdu.Pdu.{Pdu}
use Rattle.ixl_state.specs.rasta_core.Calls.{receiving}
use Rattle.ixl_state.specs.rasta_core.Clock.{settled}
use Rattle.ixl_state.specs.rasta_core.Outbox.{OutboxState, posted}
use Rattle.ixl_state.specs.rasta_core.Receipt.{Receipt, refusing}
use Rattle.ixl_state.specs.rasta_core.State.{is_up}
use Rattle.ixl_state.specs.rasta_core.Verdicts.{is_refusal}
use Rattle.ixl_state.specs.rasta_core.verdict.Verdict.{Verdict}
use Rattle.ixl_state.specs.rasta_core.verdict.Verdict.TheVariants as verdicts
use Rattle.ixl_state.specs.ixl_client.Client.{ClientState, is_outside, is_ready}
use Rattle.ixl_state.specs.ixl_client.ClientSoFar as client
use Rattle.ixl_state.specs.ixl_client.ClientSoFar.{Receives, begun, calling}
use Rattle.ixl_state.specs.ixl_client.Step.{acting_all, clocked, ending, fallen, hearing, rising}
use Rattle.ixl_state.specs.ixl_client.declared.indication.Indication.{Indication}
use Rattle.ixl_state.specs.ixl_client.declared.stage.Stage.{Stage}
use Rattle.ixl_state.specs.ixl_client.declared.stage.Stage.TheVariants as stage
use Rattle.ixl_state.specs.ixl_spec.StepSoFar.{Detector, Node, StepSoFar, Point, Signal, along, begun_with, detector_after, empty_outbox, known_signal_after, noted, over, known_point_after, with_detector, with_known_signal, with_one, with_known_point}
use Rattle.ixl_state.specs.ixl_spec.Rules.{count, ruled}
use Rattle.ixl_state.specs.ixl_spec.State.{KnownDetectorState, IxlState, KnownSignalState, KnownPointState, changed}
use Rattle.ixl_state.specs.ixl_spec.Step.{Accepted, Datagram, Received, Refused, Reply, Ticked, addressed, all_clocked, client_at, client_of, clocked_detector, clocked_known_signal, clocked_known_point, detector_hearing, given, indicated_heard, known_signal_hearing, looking, looks, node_hearing, occupied_heard, reply, side_heard, stepped, known_point_hearing, ticked, verdict_at, verdict_of, watching}
use Rattle.ixl_state.specs.ixl_spec.Table.{Table}
use Rattle.ixl_state.specs.First.{key_of}
use Rattle.ixl.specs.Interlocking.{HasStepped, InterlockingState}
use Rattle.ixl_laws.specs.Refused.{IsInNoConnection, IsWithoutInput, MayHear, step_without_input}
use Rattle.ixl_laws.proofs.Blind.{Alike, seen_and_ruled}
use Rattle.ixl_laws.proofs.Clients.{detector_client, known_signal_client, known_point_client}
use Rattle.ixl_laws.proofs.RefusedByLink.{refused_still, settled_again}
use Rattle.ixl_laws.proofs.PickedByTest.{either, none_is, picked, some_same}

-- ---- a client

-- what a client does with what its link makes of a datagram
abbrev with_receipt : ℕ → List ℕ → client.ClientSoFar → Receipt → client.ClientSoFar
with_receipt now bytes part receipt = ending (acting_all now receipt.items (rising now (record part {
  client = record part.client { link = receipt.link };
  outbox = posted part.client.link.identity.key receipt.pdus part.outbox;
  calls = part.calls ++ Receives bytes ∷ [];
})))

hearing_is : (now : ℕ) (bytes : List ℕ) (part : client.ClientSoFar) → hearing now bytes part ≡ with_receipt now bytes part (receiving now bytes part.client.link)
unfolding hearing calling
hearing_is now bytes part = refl

-- nothing was heard, said or changed
pub record Unheard (a b : client.ClientSoFar) : Type 0 where
  pub client : b.client ≡ a.client
  pub outbox : b.outbox ≡ a.outbox
  pub heard : b.heard ≡ a.heard

outside_is : (s : Stage) → is_outside s ≡ true → s ≡ stage.Outside
outside_is stage.Outside is = refl
outside_is stage.AwaitsAnswer is = absurd (false≢true is)
outside_is stage.AwaitsStart is = absurd (false≢true is)
outside_is (stage.AwaitsStatus left) is = absurd (false≢true is)
outside_is stage.Completed is = absurd (false≢true is)
outside_is stage.AwaitsReport is = absurd (false≢true is)

-- a steady client neither rises nor falls
fallen_still : (one : ClientState) → is_outside one.stage ≡ not (is_up one.link.phase) → fallen one ≡ one
unfolding fallen
fallen_still one steady = picked (λ (c : ClientState). c ≡ one) (is_up one.link.phase) _ _ (λ up. refl)
    (λ down. ap (λ (s : Stage). record one { stage = s }) (sym (outside_is one.stage (steady ∙ ap not down))))

rising_still : (now : ℕ) (part : client.ClientSoFar) → is_outside part.client.stage ≡ not (is_up part.client.link.phase) → rising now part ≡ part
unfolding rising
rising_still now part steady = by_link (is_up part.client.link.phase) refl where
  by_link : (b : Bool) → is_up part.client.link.phase ≡ b → rising now part ≡ part
  by_link true up = rw (steady ∙ ap not up) refl
  by_link false down = rw (steady ∙ ap not down, down) refl

refused_unheard : (now : ℕ) (bytes : List ℕ) (part : client.ClientSoFar) → is_outside part.client.stage ≡ not (is_up part.client.link.phase) → (why : Verdict) →
    Unheard part (with_receipt now bytes part (refusing why part.client.link))
unfolding acting_all posted
refused_unheard now bytes part steady why = record {
  client = ap (λ (p : client.ClientSoFar). fallen p.client) (rising_still now kept steady) ∙ fallen_still part.client steady;
  outbox = ap (λ (p : client.ClientSoFar). p.outbox) (rising_still now kept steady) ∙ ap (λ list. record part.outbox { datagrams = list }) (append-nil part.outbox.datagrams);
  heard = ap (λ (p : client.ClientSoFar). p.heard) (rising_still now kept steady);
} where
  kept : client.ClientSoFar
  kept = record part { outbox = posted part.client.link.identity.key [] part.outbox; calls = part.calls ++ Receives bytes ∷ [] }

-- what is said of the client of a datagram that its link refuses
pub record Refuses (now : ℕ) (bytes : List ℕ) (one : ClientState) : Type 0 where
  pub may : MayHear one
  pub settled_is : settled now one.link ≡ one.link
  pub refusal : is_refusal (receiving now bytes one.link).verdict ≡ true
  pub shut : (receiving now bytes one.link).verdict ≡ verdicts.WrongState → IsInNoConnection one

pub unheard : (now : ℕ) (bytes : List ℕ) (one : ClientState) (outbox : OutboxState) → Refuses now bytes one → Unheard (begun one outbox) (hearing now bytes (begun one outbox))
unheard now bytes one outbox is = subst (Unheard (begun one outbox))
    (sym (hearing_is now bytes (begun one outbox) ∙ ap (with_receipt now bytes (begun one outbox)) (refused_still now bytes one.link is.may.numbered is.settled_is is.refusal is.shut)))
    (refused_unheard now bytes (begun one outbox) is.may.steady.outside (receiving now bytes one.link).verdict)

-- ---- an interlocking once the clock has acted

clocked_settled : (now : ℕ) (one : ClientState) → settled now (clocked now one).link ≡ (clocked now one).link
unfolding clocked fallen
clocked_settled now one = either (λ (c : ClientState). settled now c.link ≡ c.link) (is_up (settled now one.link).phase) _ _ (settled_again now one.link) (settled_again now one.link)

known_signal_again : (aspect : _) (number : ℕ) (indicated : _) (one : ClientState) →
    (λ (l : KnownSignalState). known_signal_after l.aspect l.number l.indicated l.client) (known_signal_after aspect number indicated one) ≡ known_signal_after aspect number indicated one
unfolding known_signal_after
known_signal_again aspect number indicated one =
    picked (λ (l : KnownSignalState). (if is_outside l.client.stage then record { client = l.client; aspect = None; number = 0; indicated = None } else record { client = l.client; aspect = l.aspect; number = l.number; indicated = l.indicated }) ≡ l)
    (is_outside one.stage) _ _ (λ out. rw out refl) (λ inside. rw inside refl)

known_point_again : (side : _) (moved : _) (one : ClientState) → known_point_after (known_point_after side moved one).side (known_point_after side moved one).moved (known_point_after side moved one).client ≡ known_point_after side moved one
unfolding known_point_after
known_point_again side moved one = picked (λ (s : KnownPointState). (if is_outside s.client.stage then record { client = s.client; side = None; moved = empty } else record { client = s.client; side = s.side; moved = s.moved }) ≡ s)
    (is_outside one.stage) _ _ (λ out. rw out refl) (λ inside. rw inside refl)

detector_again : (occupied : _) (one : ClientState) → detector_after (detector_after occupied one).occupied (detector_after occupied one).client ≡ detector_after occupied one
unfolding detector_after
detector_again occupied one = picked (λ (d : KnownDetectorState). (if is_outside d.client.stage then record { client = d.client; occupied = empty } else record { client = d.client; occupied = d.occupied }) ≡ d)
    (is_outside one.stage) _ _ (λ out. rw out refl) (λ inside. rw inside refl)

-- ---- a node

was_mapped : {A B : Type 0} (change : A → B) (place : ℕ) (list : List A) (one : B) → slice_get (map change list) place ≡ Some one → (old : A) × (one ≡ change old)
was_mapped change place [] one is = absurd (none_is is)
was_mapped change zero (first ∷ others) one is = (first, sym (some_same is))
was_mapped change (suc place) (first ∷ others) one is = was_mapped change place others one is

changed_self : {A : Type 0} (place : ℕ) (new : A) (list : List A) (old : A) → slice_get list place ≡ Some old → new ≡ old → changed (λ one. new) place list ≡ list
changed_self place new [] old is same = refl
changed_self zero new (first ∷ others) old is same = ap (λ one. one ∷ others) (same ∙ sym (some_same is))
changed_self (suc place) new (first ∷ others) old is same = ap (λ list. first ∷ list) (changed_self place new others old is same)

known_signal_by : ℕ → List ℕ → ℕ → KnownSignalState → StepSoFar → StepSoFar
known_signal_by now bytes place known_signal part =
    let done = hearing now bytes (begun known_signal.client part.outbox)
    in with_known_signal place (known_signal_after known_signal.aspect known_signal.number (indicated_heard done.heard known_signal.indicated) done.client) (noted (Signal place) done part)

known_point_by : ℕ → List ℕ → ℕ → KnownPointState → StepSoFar → StepSoFar
known_point_by now bytes place known_point part =
    let done = hearing now bytes (begun known_point.client part.outbox)
    in with_known_point place (known_point_after (side_heard done.heard known_point.side) known_point.moved done.client) (noted (Point place) done part)

detector_by : ℕ → List ℕ → ℕ → KnownDetectorState → StepSoFar → StepSoFar
detector_by now bytes place detector part =
    let done = hearing now bytes (begun detector.client part.outbox)
    in with_detector place (detector_after (occupied_heard done.heard detector.occupied) done.client) (noted (Detector place) done part)

known_signal_unheard : (now : ℕ) (bytes : List ℕ) (place : ℕ) (known_signal : KnownSignalState) (part : StepSoFar) → slice_get part.ixl.known_signals place ≡ Some known_signal → known_signal_after known_signal.aspect known_signal.number known_signal.indicated known_signal.client ≡ known_signal →
    Refuses now bytes known_signal.client → Alike (known_signal_by now bytes place known_signal part) part
unfolding known_signal_by
known_signal_unheard now bytes place known_signal part there again refuses =
    let done = hearing now bytes (begun known_signal.client part.outbox)
    in let nothing = unheard now bytes known_signal.client part.outbox refuses
    in record {
      ixl = ap (λ (known_signals : List KnownSignalState). record part.ixl { known_signals = known_signals }) (changed_self place _ part.ixl.known_signals known_signal there
          (ap (λ heard. known_signal_after known_signal.aspect known_signal.number (indicated_heard heard known_signal.indicated) done.client) nothing.heard
          ∙ ap (known_signal_after known_signal.aspect known_signal.number known_signal.indicated) nothing.client ∙ again));
      outbox = nothing.outbox;
    }

known_point_unheard : (now : ℕ) (bytes : List ℕ) (place : ℕ) (known_point : KnownPointState) (part : StepSoFar) → slice_get part.ixl.known_points place ≡ Some known_point → known_point_after known_point.side known_point.moved known_point.client ≡ known_point →
    Refuses now bytes known_point.client → Alike (known_point_by now bytes place known_point part) part
unfolding known_point_by
known_point_unheard now bytes place known_point part there again refuses =
    let done = hearing now bytes (begun known_point.client part.outbox)
    in let nothing = unheard now bytes known_point.client part.outbox refuses
    in record {
      ixl = ap (λ (known_points : List KnownPointState). record part.ixl { known_points = known_points }) (changed_self place _ part.ixl.known_points known_point there
          (ap (λ heard. known_point_after (side_heard heard known_point.side) known_point.moved done.client) nothing.heard ∙ ap (known_point_after known_point.side known_point.moved) nothing.client ∙ again));
      outbox = nothing.outbox;
    }

detector_unheard : (now : ℕ) (bytes : List ℕ) (place : ℕ) (detector : KnownDetectorState) (part : StepSoFar) → slice_get part.ixl.detectors place ≡ Some detector → detector_after detector.occupied detector.client ≡ detector →
    Refuses now bytes detector.client → Alike (detector_by now bytes place detector part) part
unfolding detector_by
detector_unheard now bytes place detector part there again refuses =
    let done = hearing now bytes (begun detector.client part.outbox)
    in let nothing = unheard now bytes detector.client part.outbox refuses
    in record {
      ixl = ap (λ (detectors : List KnownDetectorState). record part.ixl { detectors = detectors }) (changed_self place _ part.ixl.detectors detector there
          (ap (λ heard. detector_after (occupied_heard heard detector.occupied) done.client) nothing.heard ∙ ap (detector_after detector.occupied) nothing.client ∙ again));
      outbox = nothing.outbox;
    }

-- no look is brought
looks_nothing : (sections : List ℕ) (detector : KnownDetectorState) (heard : List Indication) (one : ClientState) → heard ≡ [] → one ≡ detector.client → looks sections detector heard one ≡ []
looks_nothing sections detector heard one none same = ap (λ list. looks sections detector list one) none ∙ ap (looks sections detector []) same ∙ by_stage (is_ready detector.client.stage) refl where
  by_stage : (b : Bool) → is_ready detector.client.stage ≡ b → looks sections detector [] detector.client ≡ []
  by_stage true ready = rw ready refl
  by_stage false unready = rw unready refl

module _ (now : ℕ) (table : Table) (bytes : List ℕ) (ixl : IxlState) (outbox : OutboxState) where
  abbrev part : StepSoFar
  part = begun_with (all_clocked now ixl) outbox

  -- what is said of the client of the datagram's sender
  abbrev Said : ClientState → Type 0
  Said one = MayHear one × (is_refusal (receiving now bytes one.link).verdict ≡ true) × ((receiving now bytes one.link).verdict ≡ verdicts.WrongState → IsInNoConnection one)

  refuses : (one : ClientState) (old : ClientState) → one ≡ clocked now old → Said one → Refuses now bytes one
  refuses one old is said = record {
    may = said.0;
    settled_is = subst (λ (c : ClientState). settled now c.link ≡ c.link) (sym is) (clocked_settled now old);
    refusal = said.1;
    shut = said.2;
  }

  signal_unheard : (place : ℕ) (one : ClientState) → client_at (Signal place) part.ixl ≡ Some one → Said one → Alike (known_signal_hearing now bytes place part) part
  unfolding known_signal_hearing all_clocked known_signal_by
  signal_unheard place one is said = by_known_signal (slice_get part.ixl.known_signals place) refl where
    by_known_signal : (kept : Option KnownSignalState) → slice_get part.ixl.known_signals place ≡ kept → Alike (with_one kept (known_signal_by now bytes place) part) part
    by_known_signal None none = record { ixl = refl; outbox = refl }
    by_known_signal (Some known_signal) there =
        let old = was_mapped (clocked_known_signal now) place ixl.known_signals known_signal there
        in let same : known_signal.client ≡ one = some_same (rw there at is)
        in let client_is = ap (λ (l : KnownSignalState). l.client) old.1 ∙ known_signal_client old.0.aspect old.0.number old.0.indicated (clocked now old.0.client)
        in known_signal_unheard now bytes place known_signal part there (subst (λ (l : KnownSignalState). known_signal_after l.aspect l.number l.indicated l.client ≡ l) (sym old.1) (known_signal_again old.0.aspect old.0.number old.0.indicated (clocked now old.0.client)))
        (refuses known_signal.client old.0.client client_is (subst Said (sym same) said))

  point_unheard : (place : ℕ) (one : ClientState) → client_at (Point place) part.ixl ≡ Some one → Said one → Alike (known_point_hearing now bytes place part) part
  unfolding known_point_hearing all_clocked known_point_by
  point_unheard place one is said = by_known_point (slice_get part.ixl.known_points place) refl where
    by_known_point : (kept : Option KnownPointState) → slice_get part.ixl.known_points place ≡ kept → Alike (with_one kept (known_point_by now bytes place) part) part
    by_known_point None none = record { ixl = refl; outbox = refl }
    by_known_point (Some known_point) there =
        let old = was_mapped (clocked_known_point now) place ixl.known_points known_point there
        in let same : known_point.client ≡ one = some_same (rw there at is)
        in let client_is = ap (λ (s : KnownPointState). s.client) old.1 ∙ known_point_client old.0.side old.0.moved (clocked now old.0.client)
        in known_point_unheard now bytes place known_point part there (subst (λ (s : KnownPointState). known_point_after s.side s.moved s.client ≡ s) (sym old.1) (known_point_again old.0.side old.0.moved (clocked now old.0.client)))
        (refuses known_point.client old.0.client client_is (subst Said (sym same) said))

  detection_unheard : (place : ℕ) (one : ClientState) → client_at (Detector place) part.ixl ≡ Some one → Said one → Alike (detector_hearing now table bytes place part) part
  unfolding detector_hearing all_clocked detector_by
  detection_unheard place one is said = by_sections (slice_get table.detectors place) where
    heard_by : List ℕ → KnownDetectorState → StepSoFar → StepSoFar
    heard_by sections detector p =
        let done = hearing now bytes (begun detector.client p.outbox)
        in along (looking table) (looks sections detector done.heard done.client) (detector_by now bytes place detector p)

    by_detector : (sections : List ℕ) (kept : Option KnownDetectorState) → slice_get part.ixl.detectors place ≡ kept → Alike (with_one kept (heard_by sections) part) part
    by_detector sections None none = record { ixl = refl; outbox = refl }
    by_detector sections (Some detector) there =
        let old = was_mapped (clocked_detector now) place ixl.detectors detector there
        in let same : detector.client ≡ one = some_same (rw there at is)
        in let client_is = ap (λ (d : KnownDetectorState). d.client) old.1 ∙ detector_client old.0.occupied (clocked now old.0.client)
        in let does_refuse = refuses detector.client old.0.client client_is (subst Said (sym same) said)
        in let nothing = unheard now bytes detector.client part.outbox does_refuse
        in subst (λ list. Alike (along (looking table) list (detector_by now bytes place detector part)) part)
        (sym (looks_nothing sections detector _ _ nothing.heard nothing.client))
        (detector_unheard now bytes place detector part there (subst (λ (d : KnownDetectorState). detector_after d.occupied d.client ≡ d) (sym old.1) (detector_again old.0.occupied (clocked now old.0.client))) does_refuse)

    by_sections : (listed : Option (List ℕ)) → Alike (with_one listed (λ sections. with_one (slice_get part.ixl.detectors place) (heard_by sections)) part) part
    by_sections None = record { ixl = refl; outbox = refl }
    by_sections (Some sections) = by_detector sections (slice_get part.ixl.detectors place) refl

  pub node_unheard : (node : Node) (one : ClientState) → client_at node part.ixl ≡ Some one → Said one → Alike (node_hearing now table bytes node part) part
  unfolding node_hearing
  node_unheard (Signal place) one is said = signal_unheard place one is said
  node_unheard (Point place) one is said = point_unheard place one is said
  node_unheard (Detector place) one is said = detection_unheard place one is said

-- ---- a step

verdict_is : (now : ℕ) (bytes : List ℕ) (read : Result Pdu PduFault) (ixl : IxlState) (one : ClientState) → client_of (addressed read ixl) ixl ≡ Some one → verdict_of now bytes read ixl ≡ (receiving now bytes one.link).verdict
verdict_is now bytes (Err fault) ixl one is = absurd (none_is is)
verdict_is now bytes (Ok pdu) ixl one is = ap (verdict_at now bytes) is

abbrev received : Reply → Verdict
received (Received why) = why
received Ticked = verdicts.Taken
received Accepted = verdicts.Taken
received (Refused cause) = verdicts.Taken

pub refused_datagram_is_without : (now : ℕ) (bytes : List ℕ) (old new : InterlockingState) (why : Verdict) (one : ClientState) → HasStepped now (Datagram bytes) old new (Received why) →
    client_of (addressed (reading (key_of old.state.sited.site) bytes) (all_clocked now old.state.ixl)) (all_clocked now old.state.ixl) ≡ Some one → MayHear one →
    is_refusal why ≡ true → (why ≡ verdicts.WrongState → IsInNoConnection one) → IsWithoutInput now old new
unfolding stepped given ticked reply
refused_datagram_is_without now bytes old new why one step is may refusal shut = by_node (addressed read clocked) is refl where
  table : Table
  table = old.state.sited.table

  clocked : IxlState
  clocked = all_clocked now old.state.ixl

  read : Result Pdu PduFault
  read = reading (key_of old.state.sited.site) bytes

  begun : StepSoFar
  begun = begun_with clocked empty_outbox

  why_is : why ≡ (receiving now bytes one.link).verdict
  why_is = ap received step.answered ∙ verdict_is now bytes read clocked one is

  behind : Option Node → StepSoFar
  behind node = ruled now table (over (watching table) (count table) (with_one node (node_hearing now table bytes) begun))

  by_node : (node : Option Node) → client_of node clocked ≡ Some one → addressed read clocked ≡ node → IsWithoutInput now old new
  by_node None none at = absurd (none_is none)
  by_node (Some node) told at =
      let alike : Alike (behind (Some node)) (step_without_input now table old.state.ixl) = seen_and_ruled now table (node_hearing now table bytes node begun) begun
      (node_unheard now table bytes old.state.ixl empty_outbox node one told (may, ap is_refusal (sym why_is) ∙ refusal, λ wrong. shut (why_is ∙ wrong)))
      in record {
        ixl = step.ixl ∙ ap (λ n. (behind n).ixl) at ∙ alike.ixl;
        outbox = step.outbox ∙ ap (λ n. (behind n).outbox) at ∙ alike.outbox;
      }
