-- Bytes that can't be read leave all as it is, at whichever link they are heard.
use Rattle.std.proofs.Common.{◌≡◌, ℕ, zero, suc, Bool, true, false, if◌then◌else◌, List, [], ◌∷◌, ◌++◌, append-nil, refl, ap, sym, ◌∙◌, subst}
use Rattle.std.specs.Prelude.{◌&&◌, nat_le, not, map, Option, Some, None, Result, Err, slice_get}
use Rattle.std.specs.FinSet.{empty}
use Rattle.std.proofs.lemmas.Bool.{false≢true}
use Rattle.std.proofs.lemmas.Option.{none-some, same_Some}
use Rattle.ixl_state.specs.rasta_core.Calls.{hearing_bytes, receiving}
use Rattle.ixl_state.specs.rasta_core.Clock.{deadline, settled}
use Rattle.ixl_state.specs.rasta_core.Outbox.{OutboxState, posted}
use Rattle.ixl_state.specs.rasta_core.PdusHandedOut.{Step, entered, limited, silent, telling}
use Rattle.ixl_state.specs.rasta_core.Receipt.{Receipt, refusing}
use Rattle.ixl_state.specs.rasta_core.State.{LinkState, is_open, is_up}
use Rattle.ixl_state.specs.rasta_core.reason.Reason.TheVariants as reason
use Rattle.ixl_state.specs.rasta_core.verdict.Verdict.{Verdict}
use Rattle.ixl_state.specs.rasta_core.verdict.Verdict.TheVariants as verdicts
use Rattle.ixl_state.specs.rasta_pdu.PduRead.{reading}
use Rattle.ixl_state.specs.rasta_pdu.declared.fault.PduFault.{PduFault}
use Rattle.ixl_state.specs.rasta_pdu.declared.pdu.Pdu.{Pdu}
use Rattle.ixl_state.specs.ixl_client.Client.{ClientState, IsClient, is_outside, is_ready}
use Rattle.ixl_state.specs.ixl_client.ClientSoFar as client
use Rattle.ixl_state.specs.ixl_client.ClientSoFar.{Receives, begun, calling}
use Rattle.ixl_state.specs.ixl_client.Step.{acting_all, clocked, ending, fallen, hearing, rising}
use Rattle.ixl_state.specs.ixl_client.declared.indication.Indication.{Indication}
use Rattle.ixl_state.specs.ixl_client.declared.stage.Stage.{Stage}
use Rattle.ixl_state.specs.ixl_client.declared.stage.Stage.TheVariants as stage
use Rattle.ixl_state.specs.ixl_spec.StepSoFar.{Detector, Node, Point, Signal, StepSoFar, along, begun_with, detector_after, known_point_after, known_signal_after, noted, with_detector, with_known_point, with_known_signal, with_one}
use Rattle.ixl_state.specs.ixl_spec.State.{IxlState, KnownDetectorState, KnownPointState, KnownSignalState, changed}
use Rattle.ixl_state.specs.ixl_spec.Step.{all_clocked, client_at, clocked_detector, clocked_known_point, clocked_known_signal, detector_hearing, indicated_heard, known_point_hearing, known_signal_hearing, looking, looks, node_hearing, occupied_heard, side_heard}
use Rattle.ixl_state.specs.ixl_spec.Table.{Table}
use Rattle.ixl.specs.inside.Judged.{is_at_limit}
use Rattle.ixl.proofs.StepParts.{Comes}

-- what holds of the one where the test passes, and of the other where it fails
picked : {A : Type 0} (fact : A → Type 0) (b : Bool) (one other : A) → (b ≡ true → fact one) → (b ≡ false → fact other) → fact (if b then one else other)
picked fact true one other is also = is refl
picked fact false one other is also = also refl

either : {A : Type 0} (fact : A → Type 0) (b : Bool) (one other : A) → fact one → fact other → fact (if b then one else other)
either fact b one other is also = picked fact b one other (λ true_is. is) (λ false_is. also)

-- ---- a link

settled_again : (now : ℕ) (link : LinkState) → settled now (settled now link) ≡ settled now link
unfolding settled deadline
settled_again now link = picked (λ (l : LinkState). settled now l ≡ l) (is_open link.phase && nat_le (deadline link) now) _ _ (λ late. refl) (λ early. rw early refl)

entered_still : (now : ℕ) (link : LinkState) → settled now link ≡ link → is_at_limit link ≡ false → entered now link ≡ silent link
unfolding entered limited
entered_still now link same below = ap limited same ∙ picked (λ (s : Step). s ≡ silent link) (is_at_limit link) (telling reason.Sequence link) (silent link) (λ at. absurd (false≢true (sym below ∙ at))) (λ under. refl)

-- what a link answers that enters so, where the bytes are read so
abbrev answered : Step → Result Pdu PduFault → Receipt
answered entry read = record (hearing_bytes read entry.link) { pdus = entry.pdus ++ (hearing_bytes read entry.link).pdus }

pub unread_refused : (now : ℕ) (bytes : List ℕ) (link : LinkState) (fault : PduFault) → settled now link ≡ link → is_at_limit link ≡ false → reading link.identity.key bytes ≡ Err fault →
    receiving now bytes link ≡ refusing (verdicts.Unreadable fault) link
unfolding receiving hearing_bytes
unread_refused now bytes link fault same below read =
    ap (λ (entry : Step). answered entry (reading link.identity.key bytes)) (entered_still now link same below) ∙ ap (answered (silent link)) read

-- ---- a client

-- what a client does with what its link makes of a datagram
abbrev with_receipt : ℕ → List ℕ → client.ClientSoFar → Receipt → client.ClientSoFar
with_receipt now bytes part receipt = ending (acting_all now receipt.items (rising now (record part {
  client = record part.client { link = receipt.link };
  outbox = posted part.client.link.identity.key receipt.pdus part.outbox;
  calls = part.calls ++ Receives bytes ∷ [];
})))

hearing_is : (now : ℕ) (bytes : List ℕ) (part : client.ClientSoFar) → hearing now bytes part ≡ with_receipt now bytes part (receiving now bytes part.client.link)
unfolding hearing calling
hearing_is now bytes part = refl

-- nothing was heard, said or changed
pub record Unheard (a b : client.ClientSoFar) : Type 0 where
  pub client : b.client ≡ a.client
  pub outbox : b.outbox ≡ a.outbox
  pub heard : b.heard ≡ a.heard

outside_is : (s : Stage) → is_outside s ≡ true → s ≡ stage.Outside
outside_is stage.Outside is = refl
outside_is stage.AwaitsAnswer is = absurd (false≢true is)
outside_is stage.AwaitsStart is = absurd (false≢true is)
outside_is (stage.AwaitsStatus left) is = absurd (false≢true is)
outside_is stage.Completed is = absurd (false≢true is)
outside_is stage.AwaitsReport is = absurd (false≢true is)

-- a steady client neither rises nor falls
fallen_still : (one : ClientState) → is_outside one.stage ≡ not (is_up one.link.phase) → fallen one ≡ one
unfolding fallen
fallen_still one steady = picked (λ (c : ClientState). c ≡ one) (is_up one.link.phase) _ _ (λ up. refl)
    (λ down. ap (λ (s : Stage). record one { stage = s }) (sym (outside_is one.stage (steady ∙ ap not down))))

rising_still : (now : ℕ) (part : client.ClientSoFar) → is_outside part.client.stage ≡ not (is_up part.client.link.phase) → rising now part ≡ part
unfolding rising
rising_still now part steady = by_link (is_up part.client.link.phase) refl where
  by_link : (b : Bool) → is_up part.client.link.phase ≡ b → rising now part ≡ part
  by_link true up = rw (steady ∙ ap not up) refl
  by_link false down = rw (steady ∙ ap not down, down) refl

refused_unheard : (now : ℕ) (bytes : List ℕ) (part : client.ClientSoFar) → is_outside part.client.stage ≡ not (is_up part.client.link.phase) → (why : Verdict) →
    Unheard part (with_receipt now bytes part (refusing why part.client.link))
unfolding acting_all posted
refused_unheard now bytes part steady why = record {
  client = ap (λ (p : client.ClientSoFar). fallen p.client) (rising_still now kept steady) ∙ fallen_still part.client steady;
  outbox = ap (λ (p : client.ClientSoFar). p.outbox) (rising_still now kept steady) ∙ ap (λ list. record part.outbox { datagrams = list }) (append-nil part.outbox.datagrams);
  heard = ap (λ (p : client.ClientSoFar). p.heard) (rising_still now kept steady);
} where
  kept : client.ClientSoFar
  kept = record part { outbox = posted part.client.link.identity.key [] part.outbox; calls = part.calls ++ Receives bytes ∷ [] }

-- what is said of the client of the sender of bytes that can't be read
pub record CannotRead (bytes : List ℕ) (fault : PduFault) (one : ClientState) : Type 0 where
  pub steady : IsClient one
  pub below : is_at_limit one.link ≡ false
  pub read : reading one.link.identity.key bytes ≡ Err fault

unheard : (now : ℕ) (bytes : List ℕ) (fault : PduFault) (one : ClientState) (outbox : OutboxState) → CannotRead bytes fault one → settled now one.link ≡ one.link →
    Unheard (begun one outbox) (hearing now bytes (begun one outbox))
unheard now bytes fault one outbox is same = subst (Unheard (begun one outbox))
    (sym (hearing_is now bytes (begun one outbox) ∙ ap (with_receipt now bytes (begun one outbox)) (unread_refused now bytes one.link fault same is.below is.read)))
    (refused_unheard now bytes (begun one outbox) is.steady.outside (verdicts.Unreadable fault))

-- ---- an interlocking once the clock has acted

clocked_settled : (now : ℕ) (one : ClientState) → settled now (clocked now one).link ≡ (clocked now one).link
unfolding clocked fallen
clocked_settled now one = either (λ (c : ClientState). settled now c.link ≡ c.link) (is_up (settled now one.link).phase) _ _ (settled_again now one.link) (settled_again now one.link)

known_signal_client : (aspect : _) (number : ℕ) (indicated : _) (one : ClientState) → (known_signal_after aspect number indicated one).client ≡ one
unfolding known_signal_after
known_signal_client aspect number indicated one = either (λ (l : KnownSignalState). l.client ≡ one) (is_outside one.stage) _ _ refl refl

known_point_client : (side : _) (moved : _) (one : ClientState) → (known_point_after side moved one).client ≡ one
unfolding known_point_after
known_point_client side moved one = either (λ (s : KnownPointState). s.client ≡ one) (is_outside one.stage) _ _ refl refl

detector_client : (occupied : _) (one : ClientState) → (detector_after occupied one).client ≡ one
unfolding detector_after
detector_client occupied one = either (λ (d : KnownDetectorState). d.client ≡ one) (is_outside one.stage) _ _ refl refl

known_signal_again : (aspect : _) (number : ℕ) (indicated : _) (one : ClientState) →
    (λ (l : KnownSignalState). known_signal_after l.aspect l.number l.indicated l.client) (known_signal_after aspect number indicated one) ≡ known_signal_after aspect number indicated one
unfolding known_signal_after
known_signal_again aspect number indicated one =
    picked (λ (l : KnownSignalState). (if is_outside l.client.stage then record { client = l.client; aspect = None; number = 0; indicated = None } else record { client = l.client; aspect = l.aspect; number = l.number; indicated = l.indicated }) ≡ l)
    (is_outside one.stage) _ _ (λ out. rw out refl) (λ inside. rw inside refl)

known_point_again : (side : _) (moved : _) (one : ClientState) → known_point_after (known_point_after side moved one).side (known_point_after side moved one).moved (known_point_after side moved one).client ≡ known_point_after side moved one
unfolding known_point_after
known_point_again side moved one = picked (λ (s : KnownPointState). (if is_outside s.client.stage then record { client = s.client; side = None; moved = empty } else record { client = s.client; side = s.side; moved = s.moved }) ≡ s)
    (is_outside one.stage) _ _ (λ out. rw out refl) (λ inside. rw inside refl)

detector_again : (occupied : _) (one : ClientState) → detector_after (detector_after occupied one).occupied (detector_after occupied one).client ≡ detector_after occupied one
unfolding detector_after
detector_again occupied one = picked (λ (d : KnownDetectorState). (if is_outside d.client.stage then record { client = d.client; occupied = empty } else record { client = d.client; occupied = d.occupied }) ≡ d)
    (is_outside one.stage) _ _ (λ out. rw out refl) (λ inside. rw inside refl)

was_mapped : {A B : Type 0} (change : A → B) (place : ℕ) (list : List A) (one : B) → slice_get (map change list) place ≡ Some one → (old : A) × (one ≡ change old)
was_mapped change place [] one is = absurd (none-some one is)
was_mapped change zero (first ∷ others) one is = (first, sym (same_Some (change first) one is))
was_mapped change (suc place) (first ∷ others) one is = was_mapped change place others one is

changed_self : {A : Type 0} (place : ℕ) (new : A) (list : List A) (old : A) → slice_get list place ≡ Some old → new ≡ old → changed (λ one. new) place list ≡ list
changed_self place new [] old is same = refl
changed_self zero new (first ∷ others) old is same = ap (λ one. one ∷ others) (same ∙ sym (same_Some first old is))
changed_self (suc place) new (first ∷ others) old is same = ap (λ list. first ∷ list) (changed_self place new others old is same)

-- ---- a node

known_signal_by : ℕ → List ℕ → ℕ → KnownSignalState → StepSoFar → StepSoFar
known_signal_by now bytes place known_signal part =
    let done = hearing now bytes (begun known_signal.client part.outbox)
    in with_known_signal place (known_signal_after known_signal.aspect known_signal.number (indicated_heard done.heard known_signal.indicated) done.client) (noted (Signal place) done part)

known_point_by : ℕ → List ℕ → ℕ → KnownPointState → StepSoFar → StepSoFar
known_point_by now bytes place known_point part =
    let done = hearing now bytes (begun known_point.client part.outbox)
    in with_known_point place (known_point_after (side_heard done.heard known_point.side) known_point.moved done.client) (noted (Point place) done part)

detector_by : ℕ → List ℕ → ℕ → KnownDetectorState → StepSoFar → StepSoFar
detector_by now bytes place detector part =
    let done = hearing now bytes (begun detector.client part.outbox)
    in with_detector place (detector_after (occupied_heard done.heard detector.occupied) done.client) (noted (Detector place) done part)

-- no look is brought
looks_nothing : (sections : List ℕ) (detector : KnownDetectorState) (heard : List Indication) (one : ClientState) → heard ≡ [] → one ≡ detector.client → looks sections detector heard one ≡ []
looks_nothing sections detector heard one none same = ap (λ list. looks sections detector list one) none ∙ ap (looks sections detector []) same ∙ by_stage (is_ready detector.client.stage) refl where
  by_stage : (b : Bool) → is_ready detector.client.stage ≡ b → looks sections detector [] detector.client ≡ []
  by_stage true ready = rw ready refl
  by_stage false unready = rw unready refl

module _ (now : ℕ) (table : Table) (bytes : List ℕ) (fault : PduFault) (before : IxlState) (outbox : OutboxState) where
  abbrev ixl : IxlState
  ixl = all_clocked now before

  abbrev part : StepSoFar
  part = begun_with ixl outbox

  abbrev Stays : StepSoFar → Type 0
  Stays after = Comes after ixl outbox

  still : (one old other : ClientState) → one ≡ clocked now old → one ≡ other → settled now other.link ≡ other.link
  still one old other is same = subst (λ (c : ClientState). settled now c.link ≡ c.link) (sym is ∙ same) (clocked_settled now old)

  signal_settled : (place : ℕ) (one : ClientState) → client_at (Signal place) ixl ≡ Some one → settled now one.link ≡ one.link
  unfolding all_clocked
  signal_settled place one is = by_kept (slice_get ixl.known_signals place) refl where
    by_kept : (kept : Option KnownSignalState) → slice_get ixl.known_signals place ≡ kept → settled now one.link ≡ one.link
    by_kept None none = absurd (none-some one (rw none at is))
    by_kept (Some known_signal) there =
        let old = was_mapped (clocked_known_signal now) place before.known_signals known_signal there
        in still known_signal.client old.0.client one
        (ap (λ (l : KnownSignalState). l.client) old.1 ∙ known_signal_client old.0.aspect old.0.number old.0.indicated (clocked now old.0.client))
        (same_Some known_signal.client one (rw there at is))

  point_settled : (place : ℕ) (one : ClientState) → client_at (Point place) ixl ≡ Some one → settled now one.link ≡ one.link
  unfolding all_clocked
  point_settled place one is = by_kept (slice_get ixl.known_points place) refl where
    by_kept : (kept : Option KnownPointState) → slice_get ixl.known_points place ≡ kept → settled now one.link ≡ one.link
    by_kept None none = absurd (none-some one (rw none at is))
    by_kept (Some known_point) there =
        let old = was_mapped (clocked_known_point now) place before.known_points known_point there
        in still known_point.client old.0.client one
        (ap (λ (s : KnownPointState). s.client) old.1 ∙ known_point_client old.0.side old.0.moved (clocked now old.0.client))
        (same_Some known_point.client one (rw there at is))

  detector_settled : (place : ℕ) (one : ClientState) → client_at (Detector place) ixl ≡ Some one → settled now one.link ≡ one.link
  unfolding all_clocked
  detector_settled place one is = by_kept (slice_get ixl.detectors place) refl where
    by_kept : (kept : Option KnownDetectorState) → slice_get ixl.detectors place ≡ kept → settled now one.link ≡ one.link
    by_kept None none = absurd (none-some one (rw none at is))
    by_kept (Some detector) there =
        let old = was_mapped (clocked_detector now) place before.detectors detector there
        in still detector.client old.0.client one
        (ap (λ (d : KnownDetectorState). d.client) old.1 ∙ detector_client old.0.occupied (clocked now old.0.client))
        (same_Some detector.client one (rw there at is))

  pub node_settled : (node : Node) (one : ClientState) → client_at node (all_clocked now before) ≡ Some one → settled now one.link ≡ one.link
  node_settled (Signal place) one is = signal_settled place one is
  node_settled (Point place) one is = point_settled place one is
  node_settled (Detector place) one is = detector_settled place one is

  -- what a client that is another name of this one hears
  heard_by_same : (one other : ClientState) → one ≡ other → CannotRead bytes fault other → settled now other.link ≡ other.link → Unheard (begun one outbox) (hearing now bytes (begun one outbox))
  heard_by_same one other same said rests = subst (λ (c : ClientState). Unheard (begun c outbox) (hearing now bytes (begun c outbox))) (sym same) (unheard now bytes fault other outbox said rests)

  signal_stays : (place : ℕ) (one : ClientState) → client_at (Signal place) ixl ≡ Some one → CannotRead bytes fault one → Stays (known_signal_hearing now bytes place part)
  unfolding known_signal_hearing all_clocked known_signal_by
  signal_stays place one is said = by_known_signal (slice_get part.ixl.known_signals place) refl where
    by_known_signal : (kept : Option KnownSignalState) → slice_get part.ixl.known_signals place ≡ kept → Stays (with_one kept (known_signal_by now bytes place) part)
    by_known_signal None none = (refl, refl)
    by_known_signal (Some known_signal) there =
        let old = was_mapped (clocked_known_signal now) place before.known_signals known_signal there
        in let same : known_signal.client ≡ one = same_Some known_signal.client one (rw there at is)
        in let again : known_signal_after known_signal.aspect known_signal.number known_signal.indicated known_signal.client ≡ known_signal =
        subst (λ (l : KnownSignalState). known_signal_after l.aspect l.number l.indicated l.client ≡ l) (sym old.1) (known_signal_again old.0.aspect old.0.number old.0.indicated (clocked now old.0.client))
        in let done = hearing now bytes (begun known_signal.client part.outbox)
        in let nothing = heard_by_same known_signal.client one same said (signal_settled place one is)
        in (
          ap (λ (known_signals : List KnownSignalState). record part.ixl { known_signals = known_signals }) (changed_self place _ part.ixl.known_signals known_signal there
              (ap (λ heard. known_signal_after known_signal.aspect known_signal.number (indicated_heard heard known_signal.indicated) done.client) nothing.heard
              ∙ ap (known_signal_after known_signal.aspect known_signal.number known_signal.indicated) nothing.client ∙ again)),
          nothing.outbox,
        )

  point_stays : (place : ℕ) (one : ClientState) → client_at (Point place) ixl ≡ Some one → CannotRead bytes fault one → Stays (known_point_hearing now bytes place part)
  unfolding known_point_hearing all_clocked known_point_by
  point_stays place one is said = by_known_point (slice_get part.ixl.known_points place) refl where
    by_known_point : (kept : Option KnownPointState) → slice_get part.ixl.known_points place ≡ kept → Stays (with_one kept (known_point_by now bytes place) part)
    by_known_point None none = (refl, refl)
    by_known_point (Some known_point) there =
        let old = was_mapped (clocked_known_point now) place before.known_points known_point there
        in let same : known_point.client ≡ one = same_Some known_point.client one (rw there at is)
        in let again : known_point_after known_point.side known_point.moved known_point.client ≡ known_point =
        subst (λ (s : KnownPointState). known_point_after s.side s.moved s.client ≡ s) (sym old.1) (known_point_again old.0.side old.0.moved (clocked now old.0.client))
        in let done = hearing now bytes (begun known_point.client part.outbox)
        in let nothing = heard_by_same known_point.client one same said (point_settled place one is)
        in (
          ap (λ (known_points : List KnownPointState). record part.ixl { known_points = known_points }) (changed_self place _ part.ixl.known_points known_point there
              (ap (λ heard. known_point_after (side_heard heard known_point.side) known_point.moved done.client) nothing.heard
              ∙ ap (known_point_after known_point.side known_point.moved) nothing.client ∙ again)),
          nothing.outbox,
        )

  detector_stays : (place : ℕ) (one : ClientState) → client_at (Detector place) ixl ≡ Some one → CannotRead bytes fault one → Stays (detector_hearing now table bytes place part)
  unfolding detector_hearing all_clocked detector_by
  detector_stays place one is said = by_sections (slice_get table.detectors place) where
    heard_by : List ℕ → KnownDetectorState → StepSoFar → StepSoFar
    heard_by sections detector p =
        let done = hearing now bytes (begun detector.client p.outbox)
        in along (looking table) (looks sections detector done.heard done.client) (detector_by now bytes place detector p)

    by_detector : (sections : List ℕ) (kept : Option KnownDetectorState) → slice_get part.ixl.detectors place ≡ kept → Stays (with_one kept (heard_by sections) part)
    by_detector sections None none = (refl, refl)
    by_detector sections (Some detector) there =
        let old = was_mapped (clocked_detector now) place before.detectors detector there
        in let same : detector.client ≡ one = same_Some detector.client one (rw there at is)
        in let again : detector_after detector.occupied detector.client ≡ detector =
        subst (λ (d : KnownDetectorState). detector_after d.occupied d.client ≡ d) (sym old.1) (detector_again old.0.occupied (clocked now old.0.client))
        in let done = hearing now bytes (begun detector.client part.outbox)
        in let nothing = heard_by_same detector.client one same said (detector_settled place one is)
        in subst (λ list. Stays (along (looking table) list (detector_by now bytes place detector part))) (sym (looks_nothing sections detector _ _ nothing.heard nothing.client)) (
          ap (λ (detectors : List KnownDetectorState). record part.ixl { detectors = detectors }) (changed_self place _ part.ixl.detectors detector there
              (ap (λ heard. detector_after (occupied_heard heard detector.occupied) done.client) nothing.heard ∙ ap (detector_after detector.occupied) nothing.client ∙ again)),
          nothing.outbox,
        )

    by_sections : (listed : Option (List ℕ)) → Stays (with_one listed (λ sections. with_one (slice_get part.ixl.detectors place) (heard_by sections)) part)
    by_sections None = (refl, refl)
    by_sections (Some sections) = by_detector sections (slice_get part.ixl.detectors place) refl

  pub node_stays : (node : Node) (one : ClientState) → client_at node ixl ≡ Some one → CannotRead bytes fault one → Comes (node_hearing now table bytes node (begun_with (all_clocked now before) outbox)) (all_clocked now before) outbox
  unfolding node_hearing
  node_stays (Signal place) one is said = signal_stays place one is said
  node_stays (Point place) one is said = point_stays place one is said
  node_stays (Detector place) one is said = detector_stays place one is said
