-- What a client's step leaves of its node.
use Rattle.std.proofs.Common.{◌≡◌, ℕ, List, [], refl, ap, sym, ◌∙◌, subst}
use Rattle.std.specs.Prelude.{Option, Some}
use Rattle.ixl_spec.specs.sci_telegram.declared.message.Aspect.{Aspect}
use Rattle.ixl_spec.specs.sci_telegram.declared.message.Side.{Side}
use Rattle.ixl_spec.specs.rasta_core.Calls.{IsAt}
use Rattle.ixl_spec.specs.rasta_core.Outbox.{OutboxState}
use Rattle.ixl_spec.specs.bit_row.Places.{Places}
use Rattle.ixl_spec.specs.ixl_client.Client.{ClientState}
use Rattle.ixl_spec.specs.ixl_client.ClientSoFar.{ClientSoFar, Seen, begun, seen}
use Rattle.ixl_spec.specs.ixl_client.Step.{clocked, commanding, hearing, ticking}
use Rattle.ixl_spec.specs.ixl_client.Way as way
use Rattle.ixl_spec.specs.ixl_client.declared.command.Command.TheVariants as commands
use Rattle.ixl_spec.specs.ixl_client.declared.indication.Indication.{Indication}
use Rattle.ixl_spec.specs.StepSoFar.{all_below, detector_after, known_signal_after, known_point_after}
use Rattle.ixl_spec.specs.State.{KnownDetectorState, KnownSignalState, KnownPointState}
use Rattle.ixl_spec.specs.Step.{clocked_detector, clocked_known_signal, clocked_known_point, indicated_heard, occupied_heard, side_heard}
use Rattle.ixl_known.specs.Nodes.{DetectorGoes, Goes, KnownSignalGoes, KnownPointGoes, detector_heard, detector_ticked, known_signal_given, known_signal_heard, known_signal_ticked, known_point_given, known_point_heard, known_point_ticked}
use Rattle.ixl_known.proofs.Fallen.{detector_client, known_signal_client, known_point_client}

abbrev pub view_of : ClientState → OutboxState → List Indication → Seen
view_of client box heard = record { client = client; outbox = box; heard = heard }

-- what the client has done
pub done : (now most : ℕ) (does : ClientSoFar → ClientSoFar) (old new : ClientState) (box out : OutboxState) (told : List Indication) →
    way.Goes now most does (view_of old box []) (view_of new out told) → seen (does (begun old box)) ≡ view_of new out told
done now most does old new box out told goes = goes.leads (begun old box) refl

-- a node of a type with a client goes so
pub goes_so : {A : Type 0} (client_of : A → ClientState) (now most : ℕ) (does : A → OutboxState → A × OutboxState) (part : ClientSoFar → ClientSoFar)
    (old after : A) (new : ClientState) (box out : OutboxState) (told : List Indication) →
    way.Goes now most part (view_of (client_of old) box []) (view_of new out told) →
    after ≡ (does old box).0 → out ≡ (does old box).1 → client_of after ≡ new → Goes client_of now most does old box after out
goes_so client_of now most does part old after new box out told goes node box_is client = record {
  node = node;
  outbox = box_is;
  clock = ap (λ (c : ClientState). c.link.clock) client ∙ goes.clock;
  identity = ap (λ (c : ClientState). c.link.identity) client ∙ goes.identity;
  capacity = goes.capacity;
  few = goes.few;
}

-- ---- signals

pub gives_aspect : (now : ℕ) (aspect : Aspect) (old after : KnownSignalState) (new : ClientState) (number : ℕ) (box out : OutboxState) →
    way.Goes now 2 (commanding now (commands.Indicate aspect)) (view_of old.client box []) (view_of new out []) →
    number ≡ new.link.given → after ≡ known_signal_after (Some aspect) number old.indicated new → KnownSignalGoes now 2 (known_signal_given now aspect) old box after out
unfolding known_signal_given
gives_aspect now aspect old after new number box out goes count is =
    let so : seen (commanding now (commands.Indicate aspect) (begun old.client box)) ≡ view_of new out [] = done now 2 _ old.client new box out [] goes
    in goes_so _ now 2 _ _ old after new box out [] goes
    (is ∙ ap (λ n. known_signal_after (Some aspect) n old.indicated new) count ∙ ap (λ (s : Seen). known_signal_after (Some aspect) s.client.link.given old.indicated s.client) (sym so))
    (ap (λ (s : Seen). s.outbox) (sym so)) (ap (λ (l : KnownSignalState). l.client) is ∙ known_signal_client (Some aspect) number old.indicated new)

pub known_signal_hears : (now : ℕ) (bytes : List ℕ) (old after : KnownSignalState) (new : ClientState) (indicated : Option Aspect) (box out : OutboxState) (told : List Indication) →
    way.Goes now 30 (hearing now bytes) (view_of old.client box []) (view_of new out told) →
    indicated ≡ indicated_heard told old.indicated → after ≡ known_signal_after old.aspect old.number indicated new → KnownSignalGoes now 30 (known_signal_heard now bytes) old box after out
unfolding known_signal_heard
known_signal_hears now bytes old after new indicated box out told goes heard is =
    let so : seen (hearing now bytes (begun old.client box)) ≡ view_of new out told = done now 30 _ old.client new box out told goes
    in goes_so _ now 30 _ _ old after new box out told goes
    (is ∙ ap (λ i. known_signal_after old.aspect old.number i new) heard ∙ ap (λ (s : Seen). known_signal_after old.aspect old.number (indicated_heard s.heard old.indicated) s.client) (sym so))
    (ap (λ (s : Seen). s.outbox) (sym so)) (ap (λ (l : KnownSignalState). l.client) is ∙ known_signal_client old.aspect old.number indicated new)

pub known_signal_ticks : (now : ℕ) (old after : KnownSignalState) (new : ClientState) (box out : OutboxState) →
    way.Goes now 2 (ticking now) (view_of old.client box []) (view_of new out []) →
    after ≡ known_signal_after old.aspect old.number old.indicated new → KnownSignalGoes now 2 (known_signal_ticked now) old box after out
unfolding known_signal_ticked
known_signal_ticks now old after new box out goes is =
    let so : seen (ticking now (begun old.client box)) ≡ view_of new out [] = done now 2 _ old.client new box out [] goes
    in goes_so _ now 2 _ _ old after new box out [] goes
    (is ∙ ap (λ (s : Seen). known_signal_after old.aspect old.number old.indicated s.client) (sym so))
    (ap (λ (s : Seen). s.outbox) (sym so)) (ap (λ (l : KnownSignalState). l.client) is ∙ known_signal_client old.aspect old.number old.indicated new)

pub known_signal_in : (now most : ℕ) (does : KnownSignalState → OutboxState → KnownSignalState × OutboxState) (inside old : KnownSignalState) (box : OutboxState) (new : KnownSignalState) (out : OutboxState) →
    inside ≡ old → KnownSignalGoes now most does inside box new out → KnownSignalGoes now most does old box new out
known_signal_in now most does inside old box new out is goes = subst (λ (o : KnownSignalState). KnownSignalGoes now most does o box new out) is goes

-- the clock
pub known_signal_settles : (now : ℕ) (inside old after : KnownSignalState) (new : ClientState) → inside ≡ old → new ≡ clocked now inside.client →
    after ≡ known_signal_after inside.aspect inside.number inside.indicated new → after ≡ clocked_known_signal now old
known_signal_settles now inside old after new same settled is =
    is ∙ ap (λ c. known_signal_after inside.aspect inside.number inside.indicated c) settled ∙ ap (λ (l : KnownSignalState). clocked_known_signal now l) same

pub known_signal_kept : (now : ℕ) (inside old after : KnownSignalState) (new : ClientState) → inside ≡ old → IsAt now inside.client.link new.link →
    after ≡ known_signal_after inside.aspect inside.number inside.indicated new → IsAt now old.client.link after.client.link
known_signal_kept now inside old after new same at is =
    let client : after.client ≡ new = ap (λ (l : KnownSignalState). l.client) is ∙ known_signal_client inside.aspect inside.number inside.indicated new
    in record {
      clock = ap (λ (c : ClientState). c.link.clock) client ∙ at.clock;
      identity = ap (λ (c : ClientState). c.link.identity) client ∙ at.identity ∙ ap (λ (l : KnownSignalState). l.client.link.identity) same;
    }

-- ---- points

pub gives_move : (now : ℕ) (side : Side) (routes : ℕ) (old after : KnownPointState) (new : ClientState) (moved : Places) (box out : OutboxState) →
    way.Goes now 2 (commanding now (commands.Move side)) (view_of old.client box []) (view_of new out []) →
    moved ≡ all_below routes → after ≡ known_point_after old.side moved new → KnownPointGoes now 2 (known_point_given now side routes) old box after out
unfolding known_point_given
gives_move now side routes old after new moved box out goes all is =
    let so : seen (commanding now (commands.Move side) (begun old.client box)) ≡ view_of new out [] = done now 2 _ old.client new box out [] goes
    in goes_so _ now 2 _ _ old after new box out [] goes
    (is ∙ ap (λ m. known_point_after old.side m new) all ∙ ap (λ (s : Seen). known_point_after old.side (all_below routes) s.client) (sym so))
    (ap (λ (s : Seen). s.outbox) (sym so)) (ap (λ (w : KnownPointState). w.client) is ∙ known_point_client old.side moved new)

pub known_point_hears : (now : ℕ) (bytes : List ℕ) (old after : KnownPointState) (new : ClientState) (side : Option Side) (box out : OutboxState) (told : List Indication) →
    way.Goes now 30 (hearing now bytes) (view_of old.client box []) (view_of new out told) →
    side ≡ side_heard told old.side → after ≡ known_point_after side old.moved new → KnownPointGoes now 30 (known_point_heard now bytes) old box after out
unfolding known_point_heard
known_point_hears now bytes old after new side box out told goes heard is =
    let so : seen (hearing now bytes (begun old.client box)) ≡ view_of new out told = done now 30 _ old.client new box out told goes
    in goes_so _ now 30 _ _ old after new box out told goes
    (is ∙ ap (λ s. known_point_after s old.moved new) heard ∙ ap (λ (s : Seen). known_point_after (side_heard s.heard old.side) old.moved s.client) (sym so))
    (ap (λ (s : Seen). s.outbox) (sym so)) (ap (λ (w : KnownPointState). w.client) is ∙ known_point_client side old.moved new)

pub known_point_ticks : (now : ℕ) (old after : KnownPointState) (new : ClientState) (box out : OutboxState) →
    way.Goes now 2 (ticking now) (view_of old.client box []) (view_of new out []) →
    after ≡ known_point_after old.side old.moved new → KnownPointGoes now 2 (known_point_ticked now) old box after out
unfolding known_point_ticked
known_point_ticks now old after new box out goes is =
    let so : seen (ticking now (begun old.client box)) ≡ view_of new out [] = done now 2 _ old.client new box out [] goes
    in goes_so _ now 2 _ _ old after new box out [] goes
    (is ∙ ap (λ (s : Seen). known_point_after old.side old.moved s.client) (sym so))
    (ap (λ (s : Seen). s.outbox) (sym so)) (ap (λ (w : KnownPointState). w.client) is ∙ known_point_client old.side old.moved new)

pub known_point_in : (now most : ℕ) (does : KnownPointState → OutboxState → KnownPointState × OutboxState) (inside old : KnownPointState) (box : OutboxState) (new : KnownPointState) (out : OutboxState) →
    inside ≡ old → KnownPointGoes now most does inside box new out → KnownPointGoes now most does old box new out
known_point_in now most does inside old box new out is goes = subst (λ (o : KnownPointState). KnownPointGoes now most does o box new out) is goes

pub known_point_settles : (now : ℕ) (inside old after : KnownPointState) (new : ClientState) → inside ≡ old → new ≡ clocked now inside.client →
    after ≡ known_point_after inside.side inside.moved new → after ≡ clocked_known_point now old
known_point_settles now inside old after new same settled is =
    is ∙ ap (λ c. known_point_after inside.side inside.moved c) settled ∙ ap (λ (w : KnownPointState). clocked_known_point now w) same

pub known_point_kept : (now : ℕ) (inside old after : KnownPointState) (new : ClientState) → inside ≡ old → IsAt now inside.client.link new.link →
    after ≡ known_point_after inside.side inside.moved new → IsAt now old.client.link after.client.link
known_point_kept now inside old after new same at is =
    let client : after.client ≡ new = ap (λ (w : KnownPointState). w.client) is ∙ known_point_client inside.side inside.moved new
    in record {
      clock = ap (λ (c : ClientState). c.link.clock) client ∙ at.clock;
      identity = ap (λ (c : ClientState). c.link.identity) client ∙ at.identity ∙ ap (λ (w : KnownPointState). w.client.link.identity) same;
    }

-- ---- detectors

pub detector_hears : (now : ℕ) (bytes : List ℕ) (old after : KnownDetectorState) (new : ClientState) (occupied : Places) (box out : OutboxState) (told : List Indication) →
    way.Goes now 30 (hearing now bytes) (view_of old.client box []) (view_of new out told) →
    occupied ≡ occupied_heard told old.occupied → after ≡ detector_after occupied new → DetectorGoes now 30 (detector_heard now bytes) old box after out
unfolding detector_heard
detector_hears now bytes old after new occupied box out told goes heard is =
    let so : seen (hearing now bytes (begun old.client box)) ≡ view_of new out told = done now 30 _ old.client new box out told goes
    in goes_so _ now 30 _ _ old after new box out told goes
    (is ∙ ap (λ o. detector_after o new) heard ∙ ap (λ (s : Seen). detector_after (occupied_heard s.heard old.occupied) s.client) (sym so))
    (ap (λ (s : Seen). s.outbox) (sym so)) (ap (λ (d : KnownDetectorState). d.client) is ∙ detector_client occupied new)

pub detector_ticks : (now : ℕ) (old after : KnownDetectorState) (new : ClientState) (box out : OutboxState) →
    way.Goes now 2 (ticking now) (view_of old.client box []) (view_of new out []) →
    after ≡ detector_after old.occupied new → DetectorGoes now 2 (detector_ticked now) old box after out
unfolding detector_ticked
detector_ticks now old after new box out goes is =
    let so : seen (ticking now (begun old.client box)) ≡ view_of new out [] = done now 2 _ old.client new box out [] goes
    in goes_so _ now 2 _ _ old after new box out [] goes
    (is ∙ ap (λ (s : Seen). detector_after old.occupied s.client) (sym so))
    (ap (λ (s : Seen). s.outbox) (sym so)) (ap (λ (d : KnownDetectorState). d.client) is ∙ detector_client old.occupied new)

pub detector_in : (now most : ℕ) (does : KnownDetectorState → OutboxState → KnownDetectorState × OutboxState) (inside old : KnownDetectorState) (box : OutboxState) (new : KnownDetectorState) (out : OutboxState) →
    inside ≡ old → DetectorGoes now most does inside box new out → DetectorGoes now most does old box new out
detector_in now most does inside old box new out is goes = subst (λ (o : KnownDetectorState). DetectorGoes now most does o box new out) is goes

pub detector_settles : (now : ℕ) (inside old after : KnownDetectorState) (new : ClientState) → inside ≡ old → new ≡ clocked now inside.client →
    after ≡ detector_after inside.occupied new → after ≡ clocked_detector now old
detector_settles now inside old after new same settled is =
    is ∙ ap (λ c. detector_after inside.occupied c) settled ∙ ap (λ (d : KnownDetectorState). clocked_detector now d) same

pub detector_kept : (now : ℕ) (inside old after : KnownDetectorState) (new : ClientState) → inside ≡ old → IsAt now inside.client.link new.link →
    after ≡ detector_after inside.occupied new → IsAt now old.client.link after.client.link
detector_kept now inside old after new same at is =
    let client : after.client ≡ new = ap (λ (d : KnownDetectorState). d.client) is ∙ detector_client inside.occupied new
    in record {
      clock = ap (λ (c : ClientState). c.link.clock) client ∙ at.clock;
      identity = ap (λ (c : ClientState). c.link.identity) client ∙ at.identity ∙ ap (λ (d : KnownDetectorState). d.client.link.identity) same;
    }
