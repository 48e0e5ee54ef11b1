-- What a turn of one node does to all that is kept.
use Rattle.std.proofs.Common.{◌≡◌, ℕ, zero, suc, List, [], ◌∷◌, length, slice_set, refl, ap, sym, subst}
use Rattle.std.specs.Prelude.{Some, None, slice_get}
use Rattle.ixl_spec.specs.rasta_core.Outbox.{OutboxState}
use Rattle.ixl_spec.specs.ixl_client.ClientSoFar.{LinkCall}
use Rattle.ixl_spec.specs.sci_telegram.declared.message.Aspect.{Aspect}
use Rattle.ixl_spec.specs.sci_telegram.declared.message.Side.{Side}
use Rattle.ixl_spec.specs.StepSoFar.{Leads, Node, StepSoFar, giving_aspect, giving_move}
use Rattle.ixl_spec.specs.State.{KnownDetectorState, IxlState, KnownSignalState, KnownPointState, changed}
use Rattle.ixl_spec.specs.Step.{detector_ticking, known_signal_hearing, known_signal_ticking, known_point_hearing, known_point_ticking}
use Rattle.ixl_known.specs.Nodes.{detector_heard, detector_ticked, known_signal_given, known_signal_heard, known_signal_ticked, known_point_given, known_point_heard, known_point_ticked}
use Rattle.ixl_known.specs.Field.{detector_hearing_alone}
use Rattle.ixl_known.specs.inside.Turns.{with_detectors, with_known_signals, with_known_points}

abbrev pub part_at : IxlState → OutboxState → List (Node × LinkCall) → List (Node × List ℕ) → StepSoFar
part_at ixl box calls acted = record { ixl = ixl; outbox = box; calls = calls; acted = acted }

abbrev pub Comes : StepSoFar → IxlState → OutboxState → Type 0
Comes part ixl box = (part.ixl ≡ ixl) × (part.outbox ≡ box)

-- it is enough to look at parts of this state and outbox
pub leads_at : (does : StepSoFar → StepSoFar) (ixl : IxlState) (box : OutboxState) (new : IxlState) (out : OutboxState) →
    ((calls : List (Node × LinkCall)) (acted : List (Node × List ℕ)) → Comes (does (part_at ixl box calls acted)) new out) → Leads does ixl box new out
leads_at does ixl box new out at part is_ixl is_box =
    subst (λ (i : IxlState). Comes (does (part_at i part.outbox part.calls part.acted)) new out) (sym is_ixl)
    (subst (λ (b : OutboxState). Comes (does (part_at ixl b part.calls part.acted)) new out) (sym is_box) (at part.calls part.acted))

pub leads_then : (first second : StepSoFar → StepSoFar) (ixl : IxlState) (box : OutboxState) (mid : IxlState) (between : OutboxState) (new : IxlState) (out : OutboxState) →
    Leads first ixl box mid between → Leads second mid between new out → Leads (λ part. second (first part)) ixl box new out
leads_then first second ixl box mid between new out one other part is_ixl is_box =
    let done = one part is_ixl is_box in other (first part) done.0 done.1

pub leads_nowhere : (ixl : IxlState) (box : OutboxState) → Leads (λ part. part) ixl box ixl box
leads_nowhere ixl box part is_ixl is_box = (is_ixl, is_box)

-- one of a list is changed, and set
pub changed_set : {A : Type 0} (list : List A) (place : ℕ) (new : A) → changed (λ old. new) place list ≡ slice_set list place new
changed_set [] place new = refl
changed_set (first ∷ others) zero new = refl
changed_set (first ∷ others) (suc place) new = ap (λ rest. first ∷ rest) (changed_set others place new)

-- one node of a list has its turn
pub node_turns : {A : Type 0} (list_of : IxlState → List A) (with : List A → IxlState → IxlState) (does : StepSoFar → StepSoFar) (ixl : IxlState) (box : OutboxState) (place : ℕ) (old new : A) (out : OutboxState) →
    slice_get (list_of ixl) place ≡ Some old →
    ((calls : List (Node × LinkCall)) (acted : List (Node × List ℕ)) → Comes (does (part_at ixl box calls acted)) (with (changed (λ (one : A). new) place (list_of ixl)) ixl) out) →
    Leads does ixl box (with (slice_set (list_of ixl) place new) ixl) out
node_turns {A} list_of with does ixl box place old new out is at =
    subst (λ (list : List A). Leads does ixl box (with list ixl) out) (changed_set (list_of ixl) place new) (leads_at does ixl box _ out at)

-- ---- signals

-- nothing is done with what isn't there
pub no_known_signal : (now signal : ℕ) (aspect : Aspect) (ixl : IxlState) (box : OutboxState) → slice_get ixl.known_signals signal ≡ None → Leads (giving_aspect now signal aspect) ixl box ixl box
unfolding giving_aspect
no_known_signal now signal aspect ixl box none = leads_at (giving_aspect now signal aspect) ixl box ixl box (λ calls acted. rw none (refl, refl))

pub known_signal_gives : (now signal : ℕ) (aspect : Aspect) (ixl : IxlState) (box : OutboxState) (old new : KnownSignalState) (out : OutboxState) → slice_get ixl.known_signals signal ≡ Some old →
    new ≡ (known_signal_given now aspect old box).0 → out ≡ (known_signal_given now aspect old box).1 → Leads (giving_aspect now signal aspect) ixl box (with_known_signals (slice_set ixl.known_signals signal new) ixl) out
unfolding giving_aspect known_signal_given
known_signal_gives now signal aspect ixl box old new out is node box_is =
    node_turns (λ (i : IxlState). i.known_signals) with_known_signals (giving_aspect now signal aspect) ixl box signal old new out is
    (λ calls acted. rw is (ap (λ (l : KnownSignalState). with_known_signals (changed (λ (one : KnownSignalState). l) signal ixl.known_signals) ixl) (sym node), sym box_is))

pub known_signal_hears : (now signal : ℕ) (bytes : List ℕ) (ixl : IxlState) (box : OutboxState) (old new : KnownSignalState) (out : OutboxState) → slice_get ixl.known_signals signal ≡ Some old →
    new ≡ (known_signal_heard now bytes old box).0 → out ≡ (known_signal_heard now bytes old box).1 → Leads (known_signal_hearing now bytes signal) ixl box (with_known_signals (slice_set ixl.known_signals signal new) ixl) out
unfolding known_signal_hearing known_signal_heard
known_signal_hears now signal bytes ixl box old new out is node box_is =
    node_turns (λ (i : IxlState). i.known_signals) with_known_signals (known_signal_hearing now bytes signal) ixl box signal old new out is
    (λ calls acted. rw is (ap (λ (l : KnownSignalState). with_known_signals (changed (λ (one : KnownSignalState). l) signal ixl.known_signals) ixl) (sym node), sym box_is))

pub known_signal_ticks : (now signal : ℕ) (ixl : IxlState) (box : OutboxState) (old new : KnownSignalState) (out : OutboxState) → slice_get ixl.known_signals signal ≡ Some old →
    new ≡ (known_signal_ticked now old box).0 → out ≡ (known_signal_ticked now old box).1 → Leads (known_signal_ticking now signal) ixl box (with_known_signals (slice_set ixl.known_signals signal new) ixl) out
unfolding known_signal_ticking known_signal_ticked
known_signal_ticks now signal ixl box old new out is node box_is =
    node_turns (λ (i : IxlState). i.known_signals) with_known_signals (known_signal_ticking now signal) ixl box signal old new out is
    (λ calls acted. rw is (ap (λ (l : KnownSignalState). with_known_signals (changed (λ (one : KnownSignalState). l) signal ixl.known_signals) ixl) (sym node), sym box_is))

-- ---- points

pub no_known_point : (now point : ℕ) (side : Side) (ixl : IxlState) (box : OutboxState) → slice_get ixl.known_points point ≡ None → Leads (giving_move now point side) ixl box ixl box
unfolding giving_move
no_known_point now point side ixl box none = leads_at (giving_move now point side) ixl box ixl box (λ calls acted. rw none (refl, refl))

pub known_point_gives : (now point : ℕ) (side : Side) (routes : ℕ) (ixl : IxlState) (box : OutboxState) (old new : KnownPointState) (out : OutboxState) → slice_get ixl.known_points point ≡ Some old →
    length ixl.routes ≡ routes → new ≡ (known_point_given now side routes old box).0 → out ≡ (known_point_given now side routes old box).1 →
    Leads (giving_move now point side) ixl box (with_known_points (slice_set ixl.known_points point new) ixl) out
unfolding giving_move known_point_given
known_point_gives now point side routes ixl box old new out is many node box_is =
    node_turns (λ (i : IxlState). i.known_points) with_known_points (giving_move now point side) ixl box point old new out is
    (λ calls acted. rw (is, many) (ap (λ (w : KnownPointState). with_known_points (changed (λ (one : KnownPointState). w) point ixl.known_points) ixl) (sym node), sym box_is))

pub known_point_hears : (now point : ℕ) (bytes : List ℕ) (ixl : IxlState) (box : OutboxState) (old new : KnownPointState) (out : OutboxState) → slice_get ixl.known_points point ≡ Some old →
    new ≡ (known_point_heard now bytes old box).0 → out ≡ (known_point_heard now bytes old box).1 → Leads (known_point_hearing now bytes point) ixl box (with_known_points (slice_set ixl.known_points point new) ixl) out
unfolding known_point_hearing known_point_heard
known_point_hears now point bytes ixl box old new out is node box_is =
    node_turns (λ (i : IxlState). i.known_points) with_known_points (known_point_hearing now bytes point) ixl box point old new out is
    (λ calls acted. rw is (ap (λ (w : KnownPointState). with_known_points (changed (λ (one : KnownPointState). w) point ixl.known_points) ixl) (sym node), sym box_is))

pub known_point_ticks : (now point : ℕ) (ixl : IxlState) (box : OutboxState) (old new : KnownPointState) (out : OutboxState) → slice_get ixl.known_points point ≡ Some old →
    new ≡ (known_point_ticked now old box).0 → out ≡ (known_point_ticked now old box).1 → Leads (known_point_ticking now point) ixl box (with_known_points (slice_set ixl.known_points point new) ixl) out
unfolding known_point_ticking known_point_ticked
known_point_ticks now point ixl box old new out is node box_is =
    node_turns (λ (i : IxlState). i.known_points) with_known_points (known_point_ticking now point) ixl box point old new out is
    (λ calls acted. rw is (ap (λ (w : KnownPointState). with_known_points (changed (λ (one : KnownPointState). w) point ixl.known_points) ixl) (sym node), sym box_is))

-- ---- detectors

pub detector_hears : (now place : ℕ) (bytes : List ℕ) (ixl : IxlState) (box : OutboxState) (old new : KnownDetectorState) (out : OutboxState) → slice_get ixl.detectors place ≡ Some old →
    new ≡ (detector_heard now bytes old box).0 → out ≡ (detector_heard now bytes old box).1 → Leads (detector_hearing_alone now bytes place) ixl box (with_detectors (slice_set ixl.detectors place new) ixl) out
unfolding detector_hearing_alone detector_heard
detector_hears now place bytes ixl box old new out is node box_is =
    node_turns (λ (i : IxlState). i.detectors) with_detectors (detector_hearing_alone now bytes place) ixl box place old new out is
    (λ calls acted. rw is (ap (λ (d : KnownDetectorState). with_detectors (changed (λ (one : KnownDetectorState). d) place ixl.detectors) ixl) (sym node), sym box_is))

pub detector_ticks : (now place : ℕ) (ixl : IxlState) (box : OutboxState) (old new : KnownDetectorState) (out : OutboxState) → slice_get ixl.detectors place ≡ Some old →
    new ≡ (detector_ticked now old box).0 → out ≡ (detector_ticked now old box).1 → Leads (detector_ticking now place) ixl box (with_detectors (slice_set ixl.detectors place new) ixl) out
unfolding detector_ticking detector_ticked
detector_ticks now place ixl box old new out is node box_is =
    node_turns (λ (i : IxlState). i.detectors) with_detectors (detector_ticking now place) ixl box place old new out is
    (λ calls acted. rw is (ap (λ (d : KnownDetectorState). with_detectors (changed (λ (one : KnownDetectorState). d) place ixl.detectors) ixl) (sym node), sym box_is))
