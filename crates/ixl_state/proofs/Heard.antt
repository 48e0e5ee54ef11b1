-- What becomes of a datagram.
use Rattle.std.proofs.Common.{◌≡◌, ℕ, zero, suc, ◌<◌, Bool, true, false, not, if◌then◌else◌, List, [], ◌∷◌, ◌++◌, length, arith, refl, ap, sym, ◌∙◌, subst}
use Rattle.std.specs.Prelude.{Option, Some, None, slice_get, IfSome}
use Rattle.std.specs.FinSet.{empty}
use Rattle.ixl_spec.specs.bit_row.Places.{Places}
use Rattle.ixl_spec.specs.rasta_core.Calls.{receiving}
use Rattle.ixl_spec.specs.rasta_core.Outbox.{OutboxState}
use Rattle.ixl_spec.specs.rasta_core.verdict.Verdict.{Verdict}
use Rattle.ixl_spec.specs.rasta_core.verdict.Verdict.TheVariants as verdicts
use Rattle.ixl_spec.specs.ixl_client.Client.{ClientState, is_outside, is_ready}
use Rattle.ixl_spec.specs.ixl_client.ClientSoFar.{begun}
use Rattle.ixl_spec.specs.ixl_client.ClientSoFar as client
use Rattle.ixl_spec.specs.ixl_client.Step.{hearing}
use Rattle.ixl_spec.specs.ixl_client.declared.indication.Indication.{Indication}
use Rattle.ixl_spec.specs.StepSoFar.{Node, Signal, Point, Detector, StepSoFar, along, detector_after}
use Rattle.ixl_spec.specs.State.{KnownDetectorState, IxlState, KnownSignalState, KnownPointState, changed}
use Rattle.ixl_spec.specs.Step.{client_at, client_of, detector_hearing, known_signal_hearing, looking, looks, node_hearing, node_of, occupied_heard, known_point_hearing, told_before, told_now, verdict_at}
use Rattle.ixl_spec.specs.Table.{Table}
use Rattle.ixl_known.specs.Field.{detector_hearing_alone, node_at}
use Rattle.ixl_known.specs.declared.node.Node.{Node as NamedNode}
use Rattle.ixl_known.specs.declared.node.Node.TheVariants as nodes
use Rattle.ixl_state.specs.State.{AllAt, Goes, StateView}
use Rattle.ixl_known.specs.Nodes.{AreHeardBy}
use Rattle.ixl_table.specs.Table.{SitedTable}
use Rattle.ixl_state.specs.inside.DetectorHeard.{Passes, told_since}
use Rattle.ixl_state.specs.State.{heard_from}
use Rattle.std.proofs.lemmas.Option.{slice_get_within}
use Rattle.ixl_state.proofs.Lists.{get-below}
use Rattle.ixl_state.proofs.StepParts.{Comes, goes_nowhere, goes_then, goes_as, leads_at, part_at}

-- ---- the node of a sender

-- a datagram is heard at the node of its sender
pub heard_at : (now most : ℕ) (table : Table) (bytes : List ℕ) (id : ℕ) (node : Node) (old : StateView) (box : OutboxState) (new : StateView) (out : OutboxState) →
    node_of id old.ixl ≡ Some node → Goes now most (node_hearing now table bytes node) old box new out → Goes now most (heard_from now table bytes id) old box new out
heard_at now most table bytes id node old box new out is goes = goes_as now most (node_hearing now table bytes node) (heard_from now table bytes id) old box new out
    (λ leads. leads_at (heard_from now table bytes id) old.ixl box new.ixl out (λ calls acted. rw is (leads (part_at old.ixl box calls acted) refl refl))) goes

-- at the node that the code names
pub signal_heard : (now : ℕ) (table : Table) (bytes : List ℕ) (place : ℕ) (node : NamedNode) (old : StateView) (box : OutboxState) (new : StateView) (out : OutboxState) → node ≡ nodes.Signal place →
    Goes now 30 (known_signal_hearing now bytes place) old box new out → Goes now 30 (node_hearing now table bytes (node_at node)) old box new out
unfolding node_hearing
signal_heard now table bytes place node old box new out is goes = subst (λ (n : NamedNode). Goes now 30 (node_hearing now table bytes (node_at n)) old box new out) (sym is) goes

pub point_heard : (now : ℕ) (table : Table) (bytes : List ℕ) (place : ℕ) (node : NamedNode) (old : StateView) (box : OutboxState) (new : StateView) (out : OutboxState) → node ≡ nodes.Point place →
    Goes now 30 (known_point_hearing now bytes place) old box new out → Goes now 30 (node_hearing now table bytes (node_at node)) old box new out
unfolding node_hearing
point_heard now table bytes place node old box new out is goes = subst (λ (n : NamedNode). Goes now 30 (node_hearing now table bytes (node_at n)) old box new out) (sym is) goes

pub detector_heard : (now : ℕ) (table : Table) (bytes : List ℕ) (place : ℕ) (node : NamedNode) (old : StateView) (box : OutboxState) (new : StateView) (out : OutboxState) → node ≡ nodes.Detector place →
    Goes now 30 (detector_hearing now table bytes place) old box new out → Goes now 30 (node_hearing now table bytes (node_at node)) old box new out
unfolding node_hearing
detector_heard now table bytes place node old box new out is goes = subst (λ (n : NamedNode). Goes now 30 (node_hearing now table bytes (node_at n)) old box new out) (sym is) goes

pub heard_nowhere : (now most : ℕ) (table : Table) (bytes : List ℕ) (id : ℕ) (old : StateView) (box : OutboxState) → AllAt now old → node_of id old.ixl ≡ None →
    Goes now most (heard_from now table bytes id) old box old box
heard_nowhere now most table bytes id old box at none = goes_nowhere now most (heard_from now table bytes id) old box at
    (leads_at (heard_from now table bytes id) old.ixl box old.ixl box (λ calls acted. rw none (refl, refl)))

-- ---- a detector

-- what comes of hearing it
abbrev pub done_by : ℕ → List ℕ → KnownDetectorState → OutboxState → client.ClientSoFar
done_by now bytes detector box = hearing now bytes (begun detector.client box)

pub alone_is : (now : ℕ) (table : Table) (bytes : List ℕ) (place : ℕ) (sections : List ℕ) (detector : KnownDetectorState) (part : StepSoFar) → slice_get table.detectors place ≡ Some sections →
    slice_get part.ixl.detectors place ≡ Some detector →
    detector_hearing now table bytes place part ≡ along (looking table) (looks sections detector (done_by now bytes detector part.outbox).heard (done_by now bytes detector part.outbox).client)
    (detector_hearing_alone now bytes place part)
unfolding detector_hearing detector_hearing_alone
alone_is now table bytes place sections detector part has is = rw (has, is)

pub detector_looks : (now : ℕ) (bytes : List ℕ) (place : ℕ) (sections : List ℕ) (detector : KnownDetectorState) (old : StateView) (box : OutboxState) (mid : StateView) (between : OutboxState) (new : StateView) →
    slice_get old.sited.table.detectors place ≡ Some sections → slice_get old.ixl.detectors place ≡ Some detector →
    Goes now 30 (detector_hearing_alone now bytes place) old box mid between →
    Passes now (along (looking old.sited.table) (looks sections detector (done_by now bytes detector box).heard (done_by now bytes detector box).client)) mid new →
    Goes now 30 (detector_hearing now old.sited.table bytes place) old box new between
detector_looks now bytes place sections detector old box mid between new has is hears passes =
    goes_as now 30 (λ part. along (looking old.sited.table) (looks sections detector (done_by now bytes detector box).heard (done_by now bytes detector box).client) (detector_hearing_alone now bytes place part))
    (detector_hearing now old.sited.table bytes place) old box new between
    (λ leads. leads_at (detector_hearing now old.sited.table bytes place) old.ixl box new.ixl between
    (λ calls acted. subst (λ (p : StepSoFar). Comes p new.ixl between) (sym (alone_is now old.sited.table bytes place sections detector (part_at old.ixl box calls acted) has is))
    (leads (part_at old.ixl box calls acted) refl refl)))
    (goes_then now 30 0 (detector_hearing_alone now bytes place) _ old box mid between new between hears (passes between))

-- the detector is as after it
pub get_changed : {A : Type 0} (list : List A) (place : ℕ) (one new : A) → slice_get list place ≡ Some one → slice_get (changed (λ old. new) place list) place ≡ Some new
get_changed [] place one new is = cc
get_changed (first ∷ others) zero one new is = refl
get_changed (first ∷ others) (suc place) one new is = get_changed others place one new is

abbrev detector_of : ClientState → Places → KnownDetectorState
detector_of c occupied = record { client = c; occupied = occupied }

detector_client : (occupied : Places) (c : ClientState) → (detector_after occupied c).client ≡ c
unfolding detector_after
detector_client occupied c = cases (is_outside c.stage) where
  cases : (b : Bool) → (if b then detector_of c empty else detector_of c occupied).client ≡ c
  cases true = refl
  cases false = refl

abbrev pub heard_detector : ℕ → List ℕ → KnownDetectorState → OutboxState → KnownDetectorState
heard_detector now bytes detector box = detector_after (occupied_heard (done_by now bytes detector box).heard detector.occupied) (done_by now bytes detector box).client

pub alone_leaves : (now : ℕ) (bytes : List ℕ) (place : ℕ) (detector : KnownDetectorState) (old : StateView) (box : OutboxState) (mid : StateView) (between : OutboxState) →
    slice_get old.ixl.detectors place ≡ Some detector → Goes now 30 (detector_hearing_alone now bytes place) old box mid between →
    slice_get mid.ixl.detectors place ≡ Some (heard_detector now bytes detector box)
unfolding detector_hearing_alone
alone_leaves now bytes place detector old box mid between is hears =
    let after : (detector_hearing_alone now bytes place (part_at old.ixl box [] [])).ixl ≡ mid.ixl = (hears.leads (part_at old.ixl box [] []) refl refl).0
    in let changes : changed (λ (one : KnownDetectorState). heard_detector now bytes detector box) place old.ixl.detectors ≡ mid.ixl.detectors = ap (λ (i : IxlState). i.detectors) (rw is at after)
    in ap (λ list. slice_get list place) (sym changes) ∙ get_changed old.ixl.detectors place detector (heard_detector now bytes detector box) is

pub ready_after : (now : ℕ) (bytes : List ℕ) (place : ℕ) (detector : KnownDetectorState) (old : StateView) (box : OutboxState) (mid : StateView) (between : OutboxState) (ready : Bool) →
    slice_get old.ixl.detectors place ≡ Some detector → Goes now 30 (detector_hearing_alone now bytes place) old box mid between →
    IfSome (slice_get mid.ixl.detectors place) (λ (d : KnownDetectorState). ready ≡ is_ready d.client.stage) → ready ≡ is_ready (done_by now bytes detector box).client.stage
ready_after now bytes place detector old box mid between ready is hears told =
    let there : IfSome (Some (heard_detector now bytes detector box)) (λ (d : KnownDetectorState). ready ≡ is_ready d.client.stage) =
    subst (λ (o : Option KnownDetectorState). IfSome o (λ (d : KnownDetectorState). ready ≡ is_ready d.client.stage)) (alone_leaves now bytes place detector old box mid between is hears) told
    in there ∙ ap (λ (c : ClientState). is_ready c.stage) (detector_client (occupied_heard (done_by now bytes detector box).heard detector.occupied) (done_by now bytes detector box).client)

-- ---- what is there

-- what the link of a node says
pub signal_told : (now : ℕ) (bytes : List ℕ) (place : ℕ) (ixl : IxlState) (verdict : Verdict) → place < length ixl.known_signals →
    IfSome (slice_get ixl.known_signals place) (λ (known_signal : KnownSignalState). verdict ≡ (receiving now bytes known_signal.client.link).verdict) → verdict ≡ verdict_at now bytes (client_at (Signal place) ixl)
signal_told now bytes place ixl verdict within says =
    let there = get-below ixl.known_signals place within
    in rw there.1 (subst (λ (o : Option KnownSignalState). IfSome o (λ (known_signal : KnownSignalState). verdict ≡ (receiving now bytes known_signal.client.link).verdict)) there.1 says)

pub point_told : (now : ℕ) (bytes : List ℕ) (place : ℕ) (ixl : IxlState) (verdict : Verdict) → place < length ixl.known_points →
    IfSome (slice_get ixl.known_points place) (λ (known_point : KnownPointState). verdict ≡ (receiving now bytes known_point.client.link).verdict) → verdict ≡ verdict_at now bytes (client_at (Point place) ixl)
point_told now bytes place ixl verdict within says =
    let there = get-below ixl.known_points place within
    in rw there.1 (subst (λ (o : Option KnownPointState). IfSome o (λ (known_point : KnownPointState). verdict ≡ (receiving now bytes known_point.client.link).verdict)) there.1 says)

pub detector_told : (now : ℕ) (bytes : List ℕ) (place : ℕ) (ixl : IxlState) (verdict : Verdict) → place < length ixl.detectors →
    IfSome (slice_get ixl.detectors place) (λ (detector : KnownDetectorState). verdict ≡ (receiving now bytes detector.client.link).verdict) → verdict ≡ verdict_at now bytes (client_at (Detector place) ixl)
detector_told now bytes place ixl verdict within says =
    let there = get-below ixl.detectors place within
    in rw there.1 (subst (λ (o : Option KnownDetectorState). IfSome o (λ (detector : KnownDetectorState). verdict ≡ (receiving now bytes detector.client.link).verdict)) there.1 says)

pub node_told : (now : ℕ) (bytes : List ℕ) (id : ℕ) (node : Node) (ixl : IxlState) (verdict : Verdict) → node_of id ixl ≡ Some node → verdict ≡ verdict_at now bytes (client_at node ixl) →
    verdict ≡ verdict_at now bytes (client_of (node_of id ixl) ixl)
node_told now bytes id node ixl verdict is says = rw is says

pub nobody_told : (now : ℕ) (bytes : List ℕ) (id : ℕ) (ixl : IxlState) → node_of id ixl ≡ None → verdicts.WrongSender ≡ verdict_at now bytes (client_of (node_of id ixl) ixl)
nobody_told now bytes id ixl none = rw none

-- ---- all that comes of hearing a detector

at_some : {A : Type 0} (found : Option A) (one : A) (holds : A → Type 0) → found ≡ Some one → IfSome found holds → holds one
at_some found one holds is told = subst (λ o. IfSome o holds) is told

looks_ready : (sections : List ℕ) (old : KnownDetectorState) (heard : List Indication) (c : ClientState) → is_ready c.stage ≡ true → looks sections old heard c ≡ told_since (is_ready old.client.stage) old.occupied sections heard
looks_ready sections old heard c is =
    ap (λ b. if not b then [] else (if is_ready old.client.stage then told_now sections heard else told_before old.occupied 0 sections ++ told_now sections heard)) is

looks_not_ready : (sections : List ℕ) (old : KnownDetectorState) (heard : List Indication) (c : ClientState) → is_ready c.stage ≡ false → looks sections old heard c ≡ []
looks_not_ready sections old heard c is =
    ap (λ b. if not b then [] else (if is_ready old.client.stage then told_now sections heard else told_before old.occupied 0 sections ++ told_now sections heard)) is

-- what was asked of a detector and of what it told
pub record IsHeard (now : ℕ) (bytes : List ℕ) (place : ℕ) (old : StateView) (box : OutboxState) (mid : StateView) (between : OutboxState) (was is_now : Bool) (were : Places) (told : List Indication) : Type 0 where
  pub there : place < length old.ixl.detectors
  pub each : length old.ixl.detectors ≡ length old.sited.table.detectors
  pub was_ready : IfSome (slice_get old.ixl.detectors place) (λ (d : KnownDetectorState). was ≡ is_ready d.client.stage)
  pub occupied : IfSome (slice_get old.ixl.detectors place) (λ (d : KnownDetectorState). were ≡ d.occupied)
  pub heard : IfSome (slice_get old.ixl.detectors place) (λ (d : KnownDetectorState). AreHeardBy now bytes d box told)
  pub goes : Goes now 30 (detector_hearing_alone now bytes place) old box mid between
  pub ready : IfSome (slice_get mid.ixl.detectors place) (λ (d : KnownDetectorState). is_now ≡ is_ready d.client.stage)

pub ready_heard : (now : ℕ) (bytes : List ℕ) (place : ℕ) (old : StateView) (box : OutboxState) (mid : StateView) (between : OutboxState) (new : StateView) (was_ready ready : Bool) (occupied : Places) (heard : List Indication) →
    IsHeard now bytes place old box mid between was_ready ready occupied heard → ready ≡ true →
    IfSome (slice_get mid.sited.table.detectors place) (λ sections. Passes now (along (looking mid.sited.table) (told_since was_ready occupied sections heard)) mid new) →
    Goes now 30 (detector_hearing now old.sited.table bytes place) old box new between
ready_heard now bytes place old box mid between new was_ready ready occupied heard is holds passes =
    let one = get-below old.ixl.detectors place is.there
    in let list = get-below old.sited.table.detectors place (omega (arith, is.there, is.each))
    in let was : was_ready ≡ is_ready one.0.client.stage = at_some (slice_get old.ixl.detectors place) one.0 (λ (d : KnownDetectorState). was_ready ≡ is_ready d.client.stage) one.1 is.was_ready
    in let were : occupied ≡ one.0.occupied = at_some (slice_get old.ixl.detectors place) one.0 (λ (d : KnownDetectorState). occupied ≡ d.occupied) one.1 is.occupied
    in let told : heard ≡ (done_by now bytes one.0 box).heard = at_some (slice_get old.ixl.detectors place) one.0 (λ (d : KnownDetectorState). AreHeardBy now bytes d box heard) one.1 is.heard
    in let is_now : is_ready (done_by now bytes one.0 box).client.stage ≡ true = sym (ready_after now bytes place one.0 old box mid between ready one.1 is.goes is.ready) ∙ holds
    in let here : Passes now (along (looking old.sited.table) (told_since was_ready occupied list.0 heard)) mid new =
    subst (λ (p : SitedTable). Passes now (along (looking p.table) (told_since was_ready occupied list.0 heard)) mid new) is.goes.sited
    (at_some (slice_get mid.sited.table.detectors place) list.0 (λ sections. Passes now (along (looking mid.sited.table) (told_since was_ready occupied sections heard)) mid new)
    (ap (λ (p : SitedTable). slice_get p.table.detectors place) is.goes.sited ∙ list.1) passes)
    in let same : told_since was_ready occupied list.0 heard ≡ looks list.0 one.0 (done_by now bytes one.0 box).heard (done_by now bytes one.0 box).client =
    ap (λ b. told_since b occupied list.0 heard) was ∙ ap (λ o. told_since (is_ready one.0.client.stage) o list.0 heard) were ∙ ap (told_since (is_ready one.0.client.stage) one.0.occupied list.0) told
    ∙ sym (looks_ready list.0 one.0 (done_by now bytes one.0 box).heard (done_by now bytes one.0 box).client is_now)
    in detector_looks now bytes place list.0 one.0 old box mid between new list.1 one.1 is.goes (subst (λ told_list. Passes now (along (looking old.sited.table) told_list) mid new) same here)

pub unready_heard : (now : ℕ) (bytes : List ℕ) (place : ℕ) (old : StateView) (box : OutboxState) (mid : StateView) (between : OutboxState) (was_ready ready : Bool) (occupied : Places) (heard : List Indication) →
    IsHeard now bytes place old box mid between was_ready ready occupied heard → ready ≡ false → Goes now 30 (detector_hearing now old.sited.table bytes place) old box mid between
unready_heard now bytes place old box mid between was_ready ready occupied heard is fails =
    let one = get-below old.ixl.detectors place is.there
    in let list = get-below old.sited.table.detectors place (omega (arith, is.there, is.each))
    in let is_not : is_ready (done_by now bytes one.0 box).client.stage ≡ false = sym (ready_after now bytes place one.0 old box mid between ready one.1 is.goes is.ready) ∙ fails
    in detector_looks now bytes place list.0 one.0 old box mid between mid list.1 one.1 is.goes
    (subst (λ told_list. Passes now (along (looking old.sited.table) told_list) mid mid) (sym (looks_not_ready list.0 one.0 (done_by now bytes one.0 box).heard (done_by now bytes one.0 box).client is_not))
    (λ out. goes_nowhere now 0 (along (looking old.sited.table) []) mid out is.goes.clock (λ part is_ixl is_box. (is_ixl, is_box))))

pub still_there : (now : ℕ) (bytes : List ℕ) (place : ℕ) (old : StateView) (box : OutboxState) (mid : StateView) (between : OutboxState) → place < length old.ixl.detectors →
    Goes now 30 (detector_hearing_alone now bytes place) old box mid between → place < length mid.ixl.detectors
still_there now bytes place old box mid between there goes =
    let one = get-below old.ixl.detectors place there
    in slice_get_within mid.ixl.detectors place (heard_detector now bytes one.0 box) (alone_leaves now bytes place one.0 old box mid between one.1 goes)
