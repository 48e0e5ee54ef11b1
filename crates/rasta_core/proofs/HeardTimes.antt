-- What any bytes do at an end, as far as time goes.
use Rattle.std.proofs.Common.{◌≡◌, ℕ, inl, inr, ◌∙◌, ◌<◌, Bool, true, false, ◌&&◌, not, List, [], ◌++◌, Result, Ok, Err, ◌==◌, if◌then◌else◌, refl, sym, ap, subst, eqb-true, append-nil}
use Rattle.rasta_core_spec.specs.State.{LinkState, is_open, is_asking, is_client}
use Rattle.rasta_core_spec.specs.Clock.{state_at}
use Rattle.rasta_core_spec.specs.PdusHandedOut.{Step, silent, sending, telling, closed}
use Rattle.rasta_core_spec.specs.Establishment.{own_opening, beginning, meeting, granting, joining}
use Rattle.rasta_core_spec.specs.Receipt.{Receipt, refusing, accepting, connected, answers_request, asking, resting, by_state, hearing, up}
use Rattle.rasta_core_spec.specs.Calls.{hearing_bytes, receiving}
use Rattle.rasta_core_spec.specs.phase.State.{State}
use Rattle.rasta_core_spec.specs.phase.State.TheVariants as state
use Rattle.rasta_core_spec.specs.reason.Reason.TheVariants as reason
use Rattle.rasta_core_spec.specs.verdict.Verdict.TheVariants as verdict
use Rattle.rasta_core_spec.specs.identity.Role.{Role}
use Rattle.rasta_core_spec.specs.identity.Role.TheVariants as role
use Rattle.rasta_core_spec.specs.Ends.{is_taken}
use Rattle.rasta_core_spec.specs.pdu.Pdu.{Pdu}
use Rattle.rasta_core_spec.specs.pdu_fault.PduFault.{PduFault}
use Rattle.rasta_core_spec.specs.body.Opening.{Opening}
use Rattle.rasta_core_spec.specs.body.Body.{Body}
use Rattle.rasta_core_spec.specs.body.Body.TheVariants.{ConnectionRequest, ConnectionResponse, DisconnectionRequest, Heartbeat}
use Rattle.rasta_core_spec.specs.PduRead.{reading}
use Rattle.rasta_core_spec.specs.Values.{IsPdu}
use Rattle.rasta_core.specs.TimedEnds.{Inside, Outside, own_stamp, standing}
use Rattle.rasta_core_spec.specs.Sentences.{IsRequest}
use Rattle.rasta_core.proofs.Phases.{up_open, up_heard}
use Rattle.rasta_core.specs.Invariant.{IsSound}
use Rattle.rasta_core.proofs.Sounds.{standing_open, standing_closed, inside_open}
use Rattle.rasta_core.proofs.InsidePdus.{Acts, Speaks, IsSpeaker, sending_speaks, telling_speaks, closed_speaks, judging_speaks}
use Rattle.rasta_core.proofs.States.{IsReady, IsDownAt, tells, Tells, calm, entering}
use Rattle.rasta_core.proofs.Deeds.{Heard, Noise, Word, IsFor, grants, joins, Does, speaker, speaking, own_is_opening}
use Rattle.rasta_core.proofs.Receipts.{Receives, refuses, no_entry, says, violating_does, connected_does}

-- ---- at an end that is down

is_the_server : (r : Role) → is_client r ≡ false → r ≡ role.Server
is_the_server role.Client e = cc
is_the_server role.Server e = refl

begun_speaker : (l : LinkState) (pdu : Pdu) → IsSound l → IsPdu pdu → IsSpeaker (meeting pdu (beginning l))
unfolding meeting beginning
begun_speaker l pdu sound is_pdu = record {
  sound = record { own = sound.own; partner = sound.partner; heard = is_pdu.time_stamp; items = tt };
  is_in = refl;
}

granting_speaks : (l : LinkState) (pdu : Pdu) (opening : Opening) → IsSound l → IsPdu pdu → is_client l.identity.role ≡ false
    → Speaks (meeting pdu (beginning l)) (granting pdu opening l)
unfolding granting
granting_speaks l pdu opening sound is_pdu server = judging_speaks begun opening (sending (ConnectionResponse own_opening)) is (sending_speaks begun (ConnectionResponse own_opening) is own_is_opening (λ r. absurd r) (λ a. begun_server))
  where
    begun : LinkState
    begun = meeting pdu (beginning l)

    is : IsSpeaker begun
    is = begun_speaker l pdu sound is_pdu

    begun_server : is_asking begun ≡ false
    begun_server = unfold meeting beginning in server

granting_does : (l : LinkState) (pdu : Pdu) (opening : Opening) → IsSound l → is_open l.phase ≡ false → IsDownAt l.clock (Outside l.closed_at) → IsPdu pdu → IsFor l.identity pdu
    → IsRequest pdu.body → is_client l.identity.role ≡ false → Receives l (Word pdu) (accepting (granting pdu opening l))
unfolding meeting beginning
granting_does l pdu opening sound shut is_down is_pdu is_for request server = record {
  kept = record { identity = spoken.kept.identity; clock = spoken.kept.clock; sound = spoken.kept.sound };
  deed = grants pdu refl (is_the_server _ server) is_for (subst (IsDownAt l.clock) (sym (standing_closed l shut)) is_down) request
      (subst (λ (b : Bool). Acts l.identity l.clock (Inside b l.clock pdu.time_stamp) (standing (granting pdu opening l).link) (granting pdu opening l).pdus) server spoken.acts)
      (ap (λ (b : Bool). not b && true) shut) refl;
}
  where
    spoken : Speaks (meeting pdu (beginning l)) (granting pdu opening l)
    spoken = granting_speaks l pdu opening sound is_pdu server

resting_does : (l : LinkState) (pdu : Pdu) (body : Body) → pdu.body ≡ body → IsSound l → is_open l.phase ≡ false → IsDownAt l.clock (Outside l.closed_at) → IsPdu pdu → IsFor l.identity pdu
    → Receives l (Word pdu) (resting body pdu l)
unfolding resting
resting_does l pdu (ConnectionRequest opening) same sound shut is_down is_pdu is_for = choose (is_client l.identity.role) refl
  where
    choose : (b : Bool) → is_client l.identity.role ≡ b → Receives l (Word pdu) (if b then refusing verdict.WrongState l else accepting (granting pdu opening l))
    choose true e = refuses l (Word pdu) verdict.WrongState sound refl
    choose false e = granting_does l pdu opening sound shut is_down is_pdu is_for (subst IsRequest (sym same) tt) e
resting_does l pdu _ same sound shut is_down is_pdu is_for = refuses l (Word pdu) verdict.WrongState sound refl

-- ---- at a client that asked

met : Pdu → LinkState → LinkState
met pdu l = up (meeting pdu l)

joining_speaks : (l : LinkState) (pdu : Pdu) (opening : Opening) → IsSpeaker l → IsPdu pdu → Speaks (met pdu l) (joining pdu opening l)
unfolding joining met
joining_speaks l pdu opening is is_pdu = judging_speaks (met pdu l) opening (sending Heartbeat) by (sending_speaks (met pdu l) Heartbeat by tt (λ r. absurd r) (λ a. refl))
  where
    by : IsSpeaker (met pdu l)
    by = unfold meeting in record {
      sound = record { own = is.sound.own; partner = is.sound.partner; heard = is_pdu.time_stamp; items = is.sound.items };
      is_in = refl;
    }

joining_does : (l : LinkState) (pdu : Pdu) (opening : Opening) → IsSpeaker l → is_client l.identity.role ≡ true → IsPdu pdu → IsFor l.identity pdu
    → Receives l (Word pdu) (accepting (joining pdu opening l))
unfolding met meeting
joining_does l pdu opening is client is_pdu is_for = record {
  kept = record { identity = spoken.kept.identity; clock = spoken.kept.clock; sound = spoken.kept.sound };
  deed = joins pdu refl (is_the_client _ client) is_for (inside_open l is.is_in)
      (subst (λ (own : ℕ). Acts l.identity l.clock (Inside false own pdu.time_stamp) (standing (joining pdu opening l).link) (joining pdu opening l).pdus) (sym (ap own_stamp (standing_open l is.is_in))) spoken.acts)
      (no_entry (is_open l.phase) true is.is_in) refl;
}
  where
    spoken : Speaks (met pdu l) (joining pdu opening l)
    spoken = joining_speaks l pdu opening is is_pdu

    is_the_client : (r : Role) → is_client r ≡ true → r ≡ role.Client
    is_the_client role.Client e = refl
    is_the_client role.Server e = cc

asking_does : (l : LinkState) (pdu : Pdu) (body : Body) → IsSpeaker l → is_client l.identity.role ≡ true → IsPdu pdu → IsFor l.identity pdu → Receives l (Word pdu) (asking body pdu l)
unfolding asking
asking_does l pdu (ConnectionResponse opening) is client is_pdu is_for = choose (answers_request pdu l)
  where
    choose : (b : Bool) → Receives l (Word pdu) (if b then accepting (joining pdu opening l) else refusing verdict.BadConfirm l)
    choose true = joining_does l pdu opening is client is_pdu is_for
    choose false = refuses l (Word pdu) verdict.BadConfirm is.sound refl
asking_does l pdu (DisconnectionRequest detail number) is client is_pdu is_for = choose (answers_request pdu l)
  where
    choose : (b : Bool) → Receives l (Word pdu) (if b then accepting (silent (closed l)) else refusing verdict.BadConfirm l)
    choose true = says l (Word pdu) (silent (closed l)) verdict.Taken is (closed_speaks l is)
    choose false = refuses l (Word pdu) verdict.BadConfirm is.sound refl
asking_does l pdu _ is client is_pdu is_for = violating_does l (Word pdu) is

-- ---- in any state

by_state_does : (l : LinkState) (pdu : Pdu) (s : State) → Tells l s → IsReady l → IsPdu pdu → IsFor l.identity pdu → Receives l (Word pdu) (by_state s pdu l)
unfolding by_state
by_state_does l pdu state.Quiet told ready is_pdu is_for = refuses l (Word pdu) verdict.Quiet ready.sound refl
by_state_does l pdu state.Down told ready is_pdu is_for = resting_does l pdu pdu.body refl ready.sound told.0 told.1 is_pdu is_for
by_state_does l pdu state.Start told ready is_pdu is_for = choose (is_client l.identity.role) refl
  where
    is : IsSpeaker l
    is = speaker l ready told.0

    choose : (b : Bool) → is_client l.identity.role ≡ b → Receives l (Word pdu) (if b then asking pdu.body pdu l else connected pdu.body pdu l)
    choose true e = asking_does l pdu pdu.body is e is_pdu is_for
    choose false e = connected_does l pdu pdu.body is (told.1 ∙ e) is_pdu is_for
by_state_does l pdu state.Up told ready is_pdu is_for = connected_does l pdu pdu.body (speaker l ready (up_open l told)) (up_heard l told) is_pdu is_for
by_state_does l pdu state.RetransmissionRequested told ready is_pdu is_for = connected_does l pdu pdu.body (speaker l ready (up_open l told)) (up_heard l told) is_pdu is_for
by_state_does l pdu state.RetransmissionRunning told ready is_pdu is_for = connected_does l pdu pdu.body (speaker l ready (up_open l told)) (up_heard l told) is_pdu is_for

hearing_does : (l : LinkState) (pdu : Pdu) → IsReady l → IsPdu pdu → Receives l (Word pdu) (hearing pdu l)
unfolding hearing
hearing_does l pdu ready is_pdu = choose (pdu.receiver == l.identity.own) (pdu.sender == l.identity.partner) refl refl
  where
    choose : (a b : Bool) → (pdu.receiver == l.identity.own) ≡ a → (pdu.sender == l.identity.partner) ≡ b
        → Receives l (Word pdu) (if not a then refusing verdict.NotForMe l else if not b then refusing verdict.WrongSender l else by_state (state_at l.clock l) pdu l)
    choose false b ea eb = refuses l (Word pdu) verdict.NotForMe ready.sound refl
    choose true false ea eb = refuses l (Word pdu) verdict.WrongSender ready.sound refl
    choose true true ea eb = by_state_does l pdu (state_at l.clock l) (tells l ready) ready is_pdu (record { receiver = eqb-true _ _ ea; sender = eqb-true _ _ eb })

-- ---- bytes

-- what bytes say
abbrev pub read_pdu : Result Pdu PduFault → Heard
read_pdu (Ok pdu) = Word pdu
read_pdu (Err fault) = Noise

abbrev pub AreRead : Result Pdu PduFault → Type 0
AreRead (Ok pdu) = IsPdu pdu
AreRead (Err fault) = Unit {0}

hearing_bytes_does : (l : LinkState) (result : Result Pdu PduFault) → IsReady l → AreRead result → Receives l (read_pdu result) (hearing_bytes result l)
unfolding hearing_bytes
hearing_bytes_does l (Err fault) ready is = refuses l Noise (verdict.Unreadable fault) ready.sound refl
hearing_bytes_does l (Ok pdu) ready is = hearing_does l pdu ready is

-- a quiet end refuses everything
abbrev Refuses : LinkState → Receipt → Type 0
Refuses l receipt = (receipt.link ≡ l) × (receipt.pdus ≡ []) × (receipt.items ≡ [])

quiet_hearing : (l : LinkState) (result : Result Pdu PduFault) → state_at l.clock l ≡ state.Quiet → Refuses l (hearing_bytes result l)
unfolding hearing_bytes hearing by_state
quiet_hearing l (Err fault) quiet = (refl, refl, refl)
quiet_hearing l (Ok pdu) quiet = choose (not (pdu.receiver == l.identity.own)) (not (pdu.sender == l.identity.partner))
  where
    choose : (a b : Bool) → Refuses l (if a then refusing verdict.NotForMe l else if b then refusing verdict.WrongSender l else by_state (state_at l.clock l) pdu l)
    choose true b = (refl, refl, refl)
    choose false true = (refl, refl, refl)
    choose false false = subst (λ (s : State). Refuses l (by_state s pdu l)) (sym quiet) (refl, refl, refl)

ended_with : (l : LinkState) (heard : Heard) (step : Step) (receipt : Receipt) → IsSpeaker l → Speaks l step → Refuses step.link receipt
    → Receives l heard (record receipt { pdus = step.pdus ++ receipt.pdus })
ended_with l heard step receipt is spoken refused =
    subst (λ (pdus : List Pdu). Does l heard enters receipt.items receipt.link pdus) (sym (ap (λ (more : List Pdu). step.pdus ++ more) refused.1 ∙ append-nil step.pdus))
    (subst (λ (link : LinkState). Does l heard enters receipt.items link step.pdus) (sym refused.0)
    (subst (λ (items : List (List ℕ)). Does l heard enters items step.link step.pdus) (sym refused.2)
    (speaking l heard enters step is (no_entry (is_open l.phase) (is_taken receipt.verdict) is.is_in) spoken)))
  where
    enters : Bool
    enters = not (is_open l.phase) && is_taken receipt.verdict

pub receiving_does : (l : LinkState) (bytes : List ℕ) → IsReady l → AreRead (reading l.identity.key bytes) → Receives l (read_pdu (reading l.identity.key bytes)) (receiving l.clock bytes l)
unfolding receiving telling sending
receiving_does l bytes ready is = elim (entering l ready) [
  | inl same ↦ subst (λ (s : Step). Receives l heard (record (hearing_bytes (reading l.identity.key bytes) s.link) { pdus = s.pdus ++ (hearing_bytes (reading l.identity.key bytes) s.link).pdus })) (sym same)
      (hearing_bytes_does l (reading l.identity.key bytes) ready is)
  | inr over ↦ subst (λ (s : Step). Receives l heard (record (hearing_bytes (reading l.identity.key bytes) s.link) { pdus = s.pdus ++ (hearing_bytes (reading l.identity.key bytes) s.link).pdus })) (sym over.1)
      (ended over.0)
]
  where
    heard : Heard
    heard = read_pdu (reading l.identity.key bytes)

    told : LinkState
    told = (telling reason.Sequence l).link

    ended : is_open l.phase ≡ true → Receives l heard (record (hearing_bytes (reading l.identity.key bytes) told) { pdus = (telling reason.Sequence l).pdus ++ (hearing_bytes (reading l.identity.key bytes) told).pdus })
    ended o = ended_with l heard (telling reason.Sequence l) (hearing_bytes (reading l.identity.key bytes) told) (speaker l ready o) (telling_speaks l reason.Sequence (speaker l ready o)) (quiet_hearing told (reading l.identity.key bytes) (calm told refl refl))
