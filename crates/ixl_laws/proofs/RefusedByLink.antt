-- What a link refuses leaves it as it was, but for what doesn't belong into the connection in which the link is.
use Rattle.std.proofs.Common.{◌≡◌, ℕ, ◌+◌, ◌<◌, Bool, true, false, List, Result, Ok, Err, arith, refl, ap, sym, ◌∙◌}
use Rattle.std.specs.Prelude.{◌&&◌, if◌then◌else◌, nat_le, nat_lt, ◌==◌, not}
use Rattle.std.proofs.lemmas.Bool.{false≢true, leb-true, true≢false}
use Rattle.ixl_state.specs.rasta_core.Parameters.{connection_limit, quiet_time, sequence_range}
use Rattle.ixl_state.specs.rasta_core.State.{LinkState, is_client, is_open}
use Rattle.ixl_state.specs.rasta_core.Clock.{deadline, settled, state_at}
use Rattle.ixl_state.specs.rasta_core.PdusHandedOut.{silent, entered, limited, telling}
use Rattle.ixl_state.specs.rasta_core.Receipt.{Receipt, refusing, violating, ahead, missing, handing, bringing, in_turn, admission, admitting, is_stale, confirms, testing, is_opening_again, connected, answers_request, asking, resting, by_state, hearing, taking}
use Rattle.ixl_state.specs.rasta_core.Calls.{hearing_bytes, receiving}
use Rattle.ixl_state.specs.rasta_core.Verdicts.{is_refusal}
use Rattle.ixl_state.specs.rasta_core.phase.Phase.{Phase}
use Rattle.ixl_state.specs.rasta_core.phase.Phase.TheVariants as phase
use Rattle.ixl_state.specs.rasta_core.phase.State.{State}
use Rattle.ixl_state.specs.rasta_core.phase.State.TheVariants as state
use Rattle.ixl_state.specs.rasta_core.reason.Reason.TheVariants as reason
use Rattle.ixl_state.specs.rasta_core.verdict.Verdict.{Verdict}
use Rattle.ixl_state.specs.rasta_core.verdict.Verdict.TheVariants as verdict
use Rattle.ixl_state.specs.rasta_pdu.declared.pdu.Pdu.{Pdu}
use Rattle.ixl_state.specs.rasta_pdu.declared.fault.PduFault.{PduFault}
use Rattle.ixl_state.specs.rasta_pdu.declared.body.Body.{Body}
use Rattle.ixl_state.specs.rasta_pdu.declared.body.Body.TheVariants.{ConnectionRequest, ConnectionResponse, RetransmissionRequest, RetransmissionResponse, DisconnectionRequest, Heartbeat, Data, RetransmittedData}
use Rattle.ixl_state.specs.rasta_pdu.PduRead.{reading}
use Rattle.ixl_laws.proofs.PickedByTest.{either, picked}

abbrev Leaves : LinkState → Receipt → Type 0
Leaves link receipt = is_refusal receipt.verdict ≡ true → (receipt.verdict ≡ verdict.WrongState → ⊥) → receipt ≡ refusing receipt.verdict link

refuses : (why : Verdict) (link : LinkState) → Leaves link (refusing why link)
refuses why link refused other = refl

violates : (link : LinkState) → Leaves link (violating link)
violates link refused other = absurd (other refl)

takes : (link : LinkState) (receipt : Receipt) → receipt.verdict ≡ verdict.Taken → Leaves link receipt
takes link receipt is refused other = absurd (false≢true (sym (ap is_refusal is) ∙ refused))

asks : (link : LinkState) (receipt : Receipt) → receipt.verdict ≡ verdict.Asked → Leaves link receipt
asks link receipt is refused other = absurd (false≢true (sym (ap is_refusal is) ∙ refused))

brings : (body : Body) (link : LinkState) → (bringing body link).verdict ≡ verdict.Taken
unfolding bringing handing
brings (Data items) link = refl
brings (RetransmittedData items) link = refl
brings RetransmissionRequest link = refl
brings (ConnectionRequest _) link = refl
brings (ConnectionResponse _) link = refl
brings RetransmissionResponse link = refl
brings (DisconnectionRequest _ _) link = refl
brings Heartbeat link = refl

in_turn_leaves : (pdu : Pdu) (link : LinkState) → Leaves link (in_turn pdu link)
unfolding in_turn missing
in_turn_leaves pdu link = either (Leaves link) (ahead pdu link == 0) _ _ (takes link _ (brings pdu.body (taking pdu link))) (asks link _ refl)

admitting_leaves : (body : Body) (at : Phase) (pdu : Pdu) (link : LinkState) → Leaves link (admitting (admission body at) pdu link)
unfolding admitting
admitting_leaves (ConnectionRequest opening) at pdu link = violates link
admitting_leaves (ConnectionResponse opening) at pdu link = violates link
admitting_leaves (DisconnectionRequest detail why) at pdu link = takes link _ refl
admitting_leaves RetransmissionRequest phase.Closed pdu link = in_turn_leaves pdu link
admitting_leaves RetransmissionRequest phase.Start pdu link = violates link
admitting_leaves RetransmissionRequest phase.Up pdu link = in_turn_leaves pdu link
admitting_leaves RetransmissionRequest phase.RetransmissionRequested pdu link = refuses verdict.Discarded link
admitting_leaves RetransmissionRequest phase.RetransmissionRunning pdu link = in_turn_leaves pdu link
admitting_leaves RetransmissionResponse phase.Closed pdu link = violates link
admitting_leaves RetransmissionResponse phase.Start pdu link = violates link
admitting_leaves RetransmissionResponse phase.Up pdu link = violates link
admitting_leaves RetransmissionResponse phase.RetransmissionRequested pdu link = takes link _ refl
admitting_leaves RetransmissionResponse phase.RetransmissionRunning pdu link = violates link
admitting_leaves Heartbeat phase.Closed pdu link = in_turn_leaves pdu link
admitting_leaves Heartbeat phase.Start pdu link = in_turn_leaves pdu link
admitting_leaves Heartbeat phase.Up pdu link = in_turn_leaves pdu link
admitting_leaves Heartbeat phase.RetransmissionRequested pdu link = refuses verdict.Discarded link
admitting_leaves Heartbeat phase.RetransmissionRunning pdu link = in_turn_leaves pdu link
admitting_leaves (Data items) phase.Closed pdu link = in_turn_leaves pdu link
admitting_leaves (Data items) phase.Start pdu link = in_turn_leaves pdu link
admitting_leaves (Data items) phase.Up pdu link = in_turn_leaves pdu link
admitting_leaves (Data items) phase.RetransmissionRequested pdu link = refuses verdict.Discarded link
admitting_leaves (Data items) phase.RetransmissionRunning pdu link = in_turn_leaves pdu link
admitting_leaves (RetransmittedData items) phase.Closed pdu link = violates link
admitting_leaves (RetransmittedData items) phase.Start pdu link = violates link
admitting_leaves (RetransmittedData items) phase.Up pdu link = violates link
admitting_leaves (RetransmittedData items) phase.RetransmissionRequested pdu link = refuses verdict.Discarded link
admitting_leaves (RetransmittedData items) phase.RetransmissionRunning pdu link = in_turn_leaves pdu link

testing_leaves : (pdu : Pdu) (link : LinkState) → Leaves link (testing pdu link)
unfolding testing
testing_leaves pdu link =
    either (Leaves link) (nat_lt sequence_range (ahead pdu link)) _ _ (refuses verdict.OutOfRange link)
    (either (Leaves link) (is_stale pdu link) _ _ (refuses verdict.Stale link)
    (either (Leaves link) (not (confirms pdu link)) _ _ (refuses verdict.BadConfirm link) (admitting_leaves pdu.body link.phase pdu link)))

connected_leaves : (body : Body) (pdu : Pdu) (link : LinkState) → Leaves link (connected body pdu link)
unfolding connected
connected_leaves (ConnectionRequest _) pdu link = either (Leaves link) (is_opening_again pdu link) _ _ (refuses verdict.Discarded link) (violates link)
connected_leaves (ConnectionResponse _) pdu link = testing_leaves pdu link
connected_leaves RetransmissionRequest pdu link = testing_leaves pdu link
connected_leaves RetransmissionResponse pdu link = testing_leaves pdu link
connected_leaves (DisconnectionRequest _ _) pdu link = testing_leaves pdu link
connected_leaves Heartbeat pdu link = testing_leaves pdu link
connected_leaves (Data _) pdu link = testing_leaves pdu link
connected_leaves (RetransmittedData _) pdu link = testing_leaves pdu link

asking_leaves : (body : Body) (pdu : Pdu) (link : LinkState) → Leaves link (asking body pdu link)
unfolding asking
asking_leaves (ConnectionResponse opening) pdu link = either (Leaves link) (answers_request pdu link) _ _ (takes link _ refl) (refuses verdict.BadConfirm link)
asking_leaves (DisconnectionRequest _ _) pdu link = either (Leaves link) (answers_request pdu link) _ _ (takes link _ refl) (refuses verdict.BadConfirm link)
asking_leaves (ConnectionRequest _) pdu link = violates link
asking_leaves RetransmissionRequest pdu link = violates link
asking_leaves RetransmissionResponse pdu link = violates link
asking_leaves Heartbeat pdu link = violates link
asking_leaves (Data _) pdu link = violates link
asking_leaves (RetransmittedData _) pdu link = violates link

resting_leaves : (body : Body) (pdu : Pdu) (link : LinkState) → Leaves link (resting body pdu link)
unfolding resting
resting_leaves (ConnectionRequest opening) pdu link = either (Leaves link) (is_client link.identity.role) _ _ (refuses verdict.WrongState link) (takes link _ refl)
resting_leaves (ConnectionResponse _) pdu link = refuses verdict.WrongState link
resting_leaves RetransmissionRequest pdu link = refuses verdict.WrongState link
resting_leaves RetransmissionResponse pdu link = refuses verdict.WrongState link
resting_leaves (DisconnectionRequest _ _) pdu link = refuses verdict.WrongState link
resting_leaves Heartbeat pdu link = refuses verdict.WrongState link
resting_leaves (Data _) pdu link = refuses verdict.WrongState link
resting_leaves (RetransmittedData _) pdu link = refuses verdict.WrongState link

by_state_leaves : (present : State) (pdu : Pdu) (link : LinkState) → Leaves link (by_state present pdu link)
unfolding by_state
by_state_leaves state.Quiet pdu link = refuses verdict.Quiet link
by_state_leaves state.Down pdu link = resting_leaves pdu.body pdu link
by_state_leaves state.Start pdu link = either (Leaves link) (is_client link.identity.role) _ _ (asking_leaves pdu.body pdu link) (connected_leaves pdu.body pdu link)
by_state_leaves state.Up pdu link = connected_leaves pdu.body pdu link
by_state_leaves state.RetransmissionRequested pdu link = connected_leaves pdu.body pdu link
by_state_leaves state.RetransmissionRunning pdu link = connected_leaves pdu.body pdu link

hearing_leaves : (pdu : Pdu) (link : LinkState) → Leaves link (hearing pdu link)
unfolding hearing
hearing_leaves pdu link =
    either (Leaves link) (not (pdu.receiver == link.identity.own)) _ _ (refuses verdict.NotForMe link)
    (either (Leaves link) (not (pdu.sender == link.identity.partner)) _ _ (refuses verdict.WrongSender link) (by_state_leaves (state_at link.clock link) pdu link))

hearing_bytes_leaves : (read : Result Pdu PduFault) (link : LinkState) → Leaves link (hearing_bytes read link)
unfolding hearing_bytes
hearing_bytes_leaves (Err fault) link = refuses (verdict.Unreadable fault) link
hearing_bytes_leaves (Ok pdu) link = hearing_leaves pdu link

-- ---- a link in no connection

abbrev Rests : LinkState → Receipt → Type 0
Rests link receipt = is_refusal receipt.verdict ≡ true → receipt ≡ refusing receipt.verdict link

rests : (why : Verdict) (link : LinkState) → Rests link (refusing why link)
rests why link refused = refl

resting_rests : (body : Body) (pdu : Pdu) (link : LinkState) → Rests link (resting body pdu link)
unfolding resting
resting_rests (ConnectionRequest opening) pdu link = either (Rests link) (is_client link.identity.role) _ _ (rests verdict.WrongState link) (λ refused. absurd (false≢true refused))
resting_rests (ConnectionResponse _) pdu link = rests verdict.WrongState link
resting_rests RetransmissionRequest pdu link = rests verdict.WrongState link
resting_rests RetransmissionResponse pdu link = rests verdict.WrongState link
resting_rests (DisconnectionRequest _ _) pdu link = rests verdict.WrongState link
resting_rests Heartbeat pdu link = rests verdict.WrongState link
resting_rests (Data _) pdu link = rests verdict.WrongState link
resting_rests (RetransmittedData _) pdu link = rests verdict.WrongState link

-- it is in its quiet time, or down
shut_state : (now : ℕ) (link : LinkState) (fact : State → Type 0) → is_open link.phase ≡ false → fact state.Quiet → fact state.Down → fact (state_at now link)
unfolding state_at
shut_state now link fact shut quiet down = rw shut (either fact (nat_lt now (deadline link + quiet_time)) _ _ quiet down)

by_state_rests : (pdu : Pdu) (link : LinkState) → is_open link.phase ≡ false → Rests link (by_state (state_at link.clock link) pdu link)
unfolding by_state
by_state_rests pdu link shut = shut_state link.clock link (λ present. Rests link (by_state present pdu link)) shut (rests verdict.Quiet link) (resting_rests pdu.body pdu link)

hearing_rests : (pdu : Pdu) (link : LinkState) → is_open link.phase ≡ false → Rests link (hearing pdu link)
unfolding hearing
hearing_rests pdu link shut =
    either (Rests link) (not (pdu.receiver == link.identity.own)) _ _ (rests verdict.NotForMe link)
    (either (Rests link) (not (pdu.sender == link.identity.partner)) _ _ (rests verdict.WrongSender link) (by_state_rests pdu link shut))

hearing_bytes_rests : (read : Result Pdu PduFault) (link : LinkState) → is_open link.phase ≡ false → Rests link (hearing_bytes read link)
unfolding hearing_bytes
hearing_bytes_rests (Err fault) link shut = rests (verdict.Unreadable fault) link
hearing_bytes_rests (Ok pdu) link shut = hearing_rests pdu link shut

hearing_bytes_stays : (read : Result Pdu PduFault) (link : LinkState) → is_refusal (hearing_bytes read link).verdict ≡ true →
    ((hearing_bytes read link).verdict ≡ verdict.WrongState → is_open link.phase ≡ false) → hearing_bytes read link ≡ refusing (hearing_bytes read link).verdict link
hearing_bytes_stays read link refused shut = by_phase (is_open link.phase) refl where
  by_phase : (b : Bool) → is_open link.phase ≡ b → hearing_bytes read link ≡ refusing (hearing_bytes read link).verdict link
  by_phase true is = hearing_bytes_leaves read link refused (λ wrong. true≢false (sym is ∙ shut wrong))
  by_phase false is = hearing_bytes_rests read link is refused

-- ---- a link to which the clock rules of this reading were applied

pub settled_again : (now : ℕ) (link : LinkState) → settled now (settled now link) ≡ settled now link
unfolding settled deadline
settled_again now link = picked (λ (l : LinkState). settled now l ≡ l) (is_open link.phase && nat_le (deadline link) now) _ _ (λ late. refl) (λ early. rw early refl)

below_limit : (sent : ℕ) → sent < connection_limit → nat_le connection_limit sent ≡ false
below_limit sent below = cases (nat_le connection_limit sent) refl where
  cases : (b : Bool) → nat_le connection_limit sent ≡ b → nat_le connection_limit sent ≡ false
  cases true is = absurd (omega (arith, below, leb-true connection_limit sent is))
  cases false is = is

entered_still : (now : ℕ) (link : LinkState) → link.sent < connection_limit → settled now link ≡ link → entered now link ≡ silent link
unfolding entered limited
entered_still now link below same = ap (λ (l : LinkState). limited l) same ∙ still (is_open link.phase) where
  still : (b : Bool) → (if b && nat_le connection_limit link.sent then telling reason.Sequence link else silent link) ≡ silent link
  still true = rw (below_limit link.sent below) refl
  still false = refl

pub refused_still : (now : ℕ) (bytes : List ℕ) (link : LinkState) → link.sent < connection_limit → settled now link ≡ link → is_refusal (receiving now bytes link).verdict ≡ true →
    ((receiving now bytes link).verdict ≡ verdict.WrongState → is_open link.phase ≡ false) → receiving now bytes link ≡ refusing (receiving now bytes link).verdict link
unfolding receiving
refused_still now bytes link below same = rw (entered_still now link below same) (hearing_bytes_stays (reading link.identity.key bytes) link)
