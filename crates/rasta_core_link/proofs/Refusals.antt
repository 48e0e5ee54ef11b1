-- A refusal changes nothing but what the clock rules change, with one exception.
use Rattle.std.proofs.Common.{◌≡◌, ℕ, Bool, true, false, List, [], ◌++◌, Result, Ok, Err, refl, ap}
use Rattle.std.specs.Prelude.{if◌then◌else◌, nat_lt, ◌==◌, not}
use Rattle.rasta_core_link.specs.Parameters.{sequence_range}
use Rattle.rasta_core_link.specs.State.{LinkState, is_client}
use Rattle.rasta_core_link.specs.Clock.{state_at}
use Rattle.rasta_core_link.specs.PdusHandedOut.{silent, entered, closed}
use Rattle.rasta_core_link.specs.Establishment.{granting, joining}
use Rattle.rasta_core_link.specs.Receipt.{Receipt, refusing, violating, accepting, ahead, missing, handing, bringing, in_turn, admission, admitting, is_stale, confirms, testing, is_opening_again, connected, answers_request, asking, resting, by_state, hearing, taking}
use Rattle.rasta_core_link.specs.Calls.{hearing_bytes, receiving}
use Rattle.rasta_core_link.specs.Verdicts.{is_refusal, refusal_leaves, refused}
use Rattle.rasta_core_link.specs.declared.admission.Admission.{Admission}
use Rattle.rasta_core_link.specs.declared.admission.Admission.TheVariants as admits
use Rattle.rasta_core_link.specs.declared.phase.State.{State}
use Rattle.rasta_core_link.specs.declared.phase.State.TheVariants as state
use Rattle.rasta_core_link.specs.declared.verdict.Verdict.{Verdict}
use Rattle.rasta_core_link.specs.declared.verdict.Verdict.TheVariants as verdict
use Rattle.rasta_pdu.specs.declared.pdu.Pdu.{Pdu}
use Rattle.rasta_pdu.specs.declared.fault.PduFault.{PduFault}
use Rattle.rasta_pdu.specs.declared.body.Body.{Body}
use Rattle.rasta_pdu.specs.declared.body.Body.TheVariants.{ConnectionRequest, ConnectionResponse, RetransmissionRequest, RetransmissionResponse, DisconnectionRequest, Heartbeat, Data, RetransmittedData}
use Rattle.rasta_pdu.specs.PduRead.{reading}

-- what a refusal leaves, in a part of a call
abbrev left_by : Verdict → State → LinkState → Receipt
left_by why present link =
    let left = refusal_leaves why present link
    in record { link = left.link; pdus = left.pdus; items = []; verdict = why }

abbrev Leaves : State → LinkState → Receipt → Type 0
Leaves present link receipt = is_refusal receipt.verdict ≡ true → receipt ≡ left_by receipt.verdict present link

if_leaves : (present : State) (link : LinkState) (test : Bool) (this other : Receipt) → Leaves present link this → Leaves present link other
    → Leaves present link (if test then this else other)
if_leaves present link true this other p q = p
if_leaves present link false this other p q = q

-- in a connection
abbrev IsInside : State → Type 0
IsInside state.Start = Unit {0}
IsInside state.Up = Unit {0}
IsInside state.RetransmissionRequested = Unit {0}
IsInside state.RetransmissionRunning = Unit {0}
IsInside present = ⊥

violates : (present : State) (link : LinkState) → IsInside present → Leaves present link (violating link)
violates state.Start link is e = refl
violates state.Up link is e = refl
violates state.RetransmissionRequested link is e = refl
violates state.RetransmissionRunning link is e = refl
violates state.Quiet link is e = absurd is
violates state.Down link is e = absurd is

takes : (present : State) (link : LinkState) (receipt : Receipt) → receipt.verdict ≡ verdict.Taken → Leaves present link receipt
takes present link receipt is e = cc

asks : (present : State) (link : LinkState) (receipt : Receipt) → receipt.verdict ≡ verdict.Asked → Leaves present link receipt
asks present link receipt is e = cc

brings : (body : Body) (link : LinkState) → (bringing body link).verdict ≡ verdict.Taken
unfolding bringing handing
brings (Data items) link = refl
brings (RetransmittedData items) link = refl
brings RetransmissionRequest link = refl
brings (ConnectionRequest _) link = refl
brings (ConnectionResponse _) link = refl
brings RetransmissionResponse link = refl
brings (DisconnectionRequest _ _) link = refl
brings Heartbeat link = refl

in_turn_leaves : (present : State) (pdu : Pdu) (link : LinkState) → Leaves present link (in_turn pdu link)
unfolding in_turn missing
in_turn_leaves present pdu link =
    if_leaves present link (ahead pdu link == 0) (bringing pdu.body (taking pdu link)) (missing link)
    (takes present link _ (brings pdu.body (taking pdu link))) (asks present link _ refl)

admitting_leaves : (what : Admission) (present : State) (pdu : Pdu) (link : LinkState) → IsInside present → Leaves present link (admitting what pdu link)
unfolding admitting
admitting_leaves admits.Violates present pdu link is = violates present link is
admitting_leaves admits.Discards present pdu link is = λ e. refl
admitting_leaves admits.Closes present pdu link is = takes present link _ refl
admitting_leaves admits.Resumes present pdu link is = takes present link _ refl
admitting_leaves admits.InTurn present pdu link is = in_turn_leaves present pdu link

testing_leaves : (present : State) (pdu : Pdu) (link : LinkState) → IsInside present → Leaves present link (testing pdu link)
unfolding testing
testing_leaves present pdu link is =
    if_leaves present link (nat_lt sequence_range (ahead pdu link)) (refusing verdict.OutOfRange link) fresh (λ e. refl)
    (if_leaves present link (is_stale pdu link) (refusing verdict.Stale link) confirmed (λ e. refl)
    (if_leaves present link (not (confirms pdu link)) (refusing verdict.BadConfirm link) admitted (λ e. refl)
    (admitting_leaves (admission pdu.body link.phase) present pdu link is)))
  where
    admitted : Receipt
    admitted = admitting (admission pdu.body link.phase) pdu link

    confirmed : Receipt
    confirmed = if not (confirms pdu link) then refusing verdict.BadConfirm link else admitted

    fresh : Receipt
    fresh = if is_stale pdu link then refusing verdict.Stale link else confirmed

connected_leaves : (body : Body) (present : State) (pdu : Pdu) (link : LinkState) → IsInside present → Leaves present link (connected body pdu link)
unfolding connected
connected_leaves (ConnectionRequest _) present pdu link is =
    if_leaves present link (is_opening_again pdu link) (refusing verdict.Discarded link) (violating link) (λ e. refl) (violates present link is)
connected_leaves (ConnectionResponse _) present pdu link is = testing_leaves present pdu link is
connected_leaves RetransmissionRequest present pdu link is = testing_leaves present pdu link is
connected_leaves RetransmissionResponse present pdu link is = testing_leaves present pdu link is
connected_leaves (DisconnectionRequest _ _) present pdu link is = testing_leaves present pdu link is
connected_leaves Heartbeat present pdu link is = testing_leaves present pdu link is
connected_leaves (Data _) present pdu link is = testing_leaves present pdu link is
connected_leaves (RetransmittedData _) present pdu link is = testing_leaves present pdu link is

asking_leaves : (body : Body) (pdu : Pdu) (link : LinkState) → Leaves state.Start link (asking body pdu link)
unfolding asking
asking_leaves (ConnectionResponse o) pdu link =
    if_leaves state.Start link (answers_request pdu link) (accepting (joining pdu o link)) (refusing verdict.BadConfirm link) (takes state.Start link _ refl) (λ e. refl)
asking_leaves (DisconnectionRequest _ _) pdu link =
    if_leaves state.Start link (answers_request pdu link) (accepting (silent (closed link))) (refusing verdict.BadConfirm link) (takes state.Start link _ refl) (λ e. refl)
asking_leaves (ConnectionRequest _) pdu link = violates state.Start link tt
asking_leaves RetransmissionRequest pdu link = violates state.Start link tt
asking_leaves RetransmissionResponse pdu link = violates state.Start link tt
asking_leaves Heartbeat pdu link = violates state.Start link tt
asking_leaves (Data _) pdu link = violates state.Start link tt
asking_leaves (RetransmittedData _) pdu link = violates state.Start link tt

resting_leaves : (body : Body) (pdu : Pdu) (link : LinkState) → Leaves state.Down link (resting body pdu link)
unfolding resting
resting_leaves (ConnectionRequest o) pdu link =
    if_leaves state.Down link (is_client link.identity.role) (refusing verdict.WrongState link) (accepting (granting pdu o link)) (λ e. refl) (takes state.Down link _ refl)
resting_leaves (ConnectionResponse _) pdu link = λ e. refl
resting_leaves RetransmissionRequest pdu link = λ e. refl
resting_leaves RetransmissionResponse pdu link = λ e. refl
resting_leaves (DisconnectionRequest _ _) pdu link = λ e. refl
resting_leaves Heartbeat pdu link = λ e. refl
resting_leaves (Data _) pdu link = λ e. refl
resting_leaves (RetransmittedData _) pdu link = λ e. refl

by_state_leaves : (present : State) (pdu : Pdu) (link : LinkState) → Leaves present link (by_state present pdu link)
unfolding by_state
by_state_leaves state.Quiet pdu link = λ e. refl
by_state_leaves state.Down pdu link = resting_leaves pdu.body pdu link
by_state_leaves state.Start pdu link =
    if_leaves state.Start link (is_client link.identity.role) (asking pdu.body pdu link) (connected pdu.body pdu link)
    (asking_leaves pdu.body pdu link) (connected_leaves pdu.body state.Start pdu link tt)
by_state_leaves state.Up pdu link = connected_leaves pdu.body state.Up pdu link tt
by_state_leaves state.RetransmissionRequested pdu link = connected_leaves pdu.body state.RetransmissionRequested pdu link tt
by_state_leaves state.RetransmissionRunning pdu link = connected_leaves pdu.body state.RetransmissionRunning pdu link tt

hearing_leaves : (pdu : Pdu) (link : LinkState) → Leaves (state_at link.clock link) link (hearing pdu link)
unfolding hearing
hearing_leaves pdu link =
    if_leaves present link (not (pdu.receiver == link.identity.own)) (refusing verdict.NotForMe link) from_partner (λ e. refl)
    (if_leaves present link (not (pdu.sender == link.identity.partner)) (refusing verdict.WrongSender link) (by_state present pdu link) (λ e. refl)
    (by_state_leaves present pdu link))
  where
    present : State
    present = state_at link.clock link

    from_partner : Receipt
    from_partner = if not (pdu.sender == link.identity.partner) then refusing verdict.WrongSender link else by_state present pdu link

hearing_bytes_leaves : (read : Result Pdu PduFault) (link : LinkState) → Leaves (state_at link.clock link) link (hearing_bytes read link)
unfolding hearing_bytes
hearing_bytes_leaves (Err fault) link = λ e. refl
hearing_bytes_leaves (Ok pdu) link = hearing_leaves pdu link

pub receiving-refused : (now : ℕ) (bytes : List ℕ) (link : LinkState) → is_refusal (receiving now bytes link).verdict ≡ true
    → receiving now bytes link ≡ refused (receiving now bytes link).verdict (entered now link)
unfolding receiving
receiving-refused now bytes link e =
    ap (λ (heard : Receipt). record heard { pdus = (entered now link).pdus ++ heard.pdus })
    (hearing_bytes_leaves (reading link.identity.key bytes) (entered now link).link e)

pub ruleset refusals = (receiving-refused)
