-- A connection request is handed out where a client begins a connection, and nowhere else.
use Rattle.simulator_move_laws.proofs.Links.States.{IsSettled}
use Rattle.simulator_move_laws.proofs.Links.EndEnters.{later_not_down, told_shut, and_second}
use Rattle.std.proofs.Common.{◌≡◌, ℕ, true, false, ◌&&◌, not, nat_le, nat_lt, ◌-◌, ◌+◌, List, [], ◌∷◌, ◌++◌, Result, Ok, Err, refl, sym, subst}
use Rattle.std.specs.Prelude.{◌==◌, if◌then◌else◌, is_ok, nat_eq}
use Rattle.std.specs.Cmp.Lexicographic.{pointwise}
use Rattle.rasta_core.specs.Parameters.{connection_limit, heartbeat_interval, own_version, sequence_range, window_size}
use Rattle.rasta_core.specs.Clock.{settled, state_at}
use Rattle.rasta_core.specs.Ends.{Call, Ticks, Opens, Closes, Sends, Receives}
use Rattle.rasta_core.specs.State.{LinkState, is_client, is_open, is_up}
use Rattle.rasta_core.specs.Steps.{made_by}
use Rattle.rasta_core.specs.Establishment.{beginning, granting, joining, judging, may_open, meeting, own_opening, requesting}
use Rattle.rasta_core.specs.PdusHandedOut.{Step, beating, closed, closing, entered, giving, limited, pdu_of, sending, silent, telling}
use Rattle.rasta_core.specs.Receipt.{Receipt, accepting, admission, admitting, ahead, answering, answers_request, asking, bringing, by_state, confirms, connected, handing, hearing, in_turn, is_opening_again, is_stale, missing, refusing, repeated, repeating, resting, taking, testing, violating}
use Rattle.rasta_core.specs.Calls.{acceptance, closing_by, hearing_bytes, opening, opens, receiving, sending_item, ticking}
use Rattle.rasta_core.specs.phase.Phase.{Phase}
use Rattle.rasta_core.specs.phase.Phase.TheVariants as phase
use Rattle.rasta_core.specs.phase.State.{State}
use Rattle.rasta_core.specs.phase.State.TheVariants as state
use Rattle.rasta_core.specs.reason.Reason.{Reason}
use Rattle.rasta_core.specs.reason.Reason.TheVariants as reason
use Rattle.rasta_core.specs.verdict.Verdict.TheVariants as verdict
use Rattle.rasta_pdu.specs.declared.body.Body.{Body}
use Rattle.rasta_pdu.specs.declared.body.Body.TheVariants.{ConnectionRequest, ConnectionResponse, RetransmissionRequest, RetransmissionResponse, DisconnectionRequest, Heartbeat, Data, RetransmittedData}
use Rattle.rasta_pdu.specs.declared.body.Opening.{Opening}
use Rattle.rasta_pdu.specs.declared.fault.PduFault.{PduFault}
use Rattle.rasta_pdu.specs.declared.pdu.Pdu.{Pdu}
use Rattle.rasta_pdu.specs.PduRead.{reading}
use Rattle.rasta_core.specs.header.Header.{Header}
use Rattle.rasta_core.specs.window.Unconfirmed.{Unconfirmed}
use Rattle.simulator_move_laws.specs.Flows.{AsksNone, AsksOnce, begins}
use Rattle.simulator_move_laws.proofs.Links.Tests.{by_test}

-- a step, and what became of a PDU, that hand out no request
abbrev NoRequest : Step → Type 0
NoRequest step = AsksNone step.pdus

abbrev NoneIn : Receipt → Type 0
NoneIn receipt = AsksNone receipt.pdus

none_then : (one other : List Pdu) → AsksNone one → AsksNone other → AsksNone (one ++ other)
none_then [] other first second = second
none_then (pdu ∷ others) other first second = (first.0, none_then others other first.1 second)

no : ⊥ → ⊥
no e = e

-- ---- the clock rules

telling_none : (why : Reason) (link : LinkState) → NoRequest (telling why link)
unfolding telling sending pdu_of
telling_none why link = (no, tt)

limited_none : (link : LinkState) → NoRequest (limited link)
unfolding limited
limited_none link = by_test NoRequest (is_open link.phase && nat_le connection_limit link.sent) (telling reason.Sequence link) (silent link) (λ e. telling_none reason.Sequence link) (λ e. tt)

entered_none : (now : ℕ) (link : LinkState) → NoRequest (entered now link)
unfolding entered
entered_none now link = limited_none (settled now link)

-- ---- calls without a datagram

beating_none : (link : LinkState) → NoRequest (beating link)
unfolding beating sending pdu_of
beating_none link = by_test NoRequest (is_up link.phase && nat_le heartbeat_interval (link.clock - link.sent_at)) (sending Heartbeat link) (silent link) (λ e. (no, tt)) (λ e. tt)

giving_none : (item : List ℕ) (link : LinkState) → NoRequest (if is_ok (acceptance link) then giving item link else silent link)
unfolding giving sending pdu_of
giving_none item link = by_test NoRequest (is_ok (acceptance link)) (giving item link) (silent link) (λ e. (no, tt)) (λ e. tt)

closing_told : (why : Reason) (link : LinkState) → NoRequest (closing why link)
unfolding closing
closing_told reason.User link = telling_none reason.User link
closing_told reason.State link = telling_none reason.State link
closing_told reason.Sequence link = telling_none reason.Sequence link
closing_told reason.Time link = tt
closing_told reason.Version link = telling_none reason.Version link
closing_told reason.Window link = telling_none reason.Window link

closing_none : (why : Reason) (link : LinkState) → NoRequest (if is_open link.phase then closing why link else silent link)
closing_none why link = by_test NoRequest (is_open link.phase) (closing why link) (silent link) (λ e. closing_told why link) (λ e. tt)

opening_none : (link : LinkState) → may_open link ≡ false → NoRequest (if may_open link then requesting link else silent link)
opening_none link may = by_test NoRequest (may_open link) (requesting link) (silent link) (λ e. absurd (cc (e, may))) (λ e. tt)

-- ---- datagrams

repeated_none : (header : Header) (count : ℕ) (waiting : List Unconfirmed) → AsksNone (repeated header count waiting)
unfolding repeated pdu_of
repeated_none header count [] = tt
repeated_none header count (first ∷ others) = (no, repeated_none header (count + 1) others)

answering_none : (link : LinkState) → NoRequest (answering link)
unfolding answering repeating sending pdu_of
answering_none link = (no, none_then (repeated _ _ _) _ (repeated_none _ _ _) (no, tt))

bringing_none : (body : Body) (link : LinkState) → NoneIn (bringing body link)
unfolding bringing handing
bringing_none (ConnectionRequest opening) link = tt
bringing_none (ConnectionResponse opening) link = tt
bringing_none RetransmissionRequest link = answering_none link
bringing_none RetransmissionResponse link = tt
bringing_none (DisconnectionRequest detail why) link = tt
bringing_none Heartbeat link = tt
bringing_none (Data items) link = tt
bringing_none (RetransmittedData items) link = tt

missing_none : (link : LinkState) → NoneIn (missing link)
unfolding missing sending pdu_of
missing_none link = (no, tt)

in_turn_none : (pdu : Pdu) (link : LinkState) → NoneIn (in_turn pdu link)
unfolding in_turn
in_turn_none pdu link = by_test NoneIn (ahead pdu link == 0) (bringing pdu.body (taking pdu link)) (missing link) (λ e. bringing_none pdu.body (taking pdu link)) (λ e. missing_none link)

violating_none : (link : LinkState) → NoneIn (violating link)
violating_none link = telling_none reason.State link

admitting_none : (body : Body) (at : Phase) (pdu : Pdu) (link : LinkState) → NoneIn (admitting (admission body at) pdu link)
unfolding admitting
admitting_none (ConnectionRequest opening) at pdu link = violating_none link
admitting_none (ConnectionResponse opening) at pdu link = violating_none link
admitting_none (DisconnectionRequest detail why) at pdu link = tt
admitting_none RetransmissionRequest phase.Closed pdu link = in_turn_none pdu link
admitting_none RetransmissionRequest phase.Start pdu link = violating_none link
admitting_none RetransmissionRequest phase.Up pdu link = in_turn_none pdu link
admitting_none RetransmissionRequest phase.RetransmissionRequested pdu link = tt
admitting_none RetransmissionRequest phase.RetransmissionRunning pdu link = in_turn_none pdu link
admitting_none RetransmissionResponse phase.Closed pdu link = violating_none link
admitting_none RetransmissionResponse phase.Start pdu link = violating_none link
admitting_none RetransmissionResponse phase.Up pdu link = violating_none link
admitting_none RetransmissionResponse phase.RetransmissionRequested pdu link = tt
admitting_none RetransmissionResponse phase.RetransmissionRunning pdu link = violating_none link
admitting_none Heartbeat phase.Closed pdu link = in_turn_none pdu link
admitting_none Heartbeat phase.Start pdu link = in_turn_none pdu link
admitting_none Heartbeat phase.Up pdu link = in_turn_none pdu link
admitting_none Heartbeat phase.RetransmissionRequested pdu link = tt
admitting_none Heartbeat phase.RetransmissionRunning pdu link = in_turn_none pdu link
admitting_none (Data items) phase.Closed pdu link = in_turn_none pdu link
admitting_none (Data items) phase.Start pdu link = in_turn_none pdu link
admitting_none (Data items) phase.Up pdu link = in_turn_none pdu link
admitting_none (Data items) phase.RetransmissionRequested pdu link = tt
admitting_none (Data items) phase.RetransmissionRunning pdu link = in_turn_none pdu link
admitting_none (RetransmittedData items) phase.Closed pdu link = violating_none link
admitting_none (RetransmittedData items) phase.Start pdu link = violating_none link
admitting_none (RetransmittedData items) phase.Up pdu link = violating_none link
admitting_none (RetransmittedData items) phase.RetransmissionRequested pdu link = tt
admitting_none (RetransmittedData items) phase.RetransmissionRunning pdu link = in_turn_none pdu link

testing_none : (pdu : Pdu) (link : LinkState) → NoneIn (testing pdu link)
unfolding testing
testing_none pdu link =
    by_test NoneIn (nat_lt sequence_range (ahead pdu link)) (refusing verdict.OutOfRange link) _ (λ e. tt) (λ e.
    by_test NoneIn (is_stale pdu link) (refusing verdict.Stale link) _ (λ f. tt) (λ f.
    by_test NoneIn (not (confirms pdu link)) (refusing verdict.BadConfirm link) (admitting (admission pdu.body link.phase) pdu link) (λ g. tt) (λ g.
    admitting_none pdu.body link.phase pdu link)))

connected_none : (body : Body) (pdu : Pdu) (link : LinkState) → NoneIn (connected body pdu link)
unfolding connected
connected_none (ConnectionRequest opening) pdu link =
    by_test NoneIn (is_opening_again pdu link) (refusing verdict.Discarded link) (violating link) (λ e. tt) (λ e. violating_none link)
connected_none (ConnectionResponse opening) pdu link = testing_none pdu link
connected_none RetransmissionRequest pdu link = testing_none pdu link
connected_none RetransmissionResponse pdu link = testing_none pdu link
connected_none (DisconnectionRequest detail why) pdu link = testing_none pdu link
connected_none Heartbeat pdu link = testing_none pdu link
connected_none (Data items) pdu link = testing_none pdu link
connected_none (RetransmittedData items) pdu link = testing_none pdu link

judging_none : (opening : Opening) (agreed : LinkState → Step) (link : LinkState) → NoRequest (agreed link) → NoRequest (judging opening agreed link)
unfolding judging
judging_none opening agreed link none =
    by_test NoRequest (pointwise nat_eq opening.version own_version) (if opening.window == window_size then agreed link else telling reason.Window link) (telling reason.Version link) (λ e.
    by_test NoRequest (opening.window == window_size) (agreed link) (telling reason.Window link) (λ f. none) (λ f. telling_none reason.Window link))
    (λ e. telling_none reason.Version link)

answers_none : (opening : Opening) (link : LinkState) → NoRequest (sending (ConnectionResponse opening) link)
unfolding sending pdu_of
answers_none opening link = (no, tt)

beats_none : (link : LinkState) → NoRequest (sending Heartbeat link)
unfolding sending pdu_of
beats_none link = (no, tt)

granting_none : (pdu : Pdu) (opening : Opening) (link : LinkState) → NoRequest (granting pdu opening link)
unfolding granting
granting_none pdu opening link = judging_none opening (sending (ConnectionResponse own_opening)) (meeting pdu (beginning link)) (answers_none own_opening (meeting pdu (beginning link)))

joining_none : (pdu : Pdu) (opening : Opening) (link : LinkState) → NoRequest (joining pdu opening link)
unfolding joining
joining_none pdu opening link = judging_none opening (sending Heartbeat) (record (meeting pdu link) { phase = phase.Up }) (beats_none (record (meeting pdu link) { phase = phase.Up }))

resting_none : (body : Body) (pdu : Pdu) (link : LinkState) → NoneIn (resting body pdu link)
unfolding resting
resting_none (ConnectionRequest opening) pdu link =
    by_test NoneIn (is_client link.identity.role) (refusing verdict.WrongState link) (accepting (granting pdu opening link)) (λ e. tt) (λ e. granting_none pdu opening link)
resting_none (ConnectionResponse opening) pdu link = tt
resting_none RetransmissionRequest pdu link = tt
resting_none RetransmissionResponse pdu link = tt
resting_none (DisconnectionRequest detail why) pdu link = tt
resting_none Heartbeat pdu link = tt
resting_none (Data items) pdu link = tt
resting_none (RetransmittedData items) pdu link = tt

asking_none : (body : Body) (pdu : Pdu) (link : LinkState) → NoneIn (asking body pdu link)
unfolding asking
asking_none (ConnectionRequest opening) pdu link = violating_none link
asking_none (ConnectionResponse opening) pdu link =
    by_test NoneIn (answers_request pdu link) (accepting (joining pdu opening link)) (refusing verdict.BadConfirm link) (λ e. joining_none pdu opening link) (λ e. tt)
asking_none RetransmissionRequest pdu link = violating_none link
asking_none RetransmissionResponse pdu link = violating_none link
asking_none (DisconnectionRequest detail why) pdu link =
    by_test NoneIn (answers_request pdu link) (accepting (silent (closed link))) (refusing verdict.BadConfirm link) (λ e. tt) (λ e. tt)
asking_none Heartbeat pdu link = violating_none link
asking_none (Data items) pdu link = violating_none link
asking_none (RetransmittedData items) pdu link = violating_none link

by_state_none : (s : State) (pdu : Pdu) (link : LinkState) → NoneIn (by_state s pdu link)
unfolding by_state
by_state_none state.Quiet pdu link = tt
by_state_none state.Down pdu link = resting_none pdu.body pdu link
by_state_none state.Start pdu link =
    by_test NoneIn (is_client link.identity.role) (asking pdu.body pdu link) (connected pdu.body pdu link) (λ e. asking_none pdu.body pdu link) (λ e. connected_none pdu.body pdu link)
by_state_none state.Up pdu link = connected_none pdu.body pdu link
by_state_none state.RetransmissionRequested pdu link = connected_none pdu.body pdu link
by_state_none state.RetransmissionRunning pdu link = connected_none pdu.body pdu link

hearing_none : (pdu : Pdu) (link : LinkState) → NoneIn (hearing pdu link)
unfolding hearing
hearing_none pdu link =
    by_test NoneIn (not (pdu.receiver == link.identity.own)) (refusing verdict.NotForMe link) _ (λ e. tt) (λ e.
    by_test NoneIn (not (pdu.sender == link.identity.partner)) (refusing verdict.WrongSender link) (by_state (state_at link.clock link) pdu link) (λ f. tt) (λ f.
    by_state_none (state_at link.clock link) pdu link))

bytes_none : (found : Result Pdu PduFault) (link : LinkState) → NoneIn (hearing_bytes found link)
unfolding hearing_bytes
bytes_none (Ok pdu) link = hearing_none pdu link
bytes_none (Err fault) link = tt

-- ---- each call

pub call_asks_none : (now : ℕ) (call : Call) (link : LinkState) → begins now call link ≡ false → AsksNone (made_by now call link).pdus
unfolding made_by ticking opening opens closing_by sending_item receiving
call_asks_none now Ticks link none = none_then (entered now link).pdus _ (entered_none now link) (beating_none (entered now link).link)
call_asks_none now Opens link none = none_then (entered now link).pdus _ (entered_none now link) (opening_none (entered now link).link none)
call_asks_none now (Closes why) link none = none_then (entered now link).pdus _ (entered_none now link) (closing_none why (entered now link).link)
call_asks_none now (Sends item) link none = none_then (entered now link).pdus _ (entered_none now link) (giving_none item (entered now link).link)
call_asks_none now (Receives bytes connection) link none = none_then (entered now link).pdus _ (entered_none now link) (bytes_none (reading link.identity.key bytes) (entered now link).link)

-- ---- a client that opens

limited_silent : (link : LinkState) → may_open (limited link).link ≡ true → (limited link).pdus ≡ []
unfolding limited
limited_silent link = by_test (λ (step : Step). may_open step.link ≡ true → step.pdus ≡ []) (is_open link.phase && nat_le connection_limit link.sent) (telling reason.Sequence link) (silent link)
    (λ e may. absurd (later_not_down (telling reason.Sequence link).link (told_shut link).0 (told_shut link).1 (and_second (is_client _) _ may)))
    (λ e may. refl)

requesting_once : (link : LinkState) → AsksOnce (requesting link).pdus
unfolding requesting sending pdu_of
requesting_once link = record { pdu = _; alone = refl; request = tt }

opened_once : (now : ℕ) (link : LinkState) → IsSettled now link → opens now link ≡ true → AsksOnce (opening now link).pdus
unfolding opening opens entered
opened_once now link settles may =
    let quiet : (limited (settled now link)).pdus ≡ [] = limited_silent (settled now link) may
    in subst (λ (before : List Pdu). AsksOnce (before ++ (if may_open (limited (settled now link)).link then requesting (limited (settled now link)).link else silent (limited (settled now link)).link).pdus)) (sym quiet)
    (by_test (λ (step : Step). AsksOnce step.pdus) (may_open (limited (settled now link)).link) (requesting (limited (settled now link)).link) (silent (limited (settled now link)).link)
    (λ e. requesting_once (limited (settled now link)).link) (λ e. absurd (cc (e, may))))

pub call_asks_once : (now : ℕ) (call : Call) (link : LinkState) → IsSettled now link → begins now call link ≡ true → AsksOnce (made_by now call link).pdus
unfolding made_by
call_asks_once now Opens link settles may = opened_once now link settles may
call_asks_once now Ticks link settles may = absurd (cc may)
call_asks_once now (Closes why) link settles may = absurd (cc may)
call_asks_once now (Sends item) link settles may = absurd (cc may)
call_asks_once now (Receives bytes connection) link settles may = absurd (cc may)
