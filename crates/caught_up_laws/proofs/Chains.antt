-- What calls hand out repeats an item in a retransmission alone.
use Rattle.std.proofs.Common.{ℕ, ◌+◌, ◌-◌, Bool, true, false, ◌&&◌, not, if◌then◌else◌, List, [], ◌∷◌, ◌++◌, Result, Ok, Err, refl}
use Rattle.std.specs.Prelude.{◌==◌, is_ok, nat_eq, nat_le, nat_lt}
use Rattle.std.specs.Cmp.Lexicographic.{pointwise}
use Rattle.rasta_core_spec.specs.Parameters.{connection_limit, heartbeat_interval, own_version, sequence_range, window_size}
use Rattle.rasta_core_spec.specs.State.{LinkState, is_client, is_open, is_up}
use Rattle.rasta_core_spec.specs.Clock.{settled, state_at}
use Rattle.rasta_core_spec.specs.PdusHandedOut.{Step, beating, closed, closing, entered, giving, header_of, is_told, limited, pdu_of, sending, silent, telling, then_do}
use Rattle.rasta_core_spec.specs.Establishment.{beginning, granting, joining, judging, may_open, meeting, own_opening, requesting}
use Rattle.rasta_core_spec.specs.Receipt.{Receipt, accepting, admission, admitting, ahead, answering, answers_request, asking, bringing, by_state, confirms, connected, handing, hearing, in_turn, is_opening_again, is_stale, missing, refusing, repeated, repeating, resting, taking, testing, violating}
use Rattle.rasta_core_spec.specs.Calls.{acceptance, closing_by, hearing_bytes, opening, receiving, sending_item, ticking}
use Rattle.rasta_core_spec.specs.Ends.{Call, Closes, EndState, Opens, Receives, Sends, Ticks, outcome, reading_of}
use Rattle.rasta_core_spec.specs.header.Header.{Header}
use Rattle.rasta_core_spec.specs.window.Unconfirmed.{Unconfirmed}
use Rattle.rasta_core_spec.specs.reason.Reason.{Reason}
use Rattle.rasta_core_spec.specs.reason.Reason.TheVariants as reason
use Rattle.rasta_core_spec.specs.verdict.Verdict.TheVariants as verdict
use Rattle.rasta_core_spec.specs.phase.Phase.{Phase}
use Rattle.rasta_core_spec.specs.phase.Phase.TheVariants as phase
use Rattle.rasta_core_spec.specs.phase.State.{State}
use Rattle.rasta_core_spec.specs.phase.State.TheVariants as state
use Rattle.rasta_core_spec.specs.pdu.Pdu.{Pdu}
use Rattle.rasta_core_spec.specs.pdu_fault.PduFault.{PduFault}
use Rattle.rasta_core_spec.specs.PduRead.{reading}
use Rattle.rasta_core_spec.specs.body.Opening.{Opening}
use Rattle.rasta_core_spec.specs.body.Body.{Body}
use Rattle.rasta_core_spec.specs.body.Body.TheVariants.{ConnectionRequest, ConnectionResponse, RetransmissionRequest, RetransmissionResponse, DisconnectionRequest, Heartbeat, Data, RetransmittedData}
use Rattle.caught_up_laws.specs.Chain.{Chained, MayFollow, repeats}
use Rattle.caught_up_laws.proofs.Lists.{by_test}

-- what may come first may come anywhere
anywhere : (before : Bool) (pdus : List Pdu) → Chained false pdus → Chained before pdus
anywhere before [] is = tt
anywhere before (first ∷ others) is = (go first.body is.0, is.1)
  where
    go : (body : Body) → MayFollow false body → MayFollow before body
    go (ConnectionRequest opening) e = tt
    go (ConnectionResponse opening) e = tt
    go RetransmissionRequest e = tt
    go RetransmissionResponse e = tt
    go (DisconnectionRequest detail why) e = tt
    go Heartbeat e = tt
    go (Data items) e = tt
    go (RetransmittedData items) e = absurd (cc (e))

pub chained_append : (before : Bool) (one other : List Pdu) → Chained before one → Chained false other → Chained before (one ++ other)
chained_append before [] other a b = anywhere before other b
chained_append before (first ∷ others) other a b = (a.0, chained_append (repeats first.body) others other a.1 b)

abbrev Fine : Step → Type 0
Fine step = Chained false step.pdus

abbrev FineReceipt : Receipt → Type 0
FineReceipt receipt = Chained false receipt.pdus

after_both : (first : Step) (next : LinkState → Step) → Fine first → Fine (next first.link) → Fine (then_do first next)
after_both first next a b = chained_append false first.pdus (next first.link).pdus a b

tells : (why : Reason) (link : LinkState) → Fine (telling why link)
unfolding telling sending pdu_of
tells why link = (tt, tt)

enters_fine : (now : ℕ) (link : LinkState) → Fine (entered now link)
unfolding entered limited
enters_fine now link = by_test Fine (is_open (settled now link).phase && nat_le connection_limit (settled now link).sent) _ _ (λ e. tells reason.Sequence (settled now link)) (λ e. tt)

beats : (link : LinkState) → Fine (beating link)
unfolding beating sending pdu_of
beats link = by_test Fine (is_up link.phase && nat_le heartbeat_interval (link.clock - link.sent_at)) _ (silent link) (λ e. (tt, tt)) (λ e. tt)

closes : (why : Reason) (link : LinkState) → Fine (closing why link)
unfolding closing
closes why link = by_test Fine (is_told why) (telling why link) (silent (closed link)) (λ e. tells why link) (λ e. tt)

gives : (item : List ℕ) (link : LinkState) → Fine (giving item link)
unfolding giving sending pdu_of
gives item link = (tt, tt)

requests : (link : LinkState) → Fine (requesting link)
unfolding requesting sending pdu_of
requests link = (tt, tt)

-- ---- hearing

again : (header : Header) (count : ℕ) (waiting : List Unconfirmed) → Chained true (repeated header count waiting)
unfolding repeated pdu_of
again header count [] = tt
again header count (first ∷ others) = (refl, again header (count + 1) others)

answers : (link : LinkState) → Fine (answering link)
unfolding answering sending repeating pdu_of
answers link = chained_append false (pdu_of (header_of link) link.sent RetransmissionResponse ∷ repeated _ _ link.waiting) _ (tt, again _ _ link.waiting) (tt, tt)

misses : (link : LinkState) → FineReceipt (missing link)
unfolding missing sending pdu_of
misses link = (tt, tt)

violates : (link : LinkState) → FineReceipt (violating link)
violates link = tells reason.State link

brings : (body : Body) (link : LinkState) → FineReceipt (bringing body link)
unfolding bringing handing
brings (ConnectionRequest opening) link = tt
brings (ConnectionResponse opening) link = tt
brings RetransmissionRequest link = answers link
brings RetransmissionResponse link = tt
brings (DisconnectionRequest detail why) link = tt
brings Heartbeat link = tt
brings (Data items) link = tt
brings (RetransmittedData items) link = tt

turns : (pdu : Pdu) (link : LinkState) → FineReceipt (in_turn pdu link)
unfolding in_turn
turns pdu link = by_test FineReceipt (ahead pdu link == 0) (bringing pdu.body (taking pdu link)) (missing link) (λ e. brings pdu.body (taking pdu link)) (λ e. misses link)

admits_fine : (pdu : Pdu) (link : LinkState) (body : Body) (its : Phase) → FineReceipt (admitting (admission body its) pdu link)
unfolding admitting
admits_fine pdu link (ConnectionRequest opening) phase.Closed = violates link
admits_fine pdu link (ConnectionRequest opening) phase.Start = violates link
admits_fine pdu link (ConnectionRequest opening) phase.Up = violates link
admits_fine pdu link (ConnectionRequest opening) phase.RetransmissionRequested = violates link
admits_fine pdu link (ConnectionRequest opening) phase.RetransmissionRunning = violates link
admits_fine pdu link (ConnectionResponse opening) phase.Closed = violates link
admits_fine pdu link (ConnectionResponse opening) phase.Start = violates link
admits_fine pdu link (ConnectionResponse opening) phase.Up = violates link
admits_fine pdu link (ConnectionResponse opening) phase.RetransmissionRequested = violates link
admits_fine pdu link (ConnectionResponse opening) phase.RetransmissionRunning = violates link
admits_fine pdu link RetransmissionRequest phase.Closed = turns pdu link
admits_fine pdu link RetransmissionRequest phase.Start = violates link
admits_fine pdu link RetransmissionRequest phase.Up = turns pdu link
admits_fine pdu link RetransmissionRequest phase.RetransmissionRequested = tt
admits_fine pdu link RetransmissionRequest phase.RetransmissionRunning = turns pdu link
admits_fine pdu link RetransmissionResponse phase.Closed = violates link
admits_fine pdu link RetransmissionResponse phase.Start = violates link
admits_fine pdu link RetransmissionResponse phase.Up = violates link
admits_fine pdu link RetransmissionResponse phase.RetransmissionRequested = tt
admits_fine pdu link RetransmissionResponse phase.RetransmissionRunning = violates link
admits_fine pdu link (DisconnectionRequest detail why) phase.Closed = tt
admits_fine pdu link (DisconnectionRequest detail why) phase.Start = tt
admits_fine pdu link (DisconnectionRequest detail why) phase.Up = tt
admits_fine pdu link (DisconnectionRequest detail why) phase.RetransmissionRequested = tt
admits_fine pdu link (DisconnectionRequest detail why) phase.RetransmissionRunning = tt
admits_fine pdu link Heartbeat phase.Closed = turns pdu link
admits_fine pdu link Heartbeat phase.Start = turns pdu link
admits_fine pdu link Heartbeat phase.Up = turns pdu link
admits_fine pdu link Heartbeat phase.RetransmissionRequested = tt
admits_fine pdu link Heartbeat phase.RetransmissionRunning = turns pdu link
admits_fine pdu link (Data items) phase.Closed = turns pdu link
admits_fine pdu link (Data items) phase.Start = turns pdu link
admits_fine pdu link (Data items) phase.Up = turns pdu link
admits_fine pdu link (Data items) phase.RetransmissionRequested = tt
admits_fine pdu link (Data items) phase.RetransmissionRunning = turns pdu link
admits_fine pdu link (RetransmittedData items) phase.Closed = violates link
admits_fine pdu link (RetransmittedData items) phase.Start = violates link
admits_fine pdu link (RetransmittedData items) phase.Up = violates link
admits_fine pdu link (RetransmittedData items) phase.RetransmissionRequested = tt
admits_fine pdu link (RetransmittedData items) phase.RetransmissionRunning = turns pdu link

tests_fine : (pdu : Pdu) (link : LinkState) → FineReceipt (testing pdu link)
unfolding testing
tests_fine pdu link =
    by_test FineReceipt (nat_lt sequence_range (ahead pdu link)) (refusing verdict.OutOfRange link) _ (λ e. tt)
    (λ e. by_test FineReceipt (is_stale pdu link) (refusing verdict.Stale link) _ (λ f. tt)
    (λ f. by_test FineReceipt (not (confirms pdu link)) (refusing verdict.BadConfirm link) _ (λ g. tt) (λ g. admits_fine pdu link pdu.body link.phase)))

connected_fine : (pdu : Pdu) (link : LinkState) (body : Body) → FineReceipt (connected body pdu link)
unfolding connected
connected_fine pdu link (ConnectionRequest opening) = by_test FineReceipt (is_opening_again pdu link) (refusing verdict.Discarded link) (violating link) (λ e. tt) (λ e. violates link)
connected_fine pdu link (ConnectionResponse opening) = tests_fine pdu link
connected_fine pdu link RetransmissionRequest = tests_fine pdu link
connected_fine pdu link RetransmissionResponse = tests_fine pdu link
connected_fine pdu link (DisconnectionRequest detail why) = tests_fine pdu link
connected_fine pdu link Heartbeat = tests_fine pdu link
connected_fine pdu link (Data items) = tests_fine pdu link
connected_fine pdu link (RetransmittedData items) = tests_fine pdu link

judges : (opening : Opening) (agreed : LinkState → Step) (link : LinkState) → Fine (agreed link) → Fine (judging opening agreed link)
unfolding judging
judges opening agreed link fine =
    by_test Fine (pointwise nat_eq opening.version own_version) _ (telling reason.Version link)
    (λ e. by_test Fine (opening.window == window_size) (agreed link) (telling reason.Window link) (λ f. fine) (λ f. tells reason.Window link)) (λ e. tells reason.Version link)

joins_fine : (pdu : Pdu) (opening : Opening) (link : LinkState) → Fine (joining pdu opening link)
unfolding joining sending pdu_of
joins_fine pdu opening link = judges opening (sending Heartbeat) (record (meeting pdu link) { phase = phase.Up }) (tt, tt)

grants_fine : (pdu : Pdu) (opening : Opening) (link : LinkState) → Fine (granting pdu opening link)
unfolding granting sending pdu_of
grants_fine pdu opening link = judges opening (sending (ConnectionResponse own_opening)) (meeting pdu (beginning link)) (tt, tt)

asks_fine : (pdu : Pdu) (link : LinkState) (body : Body) → FineReceipt (asking body pdu link)
unfolding asking
asks_fine pdu link (ConnectionRequest opening) = violates link
asks_fine pdu link (ConnectionResponse opening) = by_test FineReceipt (answers_request pdu link) (accepting (joining pdu opening link)) (refusing verdict.BadConfirm link) (λ e. joins_fine pdu opening link) (λ e. tt)
asks_fine pdu link RetransmissionRequest = violates link
asks_fine pdu link RetransmissionResponse = violates link
asks_fine pdu link (DisconnectionRequest detail why) = by_test FineReceipt (answers_request pdu link) (accepting (silent (closed link))) (refusing verdict.BadConfirm link) (λ e. tt) (λ e. tt)
asks_fine pdu link Heartbeat = violates link
asks_fine pdu link (Data items) = violates link
asks_fine pdu link (RetransmittedData items) = violates link

rests_fine : (pdu : Pdu) (link : LinkState) (body : Body) → FineReceipt (resting body pdu link)
unfolding resting
rests_fine pdu link (ConnectionRequest opening) = by_test FineReceipt (is_client link.identity.role) (refusing verdict.WrongState link) (accepting (granting pdu opening link)) (λ e. tt) (λ e. grants_fine pdu opening link)
rests_fine pdu link (ConnectionResponse opening) = tt
rests_fine pdu link RetransmissionRequest = tt
rests_fine pdu link RetransmissionResponse = tt
rests_fine pdu link (DisconnectionRequest detail why) = tt
rests_fine pdu link Heartbeat = tt
rests_fine pdu link (Data items) = tt
rests_fine pdu link (RetransmittedData items) = tt

in_state : (pdu : Pdu) (link : LinkState) (present : State) → FineReceipt (by_state present pdu link)
unfolding by_state
in_state pdu link state.Quiet = tt
in_state pdu link state.Down = rests_fine pdu link pdu.body
in_state pdu link state.Start = by_test FineReceipt (is_client link.identity.role) (asking pdu.body pdu link) (connected pdu.body pdu link) (λ e. asks_fine pdu link pdu.body) (λ e. connected_fine pdu link pdu.body)
in_state pdu link state.Up = connected_fine pdu link pdu.body
in_state pdu link state.RetransmissionRequested = connected_fine pdu link pdu.body
in_state pdu link state.RetransmissionRunning = connected_fine pdu link pdu.body

hears_fine : (pdu : Pdu) (link : LinkState) → FineReceipt (hearing pdu link)
unfolding hearing
hears_fine pdu link =
    by_test FineReceipt (not (pdu.receiver == link.identity.own)) (refusing verdict.NotForMe link) _ (λ e. tt)
    (λ e. by_test FineReceipt (not (pdu.sender == link.identity.partner)) (refusing verdict.WrongSender link) (by_state (state_at link.clock link) pdu link) (λ f. tt) (λ f. in_state pdu link (state_at link.clock link)))

reads_fine : (found : Result Pdu PduFault) (link : LinkState) → FineReceipt (hearing_bytes found link)
unfolding hearing_bytes
reads_fine (Ok pdu) link = hears_fine pdu link
reads_fine (Err fault) link = tt

receives_fine : (now : ℕ) (bytes : List ℕ) (link : LinkState) → FineReceipt (receiving now bytes link)
unfolding receiving
receives_fine now bytes link =
    chained_append false (entered now link).pdus _ (enters_fine now link) (reads_fine (reading link.identity.key bytes) (entered now link).link)

-- ---- each call

pub calls_fine : (call : Call) (moment : ℕ) (end : EndState) → Chained false (outcome call moment end).pdus
unfolding outcome ticking opening closing_by sending_item
calls_fine Ticks moment end = after_both (entered (reading_of end.clock) end.link) beating (enters_fine (reading_of end.clock) end.link) (beats (entered (reading_of end.clock) end.link).link)
calls_fine Opens moment end = after_both (entered (reading_of end.clock) end.link) (λ l. if may_open l then requesting l else silent l) (enters_fine (reading_of end.clock) end.link)
    (by_test Fine (may_open (entered (reading_of end.clock) end.link).link) (requesting (entered (reading_of end.clock) end.link).link) _ (λ e. requests (entered (reading_of end.clock) end.link).link) (λ e. tt))
calls_fine (Closes why) moment end = after_both (entered (reading_of end.clock) end.link) (λ l. if is_open l.phase then closing why l else silent l) (enters_fine (reading_of end.clock) end.link)
    (by_test Fine (is_open (entered (reading_of end.clock) end.link).link.phase) (closing why (entered (reading_of end.clock) end.link).link) _ (λ e. closes why (entered (reading_of end.clock) end.link).link) (λ e. tt))
calls_fine (Sends item) moment end = after_both (entered (reading_of end.clock) end.link) (λ l. if is_ok (acceptance l) then giving item l else silent l) (enters_fine (reading_of end.clock) end.link)
    (by_test Fine (is_ok (acceptance (entered (reading_of end.clock) end.link).link)) (giving item (entered (reading_of end.clock) end.link).link) _ (λ e. gives item (entered (reading_of end.clock) end.link).link) (λ e. tt))
calls_fine (Receives bytes connection) moment end = receives_fine (reading_of end.clock) bytes end.link
