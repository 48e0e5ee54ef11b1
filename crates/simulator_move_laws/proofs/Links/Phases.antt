-- A client that has its server's answer doesn't ask again: no call of its leads back to the phase in which it starts.
use Rattle.std.proofs.Common.{◌≡◌, ℕ, Bool, true, false, ◌&&◌, not, nat_le, nat_lt, ◌-◌, ◌+◌, List, Result, Ok, Err, refl, ap, ◌∙◌}
use Rattle.std.specs.Prelude.{◌==◌, if◌then◌else◌, is_ok}
use Rattle.rasta_core.specs.Parameters.{connection_limit, heartbeat_interval, sequence_range, quiet_time}
use Rattle.rasta_core.specs.Clock.{deadline, open_state, settled, state_at}
use Rattle.rasta_core.specs.State.{LinkState, is_client, is_open, is_up}
use Rattle.rasta_core.specs.Establishment.{is_down, may_open, requesting}
use Rattle.rasta_core.specs.PdusHandedOut.{Step, silent, entered, limited, sending, telling, beating, giving, closing}
use Rattle.rasta_core.specs.Receipt.{Receipt, admission, admitting, ahead, answering, bringing, by_state, confirms, connected, handing, hearing, in_turn, is_opening_again, is_stale, missing, refusing, repeating, resting, taking, testing, violating}
use Rattle.rasta_core.specs.Calls.{acceptance, closing_by, hearing_bytes, opening, opens, receiving, sending_item, ticking}
use Rattle.rasta_core.specs.identity.Identity.{Identity}
use Rattle.rasta_core.specs.phase.Phase.{Phase}
use Rattle.rasta_core.specs.phase.Phase.TheVariants as phase
use Rattle.rasta_core.specs.phase.State.{State}
use Rattle.rasta_core.specs.phase.State.TheVariants as state
use Rattle.rasta_core.specs.reason.Reason.{Reason}
use Rattle.rasta_core.specs.reason.Reason.TheVariants as reason
use Rattle.rasta_core.specs.verdict.Verdict.TheVariants as verdict
use Rattle.rasta_pdu.specs.declared.body.Body.{Body}
use Rattle.rasta_pdu.specs.declared.body.Body.TheVariants.{ConnectionRequest, ConnectionResponse, RetransmissionRequest, RetransmissionResponse, DisconnectionRequest, Heartbeat, Data, RetransmittedData}
use Rattle.rasta_pdu.specs.declared.fault.PduFault.{PduFault}
use Rattle.rasta_pdu.specs.declared.pdu.Pdu.{Pdu}
use Rattle.rasta_pdu.specs.PduRead.{reading}
use Rattle.simulator_move_laws.proofs.Links.Tests.{by_test}

-- a link that doesn't start a connection
abbrev pub IsNoStart : Phase → Type 0
IsNoStart phase.Closed = Unit {0}
IsNoStart phase.Start = ⊥
IsNoStart phase.Up = Unit {0}
IsNoStart phase.RetransmissionRequested = Unit {0}
IsNoStart phase.RetransmissionRunning = Unit {0}

abbrev pub Fine : LinkState → Type 0
Fine link = IsNoStart link.phase

pub up_fine : (at : Phase) → is_up at ≡ true → IsNoStart at
up_fine phase.Closed e = tt
up_fine phase.Start e = absurd (cc e)
up_fine phase.Up e = tt
up_fine phase.RetransmissionRequested e = tt
up_fine phase.RetransmissionRunning e = tt

pub fine_up : (at : Phase) → IsNoStart at → is_open at ≡ true → is_up at ≡ true
fine_up phase.Closed fine e = absurd (cc e)
fine_up phase.Start fine e = absurd fine
fine_up phase.Up fine e = refl
fine_up phase.RetransmissionRequested fine e = refl
fine_up phase.RetransmissionRunning fine e = refl

fine_state : (at : Phase) → IsNoStart at → open_state at ≡ state.Start → ⊥
fine_state phase.Closed fine e = cc e
fine_state phase.Start fine e = fine
fine_state phase.Up fine e = cc e
fine_state phase.RetransmissionRequested fine e = cc e
fine_state phase.RetransmissionRunning fine e = cc e

-- ---- the clock rules

pub settled_fine : (now : ℕ) (link : LinkState) → Fine link → Fine (settled now link)
unfolding settled
settled_fine now link fine = by_test Fine (is_open link.phase && nat_le (deadline link) now) _ (record link { clock = now }) (λ e. tt) (λ e. fine)

limited_fine : (link : LinkState) → Fine link → Fine (limited link).link
unfolding limited telling
limited_fine link fine = by_test (λ (step : Step). Fine step.link) (is_open link.phase && nat_le connection_limit link.sent) (telling reason.Sequence link) (silent link) (λ e. tt) (λ e. fine)

entered_fine : (now : ℕ) (link : LinkState) → Fine link → Fine (entered now link).link
unfolding entered
entered_fine now link fine = limited_fine (settled now link) (settled_fine now link fine)

-- ---- calls without a datagram

beating_fine : (link : LinkState) → Fine link → Fine (beating link).link
unfolding beating sending
beating_fine link fine = by_test (λ (step : Step). Fine step.link) (is_up link.phase && nat_le heartbeat_interval (link.clock - link.sent_at)) (sending Heartbeat link) (silent link) (λ e. fine) (λ e. fine)

giving_fine : (item : List ℕ) (link : LinkState) → Fine link → Fine (if is_ok (acceptance link) then giving item link else silent link).link
unfolding giving sending
giving_fine item link fine = by_test (λ (step : Step). Fine step.link) (is_ok (acceptance link)) (giving item link) (silent link) (λ e. fine) (λ e. fine)

shuts : (why : Reason) (link : LinkState) → Fine (closing why link).link
unfolding closing telling
shuts reason.User link = tt
shuts reason.State link = tt
shuts reason.Sequence link = tt
shuts reason.Time link = tt
shuts reason.Version link = tt
shuts reason.Window link = tt

closing_fine : (why : Reason) (link : LinkState) → Fine link → Fine (if is_open link.phase then closing why link else silent link).link
closing_fine why link fine = by_test (λ (step : Step). Fine step.link) (is_open link.phase) (closing why link) (silent link) (λ e. shuts why link) (λ e. fine)

opening_fine : (link : LinkState) → Fine link → may_open link ≡ false → Fine (if may_open link then requesting link else silent link).link
opening_fine link fine may = by_test (λ (step : Step). Fine step.link) (may_open link) (requesting link) (silent link) (λ e. absurd (cc (e, may))) (λ e. fine)

-- ---- datagrams

bringing_fine : (body : Body) (link : LinkState) → Fine link → Fine (bringing body link).link
unfolding bringing handing answering repeating sending
bringing_fine (ConnectionRequest opening) link fine = tt
bringing_fine (ConnectionResponse opening) link fine = tt
bringing_fine RetransmissionRequest link fine = fine
bringing_fine RetransmissionResponse link fine = tt
bringing_fine (DisconnectionRequest detail why) link fine = tt
bringing_fine Heartbeat link fine = tt
bringing_fine (Data items) link fine = tt
bringing_fine (RetransmittedData items) link fine = fine

taking_fine : (pdu : Pdu) (link : LinkState) → Fine link → Fine (taking pdu link)
unfolding taking
taking_fine pdu link fine = fine

missing_fine : (link : LinkState) → Fine (missing link).link
unfolding missing
missing_fine link = tt

in_turn_fine : (pdu : Pdu) (link : LinkState) → Fine link → Fine (in_turn pdu link).link
unfolding in_turn
in_turn_fine pdu link fine = by_test (λ (receipt : Receipt). Fine receipt.link) (ahead pdu link == 0) (bringing pdu.body (taking pdu link)) (missing link)
    (λ e. bringing_fine pdu.body (taking pdu link) (taking_fine pdu link fine)) (λ e. missing_fine link)

violating_fine : (link : LinkState) → Fine (violating link).link
unfolding telling
violating_fine link = tt

-- whatever the type of the PDU, and the phase in which it comes
admitting_fine : (body : Body) (at : Phase) (pdu : Pdu) (link : LinkState) → Fine link → Fine (admitting (admission body at) pdu link).link
unfolding admitting
admitting_fine (ConnectionRequest opening) at pdu link fine = violating_fine link
admitting_fine (ConnectionResponse opening) at pdu link fine = violating_fine link
admitting_fine (DisconnectionRequest detail why) at pdu link fine = tt
admitting_fine RetransmissionRequest phase.Closed pdu link fine = in_turn_fine pdu link fine
admitting_fine RetransmissionRequest phase.Start pdu link fine = violating_fine link
admitting_fine RetransmissionRequest phase.Up pdu link fine = in_turn_fine pdu link fine
admitting_fine RetransmissionRequest phase.RetransmissionRequested pdu link fine = fine
admitting_fine RetransmissionRequest phase.RetransmissionRunning pdu link fine = in_turn_fine pdu link fine
admitting_fine RetransmissionResponse phase.Closed pdu link fine = violating_fine link
admitting_fine RetransmissionResponse phase.Start pdu link fine = violating_fine link
admitting_fine RetransmissionResponse phase.Up pdu link fine = violating_fine link
admitting_fine RetransmissionResponse phase.RetransmissionRequested pdu link fine = tt
admitting_fine RetransmissionResponse phase.RetransmissionRunning pdu link fine = violating_fine link
admitting_fine Heartbeat phase.Closed pdu link fine = in_turn_fine pdu link fine
admitting_fine Heartbeat phase.Start pdu link fine = in_turn_fine pdu link fine
admitting_fine Heartbeat phase.Up pdu link fine = in_turn_fine pdu link fine
admitting_fine Heartbeat phase.RetransmissionRequested pdu link fine = fine
admitting_fine Heartbeat phase.RetransmissionRunning pdu link fine = in_turn_fine pdu link fine
admitting_fine (Data items) phase.Closed pdu link fine = in_turn_fine pdu link fine
admitting_fine (Data items) phase.Start pdu link fine = in_turn_fine pdu link fine
admitting_fine (Data items) phase.Up pdu link fine = in_turn_fine pdu link fine
admitting_fine (Data items) phase.RetransmissionRequested pdu link fine = fine
admitting_fine (Data items) phase.RetransmissionRunning pdu link fine = in_turn_fine pdu link fine
admitting_fine (RetransmittedData items) phase.Closed pdu link fine = violating_fine link
admitting_fine (RetransmittedData items) phase.Start pdu link fine = violating_fine link
admitting_fine (RetransmittedData items) phase.Up pdu link fine = violating_fine link
admitting_fine (RetransmittedData items) phase.RetransmissionRequested pdu link fine = fine
admitting_fine (RetransmittedData items) phase.RetransmissionRunning pdu link fine = in_turn_fine pdu link fine

testing_fine : (pdu : Pdu) (link : LinkState) → Fine link → Fine (testing pdu link).link
unfolding testing
testing_fine pdu link fine =
    by_test FineReceipt (nat_lt sequence_range (ahead pdu link)) (refusing verdict.OutOfRange link) _ (λ e. fine) (λ e.
    by_test FineReceipt (is_stale pdu link) (refusing verdict.Stale link) _ (λ f. fine) (λ f.
    by_test FineReceipt (not (confirms pdu link)) (refusing verdict.BadConfirm link) (admitting (admission pdu.body link.phase) pdu link) (λ g. fine) (λ g.
    admitting_fine pdu.body link.phase pdu link fine)))
  where
    FineReceipt : Receipt → Type 0
    FineReceipt receipt = Fine receipt.link

connected_fine : (body : Body) (pdu : Pdu) (link : LinkState) → Fine link → Fine (connected body pdu link).link
unfolding connected
connected_fine (ConnectionRequest opening) pdu link fine =
    by_test (λ (receipt : Receipt). Fine receipt.link) (is_opening_again pdu link) (refusing verdict.Discarded link) (violating link) (λ e. fine) (λ e. violating_fine link)
connected_fine (ConnectionResponse opening) pdu link fine = testing_fine pdu link fine
connected_fine RetransmissionRequest pdu link fine = testing_fine pdu link fine
connected_fine RetransmissionResponse pdu link fine = testing_fine pdu link fine
connected_fine (DisconnectionRequest detail why) pdu link fine = testing_fine pdu link fine
connected_fine Heartbeat pdu link fine = testing_fine pdu link fine
connected_fine (Data items) pdu link fine = testing_fine pdu link fine
connected_fine (RetransmittedData items) pdu link fine = testing_fine pdu link fine

resting_fine : (body : Body) (pdu : Pdu) (link : LinkState) → is_client link.identity.role ≡ true → Fine link → Fine (resting body pdu link).link
unfolding resting
resting_fine (ConnectionRequest opening) pdu link client fine =
    by_test (λ (receipt : Receipt). Fine receipt.link) (is_client link.identity.role) (refusing verdict.WrongState link) _ (λ e. fine) (λ e. absurd (cc (e, client)))
resting_fine (ConnectionResponse opening) pdu link client fine = fine
resting_fine RetransmissionRequest pdu link client fine = fine
resting_fine RetransmissionResponse pdu link client fine = fine
resting_fine (DisconnectionRequest detail why) pdu link client fine = fine
resting_fine Heartbeat pdu link client fine = fine
resting_fine (Data items) pdu link client fine = fine
resting_fine (RetransmittedData items) pdu link client fine = fine

-- a link that doesn't start isn't told to
not_starting : (now : ℕ) (link : LinkState) → Fine link → state_at now link ≡ state.Start → ⊥
unfolding state_at
not_starting now link fine = by_test (λ (s : State). s ≡ state.Start → ⊥) (is_open link.phase && nat_lt now (deadline link)) (open_state link.phase) _
    (λ e. fine_state link.phase fine)
    (λ e. by_test (λ (s : State). s ≡ state.Start → ⊥) (nat_lt now (deadline link + quiet_time)) state.Quiet state.Down (λ f g. cc g) (λ f g. cc g))

by_state_fine : (s : State) (pdu : Pdu) (link : LinkState) → is_client link.identity.role ≡ true → Fine link → (s ≡ state.Start → ⊥) → Fine (by_state s pdu link).link
unfolding by_state
by_state_fine state.Quiet pdu link client fine none = fine
by_state_fine state.Down pdu link client fine none = resting_fine pdu.body pdu link client fine
by_state_fine state.Start pdu link client fine none = absurd (none refl)
by_state_fine state.Up pdu link client fine none = connected_fine pdu.body pdu link fine
by_state_fine state.RetransmissionRequested pdu link client fine none = connected_fine pdu.body pdu link fine
by_state_fine state.RetransmissionRunning pdu link client fine none = connected_fine pdu.body pdu link fine

hearing_fine : (pdu : Pdu) (link : LinkState) → is_client link.identity.role ≡ true → Fine link → Fine (hearing pdu link).link
unfolding hearing
hearing_fine pdu link client fine =
    by_test FineReceipt (not (pdu.receiver == link.identity.own)) (refusing verdict.NotForMe link) _ (λ e. fine) (λ e.
    by_test FineReceipt (not (pdu.sender == link.identity.partner)) (refusing verdict.WrongSender link) (by_state (state_at link.clock link) pdu link) (λ f. fine) (λ f.
    by_state_fine (state_at link.clock link) pdu link client fine (not_starting link.clock link fine)))
  where
    FineReceipt : Receipt → Type 0
    FineReceipt receipt = Fine receipt.link

bytes_fine : (found : Result Pdu PduFault) (link : LinkState) → is_client link.identity.role ≡ true → Fine link → Fine (hearing_bytes found link).link
unfolding hearing_bytes
bytes_fine (Ok pdu) link client fine = hearing_fine pdu link client fine
bytes_fine (Err fault) link client fine = fine

-- ---- each call

-- the clock rules and the limit leave an end its identity
settled_identity : (now : ℕ) (link : LinkState) → (settled now link).identity ≡ link.identity
unfolding settled
settled_identity now link = by_test (λ (l : LinkState). l.identity ≡ link.identity) (is_open link.phase && nat_le (deadline link) now) _ (record link { clock = now }) (λ e. refl) (λ e. refl)

limited_identity : (link : LinkState) → (limited link).link.identity ≡ link.identity
unfolding limited telling sending
limited_identity link = by_test (λ (step : Step). step.link.identity ≡ link.identity) (is_open link.phase && nat_le connection_limit link.sent) (telling reason.Sequence link) (silent link) (λ e. refl) (λ e. refl)

entered_identity : (now : ℕ) (link : LinkState) → (entered now link).link.identity ≡ link.identity
unfolding entered
entered_identity now link = limited_identity (settled now link) ∙ settled_identity now link

pub ticking_fine : (now : ℕ) (link : LinkState) → Fine link → Fine (ticking now link).link
unfolding ticking
ticking_fine now link fine = beating_fine (entered now link).link (entered_fine now link fine)

pub closing_by_fine : (now : ℕ) (why : Reason) (link : LinkState) → Fine link → Fine (closing_by now why link).link
unfolding closing_by
closing_by_fine now why link fine = closing_fine why (entered now link).link (entered_fine now link fine)

pub sending_item_fine : (now : ℕ) (item : List ℕ) (link : LinkState) → Fine link → Fine (sending_item now item link).link
unfolding sending_item
sending_item_fine now item link fine = giving_fine item (entered now link).link (entered_fine now link fine)

pub opening_none_fine : (now : ℕ) (link : LinkState) → opens now link ≡ false → Fine link → Fine (opening now link).link
unfolding opening opens
opening_none_fine now link may fine = opening_fine (entered now link).link (entered_fine now link fine) may

pub receiving_fine : (now : ℕ) (bytes : List ℕ) (link : LinkState) → is_client link.identity.role ≡ true → Fine link → Fine (receiving now bytes link).link
unfolding receiving
receiving_fine now bytes link client fine = bytes_fine (reading link.identity.key bytes) (entered now link).link
    (ap (λ (i : Identity). is_client i.role) (entered_identity now link) ∙ client) (entered_fine now link fine)

-- a server opens no connection
pub server_opens : (now : ℕ) (link : LinkState) → is_client link.identity.role ≡ false → opens now link ≡ false
unfolding opens
server_opens now link server =
    ap (λ (b : Bool). b && is_down (state_at (entered now link).link.clock (entered now link).link)) (ap (λ (i : Identity). is_client i.role) (entered_identity now link) ∙ server)
