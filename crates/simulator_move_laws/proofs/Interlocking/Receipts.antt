-- What receiving does to a client's link.
use Rattle.std.proofs.Common.{◌≡◌, ℕ, true, not, List, refl, sym, ap, ◌∙◌}
use Rattle.std.specs.Prelude.{◌&&◌, ◌==◌, nat_lt, nat_le, ◌+◌, Result, Ok, Err}
use Rattle.std.specs.Cmp.Lexicographic.{pointwise}
use Rattle.std.specs.Prelude.{nat_eq}
use Rattle.std.proofs.lemmas.Bool.{true≢false, false≢true}
use Rattle.ixl_spec.specs.rasta_pdu.PduRead.{reading}
use Rattle.ixl_spec.specs.rasta_pdu.declared.pdu.Pdu.{Pdu}
use Rattle.ixl_spec.specs.rasta_pdu.declared.body.Opening.{Opening}
use Rattle.ixl_spec.specs.rasta_pdu.declared.body.Body.{Body}
use Rattle.ixl_spec.specs.rasta_pdu.declared.body.Body.TheVariants.{ConnectionRequest, ConnectionResponse, RetransmissionRequest, RetransmissionResponse, DisconnectionRequest, Heartbeat, Data, RetransmittedData}
use Rattle.ixl_spec.specs.rasta_pdu.declared.fault.PduFault.{PduFault}
use Rattle.ixl_spec.specs.rasta_core.Clock.{deadline, settled, state_at, open_state}
use Rattle.ixl_spec.specs.rasta_core.Calls.{hearing_bytes, receiving}
use Rattle.ixl_spec.specs.rasta_core.Establishment.{joining, judging, meeting}
use Rattle.ixl_spec.specs.rasta_core.Parameters.{connection_limit, own_version, quiet_time, sequence_range, window_size}
use Rattle.ixl_spec.specs.rasta_core.Receipt.{Receipt, admission, admitting, ahead, answering, asking, bringing, by_state, connected, handing, hearing, in_turn, missing, repeating, resting, taking, testing, violating, is_stale, confirms, is_opening_again, answers_request, up as upped}
use Rattle.ixl_spec.specs.rasta_core.PdusHandedOut.{Step, closed, entered, limited, sending, silent, telling}
use Rattle.ixl_spec.specs.rasta_core.State.{LinkState, is_client, is_open}
use Rattle.ixl_spec.specs.rasta_core.phase.Phase.{Phase}
use Rattle.ixl_spec.specs.rasta_core.phase.Phase.TheVariants as phase
use Rattle.ixl_spec.specs.rasta_core.phase.State.TheVariants as state
use Rattle.ixl_spec.specs.rasta_core.reason.Reason.{Reason}
use Rattle.ixl_spec.specs.rasta_core.reason.Reason.TheVariants as reason
use Rattle.simulator_move_laws.proofs.Interlocking.Tests.{by_test, both_true}
use Rattle.simulator_move_laws.proofs.Interlocking.Phases.{Goes, goes_same, goes_closed, goes_up, goes_then}

-- ---- how each call begins

pub settled_goes : (now : ℕ) (link : LinkState) → Goes link (settled now link)
unfolding settled
settled_goes now link = by_test (Goes link) (is_open link.phase && nat_le (deadline link) now) _ _
    (λ late. goes_closed link _ refl refl (both_true _ _ late).0) (λ early. goes_same link _ refl refl refl)

pub telling_goes : (why : Reason) (link : LinkState) → is_open link.phase ≡ true → Goes link (telling why link).link
unfolding telling sending
telling_goes why link inside = goes_closed link _ refl refl inside

limited_goes : (link : LinkState) → Goes link (limited link).link
unfolding limited
limited_goes link = by_test (λ (step : Step). Goes link step.link) (is_open link.phase && nat_le connection_limit link.sent) (telling reason.Sequence link) (silent link)
    (λ full. telling_goes reason.Sequence link (both_true _ _ full).0) (λ few. goes_same link _ refl refl refl)

pub entered_goes : (now : ℕ) (link : LinkState) → Goes link (entered now link).link
unfolding entered
entered_goes now link = goes_then link (settled now link) (entered now link).link (settled_goes now link) (limited_goes (settled now link))

-- ---- in a connection

violating_goes : (link : LinkState) → is_open link.phase ≡ true → Goes link (violating link).link
violating_goes link inside = telling_goes reason.State link inside

answering_same : (link : LinkState) → ((answering link).link.identity ≡ link.identity) × ((answering link).link.phase ≡ link.phase) × ((answering link).link.closed_at ≡ link.closed_at)
unfolding answering sending repeating
answering_same link = (refl, refl, refl)

-- a PDU that is taken leaves who the end is, its phase, and when it closed
taking_same : (pdu : Pdu) (link : LinkState) → ((taking pdu link).identity ≡ link.identity) × ((taking pdu link).phase ≡ link.phase) × ((taking pdu link).closed_at ≡ link.closed_at)
unfolding taking
taking_same pdu link = (refl, refl, refl)

taking_goes : (pdu : Pdu) (link : LinkState) → Goes link (taking pdu link)
taking_goes pdu link = goes_same link (taking pdu link) (taking_same pdu link).0 (taking_same pdu link).1 (taking_same pdu link).2

taking_open : (pdu : Pdu) (link : LinkState) → is_open link.phase ≡ true → is_open (taking pdu link).phase ≡ true
taking_open pdu link inside = ap is_open (taking_same pdu link).1 ∙ inside

upped_goes : (link : LinkState) → is_open link.phase ≡ true → Goes link (upped link)
upped_goes link inside = goes_up link (upped link) refl inside refl

bringing_goes : (body : Body) (link : LinkState) → is_open link.phase ≡ true → Goes link (bringing body link).link
unfolding bringing handing
bringing_goes (Data items) link inside = goes_up link _ refl inside refl
bringing_goes (RetransmittedData items) link inside = goes_same link _ refl refl refl
bringing_goes RetransmissionRequest link inside = goes_same link _ (answering_same link).0 (answering_same link).1 (answering_same link).2
bringing_goes (ConnectionRequest opening) link inside = upped_goes link inside
bringing_goes (ConnectionResponse opening) link inside = upped_goes link inside
bringing_goes RetransmissionResponse link inside = upped_goes link inside
bringing_goes (DisconnectionRequest detail why) link inside = upped_goes link inside
bringing_goes Heartbeat link inside = upped_goes link inside

missing_goes : (link : LinkState) → is_open link.phase ≡ true → Goes link (missing link).link
unfolding missing sending
missing_goes link inside = goes_up link _ refl inside refl

in_turn_goes : (pdu : Pdu) (link : LinkState) → is_open link.phase ≡ true → Goes link (in_turn pdu link).link
unfolding in_turn
in_turn_goes pdu link inside = by_test (λ (receipt : Receipt). Goes link receipt.link) (ahead pdu link == 0) (bringing pdu.body (taking pdu link)) (missing link)
    (λ e. goes_then link (taking pdu link) (bringing pdu.body (taking pdu link)).link (taking_goes pdu link) (bringing_goes pdu.body (taking pdu link) (taking_open pdu link inside)))
    (λ e. missing_goes link inside)

-- what may come, type by type and phase by phase
admitted_goes : (body : Body) (p : Phase) (pdu : Pdu) (link : LinkState) → is_open link.phase ≡ true → Goes link (admitting (admission body p) pdu link).link
unfolding admitting
admitted_goes (ConnectionRequest opening) p pdu link inside = violating_goes link inside
admitted_goes (ConnectionResponse opening) p pdu link inside = violating_goes link inside
admitted_goes RetransmissionRequest phase.Closed pdu link inside = in_turn_goes pdu link inside
admitted_goes RetransmissionRequest phase.Start pdu link inside = violating_goes link inside
admitted_goes RetransmissionRequest phase.Up pdu link inside = in_turn_goes pdu link inside
admitted_goes RetransmissionRequest phase.RetransmissionRequested pdu link inside = goes_same link link refl refl refl
admitted_goes RetransmissionRequest phase.RetransmissionRunning pdu link inside = in_turn_goes pdu link inside
admitted_goes RetransmissionResponse phase.Closed pdu link inside = violating_goes link inside
admitted_goes RetransmissionResponse phase.Start pdu link inside = violating_goes link inside
admitted_goes RetransmissionResponse phase.Up pdu link inside = violating_goes link inside
admitted_goes RetransmissionResponse phase.RetransmissionRequested pdu link inside = goes_up link _ (taking_same pdu link).0 inside refl
admitted_goes RetransmissionResponse phase.RetransmissionRunning pdu link inside = violating_goes link inside
admitted_goes (DisconnectionRequest detail why) p pdu link inside = goes_closed link (closed (taking pdu link)) (taking_same pdu link).0 refl inside
admitted_goes Heartbeat phase.Closed pdu link inside = in_turn_goes pdu link inside
admitted_goes Heartbeat phase.Start pdu link inside = in_turn_goes pdu link inside
admitted_goes Heartbeat phase.Up pdu link inside = in_turn_goes pdu link inside
admitted_goes Heartbeat phase.RetransmissionRequested pdu link inside = goes_same link link refl refl refl
admitted_goes Heartbeat phase.RetransmissionRunning pdu link inside = in_turn_goes pdu link inside
admitted_goes (Data items) phase.Closed pdu link inside = in_turn_goes pdu link inside
admitted_goes (Data items) phase.Start pdu link inside = in_turn_goes pdu link inside
admitted_goes (Data items) phase.Up pdu link inside = in_turn_goes pdu link inside
admitted_goes (Data items) phase.RetransmissionRequested pdu link inside = goes_same link link refl refl refl
admitted_goes (Data items) phase.RetransmissionRunning pdu link inside = in_turn_goes pdu link inside
admitted_goes (RetransmittedData items) phase.Closed pdu link inside = violating_goes link inside
admitted_goes (RetransmittedData items) phase.Start pdu link inside = violating_goes link inside
admitted_goes (RetransmittedData items) phase.Up pdu link inside = violating_goes link inside
admitted_goes (RetransmittedData items) phase.RetransmissionRequested pdu link inside = goes_same link link refl refl refl
admitted_goes (RetransmittedData items) phase.RetransmissionRunning pdu link inside = in_turn_goes pdu link inside

testing_goes : (pdu : Pdu) (link : LinkState) → is_open link.phase ≡ true → Goes link (testing pdu link).link
unfolding testing
testing_goes pdu link inside =
    by_test (λ (receipt : Receipt). Goes link receipt.link) (nat_lt sequence_range (ahead pdu link)) _ _ (λ e. same)
    (λ e. by_test (λ (receipt : Receipt). Goes link receipt.link) (is_stale pdu link) _ _ (λ e. same)
    (λ e. by_test (λ (receipt : Receipt). Goes link receipt.link) (not (confirms pdu link)) _ _ (λ e. same)
    (λ e. admitted_goes pdu.body link.phase pdu link inside)))
  where
    same : Goes link link
    same = goes_same link link refl refl refl

connected_goes : (body : Body) (pdu : Pdu) (link : LinkState) → is_open link.phase ≡ true → Goes link (connected body pdu link).link
unfolding connected
connected_goes (ConnectionRequest opening) pdu link inside =
    by_test (λ (receipt : Receipt). Goes link receipt.link) (is_opening_again pdu link) _ (violating link) (λ e. goes_same link link refl refl refl) (λ e. violating_goes link inside)
connected_goes (ConnectionResponse opening) pdu link inside = testing_goes pdu link inside
connected_goes RetransmissionRequest pdu link inside = testing_goes pdu link inside
connected_goes RetransmissionResponse pdu link inside = testing_goes pdu link inside
connected_goes (DisconnectionRequest detail why) pdu link inside = testing_goes pdu link inside
connected_goes Heartbeat pdu link inside = testing_goes pdu link inside
connected_goes (Data items) pdu link inside = testing_goes pdu link inside
connected_goes (RetransmittedData items) pdu link inside = testing_goes pdu link inside

joining_goes : (pdu : Pdu) (opening : Opening) (link : LinkState) → is_open link.phase ≡ true → Goes link (joining pdu opening link).link
unfolding joining judging sending meeting telling
joining_goes pdu opening link inside =
    by_test (λ (step : Step). Goes link step.link) (pointwise nat_eq opening.version own_version) _ _
    (λ e. by_test (λ (step : Step). Goes link step.link) (opening.window == window_size) _ _ (λ e. goes_up link _ refl inside refl) (λ e. goes_closed link _ refl refl inside))
    (λ e. goes_closed link _ refl refl inside)

asking_goes : (body : Body) (pdu : Pdu) (link : LinkState) → is_open link.phase ≡ true → Goes link (asking body pdu link).link
unfolding asking
asking_goes (ConnectionResponse opening) pdu link inside =
    by_test (λ (receipt : Receipt). Goes link receipt.link) (answers_request pdu link) _ _ (λ e. joining_goes pdu opening link inside) (λ e. goes_same link link refl refl refl)
asking_goes (DisconnectionRequest detail why) pdu link inside =
    by_test (λ (receipt : Receipt). Goes link receipt.link) (answers_request pdu link) _ _ (λ e. goes_closed link _ refl refl inside) (λ e. goes_same link link refl refl refl)
asking_goes (ConnectionRequest opening) pdu link inside = violating_goes link inside
asking_goes RetransmissionRequest pdu link inside = violating_goes link inside
asking_goes RetransmissionResponse pdu link inside = violating_goes link inside
asking_goes Heartbeat pdu link inside = violating_goes link inside
asking_goes (Data items) pdu link inside = violating_goes link inside
asking_goes (RetransmittedData items) pdu link inside = violating_goes link inside

-- ---- outside

resting_goes : (body : Body) (pdu : Pdu) (link : LinkState) → is_client link.identity.role ≡ true → Goes link (resting body pdu link).link
unfolding resting
resting_goes (ConnectionRequest opening) pdu link client =
    by_test (λ (receipt : Receipt). Goes link receipt.link) (is_client link.identity.role) _ _ (λ e. goes_same link link refl refl refl) (λ e. absurd (true≢false (sym client ∙ e)))
resting_goes (ConnectionResponse opening) pdu link client = goes_same link link refl refl refl
resting_goes RetransmissionRequest pdu link client = goes_same link link refl refl refl
resting_goes RetransmissionResponse pdu link client = goes_same link link refl refl refl
resting_goes (DisconnectionRequest detail why) pdu link client = goes_same link link refl refl refl
resting_goes Heartbeat pdu link client = goes_same link link refl refl refl
resting_goes (Data items) pdu link client = goes_same link link refl refl refl
resting_goes (RetransmittedData items) pdu link client = goes_same link link refl refl refl

open_goes : (p : Phase) (pdu : Pdu) (link : LinkState) → is_open p ≡ true → is_open link.phase ≡ true → is_client link.identity.role ≡ true → Goes link (by_state (open_state p) pdu link).link
unfolding by_state
open_goes phase.Closed pdu link inside opened client = absurd (false≢true inside)
open_goes phase.Start pdu link inside opened client =
    by_test (λ (receipt : Receipt). Goes link receipt.link) (is_client link.identity.role) _ _ (λ e. asking_goes pdu.body pdu link opened) (λ e. connected_goes pdu.body pdu link opened)
open_goes phase.Up pdu link inside opened client = connected_goes pdu.body pdu link opened
open_goes phase.RetransmissionRequested pdu link inside opened client = connected_goes pdu.body pdu link opened
open_goes phase.RetransmissionRunning pdu link inside opened client = connected_goes pdu.body pdu link opened

by_state_goes : (pdu : Pdu) (link : LinkState) → is_client link.identity.role ≡ true → Goes link (by_state (state_at link.clock link) pdu link).link
unfolding state_at by_state
by_state_goes pdu link client =
    by_test (λ s. Goes link (by_state s pdu link).link) (is_open link.phase && nat_lt link.clock (deadline link)) _ _
    (λ e. open_goes link.phase pdu link (both_true _ _ e).0 (both_true _ _ e).0 client)
    (λ e. by_test (λ s. Goes link (by_state s pdu link).link) (nat_lt link.clock (deadline link + quiet_time)) _ _ (λ e. quiet) (λ e. down))
  where
    quiet : Goes link (by_state state.Quiet pdu link).link
    quiet = goes_same link link refl refl refl

    down : Goes link (by_state state.Down pdu link).link
    down = resting_goes pdu.body pdu link client

hearing_goes : (pdu : Pdu) (link : LinkState) → is_client link.identity.role ≡ true → Goes link (hearing pdu link).link
unfolding hearing
hearing_goes pdu link client =
    by_test (λ (receipt : Receipt). Goes link receipt.link) (not (pdu.receiver == link.identity.own)) _ _ (λ e. goes_same link link refl refl refl)
    (λ e. by_test (λ (receipt : Receipt). Goes link receipt.link) (not (pdu.sender == link.identity.partner)) _ _ (λ e. goes_same link link refl refl refl)
    (λ e. by_state_goes pdu link client))

bytes_goes : (read : Result Pdu PduFault) (link : LinkState) → is_client link.identity.role ≡ true → Goes link (hearing_bytes read link).link
unfolding hearing_bytes
bytes_goes (Err fault) link client = goes_same link link refl refl refl
bytes_goes (Ok pdu) link client = hearing_goes pdu link client

pub receiving_goes : (now : ℕ) (bytes : List ℕ) (link : LinkState) → is_client link.identity.role ≡ true → Goes link (receiving now bytes link).link
unfolding receiving
receiving_goes now bytes link client =
    let begun : LinkState = (entered now link).link
    in goes_then link begun (hearing_bytes (reading link.identity.key bytes) begun).link (entered_goes now link)
    (bytes_goes (reading link.identity.key bytes) begun (ap (λ i. is_client i.role) (entered_goes now link).identity ∙ client))
