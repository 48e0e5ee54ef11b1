-- What a datagram does to the phase of a link, and what is taken of it.
use Rattle.std.proofs.Common.{◌≡◌, ◌∙◌, ◌+◌, ◌&&◌, ℕ, Bool, true, false, cond, not, List, [], ap, arith, leb-false, lt-ltb, refl, subst, sym}
use Rattle.std.specs.Prelude.{◌==◌, Result, Ok, Err, nat_eq, nat_le, nat_lt}
use Rattle.std.proofs.lemmas.Bool.{false≢true}
use Rattle.std.specs.Cmp.Lexicographic.{pointwise}
use Rattle.rasta_core.specs.Calls.{opens}
use Rattle.rasta_core.specs.Clock.{open_state}
use Rattle.rasta_core.specs.Establishment.{is_down, may_open}
use Rattle.rasta_core.specs.FirstPdus.{HearsOutside, refuses, grants}
use Rattle.rasta_core.specs.Parameters.{connection_limit, own_version, quiet_time, sequence_range, window_size}
use Rattle.rasta_core.specs.PdusHandedOut.{Step, closed}
use Rattle.rasta_core.specs.Receipt.{Receipt, accepting, admission, answers_request, confirms, is_opening_again, is_stale, refusing, violating}
use Rattle.rasta_core.specs.State.{LinkState, is_client, is_open, is_up}
use Rattle.rasta_core.specs.phase.Phase.{Phase}
use Rattle.rasta_core.specs.phase.Phase.TheVariants as phase
use Rattle.rasta_core.specs.phase.State.{State}
use Rattle.rasta_core.specs.phase.State.TheVariants as state
use Rattle.rasta_core.specs.reason.Reason.TheVariants as reason
use Rattle.rasta_core.specs.verdict.Verdict.TheVariants as verdict
use Rattle.rasta_pdu.specs.declared.body.Body.{Body}
use Rattle.rasta_pdu.specs.declared.body.Body.TheVariants.{ConnectionRequest, ConnectionResponse, RetransmissionRequest, RetransmissionResponse, DisconnectionRequest, Heartbeat, Data, RetransmittedData}
use Rattle.rasta_pdu.specs.declared.body.Opening.{Opening}
use Rattle.rasta_pdu.specs.declared.fault.PduFault.{PduFault}
use Rattle.rasta_pdu.specs.declared.pdu.Pdu.{Pdu}
use Rattle.rasta_pdu.specs.PduRead.{reading}
use Rattle.line_world.proofs.Below.{admitting, ahead, answering, asking, beginning, bringing, by_state, connected, deadline, entered, handing, hearing, hearing_bytes, in_turn, joining, judging, limited, link_meeting, missing, opening, receiving, repeating, requesting, sends, settled, state_at, taking, telling, testing}
use Rattle.line_world.proofs.Makes.{entered_stays, limited_stays, settled_stays}

-- A link in a connection stays so, or comes up, or leaves it; and it takes items only where it is up.
pub data Leads (link : LinkState) (receipt : Receipt) : Type 0 where
  keeps : receipt.link.phase ≡ link.phase → receipt.items ≡ [] → Leads link receipt
  comes_up : is_up receipt.link.phase ≡ true → Leads link receipt
  closes : is_open receipt.link.phase ≡ false → receipt.items ≡ [] → Leads link receipt

-- ---- in a connection

turn_leads : (pdu : Pdu) (link : LinkState) → Leads link (bringing pdu.body (taking pdu link)) → Leads link (in_turn pdu link)
unfolding in_turn missing
turn_leads pdu link brings = by_next (ahead pdu link == 0)
  where
    by_next : (next : Bool) → Leads link (cond next (bringing pdu.body (taking pdu link)) (missing link))
    by_next true = brings
    by_next false = comes_up refl

test_leads : (pdu : Pdu) (link : LinkState) (body : Body) (p : Phase) → pdu.body ≡ body → link.phase ≡ p → Leads link (admitting (admission body p) pdu link)
unfolding admitting bringing taking handing answering repeating sends telling
test_leads pdu link (ConnectionRequest opening) p body at = closes refl refl
test_leads pdu link (ConnectionResponse opening) p body at = closes refl refl
test_leads pdu link RetransmissionRequest phase.Closed body at = turn_leads pdu link (rw body (keeps refl refl))
test_leads pdu link RetransmissionRequest phase.Start body at = closes refl refl
test_leads pdu link RetransmissionRequest phase.Up body at = turn_leads pdu link (rw body (keeps refl refl))
test_leads pdu link RetransmissionRequest phase.RetransmissionRequested body at = keeps refl refl
test_leads pdu link RetransmissionRequest phase.RetransmissionRunning body at = turn_leads pdu link (rw body (keeps refl refl))
test_leads pdu link RetransmissionResponse phase.Closed body at = closes refl refl
test_leads pdu link RetransmissionResponse phase.Start body at = closes refl refl
test_leads pdu link RetransmissionResponse phase.Up body at = closes refl refl
test_leads pdu link RetransmissionResponse phase.RetransmissionRequested body at = comes_up refl
test_leads pdu link RetransmissionResponse phase.RetransmissionRunning body at = closes refl refl
test_leads pdu link (DisconnectionRequest detail why) p body at = closes refl refl
test_leads pdu link Heartbeat phase.Closed body at = turn_leads pdu link (rw body (comes_up refl))
test_leads pdu link Heartbeat phase.Start body at = turn_leads pdu link (rw body (comes_up refl))
test_leads pdu link Heartbeat phase.Up body at = turn_leads pdu link (rw body (comes_up refl))
test_leads pdu link Heartbeat phase.RetransmissionRequested body at = keeps refl refl
test_leads pdu link Heartbeat phase.RetransmissionRunning body at = turn_leads pdu link (rw body (comes_up refl))
test_leads pdu link (Data items) phase.Closed body at = turn_leads pdu link (rw body (comes_up refl))
test_leads pdu link (Data items) phase.Start body at = turn_leads pdu link (rw body (comes_up refl))
test_leads pdu link (Data items) phase.Up body at = turn_leads pdu link (rw body (comes_up refl))
test_leads pdu link (Data items) phase.RetransmissionRequested body at = keeps refl refl
test_leads pdu link (Data items) phase.RetransmissionRunning body at = turn_leads pdu link (rw body (comes_up refl))
test_leads pdu link (RetransmittedData items) phase.Closed body at = closes refl refl
test_leads pdu link (RetransmittedData items) phase.Start body at = closes refl refl
test_leads pdu link (RetransmittedData items) phase.Up body at = closes refl refl
test_leads pdu link (RetransmittedData items) phase.RetransmissionRequested body at = keeps refl refl
test_leads pdu link (RetransmittedData items) phase.RetransmissionRunning body at = turn_leads pdu link (rw body (comes_up (ap is_up at)))

tested_leads : (pdu : Pdu) (link : LinkState) → Leads link (testing pdu link)
unfolding testing
tested_leads pdu link = by_far (nat_lt sequence_range (ahead pdu link))
  where
    admitted : Receipt
    admitted = admitting (admission pdu.body link.phase) pdu link

    by_confirm : (good : Bool) → Leads link (cond (not good) (refusing verdict.BadConfirm link) admitted)
    by_confirm true = test_leads pdu link pdu.body link.phase refl refl
    by_confirm false = keeps refl refl

    by_stale : (stale : Bool) → Leads link (cond stale (refusing verdict.Stale link) (cond (not (confirms pdu link)) (refusing verdict.BadConfirm link) admitted))
    by_stale true = keeps refl refl
    by_stale false = by_confirm (confirms pdu link)

    by_far : (far : Bool)
        → Leads link (cond far (refusing verdict.OutOfRange link) (cond (is_stale pdu link) (refusing verdict.Stale link) (cond (not (confirms pdu link)) (refusing verdict.BadConfirm link) admitted)))
    by_far true = keeps refl refl
    by_far false = by_stale (is_stale pdu link)

connected_leads : (body : Body) (pdu : Pdu) (link : LinkState) → Leads link (connected body pdu link)
unfolding connected telling
connected_leads (ConnectionRequest opening) pdu link = by_again (is_opening_again pdu link)
  where
    by_again : (again : Bool) → Leads link (cond again (refusing verdict.Discarded link) (violating link))
    by_again true = keeps refl refl
    by_again false = closes refl refl
connected_leads (ConnectionResponse opening) pdu link = tested_leads pdu link
connected_leads RetransmissionRequest pdu link = tested_leads pdu link
connected_leads RetransmissionResponse pdu link = tested_leads pdu link
connected_leads (DisconnectionRequest detail why) pdu link = tested_leads pdu link
connected_leads Heartbeat pdu link = tested_leads pdu link
connected_leads (Data items) pdu link = tested_leads pdu link
connected_leads (RetransmittedData items) pdu link = tested_leads pdu link

-- ---- at a client that asked

joined_leads : (pdu : Pdu) (opening : Opening) (link : LinkState) → Leads link (accepting (joining pdu opening link))
unfolding joining judging link_meeting sends telling
joined_leads pdu opening link = by_version (pointwise nat_eq opening.version own_version)
  where
    met : LinkState
    met = record (link_meeting pdu link) { phase = phase.Up }

    by_window : (same : Bool) → Leads link (accepting (cond same (sends Heartbeat met) (telling reason.Window met)))
    by_window true = comes_up refl
    by_window false = closes refl refl

    by_version : (same : Bool) → Leads link (accepting (cond same (cond (opening.window == window_size) (sends Heartbeat met) (telling reason.Window met)) (telling reason.Version met)))
    by_version true = by_window (opening.window == window_size)
    by_version false = closes refl refl

asking_leads : (body : Body) (pdu : Pdu) (link : LinkState) → Leads link (asking body pdu link)
unfolding asking telling
asking_leads (ConnectionRequest opening) pdu link = closes refl refl
asking_leads (ConnectionResponse opening) pdu link = by_answer (answers_request pdu link)
  where
    by_answer : (answers : Bool) → Leads link (cond answers (accepting (joining pdu opening link)) (refusing verdict.BadConfirm link))
    by_answer true = joined_leads pdu opening link
    by_answer false = keeps refl refl
asking_leads RetransmissionRequest pdu link = closes refl refl
asking_leads RetransmissionResponse pdu link = closes refl refl
asking_leads (DisconnectionRequest detail why) pdu link = by_answer (answers_request pdu link)
  where
    by_answer : (answers : Bool) → Leads link (cond answers (accepting (record { link = closed link; pdus = [] })) (refusing verdict.BadConfirm link))
    by_answer true = closes refl refl
    by_answer false = keeps refl refl
asking_leads Heartbeat pdu link = closes refl refl
asking_leads (Data items) pdu link = closes refl refl
asking_leads (RetransmittedData items) pdu link = closes refl refl

-- ---- any PDU, at a link whose time hasn't come

abbrev pub IsAlive : LinkState → Type 0
IsAlive link = nat_lt link.clock (deadline link) ≡ true

open_at : (link : LinkState) → is_open link.phase ≡ true → IsAlive link → state_at link.clock link ≡ open_state link.phase
unfolding state_at
open_at link opened alive = rw (opened, alive) refl

state_leads : (pdu : Pdu) (link : LinkState) (p : Phase) → is_open p ≡ true → Leads link (by_state (open_state p) pdu link)
unfolding by_state
state_leads pdu link phase.Closed opened = absurd (false≢true opened)
state_leads pdu link phase.Start opened = by_role (is_client link.identity.role)
  where
    by_role : (client : Bool) → Leads link (cond client (asking pdu.body pdu link) (connected pdu.body pdu link))
    by_role true = asking_leads pdu.body pdu link
    by_role false = connected_leads pdu.body pdu link
state_leads pdu link phase.Up opened = connected_leads pdu.body pdu link
state_leads pdu link phase.RetransmissionRequested opened = connected_leads pdu.body pdu link
state_leads pdu link phase.RetransmissionRunning opened = connected_leads pdu.body pdu link

hearing_leads : (pdu : Pdu) (link : LinkState) → is_open link.phase ≡ true → IsAlive link → Leads link (hearing pdu link)
unfolding hearing
hearing_leads pdu link opened alive = by_receiver (pdu.receiver == link.identity.own)
  where
    heard : Receipt
    heard = by_state (state_at link.clock link) pdu link

    leads : Leads link heard
    leads = subst (λ (s : State). Leads link (by_state s pdu link)) (sym (open_at link opened alive)) (state_leads pdu link link.phase opened)

    by_sender : (is : Bool) → Leads link (cond (not is) (refusing verdict.WrongSender link) heard)
    by_sender true = leads
    by_sender false = keeps refl refl

    by_receiver : (is : Bool) → Leads link (cond (not is) (refusing verdict.NotForMe link) (cond (not (pdu.sender == link.identity.partner)) (refusing verdict.WrongSender link) heard))
    by_receiver true = by_sender (pdu.sender == link.identity.partner)
    by_receiver false = keeps refl refl

-- ---- a link whose clock rules are done

settled_over : (now : ℕ) (link : LinkState) → (is_open link.phase && nat_le (deadline link) now) ≡ true → is_open (settled now link).phase ≡ false
unfolding settled
settled_over now link is = rw is refl

settled_on : (now : ℕ) (link : LinkState) → (is_open link.phase && nat_le (deadline link) now) ≡ false → settled now link ≡ record link { clock = now }
unfolding settled
settled_on now link is = rw is refl

alive_on : (now : ℕ) (link : LinkState) → nat_lt now (deadline link) ≡ true → IsAlive (record link { clock = now })
unfolding deadline
alive_on now link alive = alive

settled_alive : (now : ℕ) (link : LinkState) → is_open (settled now link).phase ≡ true → IsAlive (settled now link)
settled_alive now link opened = by_late (nat_le (deadline link) now) refl
  where
    was_open : is_open link.phase ≡ true
    was_open = sym (ap is_open (settled_stays now link opened)) ∙ opened

    test : (late : Bool) → nat_le (deadline link) now ≡ late → (is_open link.phase && nat_le (deadline link) now) ≡ late
    test late is = ap (λ (o : Bool). o && nat_le (deadline link) now) was_open ∙ is

    by_late : (late : Bool) → nat_le (deadline link) now ≡ late → IsAlive (settled now link)
    by_late true is = absurd (false≢true (sym (settled_over now link (test true is)) ∙ opened))
    by_late false is = subst IsAlive (sym (settled_on now link (test false is))) (alive_on now link (lt-ltb now (deadline link) (leb-false (deadline link) now is)))

limited_same : (link : LinkState) → is_open (limited link).link.phase ≡ true → (limited link).link ≡ link
unfolding limited telling
limited_same link opened = by_many (is_open link.phase && nat_le connection_limit link.sent) opened
  where
    by_many : (many : Bool) → is_open (cond many (telling reason.Sequence link) (record { link = link; pdus = [] })).link.phase ≡ true
        → (cond many (telling reason.Sequence link) (record { link = link; pdus = [] })).link ≡ link
    by_many true stays = absurd (false≢true stays)
    by_many false stays = refl

-- the limit of PDUs leaves it, or closes it now
limited_closes : (link : LinkState) → is_open link.phase ≡ true → is_open (limited link).link.phase ≡ false → (limited link).link.closed_at ≡ (limited link).link.clock
unfolding limited telling sends
limited_closes link opened closed_then = by_many (is_open link.phase && nat_le connection_limit link.sent) closed_then
  where
    by_many : (many : Bool) → is_open (cond many (telling reason.Sequence link) (record { link = link; pdus = [] })).link.phase ≡ false
        → (cond many (telling reason.Sequence link) (record { link = link; pdus = [] })).link.closed_at ≡ (cond many (telling reason.Sequence link) (record { link = link; pdus = [] })).link.clock
    by_many true shut = refl
    by_many false shut = absurd (false≢true (sym shut ∙ opened))

-- it has closed now: it is quiet
quiet_now : (link : LinkState) → is_open link.phase ≡ false → link.closed_at ≡ link.clock → state_at link.clock link ≡ state.Quiet
unfolding state_at deadline
quiet_now link shut now = rw (shut, now) (rw (early link.clock) refl)
  where
    early : (clock : ℕ) → nat_lt clock (clock + quiet_time) ≡ true
    early clock = lt-ltb clock (clock + quiet_time) (omega arith)

-- the laws of rasta_core on an end outside
abbrev pub HearsOut : Type 0
HearsOut = (pdu : Pdu) (link : LinkState) → is_open link.phase ≡ false → HearsOutside pdu link (hearing pdu link)

out_items : HearsOut → (pdu : Pdu) (link : LinkState) → is_open link.phase ≡ false → (hearing pdu link).items ≡ []
out_items law pdu link shut = by_case (law pdu link shut)
  where
    by_case : HearsOutside pdu link (hearing pdu link) → (hearing pdu link).items ≡ []
    by_case (refuses why not_taken is) = ap (λ (r : Receipt). r.items) is
    by_case (grants opening server request down later is) = ap (λ (r : Receipt). r.items) is

quiet_leads : HearsOut → (pdu : Pdu) (link was : LinkState) → is_open link.phase ≡ false → state_at link.clock link ≡ state.Quiet → Leads was (hearing pdu link)
quiet_leads law pdu link was shut quiet = by_case (law pdu link shut)
  where
    not_both : state.Quiet ≡ state.Down → ⊥
    not_both same = cc

    by_case : HearsOutside pdu link (hearing pdu link) → Leads was (hearing pdu link)
    by_case (refuses why not_taken is) = closes (ap (λ (r : Receipt). is_open r.link.phase) is ∙ shut) (ap (λ (r : Receipt). r.items) is)
    by_case (grants opening server request down later is) = absurd (not_both (sym quiet ∙ down))

leads_on : (link was : LinkState) (receipt : Receipt) → link.phase ≡ was.phase → Leads link receipt → Leads was receipt
leads_on link was receipt same (keeps phase none) = keeps (phase ∙ same) none
leads_on link was receipt same (comes_up up) = comes_up up
leads_on link was receipt same (closes shut none) = closes shut none

-- what was handed out before doesn't matter
leads_with : (link : LinkState) (receipt : Receipt) (pdus : List Pdu) → Leads link receipt → Leads link (record receipt { pdus = pdus })
leads_with link receipt pdus (keeps phase none) = keeps phase none
leads_with link receipt pdus (comes_up up) = comes_up up
leads_with link receipt pdus (closes shut none) = closes shut none

bytes_lead : (link : LinkState) (read : Result Pdu PduFault) → is_open link.phase ≡ true → IsAlive link → Leads link (hearing_bytes read link)
unfolding hearing_bytes
bytes_lead link (Err fault) opened alive = keeps refl refl
bytes_lead link (Ok pdu) opened alive = hearing_leads pdu link opened alive

quiet_bytes : HearsOut → (link was : LinkState) (read : Result Pdu PduFault) → is_open link.phase ≡ false → state_at link.clock link ≡ state.Quiet → Leads was (hearing_bytes read link)
unfolding hearing_bytes
quiet_bytes law link was (Err fault) shut quiet = closes shut refl
quiet_bytes law link was (Ok pdu) shut quiet = quiet_leads law pdu link was shut quiet

out_bytes : HearsOut → (link : LinkState) (read : Result Pdu PduFault) → is_open link.phase ≡ false → (hearing_bytes read link).items ≡ []
unfolding hearing_bytes
out_bytes law link (Err fault) shut = refl
out_bytes law link (Ok pdu) shut = out_items law pdu link shut

-- a link as the clock rules leave it goes into a call as it is, or closes there at the limit of PDUs
alive_then : (now : ℕ) (link : LinkState) → settled now link ≡ link → is_open (entered now link).link.phase ≡ true → IsAlive (entered now link).link
unfolding entered
alive_then now link same opened = by_limit (sym (ap is_open (limited_stays (settled now link) opened)) ∙ opened)
  where
    limited_alive : (l : LinkState) → is_open (limited l).link.phase ≡ true → IsAlive l → IsAlive (limited l).link
    limited_alive l stays alive = subst IsAlive (sym (limited_same l stays)) alive

    by_limit : is_open (settled now link).phase ≡ true → IsAlive (limited (settled now link)).link
    by_limit still = limited_alive (settled now link) opened (settled_alive now link still)

quiet_then : (now : ℕ) (link : LinkState) → settled now link ≡ link → is_open link.phase ≡ true → is_open (entered now link).link.phase ≡ false
    → state_at (entered now link).link.clock (entered now link).link ≡ state.Quiet
unfolding entered
quiet_then now link same opened shut =
    quiet_now (limited (settled now link)).link shut (limited_closes (settled now link) (ap (λ (l : LinkState). is_open l.phase) same ∙ opened) shut)

-- What comes to a link that is in a connection.
pub receiving_leads : HearsOut → (now : ℕ) (bytes : List ℕ) (link : LinkState) → settled now link ≡ link → is_open link.phase ≡ true → Leads link (receiving now bytes link)
unfolding receiving
receiving_leads law now bytes link same opened = by_entered (is_open (entered now link).link.phase) refl
  where
    by_entered : (b : Bool) → is_open (entered now link).link.phase ≡ b → Leads link (receiving now bytes link)
    by_entered true still =
        leads_with link (hearing_bytes (reading link.identity.key bytes) (entered now link).link) _
        (leads_on (entered now link).link link (hearing_bytes (reading link.identity.key bytes) (entered now link).link) (entered_stays now link still)
        (bytes_lead (entered now link).link (reading link.identity.key bytes) still (alive_then now link same still)))
    by_entered false shut =
        leads_with link (hearing_bytes (reading link.identity.key bytes) (entered now link).link) _
        (quiet_bytes law (entered now link).link link (reading link.identity.key bytes) shut (quiet_then now link same opened shut))

entered_shut : (now : ℕ) (link : LinkState) → is_open link.phase ≡ false → is_open (entered now link).link.phase ≡ false
entered_shut now link shut = by_then (is_open (entered now link).link.phase) refl
  where
    by_then : (b : Bool) → is_open (entered now link).link.phase ≡ b → is_open (entered now link).link.phase ≡ false
    by_then true opened = absurd (false≢true (sym shut ∙ (sym (ap is_open (entered_stays now link opened)) ∙ opened)))
    by_then false is = is

-- To one that isn't, no items come.
pub out_receives_none : HearsOut → (now : ℕ) (bytes : List ℕ) (link : LinkState) → is_open link.phase ≡ false → (receiving now bytes link).items ≡ []
unfolding receiving
out_receives_none law now bytes link shut = out_bytes law (entered now link).link (reading link.identity.key bytes) (entered_shut now link shut)

-- ---- a client opens

-- A client that opens was out of any connection, and quiet no longer; then it has asked for one.
pub record HasOpened (now : ℕ) (link : LinkState) : Type 0 where
  pub client : is_client link.identity.role ≡ true
  pub shut : is_open link.phase ≡ false
  pub down : state_at now link ≡ state.Down
  pub asks : is_open (opening now link).link.phase ≡ true
  pub unanswered : is_up (opening now link).link.phase ≡ false

-- the law of rasta_core on how a call begins at an end outside
abbrev pub EntersOut : Type 0
EntersOut = (now : ℕ) (link : LinkState) → is_open link.phase ≡ false → entered now link ≡ record { link = record link { clock = now }; pdus = [] }

pub both_of : (one other : Bool) → (one && other) ≡ true → (one ≡ true) × (other ≡ true)
both_of true true is = (refl, refl)
both_of true false is = absurd (false≢true is)
both_of false other is = absurd (false≢true is)

is_down_so : (s : State) → is_down s ≡ true → s ≡ state.Down
is_down_so state.Down is = refl
is_down_so state.Start is = absurd (false≢true is)
is_down_so state.Up is = absurd (false≢true is)
is_down_so state.RetransmissionRequested is = absurd (false≢true is)
is_down_so state.RetransmissionRunning is = absurd (false≢true is)
is_down_so state.Quiet is = absurd (false≢true is)

open_not_down : (p : Phase) → is_open p ≡ true → is_down (open_state p) ≡ true → ⊥
open_not_down phase.Closed opened down = false≢true opened
open_not_down phase.Start opened down = false≢true down
open_not_down phase.Up opened down = false≢true down
open_not_down phase.RetransmissionRequested opened down = false≢true down
open_not_down phase.RetransmissionRunning opened down = false≢true down

identity_stays : (now : ℕ) (link : LinkState) → (entered now link).link.identity ≡ link.identity
unfolding entered limited settled telling sends
identity_stays now link = by_many (is_open (settled now link).phase && nat_le connection_limit (settled now link).sent) ∙ by_late (is_open link.phase && nat_le (deadline link) now)
  where
    by_many : (many : Bool) → (cond many (telling reason.Sequence (settled now link)) (record { link = settled now link; pdus = [] })).link.identity ≡ (settled now link).identity
    by_many true = refl
    by_many false = refl

    by_late : (late : Bool) → (cond late (record link { phase = phase.Closed; closed_at = deadline link; clock = now }) (record link { clock = now })).identity ≡ link.identity
    by_late true = refl
    by_late false = refl

same_state : (now : ℕ) (link : LinkState) → state_at now (record link { clock = now }) ≡ state_at now link
unfolding state_at deadline
same_state now link = refl

asked : (now : ℕ) (link : LinkState) → opens now link ≡ true → (is_open (opening now link).link.phase ≡ true) × (is_up (opening now link).link.phase ≡ false)
unfolding opens opening requesting beginning sends
asked now link may = (rw may refl, rw may refl)

may_opens : (now : ℕ) (link : LinkState) → opens now link ≡ true → may_open (entered now link).link ≡ true
unfolding opens
may_opens now link may = may

pub opens_so : EntersOut → (now : ℕ) (link : LinkState) → settled now link ≡ link → opens now link ≡ true → HasOpened now link
opens_so law now link same may = by_now (is_open (entered now link).link.phase) refl
  where
    then : LinkState
    then = (entered now link).link

    tests : (is_client then.identity.role ≡ true) × (is_down (state_at then.clock then) ≡ true)
    tests = both_of (is_client then.identity.role) (is_down (state_at then.clock then)) (may_opens now link may)

    by_was : (b : Bool) → is_open link.phase ≡ b → is_open then.phase ≡ false → HasOpened now link
    by_was true opened shut = absurd (false≢true (ap is_down (sym (quiet_then now link same opened shut)) ∙ tests.1))
    by_was false out shut = record {
      client = ap (λ (i : _). is_client i.role) (sym (identity_stays now link)) ∙ tests.0;
      shut = out;
      down = sym (same_state now link) ∙ (ap (λ (s : Step). state_at s.link.clock s.link) (sym (law now link out)) ∙ is_down_so (state_at then.clock then) tests.1);
      asks = (asked now link may).0;
      unanswered = (asked now link may).1;
    }

    by_now : (b : Bool) → is_open then.phase ≡ b → HasOpened now link
    by_now true still = absurd (open_not_down then.phase still (ap is_down (sym (open_at then still (alive_then now link same still))) ∙ tests.1))
    by_now false shut = by_was (is_open link.phase) refl shut

-- one that doesn't open leaves the phase as it was, or its link closes
pub opening_stays : (now : ℕ) (link : LinkState) → opens now link ≡ false → is_open (opening now link).link.phase ≡ true → (opening now link).link.phase ≡ link.phase
unfolding opens opening
opening_stays now link refused stays = by_may (may_open (entered now link).link) refused stays
  where
    by_may : (may : Bool) → may ≡ false → is_open (cond may (requesting (entered now link).link) (record { link = (entered now link).link; pdus = [] })).link.phase ≡ true
        → (cond may (requesting (entered now link).link) (record { link = (entered now link).link; pdus = [] })).link.phase ≡ link.phase
    by_may true is still = absurd (false≢true (sym is))
    by_may false is still = entered_stays now link still
