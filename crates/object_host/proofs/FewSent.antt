-- How many PDUs the calls of a link hand out, and how many it may still hand out after them.
use Rattle.std.proofs.Common.{◌≡◌, ℕ, suc, ◌+◌, ◌-◌, ◌<◌, ◌≤◌, ◌⊎◌, inl, inr, Bool, true, false, ◌&&◌, ◌==◌, not, nat_lt, nat_le, List, [], ◌∷◌, ◌++◌, length, Result, Ok, Err, is_ok, refl, ap, arith, if◌then◌else◌}
use Rattle.std.specs.Prelude.{nat_eq}
use Rattle.std.specs.Cmp.Lexicographic.{pointwise}
use Rattle.std.proofs.lemmas.Bool.{false≢true}
use Rattle.std.proofs.lemmas.Bool.Decides.{nat_tests}
use Rattle.std.proofs.lemmas.List.{length-append}
use Rattle.rasta_core.specs.Parameters.{connection_limit, heartbeat_interval, own_version, quiet_time, sequence_range, window_size}
use Rattle.rasta_core.specs.State.{LinkState, is_client, is_open, is_up}
use Rattle.rasta_core.specs.Clock.{deadline, settled, state_at}
use Rattle.rasta_core.specs.PdusHandedOut.{Step, beating, closed, closing, entered, giving, is_told, limited, sending, silent, telling, then_do}
use Rattle.rasta_core.specs.Establishment.{granting, joining, judging}
use Rattle.rasta_core.specs.Receipt.{Receipt, accepting, admission, admitting, ahead, answering, answers_request, asking, bringing, by_state, confirms, connected, handing, hearing, in_turn, is_opening_again, is_stale, missing, refusing, repeated, repeating, resting, retagged, taking, testing, violating}
use Rattle.rasta_core.specs.Calls.{acceptance, closing_by, hearing_bytes, receiving, sending_item, ticking}
use Rattle.rasta_core.specs.header.Header.{Header}
use Rattle.rasta_core.specs.phase.Phase.{Phase}
use Rattle.rasta_core.specs.phase.Phase.TheVariants as phase
use Rattle.rasta_core.specs.phase.State.{State}
use Rattle.rasta_core.specs.phase.State.TheVariants as state
use Rattle.rasta_core.specs.reason.Reason.{Reason}
use Rattle.rasta_core.specs.reason.Reason.TheVariants as reason
use Rattle.rasta_core.specs.verdict.Verdict.{Verdict}
use Rattle.rasta_core.specs.verdict.Verdict.TheVariants as verdict
use Rattle.rasta_core.specs.window.Unconfirmed.{Unconfirmed}
use Rattle.rasta_pdu.specs.PduRead.{reading}
use Rattle.rasta_pdu.specs.declared.body.Body.{Body}
use Rattle.rasta_pdu.specs.declared.body.Body.TheVariants.{ConnectionRequest, ConnectionResponse, RetransmissionRequest, RetransmissionResponse, DisconnectionRequest, Heartbeat, Data, RetransmittedData}
use Rattle.rasta_pdu.specs.declared.body.Opening.{Opening}
use Rattle.rasta_pdu.specs.declared.fault.PduFault.{PduFault}
use Rattle.rasta_pdu.specs.declared.pdu.Pdu.{Pdu}
use Rattle.object_host.specs.inside.Performed.{may_send}

-- ---- what a link may still send

pub at_most_a_window : (link : LinkState) → may_send link ≤ 21
unfolding may_send
at_most_a_window link = cases (is_open link.phase) where
  cases : (b : Bool) → (if b then suc (window_size - length link.waiting) else 0) ≤ 21
  cases true = omega arith
  cases false = omega arith

where_open : (link : LinkState) → is_open link.phase ≡ true → may_send link ≡ suc (window_size - length link.waiting)
unfolding may_send
where_open link opened = rw opened refl

where_closed : (link : LinkState) → is_open link.phase ≡ false → may_send link ≡ 0
unfolding may_send
where_closed link shut = rw shut refl

-- ---- what a call of the host's own hands out is no longer to be sent after it

abbrev IsFew : LinkState → Step → Type 0
IsFew link step = length step.pdus + may_send step.link ≤ may_send link

few_then : (link : LinkState) (first : Step) (next : LinkState → Step) → IsFew link first → IsFew first.link (next first.link) → IsFew link (then_do first next)
few_then link first next one more = omega (arith, length-append first.pdus (next first.link).pdus, one, more)

silent_few : (link : LinkState) → IsFew link (silent link)
silent_few link = omega arith

telling_few : (why : Reason) (link : LinkState) → is_open link.phase ≡ true → IsFew link (telling why link)
unfolding telling sending may_send
telling_few why link opened = rw opened (omega arith)

settled_few : (now : ℕ) (link : LinkState) → may_send (settled now link) ≤ may_send link
unfolding settled may_send
settled_few now link = cases (is_open link.phase && nat_le (deadline link) now) where
  cases : (b : Bool) → may_send (if b then record link { phase = phase.Closed; closed_at = deadline link; clock = now } else record link { clock = now }) ≤ may_send link
  cases true = omega arith
  cases false = omega arith

left_true : (a b : Bool) → a && b ≡ true → a ≡ true
left_true true b both = refl
left_true false b both = absurd (false≢true both)

limited_few : (link : LinkState) → IsFew link (limited link)
unfolding limited
limited_few link = cases (is_open link.phase && nat_le connection_limit link.sent) refl where
  cases : (b : Bool) → (is_open link.phase && nat_le connection_limit link.sent) ≡ b → IsFew link (if b then telling reason.Sequence link else silent link)
  cases true is = telling_few reason.Sequence link (left_true (is_open link.phase) _ is)
  cases false is = silent_few link

entered_few : (now : ℕ) (link : LinkState) → IsFew link (entered now link)
unfolding entered
entered_few now link = omega (arith, limited_few (settled now link), settled_few now link)

up_open : (p : Phase) → is_up p ≡ true → is_open p ≡ true
up_open phase.Closed up = absurd (false≢true up)
up_open phase.Start up = refl
up_open phase.Up up = refl
up_open phase.RetransmissionRequested up = refl
up_open phase.RetransmissionRunning up = refl

giving_few : (item : List ℕ) (link : LinkState) → is_up link.phase ≡ true → length link.waiting < window_size → IsFew link (giving item link)
unfolding giving sending may_send
giving_few item link up room =
    let joined = length-append link.waiting ((record { tag = link.sent; item = item }) ∷ [])
    in rw (up_open link.phase up) (omega (arith, joined, room))

accepted_few : (item : List ℕ) (link : LinkState) → IsFew link (if is_ok (acceptance link) then giving item link else silent link)
unfolding acceptance
accepted_few item link = by_up (is_up link.phase) refl where
  by_room : is_up link.phase ≡ true → (b : Bool) → nat_lt (length link.waiting) window_size ≡ b → IsFew link (if is_ok (acceptance link) then giving item link else silent link)
  by_room up true room = rw (up, room) (giving_few item link up (grind (arith, nat_tests, room)))
  by_room up false full = rw (up, full) (silent_few link)

  by_up : (b : Bool) → is_up link.phase ≡ b → IsFew link (if is_ok (acceptance link) then giving item link else silent link)
  by_up true up = by_room up (nat_lt (length link.waiting) window_size) refl
  by_up false down = rw down (silent_few link)

pub sending_few : (now : ℕ) (item : List ℕ) (link : LinkState) → length (sending_item now item link).pdus + may_send (sending_item now item link).link ≤ may_send link
unfolding sending_item
sending_few now item link =
    few_then link (entered now link) (λ l. if is_ok (acceptance l) then giving item l else silent l) (entered_few now link) (accepted_few item (entered now link).link)

closes_few : (why : Reason) (link : LinkState) → is_open link.phase ≡ true → IsFew link (closing why link)
unfolding closing may_send
closes_few why link opened = cases (is_told why) where
  cases : (b : Bool) → IsFew link (if b then telling why link else silent (closed link))
  cases true = telling_few why link opened
  cases false = omega arith

closes_where_open : (why : Reason) (link : LinkState) → IsFew link (if is_open link.phase then closing why link else silent link)
closes_where_open why link = cases (is_open link.phase) refl where
  cases : (b : Bool) → is_open link.phase ≡ b → IsFew link (if b then closing why link else silent link)
  cases true opened = closes_few why link opened
  cases false shut = silent_few link

pub closing_few : (now : ℕ) (why : Reason) (link : LinkState) → length (closing_by now why link).pdus + may_send (closing_by now why link).link ≤ may_send link
unfolding closing_by
closing_few now why link =
    few_then link (entered now link) (λ l. if is_open l.phase then closing why l else silent l) (entered_few now link) (closes_where_open why (entered now link).link)

-- a heartbeat isn't counted
beating_few : (link : LinkState) → length (beating link).pdus + may_send (beating link).link ≤ may_send link + 1
unfolding beating sending may_send
beating_few link = cases (is_up link.phase && nat_le heartbeat_interval (link.clock - link.sent_at)) where
  cases : (b : Bool) → length (if b then sending Heartbeat link else silent link).pdus + may_send (if b then sending Heartbeat link else silent link).link ≤ may_send link + 1
  cases true = omega arith
  cases false = omega arith

pub ticking_few : (now : ℕ) (link : LinkState) → length (ticking now link).pdus + may_send (ticking now link).link ≤ may_send link + 1
unfolding ticking
ticking_few now link =
    let l = (entered now link).link
    in omega (arith, length-append (entered now link).pdus (beating l).pdus, entered_few now link, beating_few l)

-- ---- what a datagram brings

-- one PDU at most, or what a retransmission repeats, with one before and one after
abbrev IsAnswer : Receipt → Type 0
IsAnswer receipt = (length receipt.pdus ≤ 1) ⊎ (length receipt.pdus ≡ length receipt.link.waiting + 2)

one_at_most : (receipt : Receipt) → length receipt.pdus ≤ 1 → IsAnswer receipt
one_at_most receipt few = inl few

length-repeated : (header : Header) (count : ℕ) (waiting : List Unconfirmed) → length (repeated header count waiting) ≡ length waiting
unfolding repeated
length-repeated header count [] = refl
length-repeated header count (first ∷ others) = ap suc (length-repeated header (count + 1) others)

length-retagged : (count : ℕ) (waiting : List Unconfirmed) → length (retagged count waiting) ≡ length waiting
unfolding retagged
length-retagged count [] = refl
length-retagged count (first ∷ others) = ap suc (length-retagged (count + 1) others)

answering_repeats : (link : LinkState) → IsAnswer (accepting (answering link))
unfolding answering repeating sending
answering_repeats link = inr (simp (length-append, length-repeated, length-retagged) (omega arith))

bringing_answers : (body : Body) (link : LinkState) → IsAnswer (bringing body link)
unfolding bringing handing
bringing_answers (Data items) link = inl (omega arith)
bringing_answers (RetransmittedData items) link = inl (omega arith)
bringing_answers RetransmissionRequest link = answering_repeats link
bringing_answers (ConnectionRequest offer) link = inl (omega arith)
bringing_answers (ConnectionResponse offer) link = inl (omega arith)
bringing_answers RetransmissionResponse link = inl (omega arith)
bringing_answers (DisconnectionRequest detail why) link = inl (omega arith)
bringing_answers Heartbeat link = inl (omega arith)

either : (P : Receipt → Type 0) (test : Bool) (one other : Receipt) → P one → P other → P (if test then one else other)
either P true one other p q = p
either P false one other p q = q

violating_answers : (link : LinkState) → IsAnswer (violating link)
unfolding telling sending
violating_answers link = inl (omega arith)

missing_answers : (link : LinkState) → IsAnswer (missing link)
unfolding missing sending
missing_answers link = inl (omega arith)

refusing_answers : (why : Verdict) (link : LinkState) → IsAnswer (refusing why link)
refusing_answers why link = inl (omega arith)

in_turn_answers : (pdu : Pdu) (link : LinkState) → IsAnswer (in_turn pdu link)
unfolding in_turn
in_turn_answers pdu link = either IsAnswer (ahead pdu link == 0) _ _ (bringing_answers pdu.body (taking pdu link)) (missing_answers link)

admitting_answers : (body : Body) (at : Phase) (pdu : Pdu) (link : LinkState) → IsAnswer (admitting (admission body at) pdu link)
unfolding admitting
admitting_answers (ConnectionRequest offer) at pdu link = violating_answers link
admitting_answers (ConnectionResponse offer) at pdu link = violating_answers link
admitting_answers RetransmissionRequest phase.Closed pdu link = in_turn_answers pdu link
admitting_answers RetransmissionRequest phase.Start pdu link = violating_answers link
admitting_answers RetransmissionRequest phase.Up pdu link = in_turn_answers pdu link
admitting_answers RetransmissionRequest phase.RetransmissionRequested pdu link = inl (omega arith)
admitting_answers RetransmissionRequest phase.RetransmissionRunning pdu link = in_turn_answers pdu link
admitting_answers RetransmissionResponse phase.Closed pdu link = violating_answers link
admitting_answers RetransmissionResponse phase.Start pdu link = violating_answers link
admitting_answers RetransmissionResponse phase.Up pdu link = violating_answers link
admitting_answers RetransmissionResponse phase.RetransmissionRequested pdu link = inl (omega arith)
admitting_answers RetransmissionResponse phase.RetransmissionRunning pdu link = violating_answers link
admitting_answers (DisconnectionRequest detail why) at pdu link = inl (omega arith)
admitting_answers Heartbeat phase.Closed pdu link = in_turn_answers pdu link
admitting_answers Heartbeat phase.Start pdu link = in_turn_answers pdu link
admitting_answers Heartbeat phase.Up pdu link = in_turn_answers pdu link
admitting_answers Heartbeat phase.RetransmissionRequested pdu link = inl (omega arith)
admitting_answers Heartbeat phase.RetransmissionRunning pdu link = in_turn_answers pdu link
admitting_answers (Data items) phase.Closed pdu link = in_turn_answers pdu link
admitting_answers (Data items) phase.Start pdu link = in_turn_answers pdu link
admitting_answers (Data items) phase.Up pdu link = in_turn_answers pdu link
admitting_answers (Data items) phase.RetransmissionRequested pdu link = inl (omega arith)
admitting_answers (Data items) phase.RetransmissionRunning pdu link = in_turn_answers pdu link
admitting_answers (RetransmittedData items) phase.Closed pdu link = violating_answers link
admitting_answers (RetransmittedData items) phase.Start pdu link = violating_answers link
admitting_answers (RetransmittedData items) phase.Up pdu link = violating_answers link
admitting_answers (RetransmittedData items) phase.RetransmissionRequested pdu link = inl (omega arith)
admitting_answers (RetransmittedData items) phase.RetransmissionRunning pdu link = in_turn_answers pdu link

testing_answers : (pdu : Pdu) (link : LinkState) → IsAnswer (testing pdu link)
unfolding testing
testing_answers pdu link =
    either IsAnswer (nat_lt sequence_range (ahead pdu link)) _ _ (refusing_answers verdict.OutOfRange link)
    (either IsAnswer (is_stale pdu link) _ _ (refusing_answers verdict.Stale link)
    (either IsAnswer (not (confirms pdu link)) _ _ (refusing_answers verdict.BadConfirm link)
    (admitting_answers pdu.body link.phase pdu link)))

connected_answers : (body : Body) (pdu : Pdu) (link : LinkState) → IsAnswer (connected body pdu link)
unfolding connected
connected_answers (ConnectionRequest offer) pdu link = either IsAnswer (is_opening_again pdu link) _ _ (refusing_answers verdict.Discarded link) (violating_answers link)
connected_answers (ConnectionResponse offer) pdu link = testing_answers pdu link
connected_answers RetransmissionRequest pdu link = testing_answers pdu link
connected_answers RetransmissionResponse pdu link = testing_answers pdu link
connected_answers (DisconnectionRequest detail why) pdu link = testing_answers pdu link
connected_answers Heartbeat pdu link = testing_answers pdu link
connected_answers (Data items) pdu link = testing_answers pdu link
connected_answers (RetransmittedData items) pdu link = testing_answers pdu link

one_judging : (offer : Opening) (body : Body) (link : LinkState) → length (judging offer (sending body) link).pdus ≡ 1
unfolding judging telling sending
one_judging offer body link = cases (pointwise nat_eq offer.version own_version) (offer.window == window_size) where
  cases : (a b : Bool) → length (if a then (if b then sending body link else telling reason.Window link) else telling reason.Version link).pdus ≡ 1
  cases true true = refl
  cases true false = refl
  cases false b = refl

one_joining : (pdu : Pdu) (offer : Opening) (link : LinkState) → length (joining pdu offer link).pdus ≡ 1
unfolding joining
one_joining pdu offer link = one_judging offer _ _

joining_answers : (pdu : Pdu) (offer : Opening) (link : LinkState) → IsAnswer (accepting (joining pdu offer link))
joining_answers pdu offer link = inl (omega (arith, one_joining pdu offer link))

abbrev IsOne : Receipt → Type 0
IsOne receipt = length receipt.pdus ≤ 1

granting_one : (pdu : Pdu) (offer : Opening) (link : LinkState) → length (granting pdu offer link).pdus ≡ 1
unfolding granting
granting_one pdu offer link = one_judging offer _ _

one_granting : (pdu : Pdu) (offer : Opening) (link : LinkState) → IsOne (accepting (granting pdu offer link))
one_granting pdu offer link = omega (arith, granting_one pdu offer link)

asking_answers : (body : Body) (pdu : Pdu) (link : LinkState) → IsAnswer (asking body pdu link)
unfolding asking
asking_answers (ConnectionRequest offer) pdu link = violating_answers link
asking_answers (ConnectionResponse offer) pdu link = either IsAnswer (answers_request pdu link) _ _ (joining_answers pdu offer link) (refusing_answers verdict.BadConfirm link)
asking_answers RetransmissionRequest pdu link = violating_answers link
asking_answers RetransmissionResponse pdu link = violating_answers link
asking_answers (DisconnectionRequest detail why) pdu link = either IsAnswer (answers_request pdu link) _ _ (inl (omega arith)) (refusing_answers verdict.BadConfirm link)
asking_answers Heartbeat pdu link = violating_answers link
asking_answers (Data items) pdu link = violating_answers link
asking_answers (RetransmittedData items) pdu link = violating_answers link

one_refusing : (why : Verdict) (link : LinkState) → IsOne (refusing why link)
one_refusing why link = omega arith

one_resting : (body : Body) (pdu : Pdu) (link : LinkState) → IsOne (resting body pdu link)
unfolding resting
one_resting (ConnectionRequest offer) pdu link = either IsOne (is_client link.identity.role) _ _ (one_refusing verdict.WrongState link) (one_granting pdu offer link)
one_resting (ConnectionResponse offer) pdu link = one_refusing verdict.WrongState link
one_resting RetransmissionRequest pdu link = one_refusing verdict.WrongState link
one_resting RetransmissionResponse pdu link = one_refusing verdict.WrongState link
one_resting (DisconnectionRequest detail why) pdu link = one_refusing verdict.WrongState link
one_resting Heartbeat pdu link = one_refusing verdict.WrongState link
one_resting (Data items) pdu link = one_refusing verdict.WrongState link
one_resting (RetransmittedData items) pdu link = one_refusing verdict.WrongState link

by_state_answers : (at : State) (pdu : Pdu) (link : LinkState) → IsAnswer (by_state at pdu link)
unfolding by_state
by_state_answers state.Quiet pdu link = refusing_answers verdict.Quiet link
by_state_answers state.Down pdu link = inl (one_resting pdu.body pdu link)
by_state_answers state.Start pdu link = either IsAnswer (is_client link.identity.role) _ _ (asking_answers pdu.body pdu link) (connected_answers pdu.body pdu link)
by_state_answers state.Up pdu link = connected_answers pdu.body pdu link
by_state_answers state.RetransmissionRequested pdu link = connected_answers pdu.body pdu link
by_state_answers state.RetransmissionRunning pdu link = connected_answers pdu.body pdu link

hearing_answers : (read : Result Pdu PduFault) (link : LinkState) → IsAnswer (hearing_bytes read link)
unfolding hearing_bytes hearing
hearing_answers (Err fault) link = refusing_answers (verdict.Unreadable fault) link
hearing_answers (Ok pdu) link =
    either IsAnswer (not (pdu.receiver == link.identity.own)) _ _ (refusing_answers verdict.NotForMe link)
    (either IsAnswer (not (pdu.sender == link.identity.partner)) _ _ (refusing_answers verdict.WrongSender link)
    (by_state_answers (state_at link.clock link) pdu link))

-- in no connection no retransmission is answered
one_outside : (quiet : Bool) (pdu : Pdu) (link : LinkState) → IsOne (by_state (if quiet then state.Quiet else state.Down) pdu link)
unfolding by_state
one_outside true pdu link = one_refusing verdict.Quiet link
one_outside false pdu link = one_resting pdu.body pdu link

one_by_state : (pdu : Pdu) (link : LinkState) → is_open link.phase ≡ false → IsOne (by_state (state_at link.clock link) pdu link)
unfolding state_at
one_by_state pdu link shut = rw shut (one_outside (nat_lt link.clock (deadline link + quiet_time)) pdu link)

one_hearing : (read : Result Pdu PduFault) (link : LinkState) → is_open link.phase ≡ false → IsOne (hearing_bytes read link)
unfolding hearing_bytes hearing
one_hearing (Err fault) link shut = one_refusing (verdict.Unreadable fault) link
one_hearing (Ok pdu) link shut =
    either IsOne (not (pdu.receiver == link.identity.own)) _ _ (one_refusing verdict.NotForMe link)
    (either IsOne (not (pdu.sender == link.identity.partner)) _ _ (one_refusing verdict.WrongSender link)
    (one_by_state pdu link shut))

-- what the limit of PDUs hands out closes the connection
limited_one : (link : LinkState) → IsOne (accepting (limited link))
unfolding limited telling sending
limited_one link = cases (is_open link.phase && nat_le connection_limit link.sent) where
  cases : (b : Bool) → length (if b then telling reason.Sequence link else silent link).pdus ≤ 1
  cases true = omega arith
  cases false = omega arith

limited_closes : (link : LinkState) → is_open (limited link).link.phase ≡ true → length (limited link).pdus ≡ 0
unfolding limited telling sending
limited_closes link opened = cases (is_open link.phase && nat_le connection_limit link.sent) refl where
  cases : (b : Bool) → (is_open link.phase && nat_le connection_limit link.sent) ≡ b → length (if b then telling reason.Sequence link else silent link).pdus ≡ 0
  cases true is = absurd (false≢true (rw is at opened))
  cases false is = refl

window_and_close : (link : LinkState) → may_send link ≤ suc (window_size - length link.waiting)
unfolding may_send
window_and_close link = cases (is_open link.phase) where
  cases : (b : Bool) → (if b then suc (window_size - length link.waiting) else 0) ≤ suc (window_size - length link.waiting)
  cases true = omega arith
  cases false = omega arith

-- A retransmission is answered by all that the window holds, and what is sent after it has to find room there.
pub receiving_few : (now : ℕ) (bytes : List ℕ) (link : LinkState) → length (receiving now bytes link).pdus ≤ 22 → length (receiving now bytes link).pdus + may_send (receiving now bytes link).link ≤ 23
unfolding receiving entered
receiving_few now bytes link few = cases (is_open begun.link.phase) refl where
  begun : Step
  begun = limited (settled now link)

  heard : Receipt
  heard = hearing_bytes (reading link.identity.key bytes) begun.link

  joined : length (begun.pdus ++ heard.pdus) ≡ length begun.pdus + length heard.pdus
  joined = length-append begun.pdus heard.pdus

  answered : length begun.pdus ≡ 0 → IsAnswer heard → length (begun.pdus ++ heard.pdus) + may_send heard.link ≤ 23
  answered none (inl one) = omega (arith, joined, none, one, at_most_a_window heard.link)
  answered none (inr again) = omega (arith, joined, none, again, few, window_and_close heard.link)

  cases : (b : Bool) → is_open begun.link.phase ≡ b → length (begun.pdus ++ heard.pdus) + may_send heard.link ≤ 23
  cases true opened = answered (limited_closes (settled now link) opened) (hearing_answers (reading link.identity.key bytes) begun.link)
  cases false shut = omega (arith, joined, limited_one (settled now link), one_hearing (reading link.identity.key bytes) begun.link shut, at_most_a_window heard.link)
