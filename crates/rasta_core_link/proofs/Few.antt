-- How many datagrams a call hands out: few, and none beside items.
use Rattle.std.proofs.Common.{◌≡◌, ℕ, ◌+◌, ◌≤◌, Bool, true, false, List, [], length, inl, inr, refl, ap, arith, nat_lt, ◌&&◌, ◌==◌, not, if◌then◌else◌, Result, Ok, Err, is_ok}
use Rattle.std.proofs.lemmas.List.{length-append, append-nil, nil_from_length}
use Rattle.std.proofs.lemmas.Bool.{cases_lt, lt-ltb}
use Rattle.rasta_core_link.specs.Parameters.{quiet_time, sequence_range}
use Rattle.rasta_core_link.specs.State.{LinkState, is_open, is_client}
use Rattle.rasta_core_link.specs.Clock.{deadline, state_at}
use Rattle.rasta_core_link.specs.PdusHandedOut.{Step, silent, then_do, closed, sending, telling, closing, limited, entered, beating, giving}
use Rattle.rasta_core_link.specs.Establishment.{is_down, may_open, requesting, judging, granting, joining}
use Rattle.rasta_core_link.specs.Receipt.{Receipt, refusing, violating, accepting, ahead, is_stale, confirms, answers_request, taking, repeating, answering, missing, handing, bringing, in_turn, admission, admitting, testing, connected, asking, resting, by_state, hearing}
use Rattle.rasta_core_link.specs.Calls.{opening, ticking, closing_by, acceptance, sending_item, hearing_bytes, receiving}
use Rattle.rasta_core_link.specs.declared.admission.Admission.{Admission}
use Rattle.rasta_core_link.specs.declared.admission.Admission.TheVariants as admits
use Rattle.rasta_core_link.specs.declared.phase.Phase.TheVariants as phase
use Rattle.rasta_core_link.specs.declared.phase.State.{State}
use Rattle.rasta_core_link.specs.declared.phase.State.TheVariants as state
use Rattle.rasta_core_link.specs.declared.reason.Reason.{Reason}
use Rattle.rasta_core_link.specs.declared.reason.Reason.TheVariants as reason
use Rattle.rasta_core_link.specs.declared.verdict.Verdict.{Verdict}
use Rattle.rasta_core_link.specs.declared.verdict.Verdict.TheVariants as verdict
use Rattle.rasta_core_link.proofs.OutboxPosts.{posting}
use Rattle.rasta_core_link.proofs.Steps.{one-telling, few-entered}
use Rattle.rasta_core_link.proofs.UnconfirmedItems.{length-repeated, length-still_waiting}
use Rattle.rasta_pdu.specs.PduRead.{reading}
use Rattle.rasta_pdu.specs.declared.fault.PduFault.{PduFault}
use Rattle.rasta_pdu.specs.declared.pdu.Pdu.{Pdu}
use Rattle.rasta_pdu.specs.declared.body.Body.{Body}
use Rattle.rasta_pdu.specs.declared.body.Opening.{Opening}
use Rattle.rasta_pdu.specs.declared.body.Body.TheVariants.{ConnectionRequest, ConnectionResponse, RetransmissionRequest, RetransmissionResponse, DisconnectionRequest, Heartbeat, Data, RetransmittedData}

-- one PDU goes out

one-sending : (body : Body) (link : LinkState) → length (sending body link).pdus ≡ 1
unfolding sending
one-sending body link = refl

one-requesting : (link : LinkState) → length (requesting link).pdus ≡ 1
unfolding requesting sending
one-requesting link = refl

one-judging : (offer : Opening) (body : Body) (link : LinkState) → length (judging offer (sending body) link).pdus ≡ 1
unfolding judging
one-judging offer body link = grind (arith, one-sending, one-telling)

one-granting : (pdu : Pdu) (offer : Opening) (link : LinkState) → length (granting pdu offer link).pdus ≡ 1
unfolding granting
one-granting pdu offer link = one-judging offer _ _

one-joining : (pdu : Pdu) (offer : Opening) (link : LinkState) → length (joining pdu offer link).pdus ≡ 1
unfolding joining
one-joining pdu offer link = one-judging offer _ _

few-beating : (link : LinkState) → length (beating link).pdus ≤ 1
unfolding beating
few-beating link = grind (arith, one-sending)

few-closing : (why : Reason) (link : LinkState) → length (closing why link).pdus ≤ 1
unfolding closing
few-closing why link = grind (arith, one-telling)

few-giving : (item : List ℕ) (link : LinkState) → length (giving item link).pdus ≡ 1
unfolding giving sending
few-giving item link = refl

-- an answer to a retransmission request

few-answering : (link : LinkState) → length link.waiting ≤ 20 → length (answering link).pdus ≤ 22
unfolding answering repeating sending
few-answering link h = simp (length-append, length-repeated) (omega arith)

-- what a datagram brings

pub record Few (receipt : Receipt) : Type 0 where
  pub few : length receipt.pdus ≤ 22
  pub items_alone : 1 ≤ length receipt.items → receipt.pdus ≡ []

no_pdus : (receipt : Receipt) → receipt.pdus ≡ [] → Few receipt
no_pdus receipt none = record { few = rw none (omega arith); items_alone = λ h. none }

no_items : (receipt : Receipt) → receipt.items ≡ [] → length receipt.pdus ≤ 22 → Few receipt
no_items receipt none few = record { few = few; items_alone = λ h. absurd (let e = ap (λ (xs : List (List ℕ)). length xs) none in omega arith) }

few-violating : (link : LinkState) → Few (violating link)
few-violating link = no_items (violating link) refl (rw one-telling (omega arith))

few-missing : (link : LinkState) → Few (missing link)
unfolding missing sending
few-missing link = no_items _ refl (omega arith)

few-bringing : (body : Body) (link : LinkState) → length link.waiting ≤ 20 → Few (bringing body link)
unfolding bringing handing
few-bringing (Data items) link h = no_pdus _ refl
few-bringing (RetransmittedData items) link h = no_pdus _ refl
few-bringing RetransmissionRequest link h = no_items _ refl (few-answering link h)
few-bringing (ConnectionRequest offer) link h = no_pdus _ refl
few-bringing (ConnectionResponse offer) link h = no_pdus _ refl
few-bringing RetransmissionResponse link h = no_pdus _ refl
few-bringing (DisconnectionRequest detail why) link h = no_pdus _ refl
few-bringing Heartbeat link h = no_pdus _ refl

few_waiting-taking : (pdu : Pdu) (link : LinkState) → length link.waiting ≤ 20 → length (taking pdu link).waiting ≤ 20
unfolding taking
few_waiting-taking pdu link h = omega (arith, length-still_waiting)

if_few : (test : Bool) (one other : Receipt) → Few one → Few other → Few (if test then one else other)
if_few true one other p q = p
if_few false one other p q = q

few-in_turn : (pdu : Pdu) (link : LinkState) → length link.waiting ≤ 20 → Few (in_turn pdu link)
unfolding in_turn
few-in_turn pdu link h = if_few _ _ _ (few-bringing pdu.body (taking pdu link) (few_waiting-taking pdu link h)) (few-missing link)

few-admitting : (admission : Admission) (pdu : Pdu) (link : LinkState) → length link.waiting ≤ 20 → Few (admitting admission pdu link)
unfolding admitting
few-admitting admits.Violates pdu link h = few-violating link
few-admitting admits.Discards pdu link h = no_pdus _ refl
few-admitting admits.Closes pdu link h = no_pdus _ refl
few-admitting admits.Resumes pdu link h = no_pdus _ refl
few-admitting admits.InTurn pdu link h = few-in_turn pdu link h

refused : (why : Verdict) (link : LinkState) → Few (refusing why link)
refused why link = no_pdus _ refl

few-testing : (pdu : Pdu) (link : LinkState) → length link.waiting ≤ 20 → Few (testing pdu link)
unfolding testing
few-testing pdu link h =
    if_few (nat_lt sequence_range (ahead pdu link)) _ _ (refused verdict.OutOfRange link)
    (if_few (is_stale pdu link) _ _ (refused verdict.Stale link)
    (if_few (not (confirms pdu link)) _ _ (refused verdict.BadConfirm link)
    (few-admitting (admission pdu.body link.phase) pdu link h)))

few-connected : (body : Body) (pdu : Pdu) (link : LinkState) → length link.waiting ≤ 20 → Few (connected body pdu link)
unfolding connected
few-connected (ConnectionRequest offer) pdu link h = if_few _ _ _ (refused _ link) (few-violating link)
few-connected (ConnectionResponse offer) pdu link h = few-testing pdu link h
few-connected RetransmissionRequest pdu link h = few-testing pdu link h
few-connected RetransmissionResponse pdu link h = few-testing pdu link h
few-connected (DisconnectionRequest detail why) pdu link h = few-testing pdu link h
few-connected Heartbeat pdu link h = few-testing pdu link h
few-connected (Data items) pdu link h = few-testing pdu link h
few-connected (RetransmittedData items) pdu link h = few-testing pdu link h

few-asking : (body : Body) (pdu : Pdu) (link : LinkState) → Few (asking body pdu link)
unfolding asking
few-asking (ConnectionRequest offer) pdu link = few-violating link
few-asking (ConnectionResponse offer) pdu link =
    if_few (answers_request pdu link) _ _ (no_items (accepting (joining pdu offer link)) refl (rw one-joining (omega arith))) (refused verdict.BadConfirm link)
few-asking RetransmissionRequest pdu link = few-violating link
few-asking RetransmissionResponse pdu link = few-violating link
few-asking (DisconnectionRequest detail why) pdu link =
    if_few (answers_request pdu link) _ _ (no_pdus (accepting (silent (closed link))) refl) (refused verdict.BadConfirm link)
few-asking Heartbeat pdu link = few-violating link
few-asking (Data items) pdu link = few-violating link
few-asking (RetransmittedData items) pdu link = few-violating link

few-resting : (body : Body) (pdu : Pdu) (link : LinkState) → Few (resting body pdu link)
unfolding resting
few-resting (ConnectionRequest offer) pdu link =
    if_few (is_client link.identity.role) _ _ (refused verdict.WrongState link) (no_items (accepting (granting pdu offer link)) refl (rw one-granting (omega arith)))
few-resting (ConnectionResponse offer) pdu link = refused _ link
few-resting RetransmissionRequest pdu link = refused _ link
few-resting RetransmissionResponse pdu link = refused _ link
few-resting (DisconnectionRequest detail why) pdu link = refused _ link
few-resting Heartbeat pdu link = refused _ link
few-resting (Data items) pdu link = refused _ link
few-resting (RetransmittedData items) pdu link = refused _ link

few-by_state : (at : State) (pdu : Pdu) (link : LinkState) → length link.waiting ≤ 20 → Few (by_state at pdu link)
unfolding by_state
few-by_state state.Quiet pdu link h = refused _ link
few-by_state state.Down pdu link h = few-resting pdu.body pdu link
few-by_state state.Start pdu link h = if_few _ _ _ (few-asking pdu.body pdu link) (few-connected pdu.body pdu link h)
few-by_state state.Up pdu link h = few-connected pdu.body pdu link h
few-by_state state.RetransmissionRequested pdu link h = few-connected pdu.body pdu link h
few-by_state state.RetransmissionRunning pdu link h = few-connected pdu.body pdu link h

few-hearing : (pdu : Pdu) (link : LinkState) → length link.waiting ≤ 20 → Few (hearing pdu link)
unfolding hearing
few-hearing pdu link h =
    if_few (not (pdu.receiver == link.identity.own)) _ _ (refused verdict.NotForMe link)
    (if_few (not (pdu.sender == link.identity.partner)) _ _ (refused verdict.WrongSender link)
    (few-by_state (state_at link.clock link) pdu link h))

few-hearing_bytes : (read : Result Pdu PduFault) (link : LinkState) → length link.waiting ≤ 20 → Few (hearing_bytes read link)
unfolding hearing_bytes
few-hearing_bytes (Err fault) link h = refused _ link
few-hearing_bytes (Ok pdu) link h = few-hearing pdu link h

-- a link that closes by its limit is quiet, and hands out no more in that call

pub record JustClosed (link : LinkState) : Type 0 where
  pub phase : link.phase ≡ phase.Closed
  pub closed_at : link.closed_at ≡ link.clock

just-telling : (why : Reason) (link : LinkState) → JustClosed (telling why link).link
unfolding telling sending
just-telling why link = record { phase = refl; closed_at = refl }

just_if : (test : Bool) (link : LinkState) → 1 ≤ length (if test then telling reason.Sequence link else silent link).pdus → JustClosed (if test then telling reason.Sequence link else silent link).link
just_if true link h = just-telling reason.Sequence link
just_if false link h = absurd (omega arith)

just-entered : (now : ℕ) (link : LinkState) → 1 ≤ length (entered now link).pdus → JustClosed (entered now link).link
unfolding entered limited
just-entered now link h = just_if _ _ h

rests : (link : LinkState) → JustClosed link → state_at link.clock link ≡ state.Quiet
unfolding state_at deadline
rests link just =
    let quiet : nat_lt link.clock (link.closed_at + quiet_time) ≡ true = lt-ltb _ _ (rw just.closed_at (omega arith)) in
    rw (just.phase, quiet) refl

once : (first : Step) (next : LinkState → Step) → length first.pdus ≤ 1 → (1 ≤ length first.pdus → (next first.link).pdus ≡ []) → length (next first.link).pdus ≤ 1 → length (then_do first next).pdus ≤ 1
once first next few silent_after more =
    let joined = length-append first.pdus (next first.link).pdus in
    elim (cases_lt (length first.pdus) 1) [
      | inl none ↦ omega arith
      | inr one ↦ let rest = ap (λ (ps : List Pdu). length ps) (silent_after one) in omega arith
    ]

silent_closed-beating : (link : LinkState) → JustClosed link → (beating link).pdus ≡ []
unfolding beating
silent_closed-beating link just = rw just.phase refl

pub few-ticking : (now : ℕ) (link : LinkState) → length (ticking now link).pdus ≤ 1
unfolding ticking
few-ticking now link =
    once (entered now link) beating (few-entered now link) (λ h. silent_closed-beating _ (just-entered now link h)) (few-beating _)

client_and_down : (client : Bool) (at : State) → is_down at ≡ false → (client && is_down at) ≡ false
client_and_down true at h = h
client_and_down false at h = refl

not_down : (link : LinkState) → JustClosed link → is_down (state_at link.clock link) ≡ false
not_down link just = rw (rests link just) refl

few-asking_for : (test : Bool) (link : LinkState) → length (if test then requesting link else silent link).pdus ≤ 1
few-asking_for true link = rw one-requesting (omega arith)
few-asking_for false link = omega arith

pub few-opening : (now : ℕ) (link : LinkState) → length (opening now link).pdus ≤ 1
unfolding opening
few-opening now link =
    once (entered now link) (λ l. if may_open l then requesting l else silent l) (few-entered now link)
    (λ h. rw (client_and_down _ _ (not_down _ (just-entered now link h))) refl)
    (few-asking_for _ _)

few_if_open : (test : Bool) (why : Reason) (link : LinkState) → length (if test then closing why link else silent link).pdus ≤ 1
few_if_open true why link = few-closing why link
few_if_open false why link = omega arith

pub few-closing_by : (now : ℕ) (why : Reason) (link : LinkState) → length (closing_by now why link).pdus ≤ 1
unfolding closing_by
few-closing_by now why link =
    once (entered now link) (λ l. if is_open l.phase then closing why l else silent l) (few-entered now link)
    (λ h. let just = just-entered now link h in rw just.phase refl)
    (few_if_open _ why _)

few_if_accepted : (test : Bool) (item : List ℕ) (link : LinkState) → length (if test then giving item link else silent link).pdus ≤ 1
few_if_accepted true item link = rw few-giving (omega arith)
few_if_accepted false item link = omega arith

refuses_closed : (link : LinkState) → JustClosed link → is_ok (acceptance link) ≡ false
unfolding acceptance
refuses_closed link just = rw just.phase refl

pub few-sending_item : (now : ℕ) (item : List ℕ) (link : LinkState) → length (sending_item now item link).pdus ≤ 1
unfolding sending_item
few-sending_item now item link =
    once (entered now link) (λ l. if is_ok (acceptance l) then giving item l else silent l) (few-entered now link)
    (λ h. rw (refuses_closed _ (just-entered now link h)) refl)
    (few_if_accepted _ item _)

record Nothing (receipt : Receipt) : Type 0 where
  pdus : receipt.pdus ≡ []
  items : receipt.items ≡ []

if_nothing : (test : Bool) (why : Verdict) (link : LinkState) (other : Receipt) → Nothing other → Nothing (if test then refusing why link else other)
if_nothing true why link other p = record { pdus = refl; items = refl }
if_nothing false why link other p = p

nothing-by_state : (pdu : Pdu) (link : LinkState) → JustClosed link → Nothing (by_state (state_at link.clock link) pdu link)
unfolding by_state
nothing-by_state pdu link just = rw (rests link just) (record { pdus = refl; items = refl })

nothing-hearing_bytes : (read : Result Pdu PduFault) (link : LinkState) → JustClosed link → Nothing (hearing_bytes read link)
unfolding hearing_bytes hearing
nothing-hearing_bytes (Err fault) link just = record { pdus = refl; items = refl }
nothing-hearing_bytes (Ok pdu) link just =
    if_nothing (not (pdu.receiver == link.identity.own)) verdict.NotForMe link _
    (if_nothing (not (pdu.sender == link.identity.partner)) verdict.WrongSender link _ (nothing-by_state pdu link just))

-- at most 22, and none beside items
pub few-receiving : (now : ℕ) (bytes : List ℕ) (link : LinkState) → length (entered now link).link.waiting ≤ 20 → Few (receiving now bytes link)
unfolding receiving
few-receiving now bytes link h =
    let begun = entered now link in
    let heard = hearing_bytes (reading link.identity.key bytes) begun.link in
    elim (cases_lt (length begun.pdus) 1) [
      | inl none ↦
          let silent_before = nil_from_length begun.pdus (omega arith) in
          let after = few-hearing_bytes (reading link.identity.key bytes) begun.link h in
          record { few = rw silent_before after.few; items_alone = λ items. rw silent_before (after.items_alone items) }
      | inr one ↦
          let after = nothing-hearing_bytes (reading link.identity.key bytes) begun.link (just-entered now link one) in
          let before = few-entered now link in
          no_items _ after.items (rw (after.pdus, append-nil) (omega arith))
    ]

pub few-pdus-receiving : (now : ℕ) (bytes : List ℕ) (link : LinkState) → length (entered now link).link.waiting ≤ 20 → length (receiving now bytes link).pdus ≤ 22
few-pdus-receiving now bytes link h = (few-receiving now bytes link h).few

pub items_alone-receiving : (now : ℕ) (bytes : List ℕ) (link : LinkState) → length (entered now link).link.waiting ≤ 20 → 1 ≤ length (receiving now bytes link).items → (receiving now bytes link).pdus ≡ []
items_alone-receiving now bytes link h = (few-receiving now bytes link h).items_alone

pub ruleset calls = (few-opening, few-ticking, few-closing_by, few-sending_item, few-pdus-receiving, items_alone-receiving, posting)
