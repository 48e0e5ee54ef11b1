-- Every part of a call keeps the clock and the identity of the link.
use Rattle.std.proofs.Common.{◌≡◌, ℕ, refl, ◌∙◌, Bool, true, false, List, Result, Ok, Err}
use Rattle.std.specs.Prelude.{if◌then◌else◌, nat_lt, ◌==◌, not}
use Rattle.rasta_core_link.specs.Parameters.{sequence_range}
use Rattle.rasta_core_link.specs.State.{LinkState}
use Rattle.rasta_core_link.specs.Clock.{settled, state_at}
use Rattle.rasta_core_link.specs.PdusHandedOut.{Step, sending, telling, closing, limited, entered, beating, giving, is_told}
use Rattle.rasta_core_link.specs.Establishment.{own_opening, beginning, requesting, meeting, judging, granting, joining}
use Rattle.rasta_core_link.specs.Receipt.{Receipt, refusing, ahead, taking, repeating, answering, missing, handing, bringing, in_turn, admission, admitting, is_stale, confirms, testing, connected, asking, resting, by_state, hearing}
use Rattle.rasta_core_link.specs.Calls.{IsAt, opening, ticking, closing_by, sending_item, hearing_bytes, receiving}
use Rattle.rasta_core_link.specs.declared.phase.State.{State}
use Rattle.rasta_core_link.specs.declared.phase.State.TheVariants as state
use Rattle.rasta_core_link.specs.declared.reason.Reason.{Reason}
use Rattle.rasta_core_link.specs.declared.reason.Reason.TheVariants as reason
use Rattle.rasta_core_link.specs.declared.admission.Admission.{Admission}
use Rattle.rasta_core_link.specs.declared.admission.Admission.TheVariants as admits
use Rattle.rasta_core_link.specs.declared.verdict.Verdict.TheVariants as verdict
use Rattle.rasta_pdu.specs.declared.pdu.Pdu.{Pdu}
use Rattle.rasta_pdu.specs.declared.fault.PduFault.{PduFault}
use Rattle.rasta_pdu.specs.declared.body.Opening.{Opening}
use Rattle.rasta_pdu.specs.declared.body.Body.{Body}
use Rattle.rasta_pdu.specs.declared.body.Body.TheVariants.{ConnectionRequest, ConnectionResponse, RetransmissionRequest, RetransmissionResponse, DisconnectionRequest, Heartbeat, Data, RetransmittedData, Heartbeat}
use Rattle.rasta_pdu.specs.PduRead.{reading}

-- the same clock and the same identity
pub record Keeps (old new : LinkState) : Type 0 where
  pub clock : new.clock ≡ old.clock
  pub identity : new.identity ≡ old.identity

abbrev pub same : {l : LinkState} → Keeps l l
same = record { clock = refl; identity = refl }

pub keeps-then : (a b c : LinkState) → Keeps a b → Keeps b c → Keeps a c
keeps-then a b c first next = record { clock = next.clock ∙ first.clock; identity = next.identity ∙ first.identity }

-- both ways of a test keep them
if_keeps : (old : LinkState) (test : Bool) (this other : LinkState) → Keeps old this → Keeps old other → Keeps old (if test then this else other)
if_keeps old true this other kept-this kept-other = kept-this
if_keeps old false this other kept-this kept-other = kept-other

if_step : (old : LinkState) (test : Bool) (this other : Step) → Keeps old this.link → Keeps old other.link → Keeps old (if test then this else other).link
if_step old true this other kept-this kept-other = kept-this
if_step old false this other kept-this kept-other = kept-other

if_receipt : (old : LinkState) (test : Bool) (this other : Receipt) → Keeps old this.link → Keeps old other.link → Keeps old (if test then this else other).link
if_receipt old true this other kept-this kept-other = kept-this
if_receipt old false this other kept-this kept-other = kept-other

pub sending-keeps : (body : Body) (l : LinkState) → Keeps l (sending body l).link
unfolding sending
sending-keeps body l = record { clock = refl; identity = refl }

pub telling-keeps : (why : Reason) (l : LinkState) → Keeps l (telling why l).link
unfolding telling sending
telling-keeps why l = record { clock = refl; identity = refl }

pub closing-keeps : (why : Reason) (l : LinkState) → Keeps l (closing why l).link
unfolding closing telling sending
closing-keeps why l = if_step l (is_told why) _ _ (record { clock = refl; identity = refl }) (record { clock = refl; identity = refl })

pub limited-keeps : (l : LinkState) → Keeps l (limited l).link
unfolding limited
limited-keeps l = if_step l _ _ _ (telling-keeps reason.Sequence l) same

pub beating-keeps : (l : LinkState) → Keeps l (beating l).link
unfolding beating
beating-keeps l = if_step l _ _ _ (sending-keeps Heartbeat l) same

pub giving-keeps : (item : List ℕ) (l : LinkState) → Keeps l (giving item l).link
unfolding giving sending
giving-keeps item l = record { clock = refl; identity = refl }

pub requesting-keeps : (l : LinkState) → Keeps l (requesting l).link
unfolding requesting sending beginning
requesting-keeps l = record { clock = refl; identity = refl }

judging-keeps : (opening : Opening) (agreed : Body) (l : LinkState) → Keeps l (judging opening (sending agreed) l).link
unfolding judging
judging-keeps opening agreed l =
    if_step l _ _ _
    (if_step l _ _ _ (sending-keeps agreed l) (telling-keeps reason.Window l))
    (telling-keeps reason.Version l)

pub granting-keeps : (pdu : Pdu) (opening : Opening) (l : LinkState) → Keeps l (granting pdu opening l).link
unfolding granting meeting beginning
granting-keeps pdu opening l =
    let k = judging-keeps opening (ConnectionResponse own_opening) (meeting pdu (beginning l)) in record { clock = k.clock; identity = k.identity }

pub joining-keeps : (pdu : Pdu) (opening : Opening) (l : LinkState) → Keeps l (joining pdu opening l).link
unfolding joining meeting
joining-keeps pdu opening l =
    let k = judging-keeps opening Heartbeat _ in record { clock = k.clock; identity = k.identity }

pub taking-keeps : (pdu : Pdu) (l : LinkState) → Keeps l (taking pdu l)
unfolding taking
taking-keeps pdu l = record { clock = refl; identity = refl }

pub answering-keeps : (l : LinkState) → Keeps l (answering l).link
unfolding answering repeating sending
answering-keeps l = record { clock = refl; identity = refl }

missing-keeps : (l : LinkState) → Keeps l (missing l).link
unfolding missing sending
missing-keeps l = record { clock = refl; identity = refl }

bringing-keeps : (body : Body) (l : LinkState) → Keeps l (bringing body l).link
unfolding bringing handing
bringing-keeps (Data items) l = record { clock = refl; identity = refl }
bringing-keeps (RetransmittedData items) l = record { clock = refl; identity = refl }
bringing-keeps RetransmissionRequest l = answering-keeps l
bringing-keeps (ConnectionRequest _) l = record { clock = refl; identity = refl }
bringing-keeps (ConnectionResponse _) l = record { clock = refl; identity = refl }
bringing-keeps RetransmissionResponse l = record { clock = refl; identity = refl }
bringing-keeps (DisconnectionRequest _ _) l = record { clock = refl; identity = refl }
bringing-keeps Heartbeat l = record { clock = refl; identity = refl }

in_turn-keeps : (pdu : Pdu) (l : LinkState) → Keeps l (in_turn pdu l).link
unfolding in_turn
in_turn-keeps pdu l =
    if_receipt l _ _ _ (keeps-then l (taking pdu l) _ (taking-keeps pdu l) (bringing-keeps pdu.body (taking pdu l))) (missing-keeps l)

admitting-keeps : (what : Admission) (pdu : Pdu) (l : LinkState) → Keeps l (admitting what pdu l).link
unfolding admitting
admitting-keeps admits.Violates pdu l = telling-keeps reason.State l
admitting-keeps admits.Discards pdu l = same
admitting-keeps admits.Closes pdu l = let k = taking-keeps pdu l in record { clock = k.clock; identity = k.identity }
admitting-keeps admits.Resumes pdu l = let k = taking-keeps pdu l in record { clock = k.clock; identity = k.identity }
admitting-keeps admits.InTurn pdu l = in_turn-keeps pdu l

testing-keeps : (pdu : Pdu) (l : LinkState) → Keeps l (testing pdu l).link
unfolding testing
testing-keeps pdu l =
    let admitted = admitting (admission pdu.body l.phase) pdu l
    in let confirmed = if not (confirms pdu l) then refusing verdict.BadConfirm l else admitted
    in let fresh = if is_stale pdu l then refusing verdict.Stale l else confirmed
    in if_receipt l (nat_lt sequence_range (ahead pdu l)) (refusing verdict.OutOfRange l) fresh same
    (if_receipt l (is_stale pdu l) (refusing verdict.Stale l) confirmed same
    (if_receipt l (not (confirms pdu l)) (refusing verdict.BadConfirm l) admitted same
    (admitting-keeps (admission pdu.body l.phase) pdu l)))

connected-keeps : (body : Body) (pdu : Pdu) (l : LinkState) → Keeps l (connected body pdu l).link
unfolding connected
connected-keeps (ConnectionRequest _) pdu l = if_receipt l _ _ _ same (telling-keeps reason.State l)
connected-keeps (ConnectionResponse _) pdu l = testing-keeps pdu l
connected-keeps RetransmissionRequest pdu l = testing-keeps pdu l
connected-keeps RetransmissionResponse pdu l = testing-keeps pdu l
connected-keeps (DisconnectionRequest _ _) pdu l = testing-keeps pdu l
connected-keeps Heartbeat pdu l = testing-keeps pdu l
connected-keeps (Data _) pdu l = testing-keeps pdu l
connected-keeps (RetransmittedData _) pdu l = testing-keeps pdu l

asking-keeps : (body : Body) (pdu : Pdu) (l : LinkState) → Keeps l (asking body pdu l).link
unfolding asking
asking-keeps (ConnectionResponse opening) pdu l = if_receipt l _ _ _ (joining-keeps pdu opening l) same
asking-keeps (DisconnectionRequest _ _) pdu l = if_receipt l _ _ _ (record { clock = refl; identity = refl }) same
asking-keeps (ConnectionRequest _) pdu l = telling-keeps reason.State l
asking-keeps RetransmissionRequest pdu l = telling-keeps reason.State l
asking-keeps RetransmissionResponse pdu l = telling-keeps reason.State l
asking-keeps Heartbeat pdu l = telling-keeps reason.State l
asking-keeps (Data _) pdu l = telling-keeps reason.State l
asking-keeps (RetransmittedData _) pdu l = telling-keeps reason.State l

resting-keeps : (body : Body) (pdu : Pdu) (l : LinkState) → Keeps l (resting body pdu l).link
unfolding resting
resting-keeps (ConnectionRequest opening) pdu l = if_receipt l _ _ _ same (granting-keeps pdu opening l)
resting-keeps (ConnectionResponse _) pdu l = same
resting-keeps RetransmissionRequest pdu l = same
resting-keeps RetransmissionResponse pdu l = same
resting-keeps (DisconnectionRequest _ _) pdu l = same
resting-keeps Heartbeat pdu l = same
resting-keeps (Data _) pdu l = same
resting-keeps (RetransmittedData _) pdu l = same

by_state-keeps : (present : State) (pdu : Pdu) (l : LinkState) → Keeps l (by_state present pdu l).link
unfolding by_state
by_state-keeps state.Quiet pdu l = same
by_state-keeps state.Down pdu l = resting-keeps pdu.body pdu l
by_state-keeps state.Start pdu l = if_receipt l _ _ _ (asking-keeps pdu.body pdu l) (connected-keeps pdu.body pdu l)
by_state-keeps state.Up pdu l = connected-keeps pdu.body pdu l
by_state-keeps state.RetransmissionRequested pdu l = connected-keeps pdu.body pdu l
by_state-keeps state.RetransmissionRunning pdu l = connected-keeps pdu.body pdu l

hearing-keeps : (pdu : Pdu) (l : LinkState) → Keeps l (hearing pdu l).link
unfolding hearing
hearing-keeps pdu l =
    let stated = by_state (state_at l.clock l) pdu l
    in let for_me = if not (pdu.sender == l.identity.partner) then refusing verdict.WrongSender l else stated
    in if_receipt l (not (pdu.receiver == l.identity.own)) (refusing verdict.NotForMe l) for_me same
    (if_receipt l (not (pdu.sender == l.identity.partner)) (refusing verdict.WrongSender l) stated same
    (by_state-keeps (state_at l.clock l) pdu l))

hearing_bytes-keeps : (read : Result Pdu PduFault) (l : LinkState) → Keeps l (hearing_bytes read l).link
unfolding hearing_bytes
hearing_bytes-keeps (Err fault) l = same
hearing_bytes-keeps (Ok pdu) l = hearing-keeps pdu l

if_at : (now : ℕ) (old : LinkState) (test : Bool) (this other : LinkState) → IsAt now old this → IsAt now old other → IsAt now old (if test then this else other)
if_at now old true this other at-this at-other = at-this
if_at now old false this other at-this at-other = at-other

pub settled-at : (now : ℕ) (l : LinkState) → IsAt now l (settled now l)
unfolding settled
settled-at now l = if_at now l _ _ _ (record { clock = refl; identity = refl }) (record { clock = refl; identity = refl })

at-then : (now : ℕ) (a b c : LinkState) → IsAt now a b → Keeps b c → IsAt now a c
at-then now a b c first next = record { clock = next.clock ∙ first.clock; identity = next.identity ∙ first.identity }

pub entered-at : (now : ℕ) (l : LinkState) → IsAt now l (entered now l).link
unfolding entered
entered-at now l = at-then now l (settled now l) _ (settled-at now l) (limited-keeps (settled now l))

pub ticking-at : (now : ℕ) (l : LinkState) → IsAt now l (ticking now l).link
unfolding ticking
ticking-at now l = at-then now l (entered now l).link _ (entered-at now l) (beating-keeps (entered now l).link)

pub opening-at : (now : ℕ) (l : LinkState) → IsAt now l (opening now l).link
unfolding opening
opening-at now l =
    at-then now l (entered now l).link _ (entered-at now l) (if_step (entered now l).link _ _ _ (requesting-keeps (entered now l).link) same)

pub closing_by-at : (now : ℕ) (why : Reason) (l : LinkState) → IsAt now l (closing_by now why l).link
unfolding closing_by
closing_by-at now why l =
    at-then now l (entered now l).link _ (entered-at now l) (if_step (entered now l).link _ _ _ (closing-keeps why (entered now l).link) same)

pub sending_item-at : (now : ℕ) (item : List ℕ) (l : LinkState) → IsAt now l (sending_item now item l).link
unfolding sending_item
sending_item-at now item l =
    at-then now l (entered now l).link _ (entered-at now l) (if_step (entered now l).link _ _ _ (giving-keeps item (entered now l).link) same)

pub receiving-at : (now : ℕ) (bytes : List ℕ) (l : LinkState) → IsAt now l (receiving now bytes l).link
unfolding receiving
receiving-at now bytes l =
    at-then now l (entered now l).link _ (entered-at now l) (hearing_bytes-keeps (reading l.identity.key bytes) (entered now l).link)

pub ruleset kept = (ticking-at, opening-at, closing_by-at, sending_item-at, receiving-at, settled-at)
