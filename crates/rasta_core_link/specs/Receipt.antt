-- What an end does with a PDU that could be read: the tests in their order, and what is taken.
use Rattle.std.specs.Prelude.{ℕ, ◌+◌, ◌-◌, ◌==◌, nat_lt, nat_le, ◌&&◌, not, Bool, List, [], ◌∷◌, length, if◌then◌else◌}
use Rattle.rasta_core_link.specs.Parameters.{sequence_range, stops_at_greatest}
use Rattle.rasta_core_link.specs.Sequence.{wire, before, distance, stamp}
use Rattle.rasta_core_link.specs.State.{LinkState, is_client}
use Rattle.rasta_core_link.specs.Clock.{state_at}
use Rattle.rasta_core_link.specs.PdusHandedOut.{Step, silent, then_do, header_of, pdu_of, sending, telling, closed}
use Rattle.rasta_core_link.specs.Establishment.{granting, joining}
use Rattle.rasta_core_link.specs.declared.phase.Phase.{Phase}
use Rattle.rasta_core_link.specs.declared.phase.Phase.TheVariants as phase
use Rattle.rasta_core_link.specs.declared.phase.State.{State}
use Rattle.rasta_core_link.specs.declared.phase.State.TheVariants as state
use Rattle.rasta_core_link.specs.declared.reason.Reason.TheVariants as reason
use Rattle.rasta_core_link.specs.declared.admission.Admission.{Admission}
use Rattle.rasta_core_link.specs.declared.admission.Admission.TheVariants as admits
use Rattle.rasta_core_link.specs.declared.verdict.Verdict.{Verdict}
use Rattle.rasta_core_link.specs.declared.verdict.Verdict.TheVariants as verdict
use Rattle.rasta_core_link.specs.declared.window.Unconfirmed.{Unconfirmed}
use Rattle.rasta_core_link.specs.declared.header.Header.{Header}
use Rattle.rasta_pdu.specs.declared.pdu.Pdu.{Pdu}
use Rattle.rasta_pdu.specs.declared.body.Body.{Body}
use Rattle.rasta_pdu.specs.declared.body.Body.TheVariants.{ConnectionRequest, ConnectionResponse, RetransmissionRequest, RetransmissionResponse, DisconnectionRequest, Heartbeat, Data, RetransmittedData}

-- what became of a PDU: the link after it, the PDUs handed out, the items for the user, and the verdict
pub record Receipt : Type 0 where
  pub link : LinkState
  pub pdus : List Pdu
  pub items : List (List ℕ)
  pub verdict : Verdict

abbrev pub refusing : Verdict → LinkState → Receipt
refusing why link = record { link = link; pdus = []; items = []; verdict = why }

-- a PDU that the state doesn't allow closes the connection
abbrev pub violating : LinkState → Receipt
violating link =
    let told = telling reason.State link
    in record { link = told.link; pdus = told.pdus; items = []; verdict = verdict.WrongState }

abbrev pub accepting : Step → Receipt
accepting step = record { link = step.link; pdus = step.pdus; items = []; verdict = verdict.Taken }

-- how far a PDU is ahead of the expected one
unfoldable pub ahead : Pdu → LinkState → ℕ
ahead pdu link = distance (wire link.partner_first link.expected) pdu.sequence_number

-- how far the own PDU that it confirms is behind the last one
unfoldable pub behind : Pdu → LinkState → ℕ
behind pdu link = distance pdu.confirmed_sequence_number (wire link.own_first (before link.sent))

-- how old the own stamp is that it returns; stamps turn over after 2^32 ms
unfoldable pub age : Pdu → LinkState → ℕ
age pdu link = distance pdu.confirmed_time_stamp (stamp link.clock)

-- the own stamp that it returns is older than the last one returned
abbrev pub is_stale : Pdu → LinkState → Bool
is_stale pdu link = nat_lt (link.clock - link.own_stamp) (age pdu link)

-- it confirms an own PDU, none before the one confirmed last
abbrev pub confirms : Pdu → LinkState → Bool
confirms pdu link = nat_lt (behind pdu link + link.confirmed) link.sent

-- the items whose PDU isn't confirmed; counts rise, so those confirmed stand at the front
unfoldable pub still_waiting : ℕ → List Unconfirmed → List Unconfirmed
still_waiting confirmed [] = []
still_waiting confirmed (first ∷ others) = if nat_le first.tag confirmed then still_waiting confirmed others else first ∷ others

-- a PDU is taken: it is the last one taken in turn, and what it returns and confirms is kept
unfoldable pub taking : Pdu → LinkState → LinkState
taking pdu link = record link {
  expected = wire link.expected (ahead pdu link + 1);
  partner_stamp = pdu.time_stamp;
  own_stamp = link.clock - age pdu link;
  confirmed = link.sent - 1 - behind pdu link;
  waiting = still_waiting (link.sent - 1 - behind pdu link) link.waiting;
}

-- the unconfirmed items again, oldest first, under new counts
unfoldable pub repeated : Header → ℕ → List Unconfirmed → List Pdu
repeated header count [] = []
repeated header count (first ∷ others) = pdu_of header count (RetransmittedData (first.item ∷ [])) ∷ repeated header (count + 1) others

unfoldable pub retagged : ℕ → List Unconfirmed → List Unconfirmed
retagged count [] = []
retagged count (first ∷ others) = (record { tag = count; item = first.item }) ∷ retagged (count + 1) others

unfoldable pub repeating : LinkState → Step
repeating link = record {
  link = record link { waiting = retagged link.sent link.waiting; sent = link.sent + length link.waiting };
  pdus = repeated (header_of link) link.sent link.waiting;
}

-- a retransmission request is answered: the response, the items again, a heartbeat
unfoldable pub answering : LinkState → Step
answering link = then_do (then_do (sending RetransmissionResponse link) repeating) (sending Heartbeat)

-- a PDU is missing: the link asks for it and uses nothing of the later one
unfoldable pub missing : LinkState → Receipt
missing link =
    let asked = sending RetransmissionRequest link
    in record { link = record asked.link { phase = phase.RetransmissionRequested }; pdus = asked.pdus; items = []; verdict = verdict.Asked }

-- items go to the user
unfoldable pub handing : List (List ℕ) → LinkState → Receipt
handing items link = record {
  link = record link { taken = stops_at_greatest (link.taken + length items) };
  pdus = [];
  items = items;
  verdict = verdict.Taken;
}

abbrev pub up : LinkState → LinkState
up link = record link { phase = phase.Up }

-- what the expected PDU brings, once it is taken
unfoldable pub bringing : Body → LinkState → Receipt
bringing (Data items) link = handing items (up link)
bringing (RetransmittedData items) link = handing items link
bringing RetransmissionRequest link = accepting (answering link)
bringing _ link = accepting (silent (up link))

unfoldable pub in_turn : Pdu → LinkState → Receipt
in_turn pdu link = if ahead pdu link == 0 then bringing pdu.body (taking pdu link) else missing link

-- what may come in a connection, type by type and phase by phase
abbrev pub admission : Body → Phase → Admission
admission (ConnectionRequest _) _ = admits.Violates
admission (ConnectionResponse _) _ = admits.Violates
admission RetransmissionRequest phase.Start = admits.Violates
admission RetransmissionRequest phase.RetransmissionRequested = admits.Discards
admission RetransmissionRequest _ = admits.InTurn
admission RetransmissionResponse phase.RetransmissionRequested = admits.Resumes
admission RetransmissionResponse _ = admits.Violates
admission (DisconnectionRequest _ _) _ = admits.Closes
admission Heartbeat phase.RetransmissionRequested = admits.Discards
admission Heartbeat _ = admits.InTurn
admission (Data _) phase.RetransmissionRequested = admits.Discards
admission (Data _) _ = admits.InTurn
admission (RetransmittedData _) phase.RetransmissionRequested = admits.Discards
admission (RetransmittedData _) phase.RetransmissionRunning = admits.InTurn
admission (RetransmittedData _) _ = admits.Violates

unfoldable pub admitting : Admission → Pdu → LinkState → Receipt
admitting admits.Violates pdu link = violating link
admitting admits.Discards pdu link = refusing verdict.Discarded link
admitting admits.Closes pdu link = accepting (silent (closed (taking pdu link)))
admitting admits.Resumes pdu link = accepting (silent (record (taking pdu link) { phase = phase.RetransmissionRunning }))
admitting admits.InTurn pdu link = in_turn pdu link

-- the tests of numbers and stamps in a connection, in their order
unfoldable pub testing : Pdu → LinkState → Receipt
testing pdu link =
    if nat_lt sequence_range (ahead pdu link) then refusing verdict.OutOfRange link
    else if is_stale pdu link then refusing verdict.Stale link
    else if not (confirms pdu link) then refusing verdict.BadConfirm link
    else admitting (admission pdu.body link.phase) pdu link

-- a copy of the request that opened this server
abbrev pub is_opening_again : Pdu → LinkState → Bool
is_opening_again pdu link =
    not (is_client link.identity.role) && pdu.sequence_number == link.partner_first && pdu.time_stamp == link.opening_stamp

-- in a connection
unfoldable pub connected : Body → Pdu → LinkState → Receipt
connected (ConnectionRequest _) pdu link =
    if is_opening_again pdu link then refusing verdict.Discarded link else violating link
connected _ pdu link = testing pdu link

-- it returns the number and the stamp of the own request
abbrev pub answers_request : Pdu → LinkState → Bool
answers_request pdu link =
    pdu.confirmed_sequence_number == link.own_first && pdu.confirmed_time_stamp == stamp link.own_stamp

-- at a client that asked for a connection
unfoldable pub asking : Body → Pdu → LinkState → Receipt
asking (ConnectionResponse opening) pdu link =
    if answers_request pdu link then accepting (joining pdu opening link) else refusing verdict.BadConfirm link
asking (DisconnectionRequest _ _) pdu link =
    if answers_request pdu link then accepting (silent (closed link)) else refusing verdict.BadConfirm link
asking _ pdu link = violating link

-- at an end that is down: only a server takes something, a request
unfoldable pub resting : Body → Pdu → LinkState → Receipt
resting (ConnectionRequest opening) pdu link =
    if is_client link.identity.role then refusing verdict.WrongState link else accepting (granting pdu opening link)
resting _ pdu link = refusing verdict.WrongState link

unfoldable pub by_state : State → Pdu → LinkState → Receipt
by_state state.Quiet pdu link = refusing verdict.Quiet link
by_state state.Down pdu link = resting pdu.body pdu link
by_state state.Start pdu link =
    if is_client link.identity.role then asking pdu.body pdu link else connected pdu.body pdu link
by_state _ pdu link = connected pdu.body pdu link

-- who the PDU is for and from, and then the state
unfoldable pub hearing : Pdu → LinkState → Receipt
hearing pdu link =
    if not (pdu.receiver == link.identity.own) then refusing verdict.NotForMe link
    else if not (pdu.sender == link.identity.partner) then refusing verdict.WrongSender link
    else by_state (state_at link.clock link) pdu link
