-- The verdict on a datagram as a table of tests: the first test that fails tells it.
use Rattle.std.specs.Prelude.{◌≡◌, ◌≢◌, ◌+◌, ◌-◌, ◌<◌, ◌≤◌, ◌⊎◌, List, [], ◌∷◌, Bool, true, false, Result, Ok, Err}
use Rattle.rasta_core_link.specs.Parameters.{sequence_range}
use Rattle.rasta_core_link.specs.Sequence.{stamp}
use Rattle.rasta_core_link.specs.State.{LinkState}
use Rattle.rasta_core_link.specs.Clock.{state_at}
use Rattle.rasta_core_link.specs.PdusHandedOut.{Step, silent, then_do, telling}
use Rattle.rasta_core_link.specs.Receipt.{Receipt, age, ahead, behind}
use Rattle.rasta_core_link.specs.declared.identity.Role.{Role}
use Rattle.rasta_core_link.specs.declared.identity.Role.TheVariants as role
use Rattle.rasta_core_link.specs.declared.phase.State.{State}
use Rattle.rasta_core_link.specs.declared.phase.State.TheVariants as state
use Rattle.rasta_core_link.specs.declared.reason.Reason.TheVariants as reason
use Rattle.rasta_core_link.specs.declared.verdict.Verdict.{Verdict}
use Rattle.rasta_core_link.specs.declared.verdict.Verdict.TheVariants as verdict
use Rattle.rasta_pdu.specs.declared.pdu.Pdu.{Pdu}
use Rattle.rasta_pdu.specs.declared.fault.PduFault.{PduFault}
use Rattle.rasta_pdu.specs.declared.body.Body.{Body}
use Rattle.rasta_pdu.specs.declared.body.Body.TheVariants.{ConnectionRequest, ConnectionResponse, RetransmissionRequest, RetransmissionResponse, DisconnectionRequest, RetransmittedData}

-- The tests of a PDU that could be read.
pub data Test : Type 0 where
  ForAnother : Test
  FromAnother : Test
  InQuiet : Test
  OutOfPlace : Test
  OpensAgain : Test
  OpensAnew : Test
  AnswersAnother : Test
  TooFar : Test
  TooOld : Test
  ConfirmsAnother : Test
  NotAllowed : Test
  NotAwaited : Test
  AfterMissing : Test

-- Those of numbers, stamps and types, which are made in a connection alone, in their order.
abbrev pub tests_in_connection : List Test
tests_in_connection = TooFar ∷ TooOld ∷ ConfirmsAnother ∷ NotAllowed ∷ NotAwaited ∷ AfterMissing ∷ []

-- All tests, in their order.
abbrev pub tests : List Test
tests = ForAnother ∷ FromAnother ∷ InQuiet ∷ OutOfPlace ∷ OpensAgain ∷ OpensAnew ∷ AnswersAnother ∷ tests_in_connection

-- The verdict where a test fails. The last one refuses nothing: a PDU before this one is missing, and is asked for.
abbrev pub verdict_of : Test → Verdict
verdict_of ForAnother = verdict.NotForMe
verdict_of FromAnother = verdict.WrongSender
verdict_of InQuiet = verdict.Quiet
verdict_of OutOfPlace = verdict.WrongState
verdict_of OpensAgain = verdict.Discarded
verdict_of OpensAnew = verdict.WrongState
verdict_of AnswersAnother = verdict.BadConfirm
verdict_of TooFar = verdict.OutOfRange
verdict_of TooOld = verdict.Stale
verdict_of ConfirmsAnother = verdict.BadConfirm
verdict_of NotAllowed = verdict.WrongState
verdict_of NotAwaited = verdict.Discarded
verdict_of AfterMissing = verdict.Asked

abbrev pub IsRequest : Body → Type 0
IsRequest (ConnectionRequest opening) = Unit {0}
IsRequest body = ⊥

abbrev pub IsResponse : Body → Type 0
IsResponse (ConnectionResponse opening) = Unit {0}
IsResponse body = ⊥

abbrev pub IsDisconnection : Body → Type 0
IsDisconnection (DisconnectionRequest detail reason) = Unit {0}
IsDisconnection body = ⊥

abbrev pub IsClient : Role → Type 0
IsClient role.Client = Unit {0}
IsClient role.Server = ⊥

-- In a connection, and no client whose request isn't answered yet: numbers and stamps are tested.
abbrev pub IsTested : State → Role → Type 0
IsTested state.Start role.Server = Unit {0}
IsTested state.Up who = Unit {0}
IsTested state.RetransmissionRequested who = Unit {0}
IsTested state.RetransmissionRunning who = Unit {0}
IsTested present who = ⊥

-- Down, all but a request at a server; at a client that asked for a connection, all but a response and a disconnection
-- request; at a client that is up, a request.
abbrev pub IsOutOfPlace : State → Body → Role → Type 0
IsOutOfPlace state.Down body who = IsRequest body → IsClient who
IsOutOfPlace state.Start body who = IsClient who × (IsResponse body → ⊥) × (IsDisconnection body → ⊥)
IsOutOfPlace present body who = IsClient who × IsRequest body

-- In a connection: a response; the beginning of a retransmission where none was asked for; an item again outside a
-- retransmission; and a retransmission request at a server that has taken nothing but the connection request.
abbrev pub IsNotAllowed : Body → State → Type 0
IsNotAllowed (ConnectionResponse opening) present = Unit {0}
IsNotAllowed RetransmissionResponse present = present ≢ state.RetransmissionRequested
IsNotAllowed (RetransmittedData items) present = (present ≢ state.RetransmissionRequested) × (present ≢ state.RetransmissionRunning)
IsNotAllowed RetransmissionRequest present = present ≡ state.Start
IsNotAllowed body present = ⊥

-- A PDU that is taken at the expected number alone: all but a disconnection request and the beginning of a retransmission.
abbrev pub IsInTurn : Body → Type 0
IsInTurn (DisconnectionRequest detail reason) = ⊥
IsInTurn RetransmissionResponse = ⊥
IsInTurn body = Unit {0}

-- Where a PDU of this body fails a test, at a link with this role and in this state.
abbrev pub Fails : State → Role → Body → Pdu → LinkState → Test → Type 0
Fails present who body pdu link ForAnother = pdu.receiver ≢ link.identity.own
Fails present who body pdu link FromAnother = pdu.sender ≢ link.identity.partner
Fails present who body pdu link InQuiet = present ≡ state.Quiet
Fails present who body pdu link OutOfPlace = IsOutOfPlace present body who
Fails present who body pdu link OpensAgain =
    IsTested present who × IsRequest body × (pdu.sequence_number ≡ link.partner_first) × (pdu.time_stamp ≡ link.opening_stamp)
Fails present who body pdu link OpensAnew = IsTested present who × IsRequest body
Fails present who body pdu link AnswersAnother =
    (present ≡ state.Start) × IsClient who
    × ((pdu.confirmed_sequence_number ≢ link.own_first) ⊎ (pdu.confirmed_time_stamp ≢ stamp link.own_stamp))
Fails present who body pdu link TooFar = IsTested present who × (sequence_range < ahead pdu link)
Fails present who body pdu link TooOld =
    IsTested present who × (link.clock - link.own_stamp < age pdu link)
Fails present who body pdu link ConfirmsAnother = IsTested present who × (link.sent ≤ behind pdu link + link.confirmed)
Fails present who body pdu link NotAllowed = IsTested present who × IsNotAllowed body present
Fails present who body pdu link NotAwaited = IsTested present who × IsInTurn body × (present ≡ state.RetransmissionRequested)
Fails present who body pdu link AfterMissing = IsTested present who × IsInTurn body × (ahead pdu link ≢ 0)

-- The first of these tests that fails tells the verdict; where none does, the PDU is taken.
abbrev pub IsFirst : (Test → Type 0) → List Test → Verdict → Type 0
IsFirst F [] what = what ≡ verdict.Taken
IsFirst F (test ∷ others) what = (F test × (what ≡ verdict_of test)) ⊎ ((F test → ⊥) × IsFirst F others what)

-- The verdict on what was read of bytes, at a link as the clock rules leave it.
abbrev pub IsVerdict : Verdict → Result Pdu PduFault → LinkState → Type 0
IsVerdict what (Err fault) link = what ≡ verdict.Unreadable fault
IsVerdict what (Ok pdu) link = IsFirst (Fails (state_at link.clock link) link.identity.role pdu.body pdu link) tests what

-- All verdicts but two refuse the datagram.
abbrev pub is_refusal : Verdict → Bool
is_refusal verdict.Taken = false
is_refusal verdict.Asked = false
is_refusal why = true

-- A refusal leaves the link in this state as it was; but a PDU that a connection doesn't allow closes it, with reason 1.
abbrev pub refusal_leaves : Verdict → State → LinkState → Step
refusal_leaves verdict.WrongState state.Down link = silent link
refusal_leaves verdict.WrongState present link = telling reason.State link
refusal_leaves why present link = silent link

-- What a refused datagram leaves where the clock rules had done this before: no item, and what the refusal leaves.
abbrev pub refused : Verdict → Step → Receipt
refused why begun =
    let left = then_do begun (λ link. refusal_leaves why (state_at link.clock link) link)
    in record { link = left.link; pdus = left.pdus; items = []; verdict = why }
