-- The verdict of each call is that of the table of tests.
use Rattle.std.proofs.Common.{◌≡◌, ◌≢◌, ℕ, ◌+◌, ◌<◌, Bool, true, false, List, [], ◌∷◌, ◌⊎◌, inl, inr, Result, Ok, Err, refl, sym, subst, arith}
use Rattle.std.specs.Prelude.{if◌then◌else◌, nat_lt, ◌==◌, ◌&&◌, not}
use Rattle.std.proofs.lemmas.Bool.Decides.{nat_tests}
use Rattle.rasta_core_link.specs.Parameters.{sequence_range, quiet_time}
use Rattle.rasta_core_link.specs.Sequence.{stamp}
use Rattle.rasta_core_link.specs.State.{LinkState, is_open, is_client}
use Rattle.rasta_core_link.specs.Clock.{state_at, open_state, deadline}
use Rattle.rasta_core_link.specs.Receipt.{Receipt, refusing, violating, ahead, missing, handing, bringing, in_turn, admission, admitting, is_stale, confirms, testing, is_opening_again, connected, answers_request, asking, resting, by_state, hearing, taking}
use Rattle.rasta_core_link.specs.Calls.{hearing_bytes, receiving}
use Rattle.rasta_core_link.specs.PdusHandedOut.{entered}
use Rattle.rasta_core_link.specs.Verdicts.{Test, ForAnother, FromAnother, InQuiet, OutOfPlace, OpensAgain, OpensAnew, AnswersAnother, TooFar, TooOld, ConfirmsAnother, NotAllowed, NotAwaited, AfterMissing, tests, tests_in_connection, verdict_of, IsRequest, IsClient, IsTested, IsOutOfPlace, IsInTurn, Fails, IsFirst, IsVerdict}
use Rattle.rasta_core_link.specs.declared.identity.Role.{Role}
use Rattle.rasta_core_link.specs.declared.identity.Role.TheVariants as role
use Rattle.rasta_core_link.specs.declared.phase.Phase.{Phase}
use Rattle.rasta_core_link.specs.declared.phase.Phase.TheVariants as phase
use Rattle.rasta_core_link.specs.declared.phase.State.{State}
use Rattle.rasta_core_link.specs.declared.phase.State.TheVariants as state
use Rattle.rasta_core_link.specs.declared.verdict.Verdict.{Verdict}
use Rattle.rasta_core_link.specs.declared.verdict.Verdict.TheVariants as verdict
use Rattle.rasta_pdu.specs.declared.pdu.Pdu.{Pdu}
use Rattle.rasta_pdu.specs.declared.fault.PduFault.{PduFault}
use Rattle.rasta_pdu.specs.declared.body.Body.{Body}
use Rattle.rasta_pdu.specs.declared.body.Opening.{Opening}
use Rattle.rasta_pdu.specs.declared.body.Body.TheVariants.{ConnectionRequest, ConnectionResponse, RetransmissionRequest, RetransmissionResponse, DisconnectionRequest, Heartbeat, Data, RetransmittedData}
use Rattle.rasta_pdu.specs.PduRead.{reading}

-- one test, and those behind it
tested : (F : Test → Type 0) (test : Test) (others : List Test) (b : Bool) (link : LinkState) (other : Receipt)
    → (b ≡ true → F test) → (b ≡ false → F test → ⊥) → (b ≡ false → IsFirst F others other.verdict)
    → IsFirst F (test ∷ others) (if b then refusing (verdict_of test) link else other).verdict
tested F test others true link other fails passes rest = inl (fails refl, refl)
tested F test others false link other fails passes rest = inr (passes refl, rest refl)

other_number : (x y : ℕ) → not (x == y) ≡ true → x ≢ y
other_number x y e = grind (arith, e, nat_tests)

same_number : (x y : ℕ) → not (x == y) ≡ false → x ≢ y → ⊥
same_number x y e n = grind (arith, e, n, nat_tests)

less : (x y : ℕ) → nat_lt x y ≡ true → x < y
less x y e = grind (arith, e, nat_tests)

not_less : (x y : ℕ) → nat_lt x y ≡ false → x < y → ⊥
not_less x y e h = grind (arith, e, h, nat_tests)

-- ---- in a connection

-- by the type and the phase, once numbers and stamps were tested
in_order : (who : Role) (at : State) (body : Body) (pdu : Pdu) (link : LinkState) → IsTested at who → IsInTurn body
    → IsFirst (Fails at who body pdu link) (AfterMissing ∷ []) (in_turn pdu link).verdict
unfolding in_turn bringing handing missing
in_order who at body pdu link is turn = choose (ahead pdu link == 0) refl
  where
    brings : (b : Body) (l : LinkState) → (bringing b l).verdict ≡ verdict.Taken
    brings (Data items) l = refl
    brings (RetransmittedData items) l = refl
    brings RetransmissionRequest l = refl
    brings (ConnectionRequest _) l = refl
    brings (ConnectionResponse _) l = refl
    brings RetransmissionResponse l = refl
    brings (DisconnectionRequest _ _) l = refl
    brings Heartbeat l = refl

    choose : (b : Bool) → (ahead pdu link == 0) ≡ b → IsFirst (Fails at who body pdu link) (AfterMissing ∷ []) (if b then bringing pdu.body (taking pdu link) else missing link).verdict
    choose true e = inr ((λ f. f.2 (grind (arith, e, nat_tests))), brings pdu.body (taking pdu link))
    choose false e = inl ((is, turn, (λ z. absurd (grind (arith, e, z, nat_tests)))), refl)

-- an end outside isn't tested
closed : (who : Role) → IsTested state.Down who → ⊥
closed role.Client is = is
closed role.Server is = is

-- the type and the phase, once numbers and stamps were tested
in_type : (body : Body) (present : Phase) (who : Role) (pdu : Pdu) (link : LinkState) → (IsRequest body → ⊥) → IsTested (open_state present) who
    → IsFirst (Fails (open_state present) who body pdu link) (NotAllowed ∷ NotAwaited ∷ AfterMissing ∷ []) (admitting (admission body present) pdu link).verdict
unfolding admitting
in_type (ConnectionRequest _) present who pdu link other is = absurd (other tt)
in_type (ConnectionResponse _) present who pdu link other is = inl ((is, tt), refl)
in_type RetransmissionRequest phase.Closed who pdu link other is = absurd (closed who is)
in_type RetransmissionRequest phase.Start who pdu link other is = inl ((is, refl), refl)
in_type RetransmissionRequest phase.Up who pdu link other is = inr ((λ f. cc), inr ((λ f. cc), in_order who state.Up RetransmissionRequest pdu link is tt))
in_type RetransmissionRequest phase.RetransmissionRequested who pdu link other is = inr ((λ f. cc), inl ((is, tt, refl), refl))
in_type RetransmissionRequest phase.RetransmissionRunning who pdu link other is =
    inr ((λ f. cc), inr ((λ f. cc), in_order who state.RetransmissionRunning RetransmissionRequest pdu link is tt))
in_type RetransmissionResponse phase.Closed who pdu link other is = absurd (closed who is)
in_type RetransmissionResponse phase.Start who pdu link other is = inl ((is, λ e. cc), refl)
in_type RetransmissionResponse phase.Up who pdu link other is = inl ((is, λ e. cc), refl)
in_type RetransmissionResponse phase.RetransmissionRequested who pdu link other is = inr ((λ f. f.1 refl), inr ((λ f. f.1), inr ((λ f. f.1), refl)))
in_type RetransmissionResponse phase.RetransmissionRunning who pdu link other is = inl ((is, λ e. cc), refl)
in_type (DisconnectionRequest _ _) present who pdu link other is = inr ((λ f. f.1), inr ((λ f. f.1), inr ((λ f. f.1), refl)))
in_type Heartbeat phase.Closed who pdu link other is = absurd (closed who is)
in_type Heartbeat phase.Start who pdu link other is = inr ((λ f. f.1), inr ((λ f. cc), in_order who state.Start Heartbeat pdu link is tt))
in_type Heartbeat phase.Up who pdu link other is = inr ((λ f. f.1), inr ((λ f. cc), in_order who state.Up Heartbeat pdu link is tt))
in_type Heartbeat phase.RetransmissionRequested who pdu link other is = inr ((λ f. f.1), inl ((is, tt, refl), refl))
in_type Heartbeat phase.RetransmissionRunning who pdu link other is = inr ((λ f. f.1), inr ((λ f. cc), in_order who state.RetransmissionRunning Heartbeat pdu link is tt))
in_type (Data items) phase.Closed who pdu link other is = absurd (closed who is)
in_type (Data items) phase.Start who pdu link other is = inr ((λ f. f.1), inr ((λ f. cc), in_order who state.Start (Data items) pdu link is tt))
in_type (Data items) phase.Up who pdu link other is = inr ((λ f. f.1), inr ((λ f. cc), in_order who state.Up (Data items) pdu link is tt))
in_type (Data items) phase.RetransmissionRequested who pdu link other is = inr ((λ f. f.1), inl ((is, tt, refl), refl))
in_type (Data items) phase.RetransmissionRunning who pdu link other is = inr ((λ f. f.1), inr ((λ f. cc), in_order who state.RetransmissionRunning (Data items) pdu link is tt))
in_type (RetransmittedData items) phase.Closed who pdu link other is = absurd (closed who is)
in_type (RetransmittedData items) phase.Start who pdu link other is = inl ((is, ((λ e. cc), λ e. cc)), refl)
in_type (RetransmittedData items) phase.Up who pdu link other is = inl ((is, ((λ e. cc), λ e. cc)), refl)
in_type (RetransmittedData items) phase.RetransmissionRequested who pdu link other is = inr ((λ f. f.1.0 refl), inl ((is, tt, refl), refl))
in_type (RetransmittedData items) phase.RetransmissionRunning who pdu link other is =
    inr ((λ f. f.1.1 refl), inr ((λ f. cc), in_order who state.RetransmissionRunning (RetransmittedData items) pdu link is tt))

-- numbers and stamps
in_numbers : (who : Role) (pdu : Pdu) (link : LinkState) → (IsRequest pdu.body → ⊥) → IsTested (open_state link.phase) who
    → IsFirst (Fails (open_state link.phase) who pdu.body pdu link) tests_in_connection (testing pdu link).verdict
unfolding testing
in_numbers who pdu link other is =
    tested F TooFar (TooOld ∷ ConfirmsAnother ∷ types) (nat_lt sequence_range (ahead pdu link)) link fresh
    (λ e. (is, less _ _ e)) (λ e f. not_less _ _ e f.1)
    (λ e. tested F TooOld (ConfirmsAnother ∷ types) (is_stale pdu link) link confirmed
    (λ f. (is, less _ _ f)) (λ f g. not_less _ _ f g.1)
    (λ f. tested F ConfirmsAnother types (not (confirms pdu link)) link admitted
    (λ g. (is, grind (arith, g, nat_tests))) (λ g h. grind (arith, g, h.1, nat_tests))
    (λ g. in_type pdu.body link.phase who pdu link other is)))
  where
    F : Test → Type 0
    F = Fails (open_state link.phase) who pdu.body pdu link

    types : List Test
    types = NotAllowed ∷ NotAwaited ∷ AfterMissing ∷ []

    admitted : Receipt
    admitted = admitting (admission pdu.body link.phase) pdu link

    confirmed : Receipt
    confirmed = if not (confirms pdu link) then refusing verdict.BadConfirm link else admitted

    fresh : Receipt
    fresh = if is_stale pdu link then refusing verdict.Stale link else confirmed

-- a request in a connection
again_one : (pdu : Pdu) (link : LinkState) → is_opening_again pdu link ≡ true → (pdu.sequence_number ≡ link.partner_first) × (pdu.time_stamp ≡ link.opening_stamp)
again_one pdu link e = (grind (arith, e, nat_tests), grind (arith, e, nat_tests))

not_again : (pdu : Pdu) (link : LinkState) → link.identity.role ≡ role.Server → is_opening_again pdu link ≡ false
    → (pdu.sequence_number ≡ link.partner_first) → (pdu.time_stamp ≡ link.opening_stamp) → ⊥
not_again pdu link s e n t = grind (arith, s, e, n, t, nat_tests)

-- what isn't a request is in its place in a connection
in_place : (body : Body) (who : Role) (present : State) → IsTested present who → (IsRequest body → ⊥) → IsOutOfPlace present body who → ⊥
in_place body role.Server state.Start is other f = f.0
in_place body role.Client state.Start is other f = is
in_place body who state.Up is other f = other f.1
in_place body who state.RetransmissionRequested is other f = other f.1
in_place body who state.RetransmissionRunning is other f = other f.1
in_place body who state.Quiet is other f = other f.1
in_place body who state.Down is other f = closed who is

not_starting : (who : Role) (present : State) → IsTested present who → present ≡ state.Start → IsClient who → ⊥
not_starting role.Client state.Start is e c = is
not_starting role.Client state.Up is e c = cc
not_starting role.Client state.RetransmissionRequested is e c = cc
not_starting role.Client state.RetransmissionRunning is e c = cc
not_starting role.Client state.Quiet is e c = is
not_starting role.Client state.Down is e c = is
not_starting role.Server present is e c = c

-- a PDU of any type in a connection
others : (body : Body) (who : Role) (present : State) (pdu : Pdu) (link : LinkState) (what : Verdict) → IsTested present who → (IsRequest body → ⊥)
    → IsFirst (Fails present who body pdu link) tests_in_connection what
    → IsFirst (Fails present who body pdu link) (OutOfPlace ∷ OpensAgain ∷ OpensAnew ∷ AnswersAnother ∷ tests_in_connection) what
others body who present pdu link what is other rest =
    inr (in_place body who present is other, inr ((λ f. other f.1), inr ((λ f. other f.1), inr ((λ f. not_starting who present is f.0 f.1), rest))))

client_again : (pdu : Pdu) (link : LinkState) → link.identity.role ≡ role.Client → is_opening_again pdu link ≡ false
client_again pdu link c = rw c refl

client_up : (present : State) (body : Body) → IsTested present role.Client → IsRequest body → IsOutOfPlace present body role.Client
client_up state.Up body is r = (tt, r)
client_up state.RetransmissionRequested body is r = (tt, r)
client_up state.RetransmissionRunning body is r = (tt, r)
client_up state.Start body is r = absurd is
client_up state.Quiet body is r = absurd is
client_up state.Down body is r = absurd is

server_up : (present : State) (body : Body) → IsTested present role.Server → IsOutOfPlace present body role.Server → ⊥
server_up state.Start body is f = f.0
server_up state.Up body is f = f.0
server_up state.RetransmissionRequested body is f = f.0
server_up state.RetransmissionRunning body is f = f.0
server_up state.Quiet body is f = is
server_up state.Down body is f = is

refused_as : (b : Bool) (link : LinkState) → b ≡ false → (if b then refusing verdict.Discarded link else violating link).verdict ≡ verdict.WrongState
refused_as false link e = refl
refused_as true link e = cc

in_connection : (body : Body) (who : Role) (present : State) (pdu : Pdu) (link : LinkState) → link.identity.role ≡ who → IsTested present who
    → ((IsRequest body → ⊥) → IsFirst (Fails present who body pdu link) tests_in_connection (testing pdu link).verdict)
    → IsFirst (Fails present who body pdu link) (OutOfPlace ∷ OpensAgain ∷ OpensAnew ∷ AnswersAnother ∷ tests_in_connection) (connected body pdu link).verdict
unfolding connected
in_connection (ConnectionRequest o) role.Client present pdu link e is rest =
    inl (client_up present (ConnectionRequest o) is tt, refused_as (is_opening_again pdu link) link (client_again pdu link e))
in_connection (ConnectionRequest o) role.Server present pdu link e is rest =
    inr (
      server_up present (ConnectionRequest o) is,
      tested (Fails present role.Server (ConnectionRequest o) pdu link) OpensAgain (OpensAnew ∷ AnswersAnother ∷ tests_in_connection)
          (is_opening_again pdu link) link (violating link)
          (λ a. (is, tt, (again_one pdu link a).0, (again_one pdu link a).1)) (λ a f. not_again pdu link e a f.2 f.3) (λ a. inl ((is, tt), refl)),
    )
in_connection (ConnectionResponse o) who present pdu link e is rest = others (ConnectionResponse o) who present pdu link _ is (λ r. r) (rest (λ r. r))
in_connection RetransmissionRequest who present pdu link e is rest = others RetransmissionRequest who present pdu link _ is (λ r. r) (rest (λ r. r))
in_connection RetransmissionResponse who present pdu link e is rest = others RetransmissionResponse who present pdu link _ is (λ r. r) (rest (λ r. r))
in_connection (DisconnectionRequest d r) who present pdu link e is rest =
    others (DisconnectionRequest d r) who present pdu link _ is (λ x. x) (rest (λ x. x))
in_connection Heartbeat who present pdu link e is rest = others Heartbeat who present pdu link _ is (λ r. r) (rest (λ r. r))
in_connection (Data items) who present pdu link e is rest = others (Data items) who present pdu link _ is (λ r. r) (rest (λ r. r))
in_connection (RetransmittedData items) who present pdu link e is rest =
    others (RetransmittedData items) who present pdu link _ is (λ r. r) (rest (λ r. r))

-- ---- a client that asked, and an end that is down

-- where no test is made in a connection, none fails
untested : (present : State) (who : Role) (body : Body) (pdu : Pdu) (link : LinkState) → (IsTested present who → ⊥)
    → IsFirst (Fails present who body pdu link) tests_in_connection verdict.Taken
untested present who body pdu link never =
    inr ((λ f. never f.0), inr ((λ f. never f.0), inr ((λ f. never f.0), inr ((λ f. never f.0), inr ((λ f. never f.0), inr ((λ f. never f.0), refl))))))

answered : (pdu : Pdu) (link : LinkState) → answers_request pdu link ≡ true
    → (pdu.confirmed_sequence_number ≢ link.own_first) ⊎ (pdu.confirmed_time_stamp ≢ stamp link.own_stamp) → ⊥
answered pdu link e (inl n) = n (grind (arith, e, nat_tests))
answered pdu link e (inr n) = n (grind (arith, e, nat_tests))

unanswered : (pdu : Pdu) (link : LinkState) → answers_request pdu link ≡ false
    → (pdu.confirmed_sequence_number ≢ link.own_first) ⊎ (pdu.confirmed_time_stamp ≢ stamp link.own_stamp)
unanswered pdu link e = choose (pdu.confirmed_sequence_number == link.own_first) refl
  where
    choose : (b : Bool) → (pdu.confirmed_sequence_number == link.own_first) ≡ b
        → (pdu.confirmed_sequence_number ≢ link.own_first) ⊎ (pdu.confirmed_time_stamp ≢ stamp link.own_stamp)
    choose true f = inr (λ t. absurd (grind (arith, e, f, t, nat_tests)))
    choose false f = inl (λ n. absurd (grind (arith, f, n, nat_tests)))

answering : (body : Body) (pdu : Pdu) (link : LinkState) (taken : Receipt) → taken.verdict ≡ verdict.Taken → (IsOutOfPlace state.Start body role.Client → ⊥) → (IsRequest body → ⊥)
    → IsFirst (Fails state.Start role.Client body pdu link) (OutOfPlace ∷ OpensAgain ∷ OpensAnew ∷ AnswersAnother ∷ tests_in_connection)
    (if answers_request pdu link then taken else refusing verdict.BadConfirm link).verdict
answering body pdu link taken is place other = inr (place, inr ((λ f. f.0), inr ((λ f. f.0), choose (answers_request pdu link) refl)))
  where
    choose : (b : Bool) → answers_request pdu link ≡ b
        → IsFirst (Fails state.Start role.Client body pdu link) (AnswersAnother ∷ tests_in_connection) (if b then taken else refusing verdict.BadConfirm link).verdict
    choose true e = inr ((λ f. answered pdu link e f.2), rw is (untested state.Start role.Client body pdu link (λ f. f)))
    choose false e = inl ((refl, tt, unanswered pdu link e), refl)

in_start : (body : Body) (pdu : Pdu) (link : LinkState)
    → IsFirst (Fails state.Start role.Client body pdu link) (OutOfPlace ∷ OpensAgain ∷ OpensAnew ∷ AnswersAnother ∷ tests_in_connection) (asking body pdu link).verdict
unfolding asking
in_start (ConnectionRequest _) pdu link = inl ((tt, (λ f. f), λ f. f), refl)
in_start (ConnectionResponse o) pdu link = answering (ConnectionResponse o) pdu link _ refl (λ f. f.1 tt) (λ r. r)
in_start RetransmissionRequest pdu link = inl ((tt, (λ f. f), λ f. f), refl)
in_start RetransmissionResponse pdu link = inl ((tt, (λ f. f), λ f. f), refl)
in_start (DisconnectionRequest d r) pdu link = answering (DisconnectionRequest d r) pdu link _ refl (λ f. f.2 tt) (λ x. x)
in_start Heartbeat pdu link = inl ((tt, (λ f. f), λ f. f), refl)
in_start (Data _) pdu link = inl ((tt, (λ f. f), λ f. f), refl)
in_start (RetransmittedData _) pdu link = inl ((tt, (λ f. f), λ f. f), refl)

granted : (who : Role) (o : Opening) (pdu : Pdu) (link : LinkState) (taken : Receipt) → taken.verdict ≡ verdict.Taken
    → IsFirst (Fails state.Down who (ConnectionRequest o) pdu link) (OutOfPlace ∷ OpensAgain ∷ OpensAnew ∷ AnswersAnother ∷ tests_in_connection)
    (if is_client who then refusing verdict.WrongState link else taken).verdict
granted role.Client o pdu link taken is = inl ((λ r. tt), refl)
granted role.Server o pdu link taken is =
    inr ((λ f. f tt), inr ((λ f. f.0), inr ((λ f. f.0), inr ((λ f. f.1), rw is (untested state.Down role.Server (ConnectionRequest o) pdu link (λ f. f))))))

in_down : (body : Body) (pdu : Pdu) (link : LinkState)
    → IsFirst (Fails state.Down link.identity.role body pdu link) (OutOfPlace ∷ OpensAgain ∷ OpensAnew ∷ AnswersAnother ∷ tests_in_connection) (resting body pdu link).verdict
unfolding resting
in_down (ConnectionRequest o) pdu link = granted link.identity.role o pdu link _ refl
in_down (ConnectionResponse _) pdu link = inl ((λ f. absurd f), refl)
in_down RetransmissionRequest pdu link = inl ((λ f. absurd f), refl)
in_down RetransmissionResponse pdu link = inl ((λ f. absurd f), refl)
in_down (DisconnectionRequest _ _) pdu link = inl ((λ f. absurd f), refl)
in_down Heartbeat pdu link = inl ((λ f. absurd f), refl)
in_down (Data _) pdu link = inl ((λ f. absurd f), refl)
in_down (RetransmittedData _) pdu link = inl ((λ f. absurd f), refl)

-- ---- by the state

in_start_of : (who : Role) (pdu : Pdu) (link : LinkState) → link.identity.role ≡ who
    → (IsTested state.Start who → (IsRequest pdu.body → ⊥) → IsFirst (Fails state.Start who pdu.body pdu link) tests_in_connection (testing pdu link).verdict)
    → IsFirst (Fails state.Start who pdu.body pdu link) (OutOfPlace ∷ OpensAgain ∷ OpensAnew ∷ AnswersAnother ∷ tests_in_connection)
    (if is_client who then asking pdu.body pdu link else connected pdu.body pdu link).verdict
in_start_of role.Client pdu link e rest = in_start pdu.body pdu link
in_start_of role.Server pdu link e rest = in_connection pdu.body role.Server state.Start pdu link e tt (rest tt)

in_state : (present : State) (pdu : Pdu) (link : LinkState)
    → ((who : Role) → IsTested present who → (IsRequest pdu.body → ⊥) → IsFirst (Fails present who pdu.body pdu link) tests_in_connection (testing pdu link).verdict)
    → IsFirst (Fails present link.identity.role pdu.body pdu link) (InQuiet ∷ OutOfPlace ∷ OpensAgain ∷ OpensAnew ∷ AnswersAnother ∷ tests_in_connection)
    (by_state present pdu link).verdict
unfolding by_state
in_state state.Quiet pdu link rest = inl (refl, refl)
in_state state.Down pdu link rest = inr ((λ e. cc), in_down pdu.body pdu link)
in_state state.Start pdu link rest = inr ((λ e. cc), in_start_of link.identity.role pdu link refl (rest link.identity.role))
in_state state.Up pdu link rest =
    inr ((λ e. cc), in_connection pdu.body link.identity.role state.Up pdu link refl tt (rest link.identity.role tt))
in_state state.RetransmissionRequested pdu link rest =
    inr ((λ e. cc), in_connection pdu.body link.identity.role state.RetransmissionRequested pdu link refl tt (rest link.identity.role tt))
in_state state.RetransmissionRunning pdu link rest =
    inr ((λ e. cc), in_connection pdu.body link.identity.role state.RetransmissionRunning pdu link refl tt (rest link.identity.role tt))

-- the state of a link that is tested is that of its phase
phase_tells : (inside quiet : Bool) (present : Phase) (P : State → Type 0) → (P (open_state present)) → (P state.Quiet) → (P state.Down)
    → P (if inside then open_state present else if quiet then state.Quiet else state.Down)
phase_tells true quiet present P a b c = a
phase_tells false true present P a b c = b
phase_tells false false present P a b c = c

in_numbers_of : (pdu : Pdu) (link : LinkState) (who : Role) → IsTested (state_at link.clock link) who → (IsRequest pdu.body → ⊥)
    → IsFirst (Fails (state_at link.clock link) who pdu.body pdu link) tests_in_connection (testing pdu link).verdict
unfolding state_at
in_numbers_of pdu link who =
    phase_tells (is_open link.phase && nat_lt link.clock (deadline link)) (nat_lt link.clock (deadline link + quiet_time)) link.phase
    (λ present. IsTested present who → (IsRequest pdu.body → ⊥) → IsFirst (Fails present who pdu.body pdu link) tests_in_connection (testing pdu link).verdict)
    (λ is other. in_numbers who pdu link other is) (λ is. absurd (quiet who is)) (λ is. absurd (closed who is))
  where
    quiet : (who : Role) → IsTested state.Quiet who → ⊥
    quiet role.Client is = is
    quiet role.Server is = is

hearing-verdict : (pdu : Pdu) (link : LinkState) → IsFirst (Fails (state_at link.clock link) link.identity.role pdu.body pdu link) tests (hearing pdu link).verdict
unfolding hearing
hearing-verdict pdu link =
    tested F ForAnother (FromAnother ∷ others) (not (pdu.receiver == link.identity.own)) link
    (if not (pdu.sender == link.identity.partner) then refusing verdict.WrongSender link else stated) (other_number _ _) (same_number _ _)
    (λ e. tested F FromAnother others (not (pdu.sender == link.identity.partner)) link stated (other_number _ _) (same_number _ _)
    (λ f. in_state (state_at link.clock link) pdu link (in_numbers_of pdu link)))
  where
    F : Test → Type 0
    F = Fails (state_at link.clock link) link.identity.role pdu.body pdu link

    others : List Test
    others = InQuiet ∷ OutOfPlace ∷ OpensAgain ∷ OpensAnew ∷ AnswersAnother ∷ tests_in_connection

    stated : Receipt
    stated = by_state (state_at link.clock link) pdu link

hearing_bytes-verdict : (read : Result Pdu PduFault) (link : LinkState) → IsVerdict (hearing_bytes read link).verdict read link
unfolding hearing_bytes
hearing_bytes-verdict (Err fault) link = refl
hearing_bytes-verdict (Ok pdu) link = hearing-verdict pdu link

receiving-verdict : (now : ℕ) (bytes : List ℕ) (link : LinkState) → IsVerdict (receiving now bytes link).verdict (reading link.identity.key bytes) (entered now link).link
unfolding receiving
receiving-verdict now bytes link = hearing_bytes-verdict (reading link.identity.key bytes) (entered now link).link

pub told-verdict : (now : ℕ) (bytes : List ℕ) (link : LinkState) (what : Verdict) → what ≡ (receiving now bytes link).verdict
    → IsVerdict what (reading link.identity.key bytes) (entered now link).link
told-verdict now bytes link what e =
    subst (λ (told : Verdict). IsVerdict told (reading link.identity.key bytes) (entered now link).link) (sym e) (receiving-verdict now bytes link)

pub ruleset verdicts = (told-verdict)
