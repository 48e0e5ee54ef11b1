-- A link in the connection hears a PDU of its partner.
use Rattle.std.proofs.Common.{◌≡◌, ℕ, ◌-◌, ◌<◌, ◌≤◌, Bool, true, false, [], ◌⊎◌, inl, inr, refl, sym, ap, subst, ◌∙◌, arith}
use Rattle.std.specs.Prelude.{nat_lt, nat_eq, ◌==◌, not}
use Rattle.std.specs.Cmp.Lexicographic.{pointwise}
use Rattle.rasta_core_spec.specs.Parameters.{sequence_range, connection_limit, own_version, window_size}
use Rattle.rasta_core_spec.specs.Sequence.{wire}
use Rattle.rasta_core_spec.specs.State.{LinkState, is_open, is_up, is_asking, is_client}
use Rattle.rasta_core_spec.specs.Clock.{open_state, deadline, state_at}
use Rattle.rasta_core_spec.specs.PdusHandedOut.{Step, silent, sending, telling, closed}
use Rattle.rasta_core_spec.specs.Establishment.{meeting, judging, joining}
use Rattle.rasta_core_spec.specs.Receipt as receiving
use Rattle.rasta_core_spec.specs.Receipt.{Receipt, accepting, refusing, violating, ahead, is_stale, confirms, taking, admission, admitting, testing, is_opening_again, connected, answers_request, asking, by_state, hearing}
use Rattle.rasta_core_spec.specs.phase.State.{State}
use Rattle.rasta_core_spec.specs.phase.State.TheVariants as state
use Rattle.rasta_core_spec.specs.reason.Reason.TheVariants as reason
use Rattle.rasta_core_spec.specs.verdict.Verdict.TheVariants as verdict
use Rattle.rasta_core_spec.specs.pdu.Pdu.{Pdu}
use Rattle.rasta_core_spec.specs.body.Opening.{Opening}
use Rattle.rasta_core_spec.specs.body.Body.{Body}
use Rattle.rasta_core_spec.specs.body.Body.TheVariants.{ConnectionRequest, ConnectionResponse, RetransmissionRequest, RetransmissionResponse, DisconnectionRequest, Heartbeat, Data, RetransmittedData}
use Rattle.rasta_core.specs.EndFlow.{IsAt, EndFlow, sent}
use Rattle.rasta_core.specs.Order.{Carries, IsRequest, IsResponse, IsClosing, BeginsByResponse, OpensOn, IsUnanswered, InOrder}
use Rattle.rasta_core.specs.LinkAndFlow.{reads, HasJoined, IsStillAsking, Plays, GoesOn}
use Rattle.rasta_core.proofs.OrderTests.{by_test}
use Rattle.rasta_core.proofs.Numbers.{wire_0}
use Rattle.rasta_core.proofs.OrderSteps.{stays, told_on, beat_on}
use Rattle.rasta_core.proofs.OrderPhases.{TakesTurns, Admits, violates, discards, closes, resumes, turns, admits}
use Rattle.rasta_core.proofs.Turns.{turned_on, resumed_on, closed_by_it, closed_alone}
use Rattle.rasta_core.proofs.OrderComes.{made}

-- the connection goes on in order with what a receipt says
abbrev pub Heard : EndFlow → EndFlow → Receipt → Type 0
Heard own other receipt = GoesOn own other receipt.link receipt.pdus [] receipt.items

module _ (link : LinkState) (own other : EndFlow) (order : InOrder own other) (pdu : Pdu) (place : ℕ) (at : IsAt place pdu other.flow) (room : link.sent < connection_limit) where
  module _ (has : HasJoined link own other) where
    refused : GoesOn own other link [] [] []
    refused = stays own other link order (Plays.joined has)

    -- but for a request, and the closing of a client that has taken nothing, each PDU confirms what its sender expected
    confirms_so : (IsUnanswered other.flow place pdu.body → ⊥) → pdu.confirmed_sequence_number ≡ wire own.first (other.expecting place - 1)
    confirms_so answers = elim (made link own other order has pdu place at).confirms [ inl right ↦ right | inr bare ↦ absurd (answers bare) ]

    turn_answers : (body : Body) → TakesTurns body → IsUnanswered other.flow place body → ⊥
    turn_answers (ConnectionRequest opening) turn bare = turn
    turn_answers (ConnectionResponse opening) turn bare = turn
    turn_answers RetransmissionResponse turn bare = turn
    turn_answers (DisconnectionRequest detail reason) turn bare = turn
    turn_answers RetransmissionRequest turn (inl bare) = bare
    turn_answers RetransmissionRequest turn (inr bare) = bare.1
    turn_answers Heartbeat turn (inl bare) = bare
    turn_answers Heartbeat turn (inr bare) = bare.1
    turn_answers (Data items) turn (inl bare) = bare
    turn_answers (Data items) turn (inr bare) = bare.1
    turn_answers (RetransmittedData items) turn (inl bare) = bare
    turn_answers (RetransmittedData items) turn (inr bare) = bare.1

    resumed_answers : pdu.body ≡ RetransmissionResponse → IsUnanswered other.flow place pdu.body → ⊥
    resumed_answers body bare = elim (subst (IsUnanswered other.flow place) body bare) [ inl no_request ↦ no_request | inr second ↦ second.1 ]

    no_request : (body : Body) → IsClosing body → IsRequest body → ⊥
    no_request (DisconnectionRequest detail reason) closing request = request
    no_request (ConnectionRequest opening) closing request = closing
    no_request (ConnectionResponse opening) closing request = closing
    no_request RetransmissionRequest closing request = closing
    no_request RetransmissionResponse closing request = closing
    no_request Heartbeat closing request = closing
    no_request (Data items) closing request = closing
    no_request (RetransmittedData items) closing request = closing

    -- a closing; that of a client that has taken nothing meets a server that has sent its response alone
    closed_by : IsClosing pdu.body → nat_lt sequence_range (ahead pdu link) ≡ false
        → (pdu.confirmed_sequence_number ≡ wire own.first (other.expecting place - 1)) ⊎ IsUnanswered other.flow place pdu.body
        → Heard own other (accepting (silent (closed (taking pdu link))))
    closed_by closing in_range (inl right) = closed_by_it link own other order has pdu place at right
    closed_by closing in_range (inr (inl request)) = absurd (no_request pdu.body closing request)
    closed_by closing in_range (inr (inr (second, closes_it, client))) = by_up (is_up link.phase) refl
      where
        early : BeginsByResponse other.flow ⊎ ((2 ≤ sent other) × OpensOn other.flow) → ⊥
        early (inl begins) = client begins
        early (inr (two, opens)) = opens pdu (subst (λ number. IsAt number pdu other.flow) second at) closing

        by_up : (up : Bool) → is_up link.phase ≡ up → Heard own other (accepting (silent (closed (taking pdu link))))
        by_up true u = absurd (early (has.come.heard u))
        by_up false u = closed_alone link own other order has pdu (has.come.starting u).0

    violated : Heard own other (violating link)
    violated = told_on reason.State link own other order (inl has)

    admitted : nat_lt sequence_range (ahead pdu link) ≡ false → (receipt : Receipt) → Admits pdu link receipt → Heard own other receipt
    admitted in_range receipt (violates is) = subst (Heard own other) (sym is) violated
    admitted in_range receipt (discards is) = subst (Heard own other) (sym is) refused
    admitted in_range receipt (closes closing is) = subst (Heard own other) (sym is) (closed_by closing in_range (made link own other order has pdu place at).confirms)
    admitted in_range receipt (resumes phase up running body is) =
        subst (Heard own other) (sym is) (resumed_on link own other order has pdu place at (confirms_so (λ bare. resumed_answers body bare)) phase up running body in_range)
    admitted in_range receipt (turns reading turn ups is) =
        subst (Heard own other) (sym is) (turned_on link own other order has pdu place at (confirms_so (turn_answers pdu.body turn)) (has.inside.reading ∙ reading) turn ups in_range room)

    tested : Heard own other (testing pdu link)
    unfolding testing
    tested =
        by_test (Heard own other) (nat_lt sequence_range (ahead pdu link)) (refusing verdict.OutOfRange link) _ (λ e. refused)
        (λ in_range. by_test (Heard own other) (is_stale pdu link) (refusing verdict.Stale link) _ (λ e. refused)
        (λ e. by_test (Heard own other) (not (confirms pdu link)) (refusing verdict.BadConfirm link) (admitting (admission pdu.body link.phase) pdu link) (λ e. refused)
        (λ f. admitted in_range (admitting (admission pdu.body link.phase) pdu link) (admits pdu link has.inside.connected))))

    heard_connected : (body : Body) → Heard own other (connected body pdu link)
    unfolding connected
    heard_connected (ConnectionRequest opening) =
        by_test (Heard own other) (is_opening_again pdu link) (refusing verdict.Discarded link) (violating link) (λ e. refused) (λ e. violated)
    heard_connected (ConnectionResponse opening) = tested
    heard_connected RetransmissionRequest = tested
    heard_connected RetransmissionResponse = tested
    heard_connected (DisconnectionRequest detail why) = tested
    heard_connected Heartbeat = tested
    heard_connected (Data items) = tested
    heard_connected (RetransmittedData items) = tested

    is_no_client : open_state link.phase ≡ state.Start → is_client link.identity.role ≡ true → is_asking link ≡ true
    is_no_client e role = grind (arith, e, role)

    not_down : is_open link.phase ≡ true → open_state link.phase ≡ state.Down → ⊥
    not_down inside e = grind (arith, e, inside)

    heard_joined : (its : State) → open_state link.phase ≡ its → Heard own other (by_state its pdu link)
    unfolding by_state
    heard_joined state.Quiet e = refused
    heard_joined state.Down e = absurd (not_down has.inside.connected e)
    heard_joined state.Start e =
        by_test (Heard own other) (is_client link.identity.role) (asking pdu.body pdu link) (connected pdu.body pdu link)
        (λ role. absurd (cc (is_no_client e role, has.joined))) (λ role. heard_connected pdu.body)
    heard_joined state.Up e = heard_connected pdu.body
    heard_joined state.RetransmissionRequested e = heard_connected pdu.body
    heard_joined state.RetransmissionRunning e = heard_connected pdu.body

  module _ (still : IsStillAsking link own other) where
    as_before : GoesOn own other link [] [] []
    as_before = stays own other link order (Plays.asking still)

    violated_asking : Heard own other (violating link)
    violated_asking = told_on reason.State link own other order (inr still)

    asking_reads : is_asking link ≡ true → reads (open_state link.phase) ≡ true
    asking_reads e = grind (arith, e)

    asking_is : is_asking link ≡ true → (open_state link.phase ≡ state.Start) × (is_client link.identity.role ≡ true)
    asking_is e = grind (arith, e)

    -- the link once it has joined by the response
    joins : LinkState
    joins = receiving.up (meeting pdu link)

    has_joined : IsResponse pdu.body → place ≡ 0 → HasJoined joins own other
    unfolding joins meeting
    has_joined response is = record {
      inside = record {
        keeps = record { given = still.inside.keeps.given; taken = still.inside.keeps.taken; waiting = still.inside.keeps.waiting };
        connected = refl;
        own_first = still.inside.own_first;
        counted = still.inside.counted;
        room = still.inside.room;
        unsaid = still.inside.unsaid;
        alone = λ asks. absurd (cc (asks));
        reading = still.inside.reading ∙ asking_reads still.asking;
      };
      joined = refl;
      partner_first = (order.back.each place pdu at).number ∙ ap (λ number. wire other.first number) is ∙ wire_0 other.first still.partner_first;
      expected = sym still.reached;
      come = record { starting = λ down. absurd (cc (down)); heard = λ up. inl (pdu, subst (λ number. IsAt number pdu other.flow) is at, response) };
    }

    heard_response : (opening : Opening) → IsResponse pdu.body → place ≡ 0 → Heard own other (accepting (joining pdu opening link))
    unfolding joining judging joins meeting
    heard_response opening response is =
        by_test (λ (step : Step). GoesOn own other step.link step.pdus [] []) (pointwise nat_eq opening.version own_version) _ (telling reason.Version joins)
        (λ e. by_test (λ (step : Step). GoesOn own other step.link step.pdus [] []) (opening.window == window_size) (sending Heartbeat joins) (telling reason.Window joins)
        (λ e. beat_on joins own other order (has_joined response is) refl room)
        (λ e. told_on reason.Window joins own other order (inl (has_joined response is))))
        (λ e. told_on reason.Version joins own other order (inl (has_joined response is)))

    heard_asking : (body : Body) → pdu.body ≡ body → Carries other place body → Heard own other (asking body pdu link)
    unfolding asking
    heard_asking (ConnectionResponse opening) same carries =
        by_test (Heard own other) (answers_request pdu link) (accepting (joining pdu opening link)) (refusing verdict.BadConfirm link)
        (λ e. heard_response opening (subst IsResponse (sym same) tt) carries.0.0) (λ e. as_before)
    heard_asking (DisconnectionRequest detail why) same carries =
        by_test (Heard own other) (answers_request pdu link) (accepting (silent (closed link))) (refusing verdict.BadConfirm link)
        (λ e. stays own other (closed link) order (Plays.left refl (inl (record { given = still.inside.keeps.given; taken = still.inside.keeps.taken; waiting = still.inside.keeps.waiting }))))
        (λ e. as_before)
    heard_asking (ConnectionRequest opening) same carries = violated_asking
    heard_asking RetransmissionRequest same carries = violated_asking
    heard_asking RetransmissionResponse same carries = violated_asking
    heard_asking Heartbeat same carries = violated_asking
    heard_asking (Data items) same carries = violated_asking
    heard_asking (RetransmittedData items) same carries = violated_asking

    heard_start : Heard own other (by_state state.Start pdu link)
    unfolding by_state
    heard_start =
        by_test (Heard own other) (is_client link.identity.role) (asking pdu.body pdu link) (connected pdu.body pdu link)
        (λ role. heard_asking pdu.body refl (order.back.each place pdu at).carries)
        (λ role. absurd (cc (role, (asking_is still.asking).1)))

  -- an open link is in the state of its phase
  state_is : is_open link.phase ≡ true → nat_lt link.clock (deadline link) ≡ true → state_at link.clock link ≡ open_state link.phase
  unfolding state_at
  state_is inside alive = grind (arith, inside, alive)

  by_its_state : HasJoined link own other ⊎ IsStillAsking link own other → nat_lt link.clock (deadline link) ≡ true → Heard own other (by_state (state_at link.clock link) pdu link)
  by_its_state (inl has) alive = subst (λ (its : State). Heard own other (by_state its pdu link)) (sym (state_is has.inside.connected alive)) (heard_joined has (open_state link.phase) refl)
  by_its_state (inr still) alive =
      subst (λ (its : State). Heard own other (by_state its pdu link)) (sym (state_is still.inside.connected alive ∙ (asking_is still still.asking).0)) (heard_start still)

  pub heard_on : HasJoined link own other ⊎ IsStillAsking link own other → nat_lt link.clock (deadline link) ≡ true → Heard own other (hearing pdu link)
  unfolding hearing
  heard_on one alive =
      by_test (Heard own other) (not (pdu.receiver == link.identity.own)) (refusing verdict.NotForMe link) _ (λ e. unchanged one)
      (λ e. by_test (Heard own other) (not (pdu.sender == link.identity.partner)) (refusing verdict.WrongSender link) (by_state (state_at link.clock link) pdu link) (λ e. unchanged one)
      (λ e. by_its_state one alive))
    where
      unchanged : HasJoined link own other ⊎ IsStillAsking link own other → GoesOn own other link [] [] []
      unchanged (inl has) = refused has
      unchanged (inr still) = as_before still
