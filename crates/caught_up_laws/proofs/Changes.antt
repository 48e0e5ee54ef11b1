-- What each call makes of an end in a connection.
use Rattle.std.proofs.Common.{◌≡◌, ℕ, ◌+◌, ◌-◌, Bool, true, false, ◌&&◌, not, if◌then◌else◌, List, Result, Ok, Err, refl, sym, ap, subst, ◌∙◌, arith}
use Rattle.std.specs.Prelude.{◌==◌, is_ok, nat_eq, nat_le, nat_lt}
use Rattle.std.specs.Cmp.Lexicographic.{pointwise}
use Rattle.std.proofs.lemmas.Bool.{eqb-true}
use Rattle.rasta_core_spec.specs.Parameters.{connection_limit, heartbeat_interval, own_version, quiet_time, sequence_range, window_size}
use Rattle.rasta_core_spec.specs.Sequence.{wire}
use Rattle.rasta_core_spec.specs.State.{LinkState, is_asking, is_client, is_open, is_up}
use Rattle.rasta_core_spec.specs.Clock.{deadline, open_state, settled, state_at}
use Rattle.rasta_core_spec.specs.PdusHandedOut.{Step, beating, closed, closing, entered, giving, is_told, limited, sending, silent, telling}
use Rattle.rasta_core_spec.specs.Establishment.{joining, judging, may_open, meeting, requesting}
use Rattle.rasta_core_spec.specs.Receipt.{Receipt, accepting, admission, admitting, ahead, answering, answers_request, asking, bringing, by_state, confirms, connected, handing, hearing, in_turn, is_opening_again, is_stale, missing, refusing, repeating, taking, testing, violating}
use Rattle.rasta_core_spec.specs.Calls.{acceptance, closing_by, hearing_bytes, opening, opens, receiving, sending_item, ticking}
use Rattle.rasta_core_spec.specs.reason.Reason.{Reason}
use Rattle.rasta_core_spec.specs.reason.Reason.TheVariants as reason
use Rattle.rasta_core_spec.specs.verdict.Verdict.TheVariants as verdict
use Rattle.rasta_core_spec.specs.phase.Phase.{Phase}
use Rattle.rasta_core_spec.specs.phase.Phase.TheVariants as phase
use Rattle.rasta_core_spec.specs.phase.State.{State}
use Rattle.rasta_core_spec.specs.phase.State.TheVariants as state
use Rattle.rasta_core_spec.specs.pdu.Pdu.{Pdu}
use Rattle.rasta_core_spec.specs.pdu_fault.PduFault.{PduFault}
use Rattle.rasta_core_spec.specs.PduRead.{reading}
use Rattle.rasta_core_spec.specs.body.Opening.{Opening}
use Rattle.rasta_core_spec.specs.body.Body.{Body}
use Rattle.rasta_core_spec.specs.body.Body.TheVariants.{ConnectionRequest, ConnectionResponse, RetransmissionRequest, RetransmissionResponse, DisconnectionRequest, Heartbeat, Data, RetransmittedData}
use Rattle.rasta_core.specs.FirstPdus.{HearsOutside, grants, refuses}
use Rattle.caught_up_laws.specs.Change.{Change, IsMeant, IsPlain, joins, recovers, rests, shuts, turns}
use Rattle.caught_up_laws.specs.Observer.{is_recovering}
use Rattle.caught_up_laws.specs.inside.Laws.{Laws}
use Rattle.caught_up_laws.proofs.Lists.{by_test}
use Rattle.caught_up_laws.proofs.Receptions.{told_not_down}

-- ---- what a PDU does that passed the tests

module _ (link : LinkState) (pdu : Pdu) (meant : IsMeant link.identity pdu) where
  abbrev Goal : LinkState → Type 0
  Goal after = Change link (Ok pdu) after

  violates : Goal (violating link).link
  unfolding telling sending
  violates = shuts refl

  misses : Goal (missing link).link
  unfolding missing sending
  misses = recovers refl

  expects : (ahead pdu link == 0) ≡ true → (taking pdu link).expected ≡ wire link.expected 1
  unfolding taking
  expects e = ap (λ n. wire link.expected (n + 1)) (eqb-true (ahead pdu link) 0 e)

  -- an end that has taken the first PDU of its partner
  module _ (quiet : is_asking link ≡ false) where
    beat : pdu.body ≡ Heartbeat → Goal (in_turn pdu link).link
    unfolding in_turn bringing taking
    beat is = by_test (λ (r : Receipt). Goal r.link) (ahead pdu link == 0) (bringing pdu.body (taking pdu link)) (missing link)
        (λ e. subst (λ (b : Body). Goal (bringing b (taking pdu link)).link) (sym is)
        (turns (record { pdu = pdu; read = refl; meant = meant; heard = quiet; is_up = refl; plain = subst IsPlain (sym is) tt; next = eqb-true (ahead pdu link) 0 e; expected = expects e; returned = refl })))
        (λ e. misses)

    items_come : (items : List (List ℕ)) → pdu.body ≡ Data items → Goal (in_turn pdu link).link
    unfolding in_turn bringing handing taking
    items_come items is = by_test (λ (r : Receipt). Goal r.link) (ahead pdu link == 0) (bringing pdu.body (taking pdu link)) (missing link)
        (λ e. subst (λ (b : Body). Goal (bringing b (taking pdu link)).link) (sym is)
        (turns (record { pdu = pdu; read = refl; meant = meant; heard = quiet; is_up = refl; plain = subst IsPlain (sym is) tt; next = eqb-true (ahead pdu link) 0 e; expected = expects e; returned = refl })))
        (λ e. misses)

    asked_up : pdu.body ≡ RetransmissionRequest → link.phase ≡ phase.Up → Goal (in_turn pdu link).link
    unfolding in_turn bringing answering sending repeating taking
    asked_up is its = by_test (λ (r : Receipt). Goal r.link) (ahead pdu link == 0) (bringing pdu.body (taking pdu link)) (missing link)
        (λ e. subst (λ (b : Body). Goal (bringing b (taking pdu link)).link) (sym is)
        (turns (record { pdu = pdu; read = refl; meant = meant; heard = quiet; is_up = its; plain = subst IsPlain (sym is) tt; next = eqb-true (ahead pdu link) 0 e; expected = expects e; returned = refl })))
        (λ e. misses)

    asked_running : pdu.body ≡ RetransmissionRequest → link.phase ≡ phase.RetransmissionRunning → Goal (in_turn pdu link).link
    unfolding in_turn bringing answering sending repeating taking
    asked_running is its = by_test (λ (r : Receipt). Goal r.link) (ahead pdu link == 0) (bringing pdu.body (taking pdu link)) (missing link)
        (λ e. subst (λ (b : Body). Goal (bringing b (taking pdu link)).link) (sym is) (recovers (ap is_recovering its)))
        (λ e. misses)

    again_running : (items : List (List ℕ)) → pdu.body ≡ RetransmittedData items → link.phase ≡ phase.RetransmissionRunning → Goal (in_turn pdu link).link
    unfolding in_turn bringing handing taking
    again_running items is its = by_test (λ (r : Receipt). Goal r.link) (ahead pdu link == 0) (bringing pdu.body (taking pdu link)) (missing link)
        (λ e. subst (λ (b : Body). Goal (bringing b (taking pdu link)).link) (sym is) (recovers (ap is_recovering its)))
        (λ e. misses)

    closed_absurd : {A : Type 0} → is_open link.phase ≡ true → link.phase ≡ phase.Closed → A
    closed_absurd opened its = absurd (cc (opened, ap is_open its))

    admits : is_open link.phase ≡ true → (body : Body) (its : Phase) → pdu.body ≡ body → link.phase ≡ its → Goal (admitting (admission body its) pdu link).link
    unfolding admitting
    admits opened (ConnectionRequest opening) phase.Closed is at = closed_absurd opened at
    admits opened (ConnectionRequest opening) phase.Start is at = violates
    admits opened (ConnectionRequest opening) phase.Up is at = violates
    admits opened (ConnectionRequest opening) phase.RetransmissionRequested is at = violates
    admits opened (ConnectionRequest opening) phase.RetransmissionRunning is at = violates
    admits opened (ConnectionResponse opening) phase.Closed is at = closed_absurd opened at
    admits opened (ConnectionResponse opening) phase.Start is at = violates
    admits opened (ConnectionResponse opening) phase.Up is at = violates
    admits opened (ConnectionResponse opening) phase.RetransmissionRequested is at = violates
    admits opened (ConnectionResponse opening) phase.RetransmissionRunning is at = violates
    admits opened RetransmissionRequest phase.Closed is at = closed_absurd opened at
    admits opened RetransmissionRequest phase.Start is at = violates
    admits opened RetransmissionRequest phase.Up is at = asked_up is at
    admits opened RetransmissionRequest phase.RetransmissionRequested is at = rests refl refl
    admits opened RetransmissionRequest phase.RetransmissionRunning is at = asked_running is at
    admits opened RetransmissionResponse phase.Closed is at = closed_absurd opened at
    admits opened RetransmissionResponse phase.Start is at = violates
    admits opened RetransmissionResponse phase.Up is at = violates
    admits opened RetransmissionResponse phase.RetransmissionRequested is at = recovers refl
    admits opened RetransmissionResponse phase.RetransmissionRunning is at = violates
    admits opened (DisconnectionRequest detail why) phase.Closed is at = closed_absurd opened at
    admits opened (DisconnectionRequest detail why) phase.Start is at = shuts refl
    admits opened (DisconnectionRequest detail why) phase.Up is at = shuts refl
    admits opened (DisconnectionRequest detail why) phase.RetransmissionRequested is at = shuts refl
    admits opened (DisconnectionRequest detail why) phase.RetransmissionRunning is at = shuts refl
    admits opened Heartbeat phase.Closed is at = closed_absurd opened at
    admits opened Heartbeat phase.Start is at = beat is
    admits opened Heartbeat phase.Up is at = beat is
    admits opened Heartbeat phase.RetransmissionRequested is at = rests refl refl
    admits opened Heartbeat phase.RetransmissionRunning is at = beat is
    admits opened (Data items) phase.Closed is at = closed_absurd opened at
    admits opened (Data items) phase.Start is at = items_come items is
    admits opened (Data items) phase.Up is at = items_come items is
    admits opened (Data items) phase.RetransmissionRequested is at = rests refl refl
    admits opened (Data items) phase.RetransmissionRunning is at = items_come items is
    admits opened (RetransmittedData items) phase.Closed is at = closed_absurd opened at
    admits opened (RetransmittedData items) phase.Start is at = violates
    admits opened (RetransmittedData items) phase.Up is at = violates
    admits opened (RetransmittedData items) phase.RetransmissionRequested is at = rests refl refl
    admits opened (RetransmittedData items) phase.RetransmissionRunning is at = again_running items is at

    tests_it : is_open link.phase ≡ true → Goal (testing pdu link).link
    unfolding testing
    tests_it opened =
        by_test (λ (r : Receipt). Goal r.link) (nat_lt sequence_range (ahead pdu link)) (refusing verdict.OutOfRange link) _ (λ e. rests refl refl)
        (λ e. by_test (λ (r : Receipt). Goal r.link) (is_stale pdu link) (refusing verdict.Stale link) _ (λ f. rests refl refl)
        (λ f. by_test (λ (r : Receipt). Goal r.link) (not (confirms pdu link)) (refusing verdict.BadConfirm link) _ (λ g. rests refl refl) (λ g. admits opened pdu.body link.phase refl refl)))

    connected_by : is_open link.phase ≡ true → (body : Body) → Goal (connected body pdu link).link
    unfolding connected
    connected_by opened (ConnectionRequest opening) = by_test (λ (r : Receipt). Goal r.link) (is_opening_again pdu link) (refusing verdict.Discarded link) (violating link) (λ e. rests refl refl) (λ e. violates)
    connected_by opened (ConnectionResponse opening) = tests_it opened
    connected_by opened RetransmissionRequest = tests_it opened
    connected_by opened RetransmissionResponse = tests_it opened
    connected_by opened (DisconnectionRequest detail why) = tests_it opened
    connected_by opened Heartbeat = tests_it opened
    connected_by opened (Data items) = tests_it opened
    connected_by opened (RetransmittedData items) = tests_it opened

  joined : (opening : Opening) → link.phase ≡ phase.Start → Goal (joining pdu opening link).link
  unfolding joining judging sending telling meeting
  joined opening its =
      by_test (λ (step : Step). Goal step.link) (pointwise nat_eq opening.version own_version) _ (telling reason.Version (record (meeting pdu link) { phase = phase.Up }))
      (λ e. by_test (λ (step : Step). Goal step.link) (opening.window == window_size) _ (telling reason.Window (record (meeting pdu link) { phase = phase.Up })) (λ f. joins its refl refl) (λ f. shuts refl))
      (λ e. shuts refl)

  asks : link.phase ≡ phase.Start → (body : Body) → Goal (asking body pdu link).link
  unfolding asking
  asks its (ConnectionRequest opening) = violates
  asks its (ConnectionResponse opening) = by_test (λ (r : Receipt). Goal r.link) (answers_request pdu link) (accepting (joining pdu opening link)) (refusing verdict.BadConfirm link) (λ e. joined opening its) (λ e. rests refl refl)
  asks its RetransmissionRequest = violates
  asks its RetransmissionResponse = violates
  asks its (DisconnectionRequest detail why) = by_test (λ (r : Receipt). Goal r.link) (answers_request pdu link) (accepting (silent (closed link))) (refusing verdict.BadConfirm link) (λ e. shuts refl) (λ e. rests refl refl)
  asks its Heartbeat = violates
  asks its (Data items) = violates
  asks its (RetransmittedData items) = violates

  asks_not : is_client link.identity.role ≡ false → is_asking link ≡ false
  asks_not e = grind (arith, e)

  is_up_now : is_up link.phase ≡ true → is_asking link ≡ false
  is_up_now e = grind (arith, e)

  in_phase : is_open link.phase ≡ true → (its : Phase) → link.phase ≡ its → Goal (by_state (open_state its) pdu link).link
  unfolding by_state
  in_phase opened phase.Closed at = absurd (cc (opened, ap is_open at))
  in_phase opened phase.Start at = by_test (λ (r : Receipt). Goal r.link) (is_client link.identity.role) (asking pdu.body pdu link) (connected pdu.body pdu link) (λ e. asks at pdu.body) (λ e. connected_by (asks_not e) opened pdu.body)
  in_phase opened phase.Up at = connected_by (is_up_now (ap is_up at)) opened pdu.body
  in_phase opened phase.RetransmissionRequested at = connected_by (is_up_now (ap is_up at)) opened pdu.body
  in_phase opened phase.RetransmissionRunning at = connected_by (is_up_now (ap is_up at)) opened pdu.body

not_false : (b : Bool) → not b ≡ false → b ≡ true
not_false true e = refl
not_false false e = absurd (cc (e))

both_so : (one other : Bool) (here there : State) → one ≡ true → other ≡ true → (if one && other then here else there) ≡ here
both_so true true here there e f = refl
both_so true false here there e f = absurd (cc (f))
both_so false other here there e f = absurd (cc (e))

alive_state : (link : LinkState) → is_open link.phase ≡ true → nat_lt link.clock (deadline link) ≡ true → state_at link.clock link ≡ open_state link.phase
unfolding state_at
alive_state link opened alive =
    both_so (is_open link.phase) (nat_lt link.clock (deadline link)) (open_state link.phase) (if nat_lt link.clock (deadline link + quiet_time) then state.Quiet else state.Down) opened alive

hears : (link : LinkState) (pdu : Pdu) → is_open link.phase ≡ true → nat_lt link.clock (deadline link) ≡ true → Change link (Ok pdu) (hearing pdu link).link
unfolding hearing
hears link pdu opened alive =
    by_test (λ (r : Receipt). Change link (Ok pdu) r.link) (not (pdu.receiver == link.identity.own)) (refusing verdict.NotForMe link) _ (λ e. rests refl refl)
    (λ e. by_test (λ (r : Receipt). Change link (Ok pdu) r.link) (not (pdu.sender == link.identity.partner)) (refusing verdict.WrongSender link) (by_state (state_at link.clock link) pdu link) (λ f. rests refl refl)
    (λ f. subst (λ (s : State). Change link (Ok pdu) (by_state s pdu link).link) (sym (alive_state link opened alive))
    (in_phase link pdu (record { receiver = eqb-true pdu.receiver link.identity.own (not_false (pdu.receiver == link.identity.own) e); sender = eqb-true pdu.sender link.identity.partner (not_false (pdu.sender == link.identity.partner) f) })
    opened link.phase refl)))

-- ---- how a call begins

-- a link that the clock rules leave as it is
pub record IsSettled (now : ℕ) (link : LinkState) : Type 0 where
  pub same : settled now link ≡ link
  pub opened : is_open link.phase ≡ true

settled_clock : (now : ℕ) (link : LinkState) → (settled now link).clock ≡ now
unfolding settled
settled_clock now link = by_test (λ (l : LinkState). l.clock ≡ now) (is_open link.phase && nat_le (deadline link) now) _ (record link { clock = now }) (λ e. refl) (λ e. refl)

settled_alive : (now : ℕ) (link : LinkState) → is_open link.phase ≡ true → is_open (settled now link).phase ≡ true → nat_lt now (deadline link) ≡ true
unfolding settled deadline
settled_alive now link opened still = grind (arith, opened, still)

module _ (now : ℕ) (link : LinkState) (is : IsSettled now link) where
  pub clock_is : link.clock ≡ now
  clock_is = sym (ap (λ (l : LinkState). l.clock) is.same) ∙ settled_clock now link

  alive : nat_lt link.clock (deadline link) ≡ true
  alive = ap (λ n. nat_lt n (deadline link)) clock_is ∙ settled_alive now link is.opened (ap (λ (l : LinkState). is_open l.phase) is.same ∙ is.opened)

  -- the limit of PDUs is told, or nothing is done
  begins : (P : Step → Type 0) → P (telling reason.Sequence link) → P (silent link) → P (entered now link)
  unfolding entered limited
  begins P told quiet = subst (λ (l : LinkState). P (limited l)) (sym is.same) (by_test P (is_open link.phase && nat_le connection_limit link.sent) (telling reason.Sequence link) (silent link) (λ e. told) (λ e. quiet))

  receives_so : Laws → (found : Result Pdu PduFault) → Change link found (hearing_bytes found (entered now link).link).link
  unfolding hearing_bytes telling sending
  receives_so law (Err fault) = begins (λ (s : Step). Change link (Err fault) s.link) (shuts refl) (rests refl refl)
  receives_so law (Ok pdu) = begins (λ (s : Step). Change link (Ok pdu) (hearing pdu s.link).link) (outside (law.hears_outside pdu (telling reason.Sequence link).link refl)) (hears link pdu is.opened alive)
    where
      outside : HearsOutside pdu (telling reason.Sequence link).link (hearing pdu (telling reason.Sequence link).link) → Change link (Ok pdu) (hearing pdu (telling reason.Sequence link).link).link
      outside (refuses why not_taken same) = subst (λ (r : Receipt). Change link (Ok pdu) r.link) (sym same) (shuts refl)
      outside (grants opening server body down late same) = absurd (told_not_down link down)

  pub changes_received : Laws → (bytes : List ℕ) → Change link (reading link.identity.key bytes) (receiving now bytes link).link
  unfolding receiving
  changes_received law bytes = receives_so law (reading link.identity.key bytes)

  -- ---- the other calls

  pub changes_ticking : (found : Result Pdu PduFault) → Change link found (ticking now link).link
  unfolding ticking beating telling sending
  changes_ticking found = begins (λ (s : Step). Change link found (beating s.link).link)
      (shuts refl)
      (by_test (λ (s : Step). Change link found s.link) (is_up link.phase && nat_le heartbeat_interval (link.clock - link.sent_at)) _ (silent link) (λ e. rests refl refl) (λ e. rests refl refl))

  shut_by : (why : Reason) (l : LinkState) → is_open (closing why l).link.phase ≡ false
  unfolding closing telling sending
  shut_by why l = by_test (λ (s : Step). is_open s.link.phase ≡ false) (is_told why) (telling why l) (silent (closed l)) (λ e. refl) (λ e. refl)

  pub changes_closing : (found : Result Pdu PduFault) (why : Reason) → Change link found (closing_by now why link).link
  unfolding closing_by
  changes_closing found why = begins (λ (s : Step). Change link found (if is_open s.link.phase then closing why s.link else silent s.link).link)
      (shuts (by_test (λ (s : Step). is_open s.link.phase ≡ false) (is_open (telling reason.Sequence link).link.phase) (closing why (telling reason.Sequence link).link) (silent (telling reason.Sequence link).link) (λ e. shut_by why (telling reason.Sequence link).link) (λ e. e)))
      (shuts (by_test (λ (s : Step). is_open s.link.phase ≡ false) (is_open link.phase) (closing why link) (silent link) (λ e. shut_by why link) (λ e. e)))

  pub changes_sending : (found : Result Pdu PduFault) (item : List ℕ) → Change link found (sending_item now item link).link
  unfolding sending_item giving telling sending
  changes_sending found item = begins (λ (s : Step). Change link found (if is_ok (acceptance s.link) then giving item s.link else silent s.link).link)
      (by_test (λ (s : Step). Change link found s.link) (is_ok (acceptance (telling reason.Sequence link).link)) (giving item (telling reason.Sequence link).link) (silent (telling reason.Sequence link).link) (λ e. shuts refl) (λ e. shuts refl))
      (by_test (λ (s : Step). Change link found s.link) (is_ok (acceptance link)) (giving item link) (silent link) (λ e. rests refl refl) (λ e. rests refl refl))

  pub changes_opening : (found : Result Pdu PduFault) → opens now link ≡ false → Change link found (opening now link).link
  unfolding opening opens telling sending
  changes_opening found = begins (λ (s : Step). may_open s.link ≡ false → Change link found (if may_open s.link then requesting s.link else silent s.link).link)
      (λ e. subst (λ (b : Bool). Change link found (if b then requesting (telling reason.Sequence link).link else silent (telling reason.Sequence link).link).link) (sym e) (shuts refl))
      (λ e. subst (λ (b : Bool). Change link found (if b then requesting link else silent link).link) (sym e) (rests refl refl))
