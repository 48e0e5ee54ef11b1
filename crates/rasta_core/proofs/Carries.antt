-- What a call hands out carries the items that it accepts, and no others for the first time.
use Rattle.std.proofs.Common.{◌≡◌, ℕ, ◌+◌, ◌-◌, Bool, true, false, List, [], ◌∷◌, ◌++◌, inl, inr, refl, sym, ap, subst, ◌∙◌, append_assoc}
use Rattle.std.specs.Prelude.{nat_lt, nat_le, nat_eq, ◌==◌, ◌&&◌, not, if◌then◌else◌, Result, Ok, Err, is_ok}
use Rattle.std.specs.Cmp.Lexicographic.{pointwise}
use Rattle.rasta_core_spec.specs.Parameters.{sequence_range, connection_limit, heartbeat_interval, own_version, window_size}
use Rattle.rasta_core_spec.specs.State.{LinkState, is_open, is_up, is_client}
use Rattle.rasta_core_spec.specs.Clock.{open_state, settled, state_at}
use Rattle.rasta_core_spec.specs.PdusHandedOut.{Step, silent, header_of, pdu_of, sending, telling, closing, is_told, closed, limited, entered, beating, giving}
use Rattle.rasta_core_spec.specs.Establishment.{own_opening, may_open, requesting, beginning, meeting, judging, granting, joining}
use Rattle.rasta_core_spec.specs.Receipt as hears
use Rattle.rasta_core_spec.specs.Receipt.{Receipt, accepting, refusing, violating, ahead, is_stale, confirms, taking, repeated, repeating, answering, missing, handing, bringing, in_turn, admission, admitting, testing, is_opening_again, connected, answers_request, asking, resting, by_state, hearing}
use Rattle.rasta_core_spec.specs.Calls.{opening, ticking, closing_by, acceptance, answer_to_send, sending_item, hearing_bytes, receiving}
use Rattle.rasta_core_spec.specs.phase.State.{State}
use Rattle.rasta_core_spec.specs.phase.State.TheVariants as state
use Rattle.rasta_core_spec.specs.reason.Reason.{Reason}
use Rattle.rasta_core_spec.specs.reason.Reason.TheVariants as reason
use Rattle.rasta_core_spec.specs.verdict.Verdict.TheVariants as verdict
use Rattle.rasta_core_spec.specs.PduRead.{reading}
use Rattle.rasta_core_spec.specs.pdu.Pdu.{Pdu}
use Rattle.rasta_core_spec.specs.pdu_fault.PduFault.{PduFault}
use Rattle.rasta_core_spec.specs.body.Opening.{Opening}
use Rattle.rasta_core_spec.specs.body.Body.{Body}
use Rattle.rasta_core_spec.specs.body.Body.TheVariants.{ConnectionRequest, ConnectionResponse, RetransmissionRequest, RetransmissionResponse, DisconnectionRequest, Heartbeat, Data, RetransmittedData}
use Rattle.rasta_core_spec.specs.window.Unconfirmed.{Unconfirmed}
use Rattle.rasta_core_spec.specs.header.Header.{Header}
use Rattle.rasta_core_spec.specs.Given.{new_items}
use Rattle.rasta_core.specs.Carried.{carried}
use Rattle.rasta_core.specs.LinkAndFlow.{accepted, reads}
use Rattle.rasta_core.proofs.OrderTests.{by_test}
use Rattle.rasta_core.proofs.OrderPhases.{response_violates, request_violates, disconnects, beat_turns, beat_discarded, data_turns, data_discarded, again_turns_up, again_discarded, asking_turns_up, asking_discarded, answer_violates, answer_comes}

pub carried-append : (one other : List Pdu) → carried (one ++ other) ≡ carried one ++ carried other
carried-append [] other = refl
carried-append (first ∷ others) other =
    ap (λ rest. new_items first.body ++ rest) (carried-append others other) ∙ sym (append_assoc (new_items first.body) (carried others) (carried other))

-- nothing new is handed out
abbrev pub NoneNew : Step → Type 0
NoneNew step = carried step.pdus ≡ []

abbrev pub NoneNewIn : Receipt → Type 0
NoneNewIn receipt = carried receipt.pdus ≡ []

none_told : (why : Reason) (link : LinkState) → NoneNew (telling why link)
unfolding telling sending pdu_of
none_told why link = refl

none_entered : (now : ℕ) (link : LinkState) → NoneNew (entered now link)
unfolding entered limited
none_entered now link =
    by_test NoneNew (is_open (settled now link).phase && nat_le connection_limit (settled now link).sent) (telling reason.Sequence (settled now link)) (silent (settled now link))
    (λ e. none_told reason.Sequence (settled now link)) (λ e. refl)

-- after the beginning of a call
after_entered : (now : ℕ) (link : LinkState) (more : List Pdu) (items : List (List ℕ)) → carried more ≡ items → carried ((entered now link).pdus ++ more) ≡ items
after_entered now link more items is = carried-append (entered now link).pdus more ∙ ap (λ front. front ++ carried more) (none_entered now link) ∙ is

pub ticking_carries : (now : ℕ) (link : LinkState) → NoneNew (ticking now link)
unfolding ticking beating sending pdu_of
ticking_carries now link = after_entered now link (beating (entered now link).link).pdus [] (beats (entered now link).link)
  where
    beats : (l : LinkState) → NoneNew (beating l)
    beats l = by_test NoneNew (is_up l.phase && nat_le heartbeat_interval (l.clock - l.sent_at)) (sending Heartbeat l) (silent l) (λ e. refl) (λ e. refl)

pub closing_carries : (now : ℕ) (why : Reason) (link : LinkState) → NoneNew (closing_by now why link)
unfolding closing_by closing
closing_carries now why link = after_entered now link _ [] (shuts (entered now link).link)
  where
    shuts : (l : LinkState) → NoneNew (if is_open l.phase then closing why l else silent l)
    shuts l =
        by_test NoneNew (is_open l.phase) (closing why l) (silent l)
        (λ e. by_test NoneNew (is_told why) (telling why l) (silent (closed l)) (λ e. none_told why l) (λ e. refl)) (λ e. refl)

pub opening_carries : (now : ℕ) (link : LinkState) → NoneNew (opening now link)
unfolding opening requesting sending pdu_of
opening_carries now link = after_entered now link _ [] (asks (entered now link).link)
  where
    asks : (l : LinkState) → NoneNew (if may_open l then requesting l else silent l)
    asks l = by_test NoneNew (may_open l) (requesting l) (silent l) (λ e. refl) (λ e. refl)

pub sending_carries : (now : ℕ) (item : List ℕ) (link : LinkState) → carried (sending_item now item link).pdus ≡ accepted (answer_to_send now link) item
unfolding sending_item answer_to_send giving sending pdu_of
sending_carries now item link = after_entered now link _ (accepted (acceptance (entered now link).link) item) (gives (entered now link).link (is_ok (acceptance (entered now link).link)))
  where
    gives : (l : LinkState) (ok : Bool) → carried (if ok then giving item l else silent l).pdus ≡ (if ok then item ∷ [] else [])
    gives l true = refl
    gives l false = refl

-- ---- what comes

none_repeated : (header : Header) (count : ℕ) (waiting : List Unconfirmed) → carried (repeated header count waiting) ≡ []
unfolding repeated pdu_of
none_repeated header count [] = refl
none_repeated header count (first ∷ others) = none_repeated header (count + 1) others

none_answered : (link : LinkState) → NoneNew (answering link)
unfolding answering sending repeating header_of pdu_of
none_answered link = carried-append (repeated _ (link.sent + 1) link.waiting) _ ∙ ap (λ front. front ++ []) (none_repeated _ (link.sent + 1) link.waiting)

none_brought : (body : Body) (link : LinkState) → NoneNewIn (bringing body link)
unfolding bringing handing
none_brought (Data items) link = refl
none_brought (RetransmittedData items) link = refl
none_brought RetransmissionRequest link = none_answered link
none_brought (ConnectionRequest opening) link = refl
none_brought (ConnectionResponse opening) link = refl
none_brought RetransmissionResponse link = refl
none_brought (DisconnectionRequest detail why) link = refl
none_brought Heartbeat link = refl

none_judged : (opening : Opening) (agreed : LinkState → Step) (link : LinkState) → NoneNew (agreed link) → NoneNew (judging opening agreed link)
unfolding judging
none_judged opening agreed link none =
    by_test NoneNew (pointwise nat_eq opening.version own_version) _ (telling reason.Version link)
    (λ e. by_test NoneNew (opening.window == window_size) (agreed link) (telling reason.Window link) (λ e. none) (λ e. none_told reason.Window link))
    (λ e. none_told reason.Version link)

module _ (pdu : Pdu) (link : LinkState) where
  none_missing : NoneNewIn (missing link)
  unfolding missing sending pdu_of
  none_missing = refl

  none_in_turn : NoneNewIn (in_turn pdu link)
  unfolding in_turn
  none_in_turn = by_test NoneNewIn (ahead pdu link == 0) (bringing pdu.body (taking pdu link)) (missing link) (λ e. none_brought pdu.body (taking pdu link)) (λ e. none_missing)

  none_violating : NoneNewIn (violating link)
  none_violating = none_told reason.State link

  -- of a PDU of any type, whether the link takes PDUs in turn or not
  none_admitted : (body : Body) (turns : Bool) → reads (open_state link.phase) ≡ turns → NoneNewIn (admitting (admission body link.phase) pdu link)
  none_admitted (ConnectionRequest opening) turns e = subst NoneNewIn (sym (request_violates pdu link opening)) none_violating
  none_admitted (ConnectionResponse opening) turns e = subst NoneNewIn (sym (response_violates pdu link opening)) none_violating
  none_admitted (DisconnectionRequest detail why) turns e = subst NoneNewIn (sym (disconnects pdu link detail why)) refl
  none_admitted RetransmissionRequest true e = elim (asking_turns_up pdu link e) [ inl is ↦ subst NoneNewIn (sym is) none_in_turn | inr is ↦ subst NoneNewIn (sym is) none_violating ]
  none_admitted RetransmissionRequest false e = subst NoneNewIn (sym (asking_discarded pdu link e)) refl
  none_admitted RetransmissionResponse true e = subst NoneNewIn (sym (answer_violates pdu link e)) none_violating
  none_admitted RetransmissionResponse false e = let found = answer_comes pdu link e in subst NoneNewIn (sym found.2) refl
  none_admitted Heartbeat true e = subst NoneNewIn (sym (beat_turns pdu link e)) none_in_turn
  none_admitted Heartbeat false e = subst NoneNewIn (sym (beat_discarded pdu link e)) refl
  none_admitted (Data items) true e = subst NoneNewIn (sym (data_turns pdu link items e)) none_in_turn
  none_admitted (Data items) false e = subst NoneNewIn (sym (data_discarded pdu link items e)) refl
  none_admitted (RetransmittedData items) true e =
      elim (again_turns_up pdu link items e) [ inl is ↦ subst NoneNewIn (sym is) none_in_turn | inr is ↦ subst NoneNewIn (sym is) none_violating ]
  none_admitted (RetransmittedData items) false e = subst NoneNewIn (sym (again_discarded pdu link items e)) refl

  none_tested : NoneNewIn (testing pdu link)
  unfolding testing
  none_tested =
      by_test NoneNewIn (nat_lt sequence_range (ahead pdu link)) (refusing verdict.OutOfRange link) _ (λ e. refl)
      (λ e. by_test NoneNewIn (is_stale pdu link) (refusing verdict.Stale link) _ (λ e. refl)
      (λ e. by_test NoneNewIn (not (confirms pdu link)) (refusing verdict.BadConfirm link) (admitting (admission pdu.body link.phase) pdu link) (λ e. refl)
      (λ e. none_admitted pdu.body (reads (open_state link.phase)) refl)))

  none_connected : (body : Body) → NoneNewIn (connected body pdu link)
  unfolding connected
  none_connected (ConnectionRequest opening) =
      by_test NoneNewIn (is_opening_again pdu link) (refusing verdict.Discarded link) (violating link) (λ e. refl) (λ e. none_violating)
  none_connected (ConnectionResponse opening) = none_tested
  none_connected RetransmissionRequest = none_tested
  none_connected RetransmissionResponse = none_tested
  none_connected (DisconnectionRequest detail why) = none_tested
  none_connected Heartbeat = none_tested
  none_connected (Data items) = none_tested
  none_connected (RetransmittedData items) = none_tested

  none_asking : (body : Body) → NoneNewIn (asking body pdu link)
  unfolding asking joining sending pdu_of
  none_asking (ConnectionResponse opening) =
      by_test NoneNewIn (answers_request pdu link) (accepting (joining pdu opening link)) (refusing verdict.BadConfirm link)
      (λ e. none_judged opening (sending Heartbeat) (hears.up (meeting pdu link)) refl) (λ e. refl)
  none_asking (DisconnectionRequest detail why) =
      by_test NoneNewIn (answers_request pdu link) (accepting (silent (closed link))) (refusing verdict.BadConfirm link) (λ e. refl) (λ e. refl)
  none_asking (ConnectionRequest opening) = none_violating
  none_asking RetransmissionRequest = none_violating
  none_asking RetransmissionResponse = none_violating
  none_asking Heartbeat = none_violating
  none_asking (Data items) = none_violating
  none_asking (RetransmittedData items) = none_violating

  none_resting : (body : Body) → NoneNewIn (resting body pdu link)
  unfolding resting granting sending pdu_of
  none_resting (ConnectionRequest opening) =
      by_test NoneNewIn (is_client link.identity.role) (refusing verdict.WrongState link) (accepting (granting pdu opening link)) (λ e. refl)
      (λ e. none_judged opening (sending (ConnectionResponse own_opening)) (meeting pdu (beginning link)) refl)
  none_resting (ConnectionResponse opening) = refl
  none_resting RetransmissionRequest = refl
  none_resting RetransmissionResponse = refl
  none_resting (DisconnectionRequest detail why) = refl
  none_resting Heartbeat = refl
  none_resting (Data items) = refl
  none_resting (RetransmittedData items) = refl

  none_by_state : (its : State) → NoneNewIn (by_state its pdu link)
  unfolding by_state
  none_by_state state.Quiet = refl
  none_by_state state.Down = none_resting pdu.body
  none_by_state state.Start =
      by_test NoneNewIn (is_client link.identity.role) (asking pdu.body pdu link) (connected pdu.body pdu link) (λ e. none_asking pdu.body) (λ e. none_connected pdu.body)
  none_by_state state.Up = none_connected pdu.body
  none_by_state state.RetransmissionRequested = none_connected pdu.body
  none_by_state state.RetransmissionRunning = none_connected pdu.body

  none_heard : NoneNewIn (hearing pdu link)
  unfolding hearing
  none_heard =
      by_test NoneNewIn (not (pdu.receiver == link.identity.own)) (refusing verdict.NotForMe link) _ (λ e. refl)
      (λ e. by_test NoneNewIn (not (pdu.sender == link.identity.partner)) (refusing verdict.WrongSender link) (by_state (state_at link.clock link) pdu link) (λ e. refl)
      (λ e. none_by_state (state_at link.clock link)))

none_read : (found : Result Pdu PduFault) (link : LinkState) → NoneNewIn (hearing_bytes found link)
unfolding hearing_bytes
none_read (Err fault) link = refl
none_read (Ok pdu) link = none_heard pdu link

pub receiving_carries : (now : ℕ) (bytes : List ℕ) (link : LinkState) → carried (receiving now bytes link).pdus ≡ []
unfolding receiving
receiving_carries now bytes link =
    after_entered now link (hearing_bytes (reading link.identity.key bytes) (entered now link).link).pdus [] (none_read (reading link.identity.key bytes) (entered now link).link)
