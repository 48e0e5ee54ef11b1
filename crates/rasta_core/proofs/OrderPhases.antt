-- What may come in a connection, phase by phase.
use Rattle.std.proofs.Common.{◌≡◌, ℕ, Bool, true, false, List, refl, sym, subst, arith, ◌⊎◌, inl, inr}
use Rattle.rasta_core_spec.specs.State.{LinkState, is_open, is_up}
use Rattle.rasta_core_spec.specs.Clock.{open_state}
use Rattle.rasta_core_spec.specs.PdusHandedOut.{silent, closed}
use Rattle.rasta_core_spec.specs.Receipt.{Receipt, accepting, refusing, violating, taking, admission, admitting, in_turn}
use Rattle.rasta_core_spec.specs.phase.State.TheVariants as state
use Rattle.rasta_core_spec.specs.verdict.Verdict.TheVariants as verdict
use Rattle.rasta_core_spec.specs.body.Opening.{Opening}
use Rattle.rasta_core_spec.specs.body.Body.{Body}
use Rattle.rasta_core_spec.specs.body.Body.TheVariants.{ConnectionRequest, ConnectionResponse, RetransmissionRequest, RetransmissionResponse, DisconnectionRequest, Heartbeat, Data, RetransmittedData}
use Rattle.rasta_core_spec.specs.pdu.Pdu.{Pdu}
use Rattle.rasta_core_spec.specs.phase.Phase.{Phase}
use Rattle.rasta_core.specs.Order.{IsClosing}
use Rattle.rasta_core.specs.LinkAndFlow.{reads}

-- what is taken at the expected number
abbrev pub TakesTurns : Body → Type 0
TakesTurns RetransmissionRequest = Unit {0}
TakesTurns Heartbeat = Unit {0}
TakesTurns (Data items) = Unit {0}
TakesTurns (RetransmittedData items) = Unit {0}
TakesTurns _ = ⊥

-- what makes an end up
abbrev pub BringsUp : Body → Type 0
BringsUp Heartbeat = Unit {0}
BringsUp (Data items) = Unit {0}
BringsUp _ = ⊥

-- what a link does with a PDU that has passed the tests of numbers and stamps
pub data Admits (pdu : Pdu) (link : LinkState) (receipt : Receipt) : Type 0 where
  violates : receipt ≡ violating link → Admits pdu link receipt
  discards : receipt ≡ refusing verdict.Discarded link → Admits pdu link receipt
  closes : IsClosing pdu.body → receipt ≡ accepting (silent (closed (taking pdu link))) → Admits pdu link receipt
  resumes : (phase : Phase) → is_up link.phase ≡ true → open_state phase ≡ state.RetransmissionRunning → pdu.body ≡ RetransmissionResponse
      → receipt ≡ accepting (silent (record (taking pdu link) { phase = phase })) → Admits pdu link receipt
  turns : reads (open_state link.phase) ≡ true → TakesTurns pdu.body → (BringsUp pdu.body ⊎ (is_up link.phase ≡ true)) → receipt ≡ in_turn pdu link → Admits pdu link receipt

module _ (pdu : Pdu) (link : LinkState) where
  pub response_violates : (opening : Opening) → admitting (admission (ConnectionResponse opening) link.phase) pdu link ≡ violating link
  unfolding admitting
  response_violates opening = grind arith

  pub request_violates : (opening : Opening) → admitting (admission (ConnectionRequest opening) link.phase) pdu link ≡ violating link
  unfolding admitting
  request_violates opening = grind arith

  pub disconnects : (detail reason : ℕ) → admitting (admission (DisconnectionRequest detail reason) link.phase) pdu link ≡ accepting (silent (closed (taking pdu link)))
  unfolding admitting
  disconnects detail reason = grind arith

  pub beat_turns : reads (open_state link.phase) ≡ true → admitting (admission Heartbeat link.phase) pdu link ≡ in_turn pdu link
  unfolding admitting
  beat_turns e = grind arith

  pub beat_discarded : reads (open_state link.phase) ≡ false → admitting (admission Heartbeat link.phase) pdu link ≡ refusing verdict.Discarded link
  unfolding admitting
  beat_discarded e = grind arith

  pub data_turns : (items : List (List ℕ)) → reads (open_state link.phase) ≡ true → admitting (admission (Data items) link.phase) pdu link ≡ in_turn pdu link
  unfolding admitting
  data_turns items e = grind arith

  pub data_discarded : (items : List (List ℕ)) → reads (open_state link.phase) ≡ false → admitting (admission (Data items) link.phase) pdu link ≡ refusing verdict.Discarded link
  unfolding admitting
  data_discarded items e = grind arith

  again_turns_not : (items : List (List ℕ)) → is_open link.phase ≡ true → reads (open_state link.phase) ≡ true → is_up link.phase ≡ false → admitting (admission (RetransmittedData items) link.phase) pdu link ≡ violating link
  unfolding admitting
  again_turns_not items connected e d = grind (arith, e, d, connected)

  pub again_turns_up : (items : List (List ℕ)) → reads (open_state link.phase) ≡ true
      → (admitting (admission (RetransmittedData items) link.phase) pdu link ≡ in_turn pdu link) ⊎ (admitting (admission (RetransmittedData items) link.phase) pdu link ≡ violating link)
  unfolding admitting
  again_turns_up items e = grind (arith, e)

  again_turns : (items : List (List ℕ)) → is_open link.phase ≡ true → reads (open_state link.phase) ≡ true
      → ((is_up link.phase ≡ true) × (admitting (admission (RetransmittedData items) link.phase) pdu link ≡ in_turn pdu link))
      ⊎ (admitting (admission (RetransmittedData items) link.phase) pdu link ≡ violating link)
  again_turns items connected e = by_up (is_up link.phase) refl
    where
      by_up : (up : Bool) → is_up link.phase ≡ up → ((is_up link.phase ≡ true) × (admitting (admission (RetransmittedData items) link.phase) pdu link ≡ in_turn pdu link))
          ⊎ (admitting (admission (RetransmittedData items) link.phase) pdu link ≡ violating link)
      by_up true u = elim (again_turns_up items e) [ inl same ↦ inl (u, same) | inr same ↦ inr same ]
      by_up false u = inr (again_turns_not items connected e u)

  pub again_discarded : (items : List (List ℕ)) → reads (open_state link.phase) ≡ false → admitting (admission (RetransmittedData items) link.phase) pdu link ≡ refusing verdict.Discarded link
  unfolding admitting
  again_discarded items e = grind arith

  asking_turns_not : is_open link.phase ≡ true → reads (open_state link.phase) ≡ true → is_up link.phase ≡ false → admitting (admission RetransmissionRequest link.phase) pdu link ≡ violating link
  unfolding admitting
  asking_turns_not connected e d = grind (arith, e, d, connected)

  pub asking_turns_up : reads (open_state link.phase) ≡ true
      → (admitting (admission RetransmissionRequest link.phase) pdu link ≡ in_turn pdu link) ⊎ (admitting (admission RetransmissionRequest link.phase) pdu link ≡ violating link)
  unfolding admitting
  asking_turns_up e = grind (arith, e)

  asking_turns : is_open link.phase ≡ true → reads (open_state link.phase) ≡ true
      → ((is_up link.phase ≡ true) × (admitting (admission RetransmissionRequest link.phase) pdu link ≡ in_turn pdu link))
      ⊎ (admitting (admission RetransmissionRequest link.phase) pdu link ≡ violating link)
  asking_turns connected e = by_up (is_up link.phase) refl
    where
      by_up : (up : Bool) → is_up link.phase ≡ up → ((is_up link.phase ≡ true) × (admitting (admission RetransmissionRequest link.phase) pdu link ≡ in_turn pdu link))
          ⊎ (admitting (admission RetransmissionRequest link.phase) pdu link ≡ violating link)
      by_up true u = elim (asking_turns_up e) [ inl same ↦ inl (u, same) | inr same ↦ inr same ]
      by_up false u = inr (asking_turns_not connected e u)

  pub asking_discarded : reads (open_state link.phase) ≡ false → admitting (admission RetransmissionRequest link.phase) pdu link ≡ refusing verdict.Discarded link
  unfolding admitting
  asking_discarded e = grind arith

  pub answer_violates : reads (open_state link.phase) ≡ true → admitting (admission RetransmissionResponse link.phase) pdu link ≡ violating link
  unfolding admitting
  answer_violates e = grind arith

  pub answer_comes : reads (open_state link.phase) ≡ false
      → (phase : Phase) × (open_state phase ≡ state.RetransmissionRunning)
      × (admitting (admission RetransmissionResponse link.phase) pdu link ≡ accepting (silent (record (taking pdu link) { phase = phase })))
  unfolding admitting
  answer_comes e = ((admitting (admission RetransmissionResponse link.phase) pdu link).link.phase, grind arith, grind arith)

  answer_resumes : is_open link.phase ≡ true → reads (open_state link.phase) ≡ false
      → (is_up link.phase ≡ true) × ((phase : Phase) × (open_state phase ≡ state.RetransmissionRunning)
      × (admitting (admission RetransmissionResponse link.phase) pdu link ≡ accepting (silent (record (taking pdu link) { phase = phase }))))
  unfolding admitting
  answer_resumes connected e = (grind (arith, e, connected), answer_comes e)

  admits_by : is_open link.phase ≡ true → (body : Body) → pdu.body ≡ body → (reading : Bool) → reads (open_state link.phase) ≡ reading → Admits pdu link (admitting (admission body link.phase) pdu link)
  admits_by connected (ConnectionRequest opening) is reading e = violates (request_violates opening)
  admits_by connected (ConnectionResponse opening) is reading e = violates (response_violates opening)
  admits_by connected (DisconnectionRequest detail reason) is reading e = closes (subst IsClosing (sym is) tt) (disconnects detail reason)
  admits_by connected RetransmissionRequest is true e = elim (asking_turns connected e) [ inl same ↦ turns e (subst TakesTurns (sym is) tt) (inr same.0) same.1 | inr same ↦ violates same ]
  admits_by connected RetransmissionRequest is false e = discards (asking_discarded e)
  admits_by connected RetransmissionResponse is true e = violates (answer_violates e)
  admits_by connected RetransmissionResponse is false e = let found = answer_resumes connected e in resumes found.1.0 found.0 found.1.1 is found.1.2
  admits_by connected Heartbeat is true e = turns e (subst TakesTurns (sym is) tt) (inl (subst BringsUp (sym is) tt)) (beat_turns e)
  admits_by connected Heartbeat is false e = discards (beat_discarded e)
  admits_by connected (Data items) is true e = turns e (subst TakesTurns (sym is) tt) (inl (subst BringsUp (sym is) tt)) (data_turns items e)
  admits_by connected (Data items) is false e = discards (data_discarded items e)
  admits_by connected (RetransmittedData items) is true e = elim (again_turns items connected e) [ inl same ↦ turns e (subst TakesTurns (sym is) tt) (inr same.0) same.1 | inr same ↦ violates same ]
  admits_by connected (RetransmittedData items) is false e = discards (again_discarded items e)

  pub admits : is_open link.phase ≡ true → Admits pdu link (admitting (admission pdu.body link.phase) pdu link)
  admits connected = admits_by connected pdu.body refl (reads (open_state link.phase)) refl
