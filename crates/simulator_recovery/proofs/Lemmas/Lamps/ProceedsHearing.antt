-- A client that is outside takes no item with a datagram, so it isn't ready after it.
use Rattle.simulator_recovery.proofs.Words.Basics.{◌≡◌, ℕ, ◌∙◌, ◌+◌, Bool, true, false, not, ◌&&◌, ◌==◌, nat_le, nat_lt, List, [], Result, Ok, Err, if◌then◌else◌, refl, sym, ap, subst, false≢true}
use Rattle.simulator_recovery.proofs.Words.Links.{hearing_bytes, opening, receiving, ticking as link_ticking, deadline, open_state, settled, state_at, granting, joining, OutboxState, connection_limit, entered, limited, sending, silent, telling, accepting, answers_request, asking, by_state, connected, hearing as link_hearing, refusing, resting, LinkState, is_client, is_open, is_up, Phase, State, Reason, Verdict, reading, Body, ConnectionRequest, ConnectionResponse, Data, DisconnectionRequest, Heartbeat, RetransmissionRequest, RetransmissionResponse, RetransmittedData, PduFault, Pdu}
use Rattle.simulator_recovery.proofs.Words.Controllers.{VersionCheck}
use Rattle.simulator_recovery.proofs.Words.Interlockings.{ClientState, IsClient, is_outside, is_ready, ClientSoFar, Receives, begun, calling, acting_all, at_stage, clocked, ending, fallen, hearing, rising, saying, ticking, Stage}
use Rattle.simulator_recovery.proofs.Lemmas.Talk.ClientLinks.{up_open}
use Rattle.simulator_recovery.proofs.Lemmas.Ground.LinkCounts.{settled_open}

-- ---- a client's link that isn't up hands out nothing

-- a state of a link that isn't up
abbrev IsLow : State → Type 0
IsLow State.Quiet = Unit {0}
IsLow State.Down = Unit {0}
IsLow State.Start = Unit {0}
IsLow _ = ⊥

module _ (p : Pdu) (l : LinkState) (asks : is_client l.identity.role ≡ true) (down : is_up l.phase ≡ false) where
  asking_none : (body : Body) → (asking body p l).items ≡ []
  unfolding asking
  asking_none (ConnectionRequest opening) = refl
  asking_none (ConnectionResponse opening) = choose (answers_request p l)
    where
      choose : (b : Bool) → (if b then accepting (joining p opening l) else refusing Verdict.BadConfirm l).items ≡ []
      choose true = refl
      choose false = refl
  asking_none RetransmissionRequest = refl
  asking_none RetransmissionResponse = refl
  asking_none (DisconnectionRequest detail why) = choose (answers_request p l)
    where
      choose : (b : Bool) → (if b then accepting (silent (record l { phase = Phase.Closed; closed_at = l.clock })) else refusing Verdict.BadConfirm l).items ≡ []
      choose true = refl
      choose false = refl
  asking_none Heartbeat = refl
  asking_none (Data items) = refl
  asking_none (RetransmittedData items) = refl

  resting_none : (body : Body) → (resting body p l).items ≡ []
  unfolding resting
  resting_none (ConnectionRequest opening) = choose (is_client l.identity.role)
    where
      choose : (b : Bool) → (if b then refusing Verdict.WrongState l else accepting (granting p opening l)).items ≡ []
      choose true = refl
      choose false = refl
  resting_none (ConnectionResponse opening) = refl
  resting_none RetransmissionRequest = refl
  resting_none RetransmissionResponse = refl
  resting_none (DisconnectionRequest detail why) = refl
  resting_none Heartbeat = refl
  resting_none (Data items) = refl
  resting_none (RetransmittedData items) = refl

  by_low : (s : State) → IsLow s → (by_state s p l).items ≡ []
  unfolding by_state
  by_low State.Quiet low = refl
  by_low State.Down low = resting_none p.body
  by_low State.Start low = ap (λ (b : Bool). (if b then asking p.body p l else connected p.body p l).items) asks ∙ asking_none p.body
  by_low State.Up low = absurd low
  by_low State.RetransmissionRequested low = absurd low
  by_low State.RetransmissionRunning low = absurd low

  is_low : IsLow (state_at l.clock l)
  unfolding state_at
  is_low = choose (is_open l.phase && nat_lt l.clock (deadline l)) (nat_lt l.clock (deadline l + 6000)) (by_phase l.phase down)
    where
      by_phase : (q : Phase) → is_up q ≡ false → IsLow (open_state q)
      by_phase Phase.Closed e = tt
      by_phase Phase.Start e = tt
      by_phase Phase.Up e = absurd (false≢true (sym e))
      by_phase Phase.RetransmissionRequested e = absurd (false≢true (sym e))
      by_phase Phase.RetransmissionRunning e = absurd (false≢true (sym e))

      choose : (a b : Bool) → IsLow (open_state l.phase) → IsLow (if a then open_state l.phase else if b then State.Quiet else State.Down)
      choose true b low = low
      choose false true low = tt
      choose false false low = tt

  hears_none : (link_hearing p l).items ≡ []
  unfolding link_hearing
  hears_none = choose (p.receiver == l.identity.own) (p.sender == l.identity.partner)
    where
      choose : (a b : Bool) → (if not a then refusing Verdict.NotForMe l else if not b then refusing Verdict.WrongSender l else by_state (state_at l.clock l) p l).items ≡ []
      choose false b = refl
      choose true false = refl
      choose true true = by_low (state_at l.clock l) is_low

-- It is a client's, and isn't up.
record IsDown (l : LinkState) : Type 0 where
  asks : is_client l.identity.role ≡ true
  down : is_up l.phase ≡ false

settled_down : (now : ℕ) (l : LinkState) → IsDown l → IsDown (settled now l)
unfolding settled
settled_down now l is = choose (is_open l.phase && nat_le (deadline l) now)
  where
    choose : (b : Bool) → IsDown (if b then record l { phase = Phase.Closed; closed_at = deadline l; clock = now } else record l { clock = now })
    choose true = record { asks = is.asks; down = refl }
    choose false = record { asks = is.asks; down = is.down }

limited_down : (l : LinkState) → IsDown l → IsDown (limited l).link
unfolding limited telling sending
limited_down l is = choose (is_open l.phase && nat_le connection_limit l.sent)
  where
    choose : (b : Bool) → IsDown (if b then telling Reason.Sequence l else silent l).link
    choose true = record { asks = is.asks; down = refl }
    choose false = is

receives_none : (now : ℕ) (bytes : List ℕ) (l : LinkState) → IsDown l → (receiving now bytes l).items ≡ []
unfolding receiving hearing_bytes entered
receives_none now bytes l is = by_reading (reading l.identity.key bytes)
  where
    x : LinkState
    x = (limited (settled now l)).link

    still : IsDown x
    still = limited_down (settled now l) (settled_down now l is)

    by_reading : (what : Result Pdu PduFault) → (hearing_bytes what x).items ≡ []
    by_reading (Err fault) = refl
    by_reading (Ok p) = hears_none p x still.asks still.down

-- ---- a client that is outside

pub outside_unready : (s : Stage) → is_outside s ≡ true → is_ready s ≡ false
outside_unready Stage.Outside e = refl
outside_unready Stage.AwaitsAnswer e = absurd (false≢true e)
outside_unready Stage.AwaitsStart e = absurd (false≢true e)
outside_unready (Stage.AwaitsStatus left) e = absurd (false≢true e)
outside_unready Stage.Completed e = absurd (false≢true e)
outside_unready Stage.AwaitsReport e = absurd (false≢true e)

-- it is outside, and its link isn't up
pub record IsOutside (client : ClientState) : Type 0 where
  pub is_out : is_outside client.stage ≡ true
  pub asks : is_client client.link.identity.role ≡ true
  pub down : is_up client.link.phase ≡ false

rises_unready : (now : ℕ) (part : ClientSoFar) → is_ready part.client.stage ≡ false → is_ready (rising now part).client.stage ≡ false
unfolding rising
rises_unready now part unready = choose (is_outside part.client.stage && is_up part.client.link.phase)
  where
    choose : (b : Bool) → is_ready (if b then at_stage Stage.AwaitsAnswer (saying now (VersionCheck part.client.peer.version) part) else part).client.stage ≡ false
    choose true = refl
    choose false = unready

falls_unready : (client : ClientState) → is_ready client.stage ≡ false → is_ready (fallen client).stage ≡ false
unfolding fallen
falls_unready client unready = choose (is_up client.link.phase)
  where
    choose : (b : Bool) → is_ready (if b then client else record client { stage = Stage.Outside }).stage ≡ false
    choose true = unready
    choose false = refl

falls_outside : (client : ClientState) → is_outside client.stage ≡ true → is_outside (fallen client).stage ≡ true
unfolding fallen
falls_outside client out = choose (is_up client.link.phase)
  where
    choose : (b : Bool) → is_outside (if b then client else record client { stage = Stage.Outside }).stage ≡ true
    choose true = out
    choose false = refl

pub outside_hears : (now : ℕ) (bytes : List ℕ) (client : ClientState) (outbox : OutboxState) → IsOutside client → is_ready (hearing now bytes (begun client outbox)).client.stage ≡ false
unfolding hearing calling acting_all
outside_hears now bytes client outbox is =
    subst (λ (items : List (List ℕ)). is_ready (ending (acting_all now items (rising now (calling now (Receives bytes) (begun client outbox))))).client.stage ≡ false)
    (sym (receives_none now bytes client.link (record { asks = is.asks; down = is.down }))) none_acted
  where
    came : ClientSoFar
    came = calling now (Receives bytes) (begun client outbox)

    none_acted : is_ready (ending (acting_all now [] (rising now came))).client.stage ≡ false
    none_acted = falls_unready (rising now came).client (rises_unready now came (outside_unready client.stage is.is_out))

-- by a tick or the clock it stays outside
pub outside_ticks : (now : ℕ) (client : ClientState) (outbox : OutboxState) → is_outside client.stage ≡ true → is_outside (ticking now (begun client outbox)).client.stage ≡ true
unfolding ticking calling
outside_ticks now client outbox out = falls_outside (record client { link = (opening now (link_ticking now client.link).link).link }) out

pub outside_clocked : (now : ℕ) (client : ClientState) → is_outside client.stage ≡ true → is_outside (clocked now client).stage ≡ true
unfolding clocked
outside_clocked now client out = falls_outside (record client { link = settled now client.link }) out

settled_asks : (now : ℕ) (l : LinkState) → is_client l.identity.role ≡ true → is_client (settled now l).identity.role ≡ true
unfolding settled
settled_asks now l asks = choose (is_open l.phase && nat_le (deadline l) now)
  where
    choose : (b : Bool) → is_client (if b then record l { phase = Phase.Closed; closed_at = deadline l; clock = now } else record l { clock = now }).identity.role ≡ true
    choose true = asks
    choose false = asks

-- the link of one that is outside after the clock isn't up
pub clocked_outside : (now : ℕ) (client : ClientState) → IsClient client → is_outside (clocked now client).stage ≡ true → IsOutside (clocked now client)
unfolding clocked fallen
clocked_outside now client is = choose (is_up at.link.phase) refl
  where
    at : ClientState
    at = record client { link = settled now client.link }

    asks : is_client at.link.identity.role ≡ true
    asks = settled_asks now client.link is.opens

    -- one that is up still was inside before
    was_up : is_up at.link.phase ≡ true → is_outside client.stage ≡ true → ⊥
    was_up up out = both (is_up client.link.phase) (ap (λ (l : LinkState). is_up l.phase) (sym (settled_open now client.link (up_open at.link.phase up)).0) ∙ up) (sym is.outside ∙ out)
      where
        both : (b : Bool) → b ≡ true → not b ≡ true → ⊥
        both true e f = false≢true f
        both false e f = false≢true e

    choose : (b : Bool) → is_up at.link.phase ≡ b → is_outside (if b then at else record at { stage = Stage.Outside }).stage ≡ true → IsOutside (if b then at else record at { stage = Stage.Outside })
    choose true e out = absurd (was_up e out)
    choose false e out = record { is_out = refl; asks = asks; down = e }
