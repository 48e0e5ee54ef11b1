-- What a call does at an end that is in a connection and stays in it: what it says confirms and returns no less than before.
use Rattle.rasta_core_recovery.proofs.Words.Basics.{◌≡◌, ℕ, ◌∙◌, ◌+◌, ◌-◌, ◌^◌, ◌≤◌, ◌<◌, ◌⊎◌, inl, inr, Bool, true, false, ◌&&◌, not, nat_le, ◌==◌, List, [], ◌∷◌, ◌++◌, None, Result, Ok, Err, if◌then◌else◌, refl, sym, ap, subst, arith, is_ok, false≢true}
use Rattle.rasta_core_recovery.proofs.Words.Links.{stamp, LinkState, is_asking, is_open, is_up, state_at, may_open, requesting, Step, beating, giving, header_of, pdu_of, sending, silent, telling, then_do, by_state, hearing, refusing, acceptance, hearing_bytes, opening, opens, receiving, sending_item, ticking, Call, Closes, EndState, Opens, Receives, Sends, Ticks, outcome, reading_of, Reason, Verdict, reading, Pdu, PduFault, Body, Data, Heartbeat}
use Rattle.rasta_core_recovery.proofs.Lemmas.Asking.Asks.{AskDeed, Met, ask_joins, ask_keeps, ask_leaves, asking_is, asks_hears, not_up}
use Rattle.rasta_core_recovery.proofs.Lemmas.Windows.ConfirmingEvents.{CameBy, not_entered}
use Rattle.rasta_core_recovery.proofs.Lemmas.Rounds.Course.{Joined, asked_chain, asked_joined, speaks_now}
use Rattle.rasta_core_recovery.proofs.Lemmas.Rounds.Deed.{Deed, Passes, Taken, asks, hears, keeps, leaves, takes}
use Rattle.rasta_core_recovery.proofs.Lemmas.Windows.StaysIn.{IsSettledAt, NothingCame, Read, closing_shuts, entering, stays_shut, told_shut}
use Rattle.rasta_core_recovery.proofs.Lemmas.Rounds.Words.{Chain, IsTalk, says_chain, voice_of}

-- it is in the connection that it was in
pub record Stayed (l k : LinkState) : Type 0 where
  pub own_first : k.own_first ≡ l.own_first
  pub partner_first : k.partner_first ≡ l.partner_first
  pub clock : k.clock ≡ l.clock
  pub joined : is_asking k ≡ false
  pub waiting : (k.waiting ≡ l.waiting) ⊎ ((item : List ℕ) × (k.waiting ≡ l.waiting ++ (record { tag = l.sent; item = item }) ∷ []))

-- it says something, or nothing, or takes a PDU that came and says what answers it
pub data Moved (Came : Pdu → Type 0) (kept : ℕ) (l k : LinkState) (ps : List Pdu) : Type 0 where
  speaks : Stayed l k → k.expected ≡ l.expected → k.partner_stamp ≡ l.partner_stamp → k.own_stamp ≡ l.own_stamp
      → Chain (voice_of l) l.sent (l.expected - 1) kept ps k.sent (l.expected - 1) kept → Moved Came kept l k ps
  hears_one : (p : Pdu) → Came p → (p.receiver == l.identity.own) ≡ true → (p.sender == l.identity.partner) ≡ true → Passes p l → Taken p l k ps → Moved Came kept l k ps

module _ (now : ℕ) (l : LinkState) (is_in : is_open l.phase ≡ true) (settled_at : IsSettledAt now l) (own : l.own_stamp ≤ now) where
  module _ (joined : is_asking l ≡ false) (kept : ℕ) (some : 1 ≤ l.expected) (fits : l.expected < 2 ^ 31) (kept_is : l.partner_stamp ≡ stamp kept) where
    is : Joined now l
    is = record { clock = settled_at.clock; connected = is_in; joined = joined; young = settled_at.young; own = own }

    as_before : (Came : Pdu → Type 0) → Moved Came kept l l []
    as_before Came = speaks (record { own_first = refl; partner_first = refl; clock = refl; joined = joined; waiting = inl refl }) refl refl refl (refl, omega arith, omega arith)

    one_said : (body : Body) → IsTalk body → Chain (voice_of l) l.sent (l.expected - 1) kept (pdu_of (header_of l) l.sent body ∷ []) (l.sent + 1) (l.expected - 1) kept
    unfolding pdu_of
    one_said body talk = says_chain IsTalk (λ b t. t) (voice_of l) l l.sent (l.sent + 1) (l.expected - 1) kept (pdu_of (header_of l) l.sent body ∷ [])
        (speaks_now now l kept is some fits kept_is) (refl, talk, refl)

    ticks_move : is_open (ticking now l).link.phase ≡ true → Moved NothingCame kept l (ticking now l).link (ticking now l).pdus
    unfolding ticking beating telling sending
    ticks_move = entering now l is_in settled_at (λ (s : Step). is_open (then_do s beating).link.phase ≡ true → Moved NothingCame kept l (then_do s beating).link (then_do s beating).pdus)
        (λ o. beats (is_up l.phase && nat_le 300 (l.clock - l.sent_at))) (λ o. absurd (false≢true o))
      where
        beats : (b : Bool) → let s = (if b then sending Heartbeat l else silent l) in Moved NothingCame kept l s.link s.pdus
        beats true = speaks (record { own_first = refl; partner_first = refl; clock = refl; joined = joined; waiting = inl refl }) refl refl refl (one_said Heartbeat tt)
        beats false = as_before NothingCame

    opens_move : opens now l ≡ false → is_open (opening now l).link.phase ≡ true → Moved NothingCame kept l (opening now l).link (opening now l).pdus
    unfolding opening opens telling sending
    opens_move = entering now l is_in settled_at (λ (s : Step). may_open s.link ≡ false → is_open (then_do s (λ k. if may_open k then requesting k else silent k)).link.phase ≡ true
        → Moved NothingCame kept l (then_do s (λ k. if may_open k then requesting k else silent k)).link (then_do s (λ k. if may_open k then requesting k else silent k)).pdus)
        (λ not. by_test (may_open l) not) (λ not. shut (may_open told) not)
      where
        told : LinkState
        told = (telling Reason.Sequence l).link

        by_test : (b : Bool) → b ≡ false → let s = (if b then requesting l else silent l) in is_open s.link.phase ≡ true → Moved NothingCame kept l s.link s.pdus
        by_test true e = absurd (false≢true (sym e))
        by_test false e = λ o. as_before NothingCame

        shut : (b : Bool) → b ≡ false → let s = (if b then requesting told else silent told) in is_open s.link.phase ≡ true
            → Moved NothingCame kept l s.link ((telling Reason.Sequence l).pdus ++ s.pdus)
        shut true e = absurd (false≢true (sym e))
        shut false e = λ o. absurd (false≢true o)

    sends_move : (item : List ℕ) → is_open (sending_item now item l).link.phase ≡ true → Moved NothingCame kept l (sending_item now item l).link (sending_item now item l).pdus
    unfolding sending_item acceptance giving telling sending
    sends_move item = entering now l is_in settled_at (λ (s : Step). is_open (then_do s (λ k. if is_ok (acceptance k) then giving item k else silent k)).link.phase ≡ true
        → Moved NothingCame kept l (then_do s (λ k. if is_ok (acceptance k) then giving item k else silent k)).link (then_do s (λ k. if is_ok (acceptance k) then giving item k else silent k)).pdus)
        (λ o. given (is_ok (acceptance l))) (λ o. absurd (false≢true o))
      where
        given : (b : Bool) → let s = (if b then giving item l else silent l) in Moved NothingCame kept l s.link s.pdus
        given true = speaks (record { own_first = refl; partner_first = refl; clock = refl; joined = joined; waiting = inr (item, refl) }) refl refl refl (one_said (Data (item ∷ [])) tt)
        given false = as_before NothingCame

    -- a PDU that is read
    hears_move : (Came : Pdu → Type 0) (p : Pdu) → Came p → is_open (hearing p l).link.phase ≡ true → Moved Came kept l (hearing p l).link (hearing p l).pdus
    unfolding hearing
    hears_move Came p came = λ o. choose (p.receiver == l.identity.own) (p.sender == l.identity.partner) refl refl o
        (hears p l is_in joined (subst (λ (n : ℕ). n < l.own_stamp + 1800) (sym settled_at.clock) settled_at.young))
      where
        by_deed : (k : LinkState) (ps : List Pdu) → (p.receiver == l.identity.own) ≡ true → (p.sender == l.identity.partner) ≡ true → is_open k.phase ≡ true → Deed p l k ps → Moved Came kept l k ps
        by_deed k ps receiver sender o (leaves why left) = absurd (false≢true (sym left.is_out ∙ o))
        by_deed k ps receiver sender o (keeps why same none) =
            subst (λ (j : LinkState). Moved Came kept l j ps) (sym same) (subst (λ (qs : List Pdu). Moved Came kept l l qs) (sym none) (as_before Came))
        by_deed k ps receiver sender o (asks passes apart a) = speaks (record {
          own_first = ap (λ (j : LinkState). j.own_first) a.link;
          partner_first = ap (λ (j : LinkState). j.partner_first) a.link;
          clock = ap (λ (j : LinkState). j.clock) a.link;
          joined = (asked_joined now l k ps is a).joined;
          waiting = inl (ap (λ (j : LinkState). j.waiting) a.link);
        }) (ap (λ (j : LinkState). j.expected) a.link) (ap (λ (j : LinkState). j.partner_stamp) a.link) (ap (λ (j : LinkState). j.own_stamp) a.link)
            (asked_chain now kept l k ps is a some fits kept_is)
        by_deed k ps receiver sender o (takes passes t) = hears_one p came receiver sender passes t

        choose : (a b : Bool) → (p.receiver == l.identity.own) ≡ a → (p.sender == l.identity.partner) ≡ b
            → let r = (if not a then refusing Verdict.NotForMe l else if not b then refusing Verdict.WrongSender l else by_state (state_at l.clock l) p l)
            in is_open r.link.phase ≡ true → Deed p l r.link r.pdus → Moved Came kept l r.link r.pdus
        choose false b e f = λ o deed. as_before Came
        choose true false e f = λ o deed. as_before Came
        choose true true e f = λ o deed. by_deed (by_state (state_at l.clock l) p l).link (by_state (state_at l.clock l) p l).pdus e f o deed

    receives_move : (bytes : List ℕ) → is_open (receiving now bytes l).link.phase ≡ true → Moved (Read l bytes) kept l (receiving now bytes l).link (receiving now bytes l).pdus
    unfolding receiving hearing_bytes
    receives_move bytes = entering now l is_in settled_at (λ (s : Step). is_open (hearing_bytes (reading l.identity.key bytes) s.link).link.phase ≡ true
        → Moved (Read l bytes) kept l (hearing_bytes (reading l.identity.key bytes) s.link).link (s.pdus ++ (hearing_bytes (reading l.identity.key bytes) s.link).pdus))
        (by_reading (reading l.identity.key bytes) refl)
        (λ o. absurd (false≢true (sym (stays_shut (reading l.identity.key bytes) (telling Reason.Sequence l).link (told_shut l).0 (told_shut l).1) ∙ o)))
      where
        by_reading : (what : Result Pdu PduFault) → reading l.identity.key bytes ≡ what → is_open (hearing_bytes what l).link.phase ≡ true
            → Moved (Read l bytes) kept l (hearing_bytes what l).link (hearing_bytes what l).pdus
        by_reading (Err fault) e o = as_before (Read l bytes)
        by_reading (Ok p) e o = hears_move (Read l bytes) p e o

-- a call of an end that has joined
pub moves_by : (call : Call) (moment : ℕ) (end : EndState) → is_open end.link.phase ≡ true → IsSettledAt (reading_of end.clock) end.link → end.link.own_stamp ≤ reading_of end.clock
    → is_asking end.link ≡ false
    → (kept : ℕ) → 1 ≤ end.link.expected → end.link.expected < 2 ^ 31 → end.link.partner_stamp ≡ stamp kept → (outcome call moment end).enters ≡ None
    → is_open (outcome call moment end).link.phase ≡ true
    → Moved (CameBy end.link call) kept end.link (outcome call moment end).link (outcome call moment end).pdus
unfolding outcome
moves_by Ticks moment end is_in at own joined kept some fits kept_is none opened = ticks_move (reading_of end.clock) end.link is_in at own joined kept some fits kept_is opened
moves_by Opens moment end is_in at own joined kept some fits kept_is none opened =
    opens_move (reading_of end.clock) end.link is_in at own joined kept some fits kept_is (not_entered (opens (reading_of end.clock) end.link) moment none) opened
moves_by (Closes why) moment end is_in at own joined kept some fits kept_is none opened = absurd (closing_shuts (reading_of end.clock) end.link is_in at why opened)
moves_by (Sends item) moment end is_in at own joined kept some fits kept_is none opened = sends_move (reading_of end.clock) end.link is_in at own joined kept some fits kept_is item opened
moves_by (Receives bytes connection) moment end is_in at own joined kept some fits kept_is none opened =
    receives_move (reading_of end.clock) end.link is_in at own joined kept some fits kept_is bytes opened

-- ---- a client that asks

-- it asks as before, or has joined by a PDU that came
pub data AskMoved (Came : Pdu → Type 0) (l k : LinkState) (ps : List Pdu) : Type 0 where
  asks_on : k ≡ l → ps ≡ [] → AskMoved Came l k ps
  joins_by : (p : Pdu) → Came p → (p.receiver == l.identity.own) ≡ true → (p.sender == l.identity.partner) ≡ true → k.clock ≡ l.clock → is_asking k ≡ false → k.own_stamp ≡ l.own_stamp
      → k.sent ≡ l.sent + 1 → Met p l k ps → AskMoved Came l k ps

module _ (now : ℕ) (l : LinkState) (is_in : is_open l.phase ≡ true) (settled_at : IsSettledAt now l) (own : l.own_stamp ≤ now) (asking : is_asking l ≡ true) where
  ticks_ask : is_open (ticking now l).link.phase ≡ true → AskMoved NothingCame l (ticking now l).link (ticking now l).pdus
  unfolding ticking beating telling sending
  ticks_ask = entering now l is_in settled_at (λ (s : Step). is_open (then_do s beating).link.phase ≡ true → AskMoved NothingCame l (then_do s beating).link (then_do s beating).pdus)
      (λ o. beats (is_up l.phase) (not_up l asking)) (λ o. absurd (false≢true o))
    where
      beats : (b : Bool) → b ≡ false → let s = (if b && nat_le 300 (l.clock - l.sent_at) then sending Heartbeat l else silent l) in AskMoved NothingCame l s.link s.pdus
      beats true e = absurd (false≢true (sym e))
      beats false e = asks_on refl refl

  opens_ask : opens now l ≡ false → is_open (opening now l).link.phase ≡ true → AskMoved NothingCame l (opening now l).link (opening now l).pdus
  unfolding opening opens telling sending
  opens_ask = entering now l is_in settled_at (λ (s : Step). may_open s.link ≡ false → is_open (then_do s (λ k. if may_open k then requesting k else silent k)).link.phase ≡ true
      → AskMoved NothingCame l (then_do s (λ k. if may_open k then requesting k else silent k)).link (then_do s (λ k. if may_open k then requesting k else silent k)).pdus)
      (λ not. by_test (may_open l) not) (λ not. shut (may_open told) not)
    where
      told : LinkState
      told = (telling Reason.Sequence l).link

      by_test : (b : Bool) → b ≡ false → let s = (if b then requesting l else silent l) in is_open s.link.phase ≡ true → AskMoved NothingCame l s.link s.pdus
      by_test true e = absurd (false≢true (sym e))
      by_test false e = λ o. asks_on refl refl

      shut : (b : Bool) → b ≡ false → let s = (if b then requesting told else silent told) in is_open s.link.phase ≡ true → AskMoved NothingCame l s.link ((telling Reason.Sequence l).pdus ++ s.pdus)
      shut true e = absurd (false≢true (sym e))
      shut false e = λ o. absurd (false≢true o)

  sends_ask : (item : List ℕ) → is_open (sending_item now item l).link.phase ≡ true → AskMoved NothingCame l (sending_item now item l).link (sending_item now item l).pdus
  unfolding sending_item acceptance giving telling sending
  sends_ask item = entering now l is_in settled_at (λ (s : Step). is_open (then_do s (λ k. if is_ok (acceptance k) then giving item k else silent k)).link.phase ≡ true
      → AskMoved NothingCame l (then_do s (λ k. if is_ok (acceptance k) then giving item k else silent k)).link (then_do s (λ k. if is_ok (acceptance k) then giving item k else silent k)).pdus)
      (λ o. refused (is_ok (acceptance l)) (rw (not_up l asking) refl)) (λ o. absurd (false≢true o))
    where
      refused : (b : Bool) → b ≡ false → let s = (if b then giving item l else silent l) in AskMoved NothingCame l s.link s.pdus
      refused true e = absurd (false≢true (sym e))
      refused false e = asks_on refl refl

  hears_ask : (Came : Pdu → Type 0) (p : Pdu) → Came p → is_open (hearing p l).link.phase ≡ true → AskMoved Came l (hearing p l).link (hearing p l).pdus
  unfolding hearing
  hears_ask Came p came = λ o. choose (p.receiver == l.identity.own) (p.sender == l.identity.partner) refl refl o
      (asks_hears p l (asking_is l.clock l refl asking (subst (λ (n : ℕ). n < l.own_stamp + 1800) (sym settled_at.clock) settled_at.young)
      (subst (λ (n : ℕ). l.own_stamp ≤ n) (sym settled_at.clock) own)))
    where
      by_deed : (k : LinkState) (ps : List Pdu) → (p.receiver == l.identity.own) ≡ true → (p.sender == l.identity.partner) ≡ true → is_open k.phase ≡ true → AskDeed p l k ps → AskMoved Came l k ps
      by_deed k ps receiver sender o (ask_leaves left) = absurd (false≢true (sym left.is_out ∙ o))
      by_deed k ps receiver sender o (ask_keeps same none) = asks_on same none
      by_deed k ps receiver sender o (ask_joins opens clock in_it joined own_is said confirmed sent row met) = joins_by p came receiver sender clock joined own_is sent met

      choose : (a b : Bool) → (p.receiver == l.identity.own) ≡ a → (p.sender == l.identity.partner) ≡ b
          → let r = (if not a then refusing Verdict.NotForMe l else if not b then refusing Verdict.WrongSender l else by_state (state_at l.clock l) p l)
          in is_open r.link.phase ≡ true → AskDeed p l r.link r.pdus → AskMoved Came l r.link r.pdus
      choose false b e f = λ o deed. asks_on refl refl
      choose true false e f = λ o deed. asks_on refl refl
      choose true true e f = λ o deed. by_deed (by_state (state_at l.clock l) p l).link (by_state (state_at l.clock l) p l).pdus e f o deed

  receives_ask : (bytes : List ℕ) → is_open (receiving now bytes l).link.phase ≡ true → AskMoved (Read l bytes) l (receiving now bytes l).link (receiving now bytes l).pdus
  unfolding receiving hearing_bytes
  receives_ask bytes = entering now l is_in settled_at (λ (s : Step). is_open (hearing_bytes (reading l.identity.key bytes) s.link).link.phase ≡ true
      → AskMoved (Read l bytes) l (hearing_bytes (reading l.identity.key bytes) s.link).link (s.pdus ++ (hearing_bytes (reading l.identity.key bytes) s.link).pdus))
      (by_reading (reading l.identity.key bytes) refl) (λ o. absurd (false≢true (sym (stays_shut (reading l.identity.key bytes) (telling Reason.Sequence l).link (told_shut l).0 (told_shut l).1) ∙ o)))
    where
      by_reading : (what : Result Pdu PduFault) → reading l.identity.key bytes ≡ what → is_open (hearing_bytes what l).link.phase ≡ true
          → AskMoved (Read l bytes) l (hearing_bytes what l).link (hearing_bytes what l).pdus
      by_reading (Err fault) e o = asks_on refl refl
      by_reading (Ok p) e o = hears_ask (Read l bytes) p e o

-- a call of one that asks
pub ask_moves_by : (call : Call) (moment : ℕ) (end : EndState) → is_open end.link.phase ≡ true → IsSettledAt (reading_of end.clock) end.link → end.link.own_stamp ≤ reading_of end.clock
    → is_asking end.link ≡ true
    → (outcome call moment end).enters ≡ None → is_open (outcome call moment end).link.phase ≡ true
    → AskMoved (CameBy end.link call) end.link (outcome call moment end).link (outcome call moment end).pdus
unfolding outcome
ask_moves_by Ticks moment end is_in at own asking none opened = ticks_ask (reading_of end.clock) end.link is_in at own asking opened
ask_moves_by Opens moment end is_in at own asking none opened = opens_ask (reading_of end.clock) end.link is_in at own asking (not_entered (opens (reading_of end.clock) end.link) moment none) opened
ask_moves_by (Closes why) moment end is_in at own asking none opened = absurd (closing_shuts (reading_of end.clock) end.link is_in at why opened)
ask_moves_by (Sends item) moment end is_in at own asking none opened = sends_ask (reading_of end.clock) end.link is_in at own asking item opened
ask_moves_by (Receives bytes connection) moment end is_in at own asking none opened = receives_ask (reading_of end.clock) end.link is_in at own asking bytes opened
