-- What becomes of one PDU at an end that has joined a connection, whatever it is.
use Rattle.rasta_core_recovery.proofs.Words.Basics.{◌≡◌, ℕ, ◌+◌, ◌-◌, ◌≤◌, ◌<◌, ◌⊎◌, inl, inr, Bool, true, false, not, nat_lt, ◌==◌, List, [], ◌∷◌, ◌++◌, length, if◌then◌else◌, refl, sym, ap, subst, arith, nat_tests}
use Rattle.rasta_core_recovery.proofs.Words.Links.{sequence_range, wire, LinkState, is_open, is_asking, is_client, state_at, deadline, open_state, sending, telling, header_of, pdu_of, Receipt, refusing, violating, age, ahead, behind, is_stale, confirms, still_waiting, taking, answering, repeating, retagged, repeated, missing, handing, bringing, in_turn, admission, admitting, testing, is_opening_again, connected, asking, by_state, hearing, Header, Verdict, Phase, State, Pdu, Body, ConnectionRequest, ConnectionResponse, RetransmissionRequest, RetransmissionResponse, DisconnectionRequest, Heartbeat, Data, RetransmittedData, Rises, stops_at_greatest}
use Rattle.rasta_core_recovery.proofs.Lemmas.Rounds.Blocks.{IsBlock, as_many_both, repeated_as_many, retagged_as_many, still_fewer}
use Rattle.rasta_core_recovery.proofs.Lemmas.ComingUp.Healthy.{is_reading, waits}
use Rattle.rasta_core_recovery.proofs.Lemmas.Lasting.LongTags.{AllAbove, retagged_above, still_above}
use Rattle.rasta_core_recovery.proofs.Lemmas.Rounds.Words.{IsNoAnswer, IsTalk, IsPlain, IsSpeech, IsSimple, Says, says_then, says_again}

-- an end stays in its connection
pub record Stays (l k : LinkState) : Type 0 where
  pub identity : k.identity ≡ l.identity
  pub clock : k.clock ≡ l.clock
  pub own_first : k.own_first ≡ l.own_first
  pub partner_first : k.partner_first ≡ l.partner_first
  pub connected : is_open k.phase ≡ true
  pub joined : is_asking k ≡ false

-- an end has left its connection now
pub record Leaves (l k : LinkState) : Type 0 where
  pub clock : k.clock ≡ l.clock
  pub is_out : is_open k.phase ≡ false
  pub closed_at : k.closed_at ≡ l.clock

-- why a PDU changes nothing
pub data Blocked (p : Pdu) (l : LinkState) : Type 0 where
  stranger : (p.receiver == l.identity.own) ≡ false → Blocked p l
  other : (p.sender == l.identity.partner) ≡ false → Blocked p l
  opens : (IsTalk p.body → ⊥) → Blocked p l
  far : nat_lt sequence_range (ahead p l) ≡ true → Blocked p l
  stale : is_stale p l ≡ true → Blocked p l
  unconfirming : confirms p l ≡ false → Blocked p l
  discarded : waits l.phase ≡ true → IsNoAnswer p.body → Blocked p l

pub record Passes (p : Pdu) (l : LinkState) : Type 0 where
  pub near : nat_lt sequence_range (ahead p l) ≡ false
  pub fresh : is_stale p l ≡ false
  pub counts : confirms p l ≡ true

-- the expected PDU, at an end that doesn't wait for a retransmission
abbrev pub InTurn : Pdu → LinkState → Type 0
InTurn p l = ((ahead p l == 0) ≡ true) × (waits l.phase ≡ false)

-- a PDU is taken, and answered by these
pub record Taken (p : Pdu) (l k : LinkState) (ps : List Pdu) : Type 0 where
  pub stays : Stays l k
  pub reading : is_reading k.phase ≡ true
  pub expected : k.expected ≡ wire l.expected (ahead p l + 1)
  pub partner_stamp : k.partner_stamp ≡ p.time_stamp
  pub own_stamp : k.own_stamp ≡ l.clock - age p l
  pub confirmed : k.confirmed ≡ l.sent - 1 - behind p l
  pub answers : Says IsPlain (header_of (taking p l)) l.sent ps k.sent
  pub sent_at : ((ps ≡ []) × (k.sent_at ≡ l.sent_at)) ⊎ ((k.sent_at ≡ l.clock) × (ps ≡ [] → ⊥))
  pub calm : IsPlain p.body → ps ≡ []
  pub turn : (p.body ≡ RetransmissionResponse) ⊎ InTurn p l
  pub speech : IsSpeech p.body
  -- no item is given by it, and none waits again
  pub given : k.given ≡ l.given
  pub waiting : IsPlain p.body → k.waiting ≡ still_waiting (l.sent - 1 - behind p l) l.waiting
  -- and what waits, waits above what it confirms
  pub above : Rises 0 l.sent l.waiting → AllAbove (l.sent - 1 - behind p l) k.waiting
  -- it is answered by a retransmission, or by nothing; and no more waits than before
  pub block : (ps ≡ []) ⊎ IsBlock (length l.waiting + 1) ps
  pub fewer : length k.waiting ≤ length l.waiting

-- a PDU is missing, and is asked for
pub record Asked (l k : LinkState) (ps : List Pdu) : Type 0 where
  pub link : k ≡ record l { sent = l.sent + 1; sent_at = l.clock; phase = Phase.RetransmissionRequested }
  pub pdus : ps ≡ pdu_of (header_of l) l.sent RetransmissionRequest ∷ []
  pub free : waits l.phase ≡ false

pub data Deed (p : Pdu) (l k : LinkState) (ps : List Pdu) : Type 0 where
  -- neither a heartbeat nor new items do that
  leaves : (IsSimple p.body → ⊥) → Leaves l k → Deed p l k ps
  keeps : Blocked p l → k ≡ l → ps ≡ [] → Deed p l k ps
  asks : Passes p l → (ahead p l == 0) ≡ false → Asked l k ps → Deed p l k ps
  takes : Passes p l → Taken p l k ps → Deed p l k ps

-- ---- its answer

says_one : (h : Header) (body : Body) → IsPlain body → (n : ℕ) → Says IsPlain h n (pdu_of h n body ∷ []) (n + 1)
unfolding pdu_of
says_one h body plain n = (refl, plain, refl)

module _ (l : LinkState) (p : Pdu) (connected_is : is_open l.phase ≡ true) (joined : is_asking l ≡ false) (passes : Passes p l) where
  answers_it : is_reading l.phase ≡ true → p.body ≡ RetransmissionRequest → InTurn p l → Deed p l (answering (taking p l)).link (answering (taking p l)).pdus
  unfolding answering repeating sending taking retagged header_of pdu_of repeated
  answers_it reading is turn = takes passes (record {
    stays = record { identity = refl; clock = refl; own_first = refl; partner_first = refl; connected = connected_is; joined = joined };
    reading = reading;
    expected = refl;
    partner_stamp = refl;
    own_stamp = refl;
    confirmed = refl;
    answers = says_then IsPlain h l.sent (l.sent + 1 + length t.waiting) (l.sent + 1 + length t.waiting + 1)
        ((pdu_of h l.sent RetransmissionResponse ∷ []) ++ repeated h (l.sent + 1) t.waiting) (pdu_of h (l.sent + 1 + length t.waiting) Heartbeat ∷ [])
        (says_then IsPlain h l.sent (l.sent + 1) (l.sent + 1 + length t.waiting) (pdu_of h l.sent RetransmissionResponse ∷ []) (repeated h (l.sent + 1) t.waiting) (one RetransmissionResponse tt l.sent) (says_again h (l.sent + 1) t.waiting))
        (one Heartbeat tt (l.sent + 1 + length t.waiting));
    sent_at = inr (refl, λ e. absurd (some_said e));
    calm = λ plain. absurd (subst IsPlain is plain);
    turn = inr turn;
    speech = subst IsSpeech (sym is) tt;
    given = refl;
    waiting = λ plain. absurd (subst IsPlain is plain);
    above = λ rises. retagged_above (l.sent - 1 - behind p l) (l.sent + 1) t.waiting (omega arith);
    block = inr (record {
      first = pdu_of h l.sent RetransmissionResponse;
      rest = repeated h (l.sent + 1) t.waiting ++ pdu_of h (l.sent + 1 + length t.waiting) Heartbeat ∷ [];
      are = refl;
      answers = refl;
      few = omega (
        arith,
        as_many_both (repeated h (l.sent + 1) t.waiting) (pdu_of h (l.sent + 1 + length t.waiting) Heartbeat ∷ []),
        repeated_as_many h (l.sent + 1) t.waiting,
        still_fewer (l.sent - 1 - behind p l) l.waiting,
      );
    });
    fewer = omega (arith, retagged_as_many (l.sent + 1) t.waiting, still_fewer (l.sent - 1 - behind p l) l.waiting);
  })
    where
      t : LinkState
      t = taking p l

      h : Header
      h = header_of (taking p l)

      some_said : {q : Pdu} {qs : List Pdu} → q ∷ qs ≡ [] → ⊥
      some_said e = cc

      one : (body : Body) → IsPlain body → (n : ℕ) → Says IsPlain h n (pdu_of h n body ∷ []) (n + 1)
      one body plain n = says_one h body plain n

  -- it is taken without a word, in this phase and with so many items taken
  quietly : (phase : Phase) (taken : ℕ) → is_open phase ≡ true → is_asking (record (taking p l) { phase = phase; taken = taken }) ≡ false → is_reading phase ≡ true → IsSpeech p.body
      → (p.body ≡ RetransmissionResponse) ⊎ InTurn p l → Deed p l (record (taking p l) { phase = phase; taken = taken }) []
  unfolding taking
  quietly phase taken opened answered reading speech turn = takes passes (record {
    stays = record { identity = refl; clock = refl; own_first = refl; partner_first = refl; connected = opened; joined = answered };
    reading = reading;
    expected = refl;
    partner_stamp = refl;
    own_stamp = refl;
    confirmed = refl;
    answers = refl;
    sent_at = inl (refl, refl);
    calm = λ plain. refl;
    turn = turn;
    speech = speech;
    given = refl;
    waiting = λ plain. refl;
    above = λ rises. still_above (l.sent - 1 - behind p l) 0 l.sent l.waiting rises;
    block = inl refl;
    fewer = still_fewer (l.sent - 1 - behind p l) l.waiting;
  })

  handed : (items : List (List ℕ)) → IsSpeech p.body → InTurn p l → Deed p l (handing items (record (taking p l) { phase = Phase.Up })).link []
  unfolding handing taking
  handed items speech turn = quietly Phase.Up (stops_at_greatest (l.taken + length items)) refl refl refl speech (inr turn)

  handed_again : (items : List (List ℕ)) → is_reading l.phase ≡ true → IsSpeech p.body → InTurn p l → Deed p l (handing items (taking p l)).link []
  unfolding handing taking
  handed_again items reading speech turn = quietly l.phase (stops_at_greatest (l.taken + length items)) connected_is joined reading speech (inr turn)

  comes_up : IsSpeech p.body → InTurn p l → Deed p l (record (taking p l) { phase = Phase.Up }) []
  unfolding taking
  comes_up speech turn = quietly Phase.Up l.taken refl refl refl speech (inr turn)

  resumes : p.body ≡ RetransmissionResponse → Deed p l (record (taking p l) { phase = Phase.RetransmissionRunning }) []
  unfolding taking
  resumes is = quietly Phase.RetransmissionRunning l.taken refl refl refl (subst IsSpeech (sym is) tt) (inl is)

  closes_by : (IsSimple p.body → ⊥) → Deed p l (record (taking p l) { phase = Phase.Closed; closed_at = l.clock }) []
  unfolding taking
  closes_by why = leaves why (record { clock = refl; is_out = refl; closed_at = refl })

  violated : (IsSimple p.body → ⊥) → Deed p l (violating l).link (violating l).pdus
  unfolding telling sending
  violated why = leaves why (record { clock = refl; is_out = refl; closed_at = refl })

  asked : (ahead p l == 0) ≡ false → waits l.phase ≡ false → Deed p l (missing l).link (missing l).pdus
  unfolding missing sending
  asked apart free = asks passes apart (record { link = refl; pdus = refl; free = free })

  -- what an admission by the body and the phase comes to
  abbrev Does : Receipt → Type 0
  Does r = Deed p l r.link r.pdus

  brings : (body : Body) → p.body ≡ body → (IsSpeech p.body) → (body ≡ RetransmissionRequest → is_reading l.phase ≡ true) → ((items : List (List ℕ)) → body ≡ RetransmittedData items → is_reading l.phase ≡ true) → InTurn p l → Does (bringing body (taking p l))
  unfolding bringing handing
  brings (ConnectionRequest o) e speech asks_in again_in turn = absurd (subst IsSpeech e speech)
  brings (ConnectionResponse o) e speech asks_in again_in turn = absurd (subst IsSpeech e speech)
  brings RetransmissionRequest e speech asks_in again_in turn = answers_it (asks_in refl) e turn
  brings RetransmissionResponse e speech asks_in again_in turn = comes_up speech turn
  brings (DisconnectionRequest d r) e speech asks_in again_in turn = absurd (subst IsSpeech e speech)
  brings Heartbeat e speech asks_in again_in turn = comes_up speech turn
  brings (Data items) e speech asks_in again_in turn = handed items speech turn
  brings (RetransmittedData items) e speech asks_in again_in turn = handed_again items (again_in items refl) speech turn

  turns : (body : Body) → p.body ≡ body → (IsSpeech p.body) → (body ≡ RetransmissionRequest → is_reading l.phase ≡ true) → ((items : List (List ℕ)) → body ≡ RetransmittedData items → is_reading l.phase ≡ true) → waits l.phase ≡ false → Does (in_turn p l)
  unfolding in_turn
  turns body e speech asks_in again_in free = choose (ahead p l == 0) refl
    where
      choose : (b : Bool) → (ahead p l == 0) ≡ b → Does (if b then bringing p.body (taking p l) else missing l)
      choose true at = subst (λ (x : Body). Does (bringing x (taking p l))) (sym e) (brings body e speech asks_in again_in (at, free))
      choose false at = asked at free

  discards_it : (body : Body) → p.body ≡ body → IsNoAnswer body → waits l.phase ≡ true → Does (refusing Verdict.Discarded l)
  discards_it body e none waiting = keeps (discarded waiting (subst IsNoAnswer (sym e) none)) refl refl

  no_phase : l.phase ≡ Phase.Closed → {A : Type 0} → A
  no_phase e {A} = absurd (cc (e, connected_is, ap is_open e))

  admits : (body : Body) → p.body ≡ body → (at : Phase) → l.phase ≡ at → Does (admitting (admission body at) p l)
  unfolding admitting taking
  admits (ConnectionRequest o) e at f = violated (λ s. subst IsSimple e s)
  admits (ConnectionResponse o) e at f = violated (λ s. subst IsSimple e s)
  admits RetransmissionRequest e Phase.Closed f = no_phase f
  admits RetransmissionRequest e Phase.Start f = violated (λ s. subst IsSimple e s)
  admits RetransmissionRequest e Phase.Up f = turns RetransmissionRequest e (subst IsSpeech (sym e) tt) (λ is. ap is_reading f) (λ items is. ap is_reading f) (ap waits f)
  admits RetransmissionRequest e Phase.RetransmissionRequested f = discards_it RetransmissionRequest e tt (ap waits f)
  admits RetransmissionRequest e Phase.RetransmissionRunning f = turns RetransmissionRequest e (subst IsSpeech (sym e) tt) (λ is. ap is_reading f) (λ items is. ap is_reading f) (ap waits f)
  admits RetransmissionResponse e Phase.Closed f = no_phase f
  admits RetransmissionResponse e Phase.Start f = violated (λ s. subst IsSimple e s)
  admits RetransmissionResponse e Phase.Up f = violated (λ s. subst IsSimple e s)
  admits RetransmissionResponse e Phase.RetransmissionRequested f = resumes e
  admits RetransmissionResponse e Phase.RetransmissionRunning f = violated (λ s. subst IsSimple e s)
  admits (DisconnectionRequest d r) e at f = closes_by (λ s. subst IsSimple e s)
  admits Heartbeat e Phase.Closed f = no_phase f
  admits Heartbeat e Phase.Start f = turns Heartbeat e (subst IsSpeech (sym e) tt) (λ is. absurd (cc is)) (λ items is. absurd (cc is)) (ap waits f)
  admits Heartbeat e Phase.Up f = turns Heartbeat e (subst IsSpeech (sym e) tt) (λ is. absurd (cc is)) (λ items is. absurd (cc is)) (ap waits f)
  admits Heartbeat e Phase.RetransmissionRequested f = discards_it Heartbeat e tt (ap waits f)
  admits Heartbeat e Phase.RetransmissionRunning f = turns Heartbeat e (subst IsSpeech (sym e) tt) (λ is. absurd (cc is)) (λ items is. absurd (cc is)) (ap waits f)
  admits (Data x) e Phase.Closed f = no_phase f
  admits (Data x) e Phase.Start f = turns (Data x) e (subst IsSpeech (sym e) tt) (λ is. absurd (cc is)) (λ items is. absurd (cc is)) (ap waits f)
  admits (Data x) e Phase.Up f = turns (Data x) e (subst IsSpeech (sym e) tt) (λ is. absurd (cc is)) (λ items is. absurd (cc is)) (ap waits f)
  admits (Data x) e Phase.RetransmissionRequested f = discards_it (Data x) e tt (ap waits f)
  admits (Data x) e Phase.RetransmissionRunning f = turns (Data x) e (subst IsSpeech (sym e) tt) (λ is. absurd (cc is)) (λ items is. absurd (cc is)) (ap waits f)
  admits (RetransmittedData x) e Phase.Closed f = no_phase f
  admits (RetransmittedData x) e Phase.Start f = violated (λ s. subst IsSimple e s)
  admits (RetransmittedData x) e Phase.Up f = violated (λ s. subst IsSimple e s)
  admits (RetransmittedData x) e Phase.RetransmissionRequested f = discards_it (RetransmittedData x) e tt (ap waits f)
  admits (RetransmittedData x) e Phase.RetransmissionRunning f = turns (RetransmittedData x) e (subst IsSpeech (sym e) tt) (λ is. ap is_reading f) (λ items is. ap is_reading f) (ap waits f)

-- ---- the tests

violated_at : (p : Pdu) (l : LinkState) → (IsSimple p.body → ⊥) → Deed p l (violating l).link (violating l).pdus
unfolding telling sending
violated_at p l why = leaves why (record { clock = refl; is_out = refl; closed_at = refl })

tests : (p : Pdu) (l : LinkState) → is_open l.phase ≡ true → is_asking l ≡ false → Deed p l (testing p l).link (testing p l).pdus
unfolding testing
tests p l is_in joined = choose (nat_lt sequence_range (ahead p l)) (is_stale p l) (confirms p l) refl refl refl
  where
    choose : (a b d : Bool) → nat_lt sequence_range (ahead p l) ≡ a → is_stale p l ≡ b → confirms p l ≡ d
        → let r = (if a then refusing Verdict.OutOfRange l else if b then refusing Verdict.Stale l else if not d then refusing Verdict.BadConfirm l else admitting (admission p.body l.phase) p l)
        in Deed p l r.link r.pdus
    choose true b d e f g = keeps (far e) refl refl
    choose false true d e f g = keeps (stale f) refl refl
    choose false false false e f g = keeps (unconfirming g) refl refl
    choose false false true e f g = admits l p is_in joined (record { near = e; fresh = f; counts = g }) p.body refl l.phase refl

connects : (p : Pdu) (l : LinkState) (body : Body) → p.body ≡ body → is_open l.phase ≡ true → is_asking l ≡ false → Deed p l (connected body p l).link (connected body p l).pdus
unfolding connected
connects p l (ConnectionRequest o) e is_in joined = choose (is_opening_again p l)
  where
    choose : (b : Bool) → let r = (if b then refusing Verdict.Discarded l else violating l) in Deed p l r.link r.pdus
    choose true = keeps (opens (λ talk. subst IsTalk e talk)) refl refl
    choose false = violated_at p l (λ s. subst IsSimple e s)
connects p l (ConnectionResponse o) e is_in joined = tests p l is_in joined
connects p l RetransmissionRequest e is_in joined = tests p l is_in joined
connects p l RetransmissionResponse e is_in joined = tests p l is_in joined
connects p l (DisconnectionRequest d r) e is_in joined = tests p l is_in joined
connects p l Heartbeat e is_in joined = tests p l is_in joined
connects p l (Data x) e is_in joined = tests p l is_in joined
connects p l (RetransmittedData x) e is_in joined = tests p l is_in joined

pub lives_state : (l : LinkState) → is_open l.phase ≡ true → l.clock < l.own_stamp + 1800 → state_at l.clock l ≡ open_state l.phase
unfolding state_at deadline
lives_state l is_in young = rw (is_in, alive) refl
  where
    alive : nat_lt l.clock (l.own_stamp + 1800) ≡ true
    alive = let y = young in grind (arith, nat_tests)

by_phase : (p : Pdu) (l : LinkState) (at : Phase) → l.phase ≡ at → is_open l.phase ≡ true → is_asking l ≡ false → Deed p l (by_state (open_state at) p l).link (by_state (open_state at) p l).pdus
unfolding by_state
by_phase p l Phase.Closed e is_in joined = absurd (cc (e, is_in, ap is_open e))
by_phase p l Phase.Start e is_in joined = server (is_client l.identity.role) (started l e joined)
  where
    started : (k : LinkState) → k.phase ≡ Phase.Start → is_asking k ≡ false → is_client k.identity.role ≡ false
    started k f not_asking = grind (arith, f, not_asking)

    server : (b : Bool) → b ≡ false → let r = (if b then asking p.body p l else connected p.body p l) in Deed p l r.link r.pdus
    server true f = cc
    server false f = connects p l p.body refl is_in joined
by_phase p l Phase.Up e is_in joined = connects p l p.body refl is_in joined
by_phase p l Phase.RetransmissionRequested e is_in joined = connects p l p.body refl is_in joined
by_phase p l Phase.RetransmissionRunning e is_in joined = connects p l p.body refl is_in joined

-- what becomes of a PDU at an end that has joined a connection and lives
pub hears : (p : Pdu) (l : LinkState) → is_open l.phase ≡ true → is_asking l ≡ false → l.clock < l.own_stamp + 1800 → Deed p l (hearing p l).link (hearing p l).pdus
unfolding hearing
hears p l is_in joined young = choose (p.receiver == l.identity.own) (p.sender == l.identity.partner) refl refl
  where
    choose : (a b : Bool) → (p.receiver == l.identity.own) ≡ a → (p.sender == l.identity.partner) ≡ b
        → let r = (if not a then refusing Verdict.NotForMe l else if not b then refusing Verdict.WrongSender l else by_state (state_at l.clock l) p l) in Deed p l r.link r.pdus
    choose false b e f = keeps (stranger e) refl refl
    choose true false e f = keeps (other f) refl refl
    choose true true e f = subst (λ (s : State). Deed p l (by_state s p l).link (by_state s p l).pdus) (sym (lives_state l is_in young)) (by_phase p l l.phase refl is_in joined)
