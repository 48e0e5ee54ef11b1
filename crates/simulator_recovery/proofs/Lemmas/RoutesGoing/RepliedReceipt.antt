-- What a link does where it takes items of a datagram: the PDU is the one that it expects, and confirms what no longer waits.
use Rattle.simulator_recovery.proofs.Words.Basics.{◌≡◌, ℕ, ◌∙◌, ◌+◌, ◌-◌, ◌<◌, Bool, true, false, not, ◌&&◌, ◌==◌, nat_lt, nat_le, List, [], Result, Ok, Err, if◌then◌else◌, refl, sym, ap, subst, arith, false≢true, nat_tests}
use Rattle.simulator_recovery.proofs.Words.Links.{hearing_bytes, receiving, deadline, open_state, settled, state_at, connection_limit, sequence_range, Step, entered, limited, silent, Receipt, admission, admitting, ahead, behind, bringing, by_state, confirms, connected, handing, hearing, in_turn, is_opening_again, is_stale, missing, refusing, still_waiting, taking, testing, violating, wire, LinkState, is_client, is_open, Phase, State, Verdict, reading, Body, ConnectionRequest, ConnectionResponse, Data, DisconnectionRequest, Heartbeat, RetransmissionRequest, RetransmissionResponse, RetransmittedData, PduFault, Pdu}

-- a PDU that carries items
abbrev pub CarriesItems : Body → Type 0
CarriesItems (Data items) = Unit {0}
CarriesItems (RetransmittedData items) = Unit {0}
CarriesItems _ = ⊥

-- A PDU came that a link expects, and is one for it and from its partner; after it this is the link.
pub record HasTaken (l : LinkState) (p : Pdu) (after : LinkState) : Type 0 where
  pub receiver : (p.receiver == l.identity.own) ≡ true
  pub sender : (p.sender == l.identity.partner) ≡ true
  pub carries : CarriesItems p.body
  pub next : ahead p l ≡ 0
  pub expected : after.expected ≡ wire l.expected (ahead p l + 1)
  pub waiting : after.waiting ≡ still_waiting (l.sent - 1 - behind p l) l.waiting

module _ (p : Pdu) (l : LinkState) (server : is_client l.identity.role ≡ false) (receiver : (p.receiver == l.identity.own) ≡ true) (sender : (p.sender == l.identity.partner) ≡ true) where
  abbrev Fine : Receipt → Type 0
  Fine r = (r.items ≡ [] → ⊥) → HasTaken l p r.link

  nothing : (r : Receipt) → r.items ≡ [] → Fine r
  nothing r none some = absurd (some none)

  violated : Fine (violating l)
  violated = nothing (violating l) refl

  is_none : (n : ℕ) → (n == 0) ≡ true → n ≡ 0
  is_none n e = grind (arith, nat_tests, e)

  brings : (body : Body) → p.body ≡ body → ahead p l ≡ 0 → Fine (bringing body (taking p l))
  unfolding bringing handing taking
  brings (Data items) e next some = record { receiver = receiver; sender = sender; carries = subst CarriesItems (sym e) tt; next = next; expected = refl; waiting = refl }
  brings (RetransmittedData items) e next some = record { receiver = receiver; sender = sender; carries = subst CarriesItems (sym e) tt; next = next; expected = refl; waiting = refl }
  brings RetransmissionRequest e next some = absurd (some refl)
  brings Heartbeat e next some = absurd (some refl)
  brings RetransmissionResponse e next some = absurd (some refl)
  brings (ConnectionRequest o) e next some = absurd (some refl)
  brings (ConnectionResponse o) e next some = absurd (some refl)
  brings (DisconnectionRequest d r) e next some = absurd (some refl)

  turns : Fine (in_turn p l)
  unfolding in_turn missing
  turns = choose (ahead p l == 0) refl
    where
      choose : (b : Bool) → (ahead p l == 0) ≡ b → Fine (if b then bringing p.body (taking p l) else missing l)
      choose true e = brings p.body refl (is_none (ahead p l) e)
      choose false e = λ some. absurd (some refl)

  refused : Fine (refusing Verdict.Discarded l)
  refused = nothing (refusing Verdict.Discarded l) refl

  -- by what may come in a phase
  admits : (body : Body) (at : Phase) → Fine (admitting (admission body at) p l)
  unfolding admitting
  admits (ConnectionRequest o) at = violated
  admits (ConnectionResponse o) at = violated
  admits RetransmissionRequest Phase.Start = violated
  admits RetransmissionRequest Phase.RetransmissionRequested = refused
  admits RetransmissionRequest Phase.Closed = turns
  admits RetransmissionRequest Phase.Up = turns
  admits RetransmissionRequest Phase.RetransmissionRunning = turns
  admits RetransmissionResponse Phase.RetransmissionRequested = λ some. absurd (some refl)
  admits RetransmissionResponse Phase.Closed = violated
  admits RetransmissionResponse Phase.Start = violated
  admits RetransmissionResponse Phase.Up = violated
  admits RetransmissionResponse Phase.RetransmissionRunning = violated
  admits (DisconnectionRequest d r) at = λ some. absurd (some refl)
  admits Heartbeat Phase.RetransmissionRequested = refused
  admits Heartbeat Phase.Closed = turns
  admits Heartbeat Phase.Start = turns
  admits Heartbeat Phase.Up = turns
  admits Heartbeat Phase.RetransmissionRunning = turns
  admits (Data x) Phase.RetransmissionRequested = refused
  admits (Data x) Phase.Closed = turns
  admits (Data x) Phase.Start = turns
  admits (Data x) Phase.Up = turns
  admits (Data x) Phase.RetransmissionRunning = turns
  admits (RetransmittedData x) Phase.RetransmissionRequested = refused
  admits (RetransmittedData x) Phase.RetransmissionRunning = turns
  admits (RetransmittedData x) Phase.Closed = violated
  admits (RetransmittedData x) Phase.Start = violated
  admits (RetransmittedData x) Phase.Up = violated

  tests : Fine (testing p l)
  unfolding testing
  tests = choose (nat_lt sequence_range (ahead p l)) (is_stale p l) (confirms p l)
    where
      choose : (a b d : Bool) → Fine (if a then refusing Verdict.OutOfRange l else if b then refusing Verdict.Stale l else if not d then refusing Verdict.BadConfirm l else admitting (admission p.body l.phase) p l)
      choose true b d = nothing (refusing Verdict.OutOfRange l) refl
      choose false true d = nothing (refusing Verdict.Stale l) refl
      choose false false false = nothing (refusing Verdict.BadConfirm l) refl
      choose false false true = admits p.body l.phase

  connects : (body : Body) → Fine (connected body p l)
  unfolding connected
  connects (ConnectionRequest o) = choose (is_opening_again p l)
    where
      choose : (b : Bool) → Fine (if b then refusing Verdict.Discarded l else violating l)
      choose true = nothing (refusing Verdict.Discarded l) refl
      choose false = violated
  connects (ConnectionResponse o) = tests
  connects RetransmissionRequest = tests
  connects RetransmissionResponse = tests
  connects (DisconnectionRequest d r) = tests
  connects Heartbeat = tests
  connects (Data x) = tests
  connects (RetransmittedData x) = tests

  -- at an end that is in a connection
  by_phase : (at : Phase) → is_open at ≡ true → Fine (by_state (open_state at) p l)
  unfolding by_state
  by_phase Phase.Closed e = absurd (false≢true e)
  by_phase Phase.Start e = rw server (connects p.body)
  by_phase Phase.Up e = connects p.body
  by_phase Phase.RetransmissionRequested e = connects p.body
  by_phase Phase.RetransmissionRunning e = connects p.body

-- a link that lives is in its connection by its clock
lives_state : (l : LinkState) → is_open l.phase ≡ true → l.clock < deadline l → state_at l.clock l ≡ open_state l.phase
unfolding state_at
lives_state l opened lives = rw (opened, below) refl
  where
    below : nat_lt l.clock (deadline l) ≡ true
    below = grind (arith, nat_tests, lives)

heard : (p : Pdu) (l : LinkState) → is_client l.identity.role ≡ false → is_open l.phase ≡ true → l.clock < deadline l → ((hearing p l).items ≡ [] → ⊥) → HasTaken l p (hearing p l).link
unfolding hearing
heard p l server opened lives = choose (p.receiver == l.identity.own) refl (p.sender == l.identity.partner) refl
  where
    Goal : Receipt → Type 0
    Goal r = (r.items ≡ [] → ⊥) → HasTaken l p r.link

    choose : (a : Bool) → (p.receiver == l.identity.own) ≡ a → (b : Bool) → (p.sender == l.identity.partner) ≡ b
        → Goal (if not a then refusing Verdict.NotForMe l else if not b then refusing Verdict.WrongSender l else by_state (state_at l.clock l) p l)
    choose false e b f = λ some. absurd (some refl)
    choose true e false f = λ some. absurd (some refl)
    choose true e true f = subst (λ (s : State). Goal (by_state s p l)) (sym (lives_state l opened lives)) (by_phase p l server e f l.phase opened)

-- bytes of such a PDU came
pub record TakesOne (now : ℕ) (bytes : List ℕ) (l : LinkState) : Type 0 where
  pub pdu : Pdu
  pub read : reading l.identity.key bytes ≡ Ok pdu
  pub takes : HasTaken l pdu (receiving now bytes l).link

-- an end that is in its connection, by its clock and by the limit of PDUs, is entered as it is
pub record IsAtHome (now : ℕ) (l : LinkState) : Type 0 where
  pub opened : is_open l.phase ≡ true
  pub settled_is : settled now l ≡ l
  pub few : l.sent < connection_limit

module _ (now : ℕ) (l : LinkState) (home : IsAtHome now l) where
  pub entered_so : entered now l ≡ silent l
  unfolding entered limited
  entered_so = ap limited home.settled_is ∙ at_limit
    where
      below : nat_le connection_limit l.sent ≡ false
      below = let few = home.few in grind (arith, nat_tests, few)

      at_limit : limited l ≡ silent l
      at_limit = rw (home.opened, below) refl

  pub lives_so : l.clock < deadline l
  unfolding settled
  lives_so = choose (nat_le (deadline l) now) refl
    where
      clock_is : l.clock ≡ now
      clock_is = sym (ap (λ (x : LinkState). x.clock) home.settled_is) ∙ by_settling (is_open l.phase && nat_le (deadline l) now)
        where
          by_settling : (b : Bool) → (if b then record l { phase = Phase.Closed; closed_at = deadline l; clock = now } else record l { clock = now }).clock ≡ now
          by_settling true = refl
          by_settling false = refl

      shut : nat_le (deadline l) now ≡ true → is_open (settled now l).phase ≡ false
      shut e = rw (home.opened, e) refl

      above : nat_le (deadline l) now ≡ false → now < deadline l
      above e = grind (arith, nat_tests, e)

      choose : (b : Bool) → nat_le (deadline l) now ≡ b → l.clock < deadline l
      choose true e = absurd (false≢true (sym (shut e) ∙ ap (λ (x : LinkState). is_open x.phase) home.settled_is ∙ home.opened))
      choose false e = let a = above e in let c = clock_is in omega (arith, a, c)

  pub takes_one : (bytes : List ℕ) → is_client l.identity.role ≡ false → ((receiving now bytes l).items ≡ [] → ⊥) → TakesOne now bytes l
  unfolding receiving hearing_bytes
  takes_one bytes server some = by_reading (reading l.identity.key bytes) refl
    where
      Whole : Step → Receipt
      Whole s = hearing_bytes (reading l.identity.key bytes) s.link

      link_is : (receiving now bytes l).link ≡ (hearing_bytes (reading l.identity.key bytes) l).link
      link_is = ap (λ (s : Step). (Whole s).link) entered_so

      some_heard : (hearing_bytes (reading l.identity.key bytes) l).items ≡ [] → ⊥
      some_heard none = some (ap (λ (s : Step). (Whole s).items) entered_so ∙ none)

      by_reading : (what : Result Pdu PduFault) → reading l.identity.key bytes ≡ what → TakesOne now bytes l
      by_reading (Err fault) e = absurd (some_heard (ap (λ (r : Result Pdu PduFault). (hearing_bytes r l).items) e))
      by_reading (Ok p) e = record {
        pdu = p;
        read = e;
        takes = subst (HasTaken l p) (sym (link_is ∙ ap (λ (r : Result Pdu PduFault). (hearing_bytes r l).link) e))
            (heard p l server home.opened lives_so (λ none. some_heard (ap (λ (r : Result Pdu PduFault). (hearing_bytes r l).items) e ∙ none)));
      }
