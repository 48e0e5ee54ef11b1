-- What a call does at an end that is in a connection and stays in it: the numbers of its PDUs, what these confirm, and what waits.
use Rattle.rasta_core_recovery.proofs.Words.Basics.{◌≡◌, ℕ, ◌∙◌, ◌+◌, ◌-◌, ◌≤◌, ◌<◌, Bool, true, false, ◌&&◌, not, nat_le, nat_lt, ◌==◌, List, [], ◌∷◌, ◌++◌, length, Result, Ok, Err, if◌then◌else◌, refl, sym, ap, subst, arith, is_ok, nat_eq, pointwise, false≢true, nat_tests}
use Rattle.rasta_core_recovery.proofs.Words.Links.{connection_limit, own_version, sequence_range, window_size, before, wire, LinkState, is_asking, is_client, is_open, is_up, deadline, open_state, settled, state_at, joining, judging, may_open, meeting, requesting, Step, beating, closed, closing, entered, giving, header_of, is_told, limited, pdu_of, sending, silent, telling, then_do, Receipt, accepting, admission, admitting, ahead, answering, answers_request, asking, behind, bringing, by_state, confirms, connected, handing, hearing, in_turn, is_opening_again, is_stale, missing, refusing, repeated, repeating, retagged, still_waiting, taking, testing, violating, acceptance, answer_to_send, closing_by, hearing_bytes, opening, opens, receiving, sending_item, ticking, Phase, State, Reason, Verdict, Unconfirmed, reading, Pdu, PduFault, Body, ConnectionRequest, ConnectionResponse, Data, DisconnectionRequest, Heartbeat, RetransmissionRequest, RetransmissionResponse, RetransmittedData, Opening}
use Rattle.rasta_core_recovery.proofs.Lemmas.Rounds.Deed.{lives_state}
use Rattle.rasta_core_recovery.proofs.Lemmas.Rounds.Words.{Row, row_then}

-- what may be taken in a connection
abbrev pub IsWord : Body → Type 0
IsWord (ConnectionRequest opening) = ⊥
IsWord (ConnectionResponse opening) = ⊥
IsWord (DisconnectionRequest detail why) = ⊥
IsWord _ = Unit {0}

-- A PDU of this number says what the link expects.
pub record IsFrom (l : LinkState) (n : ℕ) (p : Pdu) : Type 0 where
  pub number : p.sequence_number ≡ wire l.own_first n
  pub confirms : p.confirmed_sequence_number ≡ wire l.partner_first (before l.expected)

-- an end is in its connection as before, and has sent these PDUs more
pub record Speaks (l k : LinkState) (ps : List Pdu) : Type 0 where
  pub own_first : k.own_first ≡ l.own_first
  pub partner_first : k.partner_first ≡ l.partner_first
  pub joined : is_asking k ≡ false
  pub pdus : Row (IsFrom k) l.sent ps k.sent

-- a PDU of the partner came, and passed the tests
pub record Passes (l : LinkState) (p : Pdu) : Type 0 where
  pub receiver : (p.receiver == l.identity.own) ≡ true
  pub sender : (p.sender == l.identity.partner) ≡ true
  pub near : nat_lt sequence_range (ahead p l) ≡ false
  pub word : IsWord p.body

-- what it does: where something came, it is a PDU of which that is so
pub data Does (Came : Pdu → Type 0) (l k : LinkState) (ps : List Pdu) (accepted handed : List (List ℕ)) : Type 0 where
  calm : Speaks l k ps → k.expected ≡ l.expected → k.waiting ≡ l.waiting → accepted ≡ [] → handed ≡ [] → Does Came l k ps accepted handed
  gives : (item : List ℕ) → Speaks l k ps → k.expected ≡ l.expected → k.waiting ≡ l.waiting ++ (record { tag = l.sent; item = item }) ∷ [] → accepted ≡ item ∷ [] → handed ≡ [] → Does Came l k ps accepted handed
  takes : (p : Pdu) → Came p → Passes l p → Speaks l k ps → k.expected ≡ wire l.expected (ahead p l + 1) → k.waiting ≡ still_waiting (l.sent - 1 - behind p l) l.waiting → accepted ≡ [] → Does Came l k ps accepted handed
  answers : (p : Pdu) → Came p → Passes l p → p.body ≡ RetransmissionRequest → Speaks l k ps → k.expected ≡ wire l.expected (ahead p l + 1)
      → k.waiting ≡ retagged (l.sent + 1) (still_waiting (l.sent - 1 - behind p l) l.waiting) → accepted ≡ [] → Does Came l k ps accepted handed

-- ---- what is said

one_from : (l k : LinkState) (n : ℕ) (body : Body) → is_asking l ≡ false → k.own_first ≡ l.own_first → k.partner_first ≡ l.partner_first → k.expected ≡ l.expected → IsFrom k n (pdu_of (header_of l) n body)
unfolding header_of pdu_of
one_from l k n body joined own partner expects = record {
  number = ap (λ (first : ℕ). wire first n) (sym own);
  confirms = ap (λ (b : Bool). if b then 0 else wire l.partner_first (before l.expected)) joined ∙ ap (λ (first : ℕ). wire first (before l.expected)) (sym partner) ∙ ap (λ (n : ℕ). wire k.partner_first (before n)) (sym expects);
}

-- the next PDU goes out
sends_one : (body : Body) (l : LinkState) → is_asking l ≡ false → Speaks l (sending body l).link (sending body l).pdus
unfolding sending
sends_one body l joined = record { own_first = refl; partner_first = refl; joined = joined; pdus = (one_from l (sending body l).link l.sent body joined refl refl refl, refl) }

says_nothing : (l : LinkState) → is_asking l ≡ false → Speaks l l []
says_nothing l joined = record { own_first = refl; partner_first = refl; joined = joined; pdus = refl }

-- items again
again_from : (l k : LinkState) (n : ℕ) (waiting : List Unconfirmed) → is_asking l ≡ false → k.own_first ≡ l.own_first → k.partner_first ≡ l.partner_first → k.expected ≡ l.expected → Row (IsFrom k) n (repeated (header_of l) n waiting) (n + length waiting)
unfolding repeated
again_from l k n [] joined own partner expects = omega arith
again_from l k n (first ∷ others) joined own partner expects = (
  one_from l k n (RetransmittedData (first.item ∷ [])) joined own partner expects,
  subst (λ (m : ℕ). Row (IsFrom k) (n + 1) (repeated (header_of l) (n + 1) others) m) (omega arith) (again_from l k (n + 1) others joined own partner expects),
)

-- a retransmission request is answered
answers_all : (t : LinkState) → is_asking t ≡ false → Speaks t (answering t).link (answering t).pdus
unfolding answering repeating sending header_of repeated pdu_of
answers_all t joined = record {
  own_first = refl;
  partner_first = refl;
  joined = joined;
  pdus = row_then (IsFrom k) t.sent (t.sent + 1 + length t.waiting) (t.sent + 1 + length t.waiting + 1) ((pdu_of (header_of t) t.sent RetransmissionResponse ∷ []) ++ repeated (header_of t) (t.sent + 1) t.waiting) _
      (row_then (IsFrom k) t.sent (t.sent + 1) (t.sent + 1 + length t.waiting) (pdu_of (header_of t) t.sent RetransmissionResponse ∷ []) (repeated (header_of t) (t.sent + 1) t.waiting)
      (one_from t k t.sent RetransmissionResponse joined refl refl refl, refl) (again_from t k (t.sent + 1) t.waiting joined refl refl refl))
      (one_from t k (t.sent + 1 + length t.waiting) Heartbeat joined refl refl refl, refl);
}
  where
    k : LinkState
    k = (answering t).link

-- ---- what comes to an end that has joined

module _ (p : Pdu) (l : LinkState) (is_in : is_open l.phase ≡ true) (joined : is_asking l ≡ false) where
  abbrev Came : Pdu → Type 0
  Came q = q ≡ p

  abbrev Fine : Receipt → Type 0
  Fine r = is_open r.link.phase ≡ true → Does Came l r.link r.pdus [] r.items

  refused : (why : _) → Fine (refusing why l)
  refused why open_then = calm (says_nothing l joined) refl refl refl refl

  violated : Fine (violating l)
  unfolding telling sending
  violated open_then = absurd (false≢true open_then)

  closes : Fine (accepting (silent (closed (taking p l))))
  closes open_then = absurd (false≢true open_then)

  missed : Fine (missing l)
  unfolding missing sending
  missed open_then = calm (record { own_first = refl; partner_first = refl; joined = refl; pdus = (one_from l _ l.sent RetransmissionRequest joined refl refl refl, refl) }) refl refl refl refl

  module _ (passes : Passes l p) where
    took : (k : LinkState) (items : List (List ℕ)) → is_asking k ≡ false → k.own_first ≡ l.own_first → k.partner_first ≡ l.partner_first → k.sent ≡ l.sent → k.expected ≡ wire l.expected (ahead p l + 1)
        → k.waiting ≡ still_waiting (l.sent - 1 - behind p l) l.waiting → Does Came l k [] [] items
    took k items asks own partner sent_is expects waits = takes p refl passes (record { own_first = own; partner_first = partner; joined = asks; pdus = sym sent_is }) expects waits refl

    brings : (body : Body) → p.body ≡ body → Fine (bringing body (taking p l))
    unfolding bringing handing taking answering repeating sending
    brings (Data items) e open_then = took _ items refl refl refl refl refl refl
    brings (RetransmittedData items) e open_then = took _ items joined refl refl refl refl refl
    brings RetransmissionRequest e open_then =
        let said = answers_all (taking p l) joined
        in answers p refl passes e (record { own_first = said.own_first; partner_first = said.partner_first; joined = said.joined; pdus = said.pdus }) refl refl refl
    brings Heartbeat e open_then = took _ [] refl refl refl refl refl refl
    brings RetransmissionResponse e open_then = took _ [] refl refl refl refl refl refl
    brings (ConnectionRequest o) e open_then = took _ [] refl refl refl refl refl refl
    brings (ConnectionResponse o) e open_then = took _ [] refl refl refl refl refl refl
    brings (DisconnectionRequest d r) e open_then = took _ [] refl refl refl refl refl refl

    turns : Fine (in_turn p l)
    unfolding in_turn
    turns = choose (ahead p l == 0)
      where
        choose : (b : Bool) → Fine (if b then bringing p.body (taking p l) else missing l)
        choose true = brings p.body refl
        choose false = missed

    resumes : Fine (accepting (silent (record (taking p l) { phase = Phase.RetransmissionRunning })))
    unfolding taking
    resumes open_then = took _ [] refl refl refl refl refl refl

  -- all that an end in a connection does with what comes, case by case
  module _ (P : Receipt → Type 0) (refuses : (why : Verdict) → P (refusing why l)) (violates : P (violating l)) (shuts : P (accepting (silent (closed (taking p l)))))
      (turning : Passes l p → P (in_turn p l)) (resuming : Passes l p → P (accepting (silent (record (taking p l) { phase = Phase.RetransmissionRunning })))) where
    admits : (near : nat_lt sequence_range (ahead p l) ≡ false) (receiver : (p.receiver == l.identity.own) ≡ true) (sender : (p.sender == l.identity.partner) ≡ true)
        → (body : Body) → p.body ≡ body → (at : Phase) → P (admitting (admission body at) p l)
    unfolding admitting
    admits near receiver sender (ConnectionRequest o) e at = violates
    admits near receiver sender (ConnectionResponse o) e at = violates
    admits near receiver sender RetransmissionRequest e Phase.Closed = turning (record { receiver = receiver; sender = sender; near = near; word = subst IsWord (sym e) tt })
    admits near receiver sender RetransmissionRequest e Phase.Start = violates
    admits near receiver sender RetransmissionRequest e Phase.Up = turning (record { receiver = receiver; sender = sender; near = near; word = subst IsWord (sym e) tt })
    admits near receiver sender RetransmissionRequest e Phase.RetransmissionRequested = refuses Verdict.Discarded
    admits near receiver sender RetransmissionRequest e Phase.RetransmissionRunning = turning (record { receiver = receiver; sender = sender; near = near; word = subst IsWord (sym e) tt })
    admits near receiver sender RetransmissionResponse e Phase.Closed = violates
    admits near receiver sender RetransmissionResponse e Phase.Start = violates
    admits near receiver sender RetransmissionResponse e Phase.Up = violates
    admits near receiver sender RetransmissionResponse e Phase.RetransmissionRequested = resuming (record { receiver = receiver; sender = sender; near = near; word = subst IsWord (sym e) tt })
    admits near receiver sender RetransmissionResponse e Phase.RetransmissionRunning = violates
    admits near receiver sender (DisconnectionRequest d r) e at = shuts
    admits near receiver sender Heartbeat e Phase.RetransmissionRequested = refuses Verdict.Discarded
    admits near receiver sender Heartbeat e Phase.Closed = turning (record { receiver = receiver; sender = sender; near = near; word = subst IsWord (sym e) tt })
    admits near receiver sender Heartbeat e Phase.Start = turning (record { receiver = receiver; sender = sender; near = near; word = subst IsWord (sym e) tt })
    admits near receiver sender Heartbeat e Phase.Up = turning (record { receiver = receiver; sender = sender; near = near; word = subst IsWord (sym e) tt })
    admits near receiver sender Heartbeat e Phase.RetransmissionRunning = turning (record { receiver = receiver; sender = sender; near = near; word = subst IsWord (sym e) tt })
    admits near receiver sender (Data x) e Phase.RetransmissionRequested = refuses Verdict.Discarded
    admits near receiver sender (Data x) e Phase.Closed = turning (record { receiver = receiver; sender = sender; near = near; word = subst IsWord (sym e) tt })
    admits near receiver sender (Data x) e Phase.Start = turning (record { receiver = receiver; sender = sender; near = near; word = subst IsWord (sym e) tt })
    admits near receiver sender (Data x) e Phase.Up = turning (record { receiver = receiver; sender = sender; near = near; word = subst IsWord (sym e) tt })
    admits near receiver sender (Data x) e Phase.RetransmissionRunning = turning (record { receiver = receiver; sender = sender; near = near; word = subst IsWord (sym e) tt })
    admits near receiver sender (RetransmittedData x) e Phase.RetransmissionRequested = refuses Verdict.Discarded
    admits near receiver sender (RetransmittedData x) e Phase.Closed = violates
    admits near receiver sender (RetransmittedData x) e Phase.Start = violates
    admits near receiver sender (RetransmittedData x) e Phase.Up = violates
    admits near receiver sender (RetransmittedData x) e Phase.RetransmissionRunning = turning (record { receiver = receiver; sender = sender; near = near; word = subst IsWord (sym e) tt })

    tests : (p.receiver == l.identity.own) ≡ true → (p.sender == l.identity.partner) ≡ true → P (testing p l)
    unfolding testing
    tests receiver sender = choose (nat_lt sequence_range (ahead p l)) refl (is_stale p l) (confirms p l)
      where
        choose : (a : Bool) → nat_lt sequence_range (ahead p l) ≡ a → (b d : Bool) → P (if a then refusing Verdict.OutOfRange l else if b then refusing Verdict.Stale l else if not d then refusing Verdict.BadConfirm l else admitting (admission p.body l.phase) p l)
        choose true e b d = refuses Verdict.OutOfRange
        choose false e true d = refuses Verdict.Stale
        choose false e false false = refuses Verdict.BadConfirm
        choose false e false true = admits e receiver sender p.body refl l.phase

    connects : (p.receiver == l.identity.own) ≡ true → (p.sender == l.identity.partner) ≡ true → (body : Body) → P (connected body p l)
    unfolding connected
    connects receiver sender (ConnectionRequest o) = choose (is_opening_again p l)
      where
        choose : (b : Bool) → P (if b then refusing Verdict.Discarded l else violating l)
        choose true = refuses Verdict.Discarded
        choose false = violates
    connects receiver sender (ConnectionResponse o) = tests receiver sender
    connects receiver sender RetransmissionRequest = tests receiver sender
    connects receiver sender RetransmissionResponse = tests receiver sender
    connects receiver sender (DisconnectionRequest d r) = tests receiver sender
    connects receiver sender Heartbeat = tests receiver sender
    connects receiver sender (Data x) = tests receiver sender
    connects receiver sender (RetransmittedData x) = tests receiver sender

    by_phase : (p.receiver == l.identity.own) ≡ true → (p.sender == l.identity.partner) ≡ true → (at : Phase) → l.phase ≡ at → P (by_state (open_state at) p l)
    unfolding by_state
    by_phase receiver sender Phase.Closed e = absurd (false≢true (sym (ap is_open e) ∙ is_in))
    by_phase receiver sender Phase.Start e = server (is_client l.identity.role) (started l e joined)
      where
        started : (k : LinkState) → k.phase ≡ Phase.Start → is_asking k ≡ false → is_client k.identity.role ≡ false
        started k f not_asking = grind (arith, f, not_asking)

        server : (b : Bool) → b ≡ false → P (if b then asking p.body p l else connected p.body p l)
        server true f = absurd (false≢true (sym f))
        server false f = connects receiver sender p.body
    by_phase receiver sender Phase.Up e = connects receiver sender p.body
    by_phase receiver sender Phase.RetransmissionRequested e = connects receiver sender p.body
    by_phase receiver sender Phase.RetransmissionRunning e = connects receiver sender p.body

    pub hears_all : l.clock < l.own_stamp + 1800 → P (hearing p l)
    unfolding hearing
    hears_all young = choose (p.receiver == l.identity.own) refl (p.sender == l.identity.partner) refl
      where
        choose : (a : Bool) → (p.receiver == l.identity.own) ≡ a → (b : Bool) → (p.sender == l.identity.partner) ≡ b
            → P (if not a then refusing Verdict.NotForMe l else if not b then refusing Verdict.WrongSender l else by_state (state_at l.clock l) p l)
        choose false e b f = refuses Verdict.NotForMe
        choose true e false f = refuses Verdict.WrongSender
        choose true e true f = subst (λ (s : State). P (by_state s p l)) (sym (lives_state l is_in young)) (by_phase e f l.phase refl)

  hears : l.clock < l.own_stamp + 1800 → Fine (hearing p l)
  hears = hears_all Fine refused violated closes turns resumes

-- ---- what comes to a client that asks

-- it goes on asking, or has joined
pub data Asks (l k : LinkState) (accepted handed : List (List ℕ)) : Type 0 where
  still : is_asking k ≡ true → k.own_first ≡ l.own_first → l.sent ≤ k.sent → k.waiting ≡ l.waiting → accepted ≡ [] → handed ≡ [] → Asks l k accepted handed
  joins : is_asking k ≡ false → k.expected ≡ 1 → k.own_first ≡ l.own_first → l.sent ≤ k.sent → k.waiting ≡ l.waiting → accepted ≡ [] → handed ≡ [] → Asks l k accepted handed

started : (l : LinkState) → is_asking l ≡ true → (l.phase ≡ Phase.Start) × (is_client l.identity.role ≡ true)
started l e = by_phase l.phase refl
  where
    by_phase : (at : Phase) → l.phase ≡ at → (l.phase ≡ Phase.Start) × (is_client l.identity.role ≡ true)
    by_phase Phase.Start f = (f, grind (arith, f, e))
    by_phase Phase.Closed f = absurd (cc (e, f))
    by_phase Phase.Up f = absurd (cc (e, f))
    by_phase Phase.RetransmissionRequested f = absurd (cc (e, f))
    by_phase Phase.RetransmissionRunning f = absurd (cc (e, f))

module _ (p : Pdu) (l : LinkState) (is_in : is_open l.phase ≡ true) (asks : is_asking l ≡ true) where
  abbrev Answered : Receipt → Type 0
  Answered r = is_open r.link.phase ≡ true → Asks l r.link [] r.items

  asks_on : (why : _) → Answered (refusing why l)
  asks_on why open_then = still asks refl (omega arith) refl refl refl

  gives_up : Answered (violating l)
  unfolding telling sending
  gives_up open_then = absurd (false≢true open_then)

  joined_by : (o : Opening) → Answered (accepting (joining p o l))
  unfolding joining judging meeting sending telling
  joined_by o = choose (pointwise nat_eq o.version own_version) (o.window == window_size)
    where
      met : LinkState
      met = record (meeting p l) { phase = Phase.Up }

      choose : (a b : Bool) → Answered (accepting (if a then (if b then sending Heartbeat met else telling Reason.Window met) else telling Reason.Version met))
      choose true true = λ open_then. joins refl refl refl (omega arith) refl refl refl
      choose true false = λ open_then. absurd (false≢true open_then)
      choose false b = λ open_then. absurd (false≢true open_then)

  answered_by : (body : Body) → Answered (asking body p l)
  unfolding asking
  answered_by (ConnectionResponse o) = choose (answers_request p l)
    where
      choose : (b : Bool) → Answered (if b then accepting (joining p o l) else refusing Verdict.BadConfirm l)
      choose true = joined_by o
      choose false = asks_on Verdict.BadConfirm
  answered_by (DisconnectionRequest d r) = choose (answers_request p l)
    where
      choose : (b : Bool) → Answered (if b then accepting (silent (closed l)) else refusing Verdict.BadConfirm l)
      choose true = λ open_then. absurd (false≢true open_then)
      choose false = asks_on Verdict.BadConfirm
  answered_by (ConnectionRequest o) = gives_up
  answered_by RetransmissionRequest = gives_up
  answered_by RetransmissionResponse = gives_up
  answered_by Heartbeat = gives_up
  answered_by (Data x) = gives_up
  answered_by (RetransmittedData x) = gives_up

  asking_hears : l.clock < l.own_stamp + 1800 → Answered (hearing p l)
  unfolding hearing by_state
  asking_hears young = choose (p.receiver == l.identity.own) (p.sender == l.identity.partner)
    where
      at_start : Answered (by_state State.Start p l)
      at_start = subst (λ (b : Bool). Answered (if b then asking p.body p l else connected p.body p l)) (sym (started l asks).1) (answered_by p.body)

      choose : (a b : Bool) → Answered (if not a then refusing Verdict.NotForMe l else if not b then refusing Verdict.WrongSender l else by_state (state_at l.clock l) p l)
      choose false b = asks_on Verdict.NotForMe
      choose true false = asks_on Verdict.WrongSender
      choose true true = subst (λ (s : State). Answered (by_state s p l)) (sym (lives_state l is_in young ∙ ap open_state (started l asks).0)) at_start

-- ---- how a call begins

-- an end whose clock rules are applied: it is entered as it is, or closed at the limit
pub record IsSettledAt (now : ℕ) (l : LinkState) : Type 0 where
  pub clock : l.clock ≡ now
  pub young : now < l.own_stamp + 1800

data Begins (now : ℕ) (l : LinkState) : Type 0 where
  inside : entered now l ≡ silent l → Begins now l
  full : entered now l ≡ telling Reason.Sequence l → Begins now l

begins : (now : ℕ) (l : LinkState) → is_open l.phase ≡ true → IsSettledAt now l → Begins now l
unfolding entered limited settled deadline
begins now l is_in settled_at = choose (nat_le connection_limit l.sent) refl
  where
    late : nat_le (l.own_stamp + 1800) now ≡ false
    late = let y = settled_at.young in grind (arith, nat_tests, y)

    at : settled now l ≡ l
    at = rw (is_in, late) (ap (λ (n : ℕ). record l { clock = n }) (sym settled_at.clock))

    choose : (b : Bool) → nat_le connection_limit l.sent ≡ b → Begins now l
    choose true e = full (ap limited at ∙ rw (is_in, e) refl)
    choose false e = inside (ap limited at ∙ rw (is_in, e) refl)

-- an end that closed just now is quiet: it refuses what comes
quiet_hears : (p : Pdu) (l : LinkState) → is_open l.phase ≡ false → l.clock < l.closed_at + 6000 → (P : Receipt → Type 0) → ((why : Verdict) → P (refusing why l)) → P (hearing p l)
unfolding hearing state_at by_state deadline
quiet_hears p l outside quiet P refuses = choose (p.receiver == l.identity.own) (p.sender == l.identity.partner)
  where
    over : nat_lt l.clock (l.closed_at + 6000) ≡ true
    over = grind (arith, nat_tests, quiet)

    is_quiet : (s : State) → s ≡ State.Quiet → P (by_state s p l)
    is_quiet s e = subst (λ (x : State). P (by_state x p l)) (sym e) (refuses Verdict.Quiet)

    choose : (a b : Bool) → P (if not a then refusing Verdict.NotForMe l else if not b then refusing Verdict.WrongSender l else by_state (state_at l.clock l) p l)
    choose false b = refuses Verdict.NotForMe
    choose true false = refuses Verdict.WrongSender
    choose true true = is_quiet (state_at l.clock l) (rw (outside, over) refl)

pub quiet_bytes : (what : Result Pdu PduFault) (l : LinkState) → is_open l.phase ≡ false → l.clock < l.closed_at + 6000 → (P : Receipt → Type 0) → ((why : Verdict) → P (refusing why l)) → P (hearing_bytes what l)
unfolding hearing_bytes
quiet_bytes (Err fault) l outside quiet P refuses = refuses (Verdict.Unreadable fault)
quiet_bytes (Ok p) l outside quiet P refuses = quiet_hears p l outside quiet P refuses

pub stays_shut : (what : Result Pdu PduFault) (l : LinkState) → is_open l.phase ≡ false → l.clock < l.closed_at + 6000 → is_open (hearing_bytes what l).link.phase ≡ false
stays_shut what l outside quiet = quiet_bytes what l outside quiet (λ (r : Receipt). is_open r.link.phase ≡ false) (λ why. outside)

pub told_shut : (l : LinkState) → (is_open (telling Reason.Sequence l).link.phase ≡ false) × ((telling Reason.Sequence l).link.clock < (telling Reason.Sequence l).link.closed_at + 6000)
unfolding telling sending
told_shut l = (refl, omega arith)

-- ---- calls

abbrev pub NothingCame : Pdu → Type 0
NothingCame p = ⊥

abbrev pub Read : LinkState → List ℕ → Pdu → Type 0
Read l bytes p = reading l.identity.key bytes ≡ Ok p

module _ (now : ℕ) (l : LinkState) (is_in : is_open l.phase ≡ true) (settled_at : IsSettledAt now l) where
  -- a call at an end that is entered
  pub entering : (P : Step → Type 0) → P (silent l) → P (telling Reason.Sequence l) → P (entered now l)
  entering P as_it_is shut = choose (begins now l is_in settled_at)
    where
      choose : Begins now l → P (entered now l)
      choose (inside e) = subst P (sym e) as_it_is
      choose (full e) = subst P (sym e) shut

  pub closing_shuts : (why : Reason) → is_open (closing_by now why l).link.phase ≡ true → ⊥
  unfolding closing_by closing telling sending
  closing_shuts why = entering (λ (s : Step). is_open (then_do s (λ k. if is_open k.phase then closing why k else silent k)).link.phase ≡ true → ⊥)
      (λ o. shut (is_open l.phase) is_in o) (λ o. false≢true o)
    where
      shut : (b : Bool) → b ≡ true → is_open (if b then closing why l else silent l).link.phase ≡ true → ⊥
      shut true e o = told (is_told why) o
        where
          told : (t : Bool) → is_open (if t then telling why l else silent (closed l)).link.phase ≡ true → ⊥
          told true u = false≢true u
          told false u = false≢true u
      shut false e o = false≢true e

  module _ (joined : is_asking l ≡ false) where
    pub ticks_on : is_open (ticking now l).link.phase ≡ true → Does NothingCame l (ticking now l).link (ticking now l).pdus [] []
    unfolding ticking beating telling sending
    ticks_on = entering (λ (s : Step). is_open (then_do s beating).link.phase ≡ true → Does NothingCame l (then_do s beating).link (then_do s beating).pdus [] [])
        (λ o. beats (is_up l.phase && nat_le 300 (l.clock - l.sent_at))) (λ o. absurd (false≢true o))
      where
        beats : (b : Bool) → let s = (if b then sending Heartbeat l else silent l) in Does NothingCame l s.link s.pdus [] []
        beats true = let said = sends_one Heartbeat l joined in calm (record { own_first = refl; partner_first = refl; joined = joined; pdus = said.pdus }) refl refl refl refl
        beats false = calm (says_nothing l joined) refl refl refl refl

    pub opens_on : opens now l ≡ false → is_open (opening now l).link.phase ≡ true → Does NothingCame l (opening now l).link (opening now l).pdus [] []
    unfolding opening opens telling sending
    opens_on = entering (λ (s : Step). may_open s.link ≡ false → is_open (then_do s (λ k. if may_open k then requesting k else silent k)).link.phase ≡ true
        → Does NothingCame l (then_do s (λ k. if may_open k then requesting k else silent k)).link (then_do s (λ k. if may_open k then requesting k else silent k)).pdus [] [])
        (λ not. by_test (may_open l) not) (λ not. shut (may_open told) not)
      where
        told : LinkState
        told = (telling Reason.Sequence l).link

        by_test : (b : Bool) → b ≡ false → let s = (if b then requesting l else silent l) in is_open s.link.phase ≡ true → Does NothingCame l s.link s.pdus [] []
        by_test true e = absurd (false≢true (sym e))
        by_test false e = λ o. calm (says_nothing l joined) refl refl refl refl

        shut : (b : Bool) → b ≡ false → let s = (if b then requesting told else silent told) in is_open s.link.phase ≡ true → Does NothingCame l s.link ((telling Reason.Sequence l).pdus ++ s.pdus) [] []
        shut true e = absurd (false≢true (sym e))
        shut false e = λ o. absurd (false≢true o)

    pub sends_on : (item : List ℕ) → is_open (sending_item now item l).link.phase ≡ true
        → Does NothingCame l (sending_item now item l).link (sending_item now item l).pdus (if is_ok (answer_to_send now l) then item ∷ [] else []) []
    unfolding sending_item answer_to_send acceptance giving telling sending
    sends_on item = entering (λ (s : Step). is_open (then_do s (λ k. if is_ok (acceptance k) then giving item k else silent k)).link.phase ≡ true
        → Does NothingCame l (then_do s (λ k. if is_ok (acceptance k) then giving item k else silent k)).link (then_do s (λ k. if is_ok (acceptance k) then giving item k else silent k)).pdus (if is_ok (acceptance s.link) then item ∷ [] else []) [])
        (λ o. given (is_ok (acceptance l))) (λ o. absurd (false≢true o))
      where
        given : (b : Bool) → let s = (if b then giving item l else silent l) in Does NothingCame l s.link s.pdus (if b then item ∷ [] else []) []
        given true = gives item (record { own_first = refl; partner_first = refl; joined = joined; pdus = (one_from l (giving item l).link l.sent (Data (item ∷ [])) joined refl refl refl, refl) }) refl refl refl refl
        given false = calm (says_nothing l joined) refl refl refl refl

    pub receives_on : (bytes : List ℕ) → is_open (receiving now bytes l).link.phase ≡ true
        → Does (Read l bytes) l (receiving now bytes l).link (receiving now bytes l).pdus [] (receiving now bytes l).items
    unfolding receiving hearing_bytes
    receives_on bytes = entering (λ (s : Step). is_open (hearing_bytes (reading l.identity.key bytes) s.link).link.phase ≡ true
        → Does (Read l bytes) l (hearing_bytes (reading l.identity.key bytes) s.link).link (s.pdus ++ (hearing_bytes (reading l.identity.key bytes) s.link).pdus) [] (hearing_bytes (reading l.identity.key bytes) s.link).items)
        (by_reading (reading l.identity.key bytes) refl) (λ o. absurd (false≢true (sym (stays_shut (reading l.identity.key bytes) (telling Reason.Sequence l).link (told_shut l).0 (told_shut l).1) ∙ o)))
      where
        at_pdu : (p : Pdu) → reading l.identity.key bytes ≡ Ok p → (k : LinkState) (ps : List Pdu) (items : List (List ℕ)) → Does (λ q. q ≡ p) l k ps [] items → Does (Read l bytes) l k ps [] items
        at_pdu p e k ps items (calm s x w a h) = calm s x w a h
        at_pdu p e k ps items (gives item s x w a h) = gives item s x w a h
        at_pdu p e k ps items (takes q same pass s x w a) = takes q (e ∙ ap Ok (sym same)) pass s x w a
        at_pdu p e k ps items (answers q same pass body s x w a) = answers q (e ∙ ap Ok (sym same)) pass body s x w a

        by_reading : (what : Result Pdu PduFault) → reading l.identity.key bytes ≡ what → is_open (hearing_bytes what l).link.phase ≡ true → Does (Read l bytes) l (hearing_bytes what l).link (hearing_bytes what l).pdus [] (hearing_bytes what l).items
        by_reading (Err fault) e o = calm (says_nothing l joined) refl refl refl refl
        by_reading (Ok p) e o = at_pdu p e (hearing p l).link (hearing p l).pdus (hearing p l).items (hears p l is_in joined (subst (λ (n : ℕ). n < l.own_stamp + 1800) (sym settled_at.clock) settled_at.young) o)

  module _ (asking_is : is_asking l ≡ true) where
    goes_on : (k : LinkState) → k ≡ l → Asks l k [] []
    goes_on k e = still (ap is_asking e ∙ asking_is) (ap (λ (x : LinkState). x.own_first) e) (let s = ap (λ (x : LinkState). x.sent) e in omega (arith, s)) (ap (λ (x : LinkState). x.waiting) e) refl refl

    is_down : is_up l.phase ≡ false
    is_down = ap is_up (started l asking_is).0

    pub ticks_asking : is_open (ticking now l).link.phase ≡ true → Asks l (ticking now l).link [] []
    unfolding ticking beating telling sending
    ticks_asking = entering (λ (s : Step). is_open (then_do s beating).link.phase ≡ true → Asks l (then_do s beating).link [] [])
        (λ o. beats (is_up l.phase) is_down) (λ o. absurd (false≢true o))
      where
        beats : (b : Bool) → b ≡ false → Asks l (if b && nat_le 300 (l.clock - l.sent_at) then sending Heartbeat l else silent l).link [] []
        beats true e = absurd (false≢true (sym e))
        beats false e = goes_on l refl

    pub opens_asking : opens now l ≡ false → is_open (opening now l).link.phase ≡ true → Asks l (opening now l).link [] []
    unfolding opening opens telling sending
    opens_asking = entering (λ (s : Step). may_open s.link ≡ false → is_open (then_do s (λ k. if may_open k then requesting k else silent k)).link.phase ≡ true → Asks l (then_do s (λ k. if may_open k then requesting k else silent k)).link [] [])
        (λ not. by_test (may_open l) not) (λ not. shut (may_open told) not)
      where
        told : LinkState
        told = (telling Reason.Sequence l).link

        by_test : (b : Bool) → b ≡ false → is_open (if b then requesting l else silent l).link.phase ≡ true → Asks l (if b then requesting l else silent l).link [] []
        by_test true e = absurd (false≢true (sym e))
        by_test false e = λ o. goes_on l refl

        shut : (b : Bool) → b ≡ false → is_open (if b then requesting told else silent told).link.phase ≡ true → Asks l (if b then requesting told else silent told).link [] []
        shut true e = absurd (false≢true (sym e))
        shut false e = λ o. absurd (false≢true o)

    pub sends_asking : (item : List ℕ) → is_open (sending_item now item l).link.phase ≡ true → Asks l (sending_item now item l).link (if is_ok (answer_to_send now l) then item ∷ [] else []) []
    unfolding sending_item answer_to_send acceptance telling sending
    sends_asking item = entering (λ (s : Step). is_open (then_do s (λ k. if is_ok (acceptance k) then giving item k else silent k)).link.phase ≡ true
        → Asks l (then_do s (λ k. if is_ok (acceptance k) then giving item k else silent k)).link (if is_ok (acceptance s.link) then item ∷ [] else []) [])
        (λ o. refused (is_ok (acceptance l)) (rw is_down refl)) (λ o. absurd (false≢true o))
      where
        refused : (b : Bool) → b ≡ false → Asks l (if b then giving item l else silent l).link (if b then item ∷ [] else []) []
        refused true e = absurd (false≢true (sym e))
        refused false e = goes_on l refl

    pub receives_asking : (bytes : List ℕ) → is_open (receiving now bytes l).link.phase ≡ true → Asks l (receiving now bytes l).link [] (receiving now bytes l).items
    unfolding receiving hearing_bytes
    receives_asking bytes = entering (λ (s : Step). is_open (hearing_bytes (reading l.identity.key bytes) s.link).link.phase ≡ true
        → Asks l (hearing_bytes (reading l.identity.key bytes) s.link).link [] (hearing_bytes (reading l.identity.key bytes) s.link).items)
        (by_reading (reading l.identity.key bytes)) (λ o. absurd (false≢true (sym (stays_shut (reading l.identity.key bytes) (telling Reason.Sequence l).link (told_shut l).0 (told_shut l).1) ∙ o)))
      where
        by_reading : (what : Result Pdu PduFault) → is_open (hearing_bytes what l).link.phase ≡ true → Asks l (hearing_bytes what l).link [] (hearing_bytes what l).items
        by_reading (Err fault) o = goes_on l refl
        by_reading (Ok p) o = asking_hears p l is_in asking_is (subst (λ (n : ℕ). n < l.own_stamp + 1800) (sym settled_at.clock) settled_at.young) o
