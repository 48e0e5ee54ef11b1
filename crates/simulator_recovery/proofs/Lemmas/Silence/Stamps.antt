-- What a call of a link leaves of the own stamp that its partner returned last.
use Rattle.simulator_recovery.proofs.Words.Basics.{◌≡◌, ℕ, ◌-◌, Bool, true, false, ◌&&◌, not, nat_le, nat_lt, ◌==◌, List, Result, Ok, Err, is_ok, if◌then◌else◌, refl, sym, ap, subst, ◌∙◌, pointwise, ◌+◌, nat_eq, eqb-true}
use Rattle.simulator_recovery.proofs.Words.Links.{connection_limit, heartbeat_interval, own_version, quiet_time, sequence_range, window_size, distance, stamp, LinkState, is_client, is_open, is_up, deadline, open_state, settled, state_at, Step, beating, closed, closing, entered, giving, is_told, limited, sending, silent, telling, beginning, granting, judging, meeting, own_opening, Receipt, accepting, admission, admitting, age, ahead, answering, asking, bringing, by_state, confirms, connected, handing, hearing, in_turn, is_opening_again, is_stale, missing, refusing, repeating, resting, taking, testing, violating, acceptance, closing_by, hearing_bytes, receiving, sending_item, ticking, is_taken, IsAnswering, Identity, Role, Phase, State, Reason, Verdict, reading, Body, ConnectionRequest, ConnectionResponse, RetransmissionRequest, RetransmissionResponse, DisconnectionRequest, Heartbeat, Data, RetransmittedData, Opening, PduFault, Pdu}

-- a link that is in a connection afterwards was in it before, with the same stamp and as many items taken
abbrev pub Leaves : LinkState → LinkState → Type 0
Leaves old new = is_open new.phase ≡ true → (is_open old.phase ≡ true) × (new.own_stamp ≡ old.own_stamp) × (new.taken ≡ old.taken)

leaves_then : (l k j : LinkState) → Leaves l k → Leaves k j → Leaves l j
leaves_then l k j first next opened =
    let n = next opened
    in let f = first n.0
    in (f.0, n.1 ∙ f.1, n.2 ∙ f.2)

link_where : (b : Bool) (l j k : LinkState) → Leaves l j → Leaves l k → Leaves l (if b then j else k)
link_where true l j k one other = one
link_where false l j k one other = other

step_where : (b : Bool) (l : LinkState) (s t : Step) → Leaves l s.link → Leaves l t.link → Leaves l (if b then s else t).link
step_where true l s t one other = one
step_where false l s t one other = other

-- ---- the own calls

pub settled_leaves : (now : ℕ) (l : LinkState) → Leaves l (settled now l)
unfolding settled
settled_leaves now l = link_where (is_open l.phase && nat_le (deadline l) now) l (record l { phase = Phase.Closed; closed_at = deadline l; clock = now }) (record l { clock = now })
    (λ opened. absurd (cc opened)) (λ opened. (opened, refl, refl))

limited_leaves : (l : LinkState) → Leaves l (limited l).link
unfolding limited telling sending
limited_leaves l = step_where (is_open l.phase && nat_le connection_limit l.sent) l (telling Reason.Sequence l) (silent l) (λ opened. absurd (cc opened)) (λ opened. (opened, refl, refl))

entered_leaves : (now : ℕ) (l : LinkState) → Leaves l (entered now l).link
unfolding entered
entered_leaves now l = leaves_then l (settled now l) (limited (settled now l)).link (settled_leaves now l) (limited_leaves (settled now l))

beating_leaves : (l : LinkState) → Leaves l (beating l).link
unfolding beating sending
beating_leaves l = step_where (is_up l.phase && nat_le heartbeat_interval (l.clock - l.sent_at)) l (sending Heartbeat l) (silent l) (λ opened. (opened, refl, refl)) (λ opened. (opened, refl, refl))

closing_leaves : (why : Reason) (l : LinkState) → Leaves l (closing why l).link
unfolding closing telling sending
closing_leaves why l = step_where (is_told why) l (telling why l) (silent (closed l)) (λ opened. absurd (cc opened)) (λ opened. absurd (cc opened))

giving_leaves : (item : List ℕ) (l : LinkState) → Leaves l (giving item l).link
unfolding giving sending
giving_leaves item l = λ opened. (opened, refl, refl)

pub ticking_leaves : (now : ℕ) (l : LinkState) → Leaves l (ticking now l).link
unfolding ticking
ticking_leaves now l = leaves_then l (entered now l).link (beating (entered now l).link).link (entered_leaves now l) (beating_leaves (entered now l).link)

pub closing_by_leaves : (now : ℕ) (why : Reason) (l : LinkState) → Leaves l (closing_by now why l).link
unfolding closing_by
closing_by_leaves now why l =
    let x = (entered now l).link
    in leaves_then l x (if is_open x.phase then closing why x else silent x).link (entered_leaves now l)
    (step_where (is_open x.phase) x (closing why x) (silent x) (closing_leaves why x) (λ opened. (opened, refl, refl)))

pub sending_item_leaves : (now : ℕ) (item : List ℕ) (l : LinkState) → Leaves l (sending_item now item l).link
unfolding sending_item
sending_item_leaves now item l =
    let x = (entered now l).link
    in leaves_then l x (if is_ok (acceptance x) then giving item x else silent x).link (entered_leaves now l)
    (step_where (is_ok (acceptance x)) x (giving item x) (silent x) (giving_leaves item x) (λ opened. (opened, refl, refl)))

-- ---- what a PDU does at a server

-- It leaves the stamp; or it begins a connection; or it is taken, and the stamp is the one that it returns.
data Heard (p : Pdu) (x : LinkState) (r : Receipt) : Type 0 where
  leaves : Leaves x r.link → Heard p x r
  begins : r.link.taken ≡ 0 → Heard p x r
  takes : is_open x.phase ≡ true → p.receiver ≡ x.identity.own → IsAnswering Role.Client p.body → r.link.own_stamp ≡ x.clock - age p x → is_taken r.verdict ≡ true → Heard p x r

heard_where : (b : Bool) (p : Pdu) (x : LinkState) (r s : Receipt) → Heard p x r → Heard p x s → Heard p x (if b then r else s)
heard_where true p x r s one other = one
heard_where false p x r s one other = other

module _ (p : Pdu) (x : LinkState) where
  unchanged : {r : Receipt} → r.link ≡ x → Heard p x r
  unchanged {r} same = leaves (λ opened. (subst (λ (l : LinkState). is_open l.phase ≡ true) same opened, ap (λ (l : LinkState). l.own_stamp) same, ap (λ (l : LinkState). l.taken) same))

  violates : Heard p x (violating x)
  unfolding telling sending
  violates = leaves (λ opened. absurd (cc opened))

  closes : Heard p x (accepting (silent (closed (taking p x))))
  closes = leaves (λ opened. absurd (cc opened))

  module _ (opened : is_open x.phase ≡ true) (mine : p.receiver ≡ x.identity.own) where
    brings : (body : Body) → IsAnswering Role.Client p.body → Heard p x (bringing body (taking p x))
    unfolding bringing handing taking answering repeating sending
    brings (ConnectionRequest o) answers = takes opened mine answers refl refl
    brings (ConnectionResponse o) answers = takes opened mine answers refl refl
    brings RetransmissionRequest answers = takes opened mine answers refl refl
    brings RetransmissionResponse answers = takes opened mine answers refl refl
    brings (DisconnectionRequest d r) answers = takes opened mine answers refl refl
    brings Heartbeat answers = takes opened mine answers refl refl
    brings (Data items) answers = takes opened mine answers refl refl
    brings (RetransmittedData items) answers = takes opened mine answers refl refl

    asks : Heard p x (missing x)
    unfolding missing sending
    asks = leaves (λ o. (opened, refl, refl))

    turns : IsAnswering Role.Client p.body → Heard p x (in_turn p x)
    unfolding in_turn
    turns answers = heard_where (ahead p x == 0) p x (bringing p.body (taking p x)) (missing x) (brings p.body answers) asks

    resumes : IsAnswering Role.Client p.body → Heard p x (accepting (silent (record (taking p x) { phase = Phase.RetransmissionRunning })))
    unfolding taking
    resumes answers = takes opened mine answers refl refl

    discards : Heard p x (refusing Verdict.Discarded x)
    discards = unchanged refl

    abbrev answers_in : (body : Body) → p.body ≡ body → IsAnswering Role.Client body → IsAnswering Role.Client p.body
    answers_in body e answers = subst (IsAnswering Role.Client) (sym e) answers

    admits : (body : Body) → p.body ≡ body → (at : Phase) → Heard p x (admitting (admission body at) p x)
    unfolding admitting
    admits (ConnectionRequest o) e at = violates
    admits (ConnectionResponse o) e at = violates
    admits RetransmissionRequest e Phase.Closed = turns (answers_in RetransmissionRequest e tt)
    admits RetransmissionRequest e Phase.Start = violates
    admits RetransmissionRequest e Phase.Up = turns (answers_in RetransmissionRequest e tt)
    admits RetransmissionRequest e Phase.RetransmissionRequested = discards
    admits RetransmissionRequest e Phase.RetransmissionRunning = turns (answers_in RetransmissionRequest e tt)
    admits RetransmissionResponse e Phase.Closed = violates
    admits RetransmissionResponse e Phase.Start = violates
    admits RetransmissionResponse e Phase.Up = violates
    admits RetransmissionResponse e Phase.RetransmissionRequested = resumes (answers_in RetransmissionResponse e tt)
    admits RetransmissionResponse e Phase.RetransmissionRunning = violates
    admits (DisconnectionRequest d r) e at = closes
    admits Heartbeat e Phase.Closed = turns (answers_in Heartbeat e tt)
    admits Heartbeat e Phase.Start = turns (answers_in Heartbeat e tt)
    admits Heartbeat e Phase.Up = turns (answers_in Heartbeat e tt)
    admits Heartbeat e Phase.RetransmissionRequested = discards
    admits Heartbeat e Phase.RetransmissionRunning = turns (answers_in Heartbeat e tt)
    admits (Data i) e Phase.Closed = turns (answers_in (Data i) e tt)
    admits (Data i) e Phase.Start = turns (answers_in (Data i) e tt)
    admits (Data i) e Phase.Up = turns (answers_in (Data i) e tt)
    admits (Data i) e Phase.RetransmissionRequested = discards
    admits (Data i) e Phase.RetransmissionRunning = turns (answers_in (Data i) e tt)
    admits (RetransmittedData i) e Phase.Closed = violates
    admits (RetransmittedData i) e Phase.Start = violates
    admits (RetransmittedData i) e Phase.Up = violates
    admits (RetransmittedData i) e Phase.RetransmissionRequested = discards
    admits (RetransmittedData i) e Phase.RetransmissionRunning = turns (answers_in (RetransmittedData i) e tt)

    tests : Heard p x (testing p x)
    unfolding testing
    tests = heard_where (nat_lt sequence_range (ahead p x)) p x (refusing Verdict.OutOfRange x) _ (unchanged refl)
        (heard_where (is_stale p x) p x (refusing Verdict.Stale x) _ (unchanged refl)
        (heard_where (not (confirms p x)) p x (refusing Verdict.BadConfirm x) (admitting (admission p.body x.phase) p x) (unchanged refl) (admits p.body refl x.phase)))

    connects : (body : Body) → Heard p x (connected body p x)
    unfolding connected
    connects (ConnectionRequest o) = heard_where (is_opening_again p x) p x (refusing Verdict.Discarded x) (violating x) (unchanged refl) violates
    connects (ConnectionResponse o) = tests
    connects RetransmissionRequest = tests
    connects RetransmissionResponse = tests
    connects (DisconnectionRequest d r) = tests
    connects Heartbeat = tests
    connects (Data i) = tests
    connects (RetransmittedData i) = tests

  -- ---- outside

  granted : (opening : Opening) → (granting p opening x).link.taken ≡ 0
  unfolding granting judging meeting beginning sending telling
  granted opening = choose (pointwise nat_eq opening.version own_version) (opening.window == window_size)
    where
      met : LinkState
      met = meeting p (beginning x)

      choose : (b c : Bool) → (if b then (if c then sending (ConnectionResponse own_opening) met else telling Reason.Window met) else telling Reason.Version met).link.taken ≡ 0
      choose true true = refl
      choose true false = refl
      choose false c = refl

  rests : (body : Body) → Heard p x (resting body p x)
  unfolding resting
  rests (ConnectionRequest o) = heard_where (is_client x.identity.role) p x (refusing Verdict.WrongState x) (accepting (granting p o x)) (unchanged refl) (begins (granted o))
  rests (ConnectionResponse o) = unchanged refl
  rests RetransmissionRequest = unchanged refl
  rests RetransmissionResponse = unchanged refl
  rests (DisconnectionRequest d r) = unchanged refl
  rests Heartbeat = unchanged refl
  rests (Data i) = unchanged refl
  rests (RetransmittedData i) = unchanged refl

  -- ---- by the state

  abbrev is_live : State → Bool
  is_live State.Quiet = false
  is_live State.Down = false
  is_live State.Start = true
  is_live State.Up = true
  is_live State.RetransmissionRequested = true
  is_live State.RetransmissionRunning = true

  lives : is_live (state_at x.clock x) ≡ true → is_open x.phase ≡ true
  unfolding state_at
  lives e = choose (is_open x.phase) (nat_lt x.clock (deadline x)) (nat_lt x.clock (deadline x + quiet_time)) refl e
    where
      choose : (o a q : Bool) → is_open x.phase ≡ o → is_live (if o && a then open_state x.phase else if q then State.Quiet else State.Down) ≡ true → is_open x.phase ≡ true
      choose true a q is f = is
      choose false a true is f = absurd (cc f)
      choose false a false is f = absurd (cc f)

  module _ (server : is_client x.identity.role ≡ false) (mine : p.receiver ≡ x.identity.own) where
    by_states : (s : State) → state_at x.clock x ≡ s → Heard p x (by_state s p x)
    unfolding by_state
    by_states State.Quiet e = unchanged refl
    by_states State.Down e = rests p.body
    by_states State.Start e = subst (λ (b : Bool). Heard p x (if b then asking p.body p x else connected p.body p x)) (sym server) (connects (lives (ap is_live e)) mine p.body)
    by_states State.Up e = connects (lives (ap is_live e)) mine p.body
    by_states State.RetransmissionRequested e = connects (lives (ap is_live e)) mine p.body
    by_states State.RetransmissionRunning e = connects (lives (ap is_live e)) mine p.body

  hears : is_client x.identity.role ≡ false → Heard p x (hearing p x)
  unfolding hearing
  hears server = choose (p.receiver == x.identity.own) (p.sender == x.identity.partner) refl
    where
      choose : (b c : Bool) → (p.receiver == x.identity.own) ≡ b
          → Heard p x (if not b then refusing Verdict.NotForMe x else if not c then refusing Verdict.WrongSender x else by_state (state_at x.clock x) p x)
      choose false c e = unchanged refl
      choose true false e = unchanged refl
      choose true true e = by_states server (eqb-true p.receiver x.identity.own e) (state_at x.clock x) refl

-- ---- bytes

-- bytes of a PDU that a server takes
pub record IsTakenOf (now : ℕ) (bytes : List ℕ) (l k : LinkState) (taken : Bool) : Type 0 where
  pub pdu : Pdu
  pub read : reading l.identity.key bytes ≡ Ok pdu
  pub mine : pdu.receiver ≡ l.identity.own
  pub inside : is_open l.phase ≡ true
  pub answers : IsAnswering Role.Client pdu.body
  pub stamp_is : k.own_stamp ≡ now - distance pdu.confirmed_time_stamp (stamp now)
  pub is : taken ≡ true

-- Bytes that come to a server leave the stamp; or begin a connection; or are those of a PDU that is taken.
pub data Received (now : ℕ) (bytes : List ℕ) (l k : LinkState) (taken : Bool) : Type 0 where
  left : Leaves l k → Received now bytes l k taken
  began : k.taken ≡ 0 → Received now bytes l k taken
  took : IsTakenOf now bytes l k taken → Received now bytes l k taken

record IsAt (now : ℕ) (l x : LinkState) : Type 0 where
  clock : x.clock ≡ now
  identity : x.identity ≡ l.identity

settled_at : (now : ℕ) (l : LinkState) → IsAt now l (settled now l)
unfolding settled
settled_at now l = choose (is_open l.phase && nat_le (deadline l) now)
  where
    choose : (b : Bool) → IsAt now l (if b then record l { phase = Phase.Closed; closed_at = deadline l; clock = now } else record l { clock = now })
    choose true = record { clock = refl; identity = refl }
    choose false = record { clock = refl; identity = refl }

limited_at : (now : ℕ) (l k : LinkState) → IsAt now l k → IsAt now l (limited k).link
unfolding limited telling sending
limited_at now l k is = choose (is_open k.phase && nat_le connection_limit k.sent)
  where
    choose : (b : Bool) → IsAt now l (if b then telling Reason.Sequence k else silent k).link
    choose true = record { clock = is.clock; identity = is.identity }
    choose false = is

at_entered : (now : ℕ) (l : LinkState) → IsAt now l (entered now l).link
unfolding entered
at_entered now l = limited_at now l (settled now l) (settled_at now l)

pub received : (now : ℕ) (bytes : List ℕ) (l : LinkState) → is_client l.identity.role ≡ false
    → Received now bytes l (receiving now bytes l).link (is_taken (receiving now bytes l).verdict)
unfolding receiving hearing_bytes age
received now bytes l server = read_as (reading l.identity.key bytes) refl
  where
    x : LinkState
    x = (entered now l).link

    at : IsAt now l x
    at = at_entered now l

    server_still : is_client x.identity.role ≡ false
    server_still = ap (λ (i : Identity). is_client i.role) at.identity ∙ server

    whole : (p : Pdu) (r : Receipt) → reading l.identity.key bytes ≡ Ok p → Heard p x r → Received now bytes l r.link (is_taken r.verdict)
    whole p r read (leaves stays) = left (leaves_then l x r.link (entered_leaves now l) stays)
    whole p r read (begins none) = began none
    whole p r read (takes opened mine answers stamped taken) = took (record {
      pdu = p;
      read = read;
      mine = mine ∙ ap (λ (i : Identity). i.own) at.identity;
      inside = (entered_leaves now l opened).0;
      answers = answers;
      stamp_is = stamped ∙ ap (λ (n : ℕ). n - distance p.confirmed_time_stamp (stamp n)) at.clock;
      is = taken;
    })

    read_as : (word : Result Pdu PduFault) → reading l.identity.key bytes ≡ word → Received now bytes l (hearing_bytes word x).link (is_taken (hearing_bytes word x).verdict)
    read_as (Err fault) e = left (entered_leaves now l)
    read_as (Ok p) e = whole p (hearing p x) e (hears p x server_still)
