-- What a call does at an end that is in a connection and stays in it: whether it asks or answers there.
use Rattle.rasta_core_recovery.proofs.Words.Basics.{◌≡◌, ℕ, ◌∙◌, ◌+◌, ◌-◌, ◌≤◌, ◌<◌, ◌⊎◌, inl, inr, Bool, true, false, ◌&&◌, not, nat_le, nat_lt, ◌==◌, List, [], ◌∷◌, ◌++◌, None, Result, Ok, Err, if◌then◌else◌, refl, sym, ap, subst, arith, is_ok, nat_eq, pointwise, false≢true}
use Rattle.rasta_core_recovery.proofs.Words.Links.{own_version, sequence_range, window_size, wire, LinkState, is_asking, is_client, is_open, is_up, open_state, state_at, joining, judging, may_open, meeting, requesting, Step, beating, closed, giving, header_of, pdu_of, sending, silent, telling, then_do, Receipt, accepting, admission, admitting, ahead, answering, answers_request, asking, bringing, by_state, confirms, connected, hearing, in_turn, is_stale, missing, refusing, repeated, repeating, taking, testing, violating, acceptance, hearing_bytes, opening, opens, receiving, sending_item, ticking, Call, Closes, EndState, Opens, Receives, Sends, Ticks, outcome, reading_of, Phase, State, Reason, Verdict, reading, Pdu, PduFault, Body, ConnectionRequest, ConnectionResponse, Data, DisconnectionRequest, Heartbeat, RetransmissionRequest, RetransmissionResponse, RetransmittedData, Opening, Header}
use Rattle.rasta_core_recovery.proofs.Words.Recovery.{IsWaiting, reached_by}
use Rattle.rasta_core_recovery.proofs.Lemmas.Asking.Asks.{Asks, asking_is}
use Rattle.rasta_core_recovery.proofs.Lemmas.Falling.FallsCalls.{AskMoved, ask_moves_by, asks_on, joins_by}
use Rattle.rasta_core_recovery.proofs.Lemmas.Windows.ConfirmingEvents.{CameBy, not_entered}
use Rattle.rasta_core_recovery.proofs.Lemmas.Rounds.Deed.{Asked, Deed, InTurn, Passes, Taken, asks, hears, keeps, leaves, lives_state, takes}
use Rattle.rasta_core_recovery.proofs.Lemmas.ComingUp.Healthy.{waits}
use Rattle.rasta_core_recovery.proofs.Lemmas.Windows.StaysIn.{IsSettledAt, NothingCame, Read, closing_shuts, entering, stays_shut, told_shut}
use Rattle.rasta_core_recovery.proofs.Lemmas.Rounds.Words.{IsSimple, Row, Says}

-- a PDU of this number, which neither asks nor answers
pub record IsQuiet (first n : ℕ) (p : Pdu) : Type 0 where
  pub number : p.sequence_number ≡ wire first n
  pub simple : IsSimple p.body

-- it stays in its connection, where it was
pub record Rests (l k : LinkState) : Type 0 where
  pub own_first : k.own_first ≡ l.own_first
  pub reached : reached_by k ≡ reached_by l
  pub waits : IsWaiting k → IsWaiting l
  pub joined : is_asking l ≡ false → is_asking k ≡ false

-- the first of them answers an ask
pub record Answers (ps : List Pdu) : Type 0 where
  pub first : Pdu
  pub rest : List Pdu
  pub are : ps ≡ first ∷ rest
  pub answers : first.body ≡ RetransmissionResponse

-- It says nothing or, where that may be, something quiet; or it asks; or it takes a PDU that came, and answers it where this asks.
pub data Acts (Came : Pdu → Type 0) (MaySpeak : Type 0) (l k : LinkState) (ps : List Pdu) : Type 0 where
  rests : Rests l k → Row (IsQuiet l.own_first) l.sent ps k.sent → (ps ≡ []) ⊎ MaySpeak → Acts Came MaySpeak l k ps
  misses : is_asking l ≡ false → (p : Pdu) → Came p → (p.receiver == l.identity.own) ≡ true → (p.sender == l.identity.partner) ≡ true → Passes p l → (ahead p l == 0) ≡ false → Asked l k ps → Acts Came MaySpeak l k ps
  hears_one : is_asking l ≡ false → (p : Pdu) → Came p → (p.receiver == l.identity.own) ≡ true → (p.sender == l.identity.partner) ≡ true → Passes p l → Taken p l k ps
      → (p.body ≡ RetransmissionRequest → Answers ps) → Acts Came MaySpeak l k ps

-- ---- an ask that is taken is answered

module _ (p : Pdu) (l : LinkState) (is_in : is_open l.phase ≡ true) (joined : is_asking l ≡ false) (young : l.clock < l.own_stamp + 1800)
    (receiver : (p.receiver == l.identity.own) ≡ true) (sender : (p.sender == l.identity.partner) ≡ true) (passes : Passes p l) (level : (ahead p l == 0) ≡ true) (free : waits l.phase ≡ false)
    (body : p.body ≡ RetransmissionRequest) where
  by_its_state : hearing p l ≡ by_state (state_at l.clock l) p l
  unfolding hearing
  by_its_state = choose (p.receiver == l.identity.own) (p.sender == l.identity.partner) receiver sender
    where
      choose : (a b : Bool) → a ≡ true → b ≡ true
          → (if not a then refusing Verdict.NotForMe l else if not b then refusing Verdict.WrongSender l else by_state (state_at l.clock l) p l) ≡ by_state (state_at l.clock l) p l
      choose true true e f = refl
      choose true false e f = absurd (false≢true f)
      choose false b e f = absurd (false≢true e)

  by_connected : (at : Phase) → l.phase ≡ at → by_state (open_state at) p l ≡ connected p.body p l
  unfolding by_state
  by_connected Phase.Closed e = absurd (false≢true (sym (ap is_open e) ∙ is_in))
  by_connected Phase.Start e = server (is_client l.identity.role) (started l e joined)
    where
      started : (k : LinkState) → k.phase ≡ Phase.Start → is_asking k ≡ false → is_client k.identity.role ≡ false
      started k f not_asking = grind (arith, f, not_asking)

      server : (b : Bool) → b ≡ false → (if b then asking p.body p l else connected p.body p l) ≡ connected p.body p l
      server true f = absurd (false≢true (sym f))
      server false f = refl
  by_connected Phase.Up e = refl
  by_connected Phase.RetransmissionRequested e = refl
  by_connected Phase.RetransmissionRunning e = refl

  by_testing : connected p.body p l ≡ testing p l
  unfolding connected
  by_testing = ap (λ (b : Body). connected b p l) body

  by_admission : testing p l ≡ admitting (admission RetransmissionRequest l.phase) p l
  unfolding testing
  by_admission = choose (nat_lt sequence_range (ahead p l)) (is_stale p l) (confirms p l) passes.near passes.fresh passes.counts ∙ ap (λ (b : Body). admitting (admission b l.phase) p l) body
    where
      choose : (a b d : Bool) → a ≡ false → b ≡ false → d ≡ true
          → (if a then refusing Verdict.OutOfRange l else if b then refusing Verdict.Stale l else if not d then refusing Verdict.BadConfirm l else admitting (admission p.body l.phase) p l)
          ≡ admitting (admission p.body l.phase) p l
      choose false false true e f g = refl
      choose false false false e f g = absurd (false≢true g)
      choose false true d e f g = absurd (false≢true (sym f))
      choose true b d e f g = absurd (false≢true (sym e))

  by_bringing : in_turn p l ≡ accepting (answering (taking p l))
  unfolding in_turn bringing
  by_bringing = ap (λ (b : Bool). if b then bringing p.body (taking p l) else missing l) level ∙ ap (λ (b : Body). bringing b (taking p l)) body

  says_first : Answers (accepting (answering (taking p l))).pdus
  unfolding answering repeating sending taking repeated pdu_of
  says_first = record { first = _; rest = _; are = refl; answers = refl }

  by_phase : (at : Phase) → l.phase ≡ at → is_open (admitting (admission RetransmissionRequest at) p l).link.phase ≡ true → Answers (admitting (admission RetransmissionRequest at) p l).pdus
  unfolding admitting telling sending
  by_phase Phase.Closed e opened = absurd (false≢true (sym (ap is_open e) ∙ is_in))
  by_phase Phase.Start e opened = absurd (false≢true opened)
  by_phase Phase.Up e opened = subst (λ (r : Receipt). Answers r.pdus) (sym by_bringing) says_first
  by_phase Phase.RetransmissionRequested e opened = absurd (false≢true (sym free ∙ ap waits e))
  by_phase Phase.RetransmissionRunning e opened = subst (λ (r : Receipt). Answers r.pdus) (sym by_bringing) says_first

  pub answers_first : is_open (hearing p l).link.phase ≡ true → Answers (hearing p l).pdus
  answers_first opened = subst (λ (r : Receipt). Answers r.pdus) (sym does) (by_phase l.phase refl (subst (λ (r : Receipt). is_open r.link.phase ≡ true) does opened))
    where
      does : hearing p l ≡ admitting (admission RetransmissionRequest l.phase) p l
      does = by_its_state ∙ ap (λ (s : State). by_state s p l) (lives_state l is_in young) ∙ by_connected l.phase refl ∙ by_testing ∙ by_admission

-- ---- the calls of an end that has joined

module _ (now : ℕ) (l : LinkState) (is_in : is_open l.phase ≡ true) (settled_at : IsSettledAt now l) (joined : is_asking l ≡ false) where
  still : (Came : Pdu → Type 0) (MaySpeak : Type 0) → Acts Came MaySpeak l l []
  still Came MaySpeak = rests (record { own_first = refl; reached = refl; waits = λ w. w; joined = λ j. j }) refl (inl refl)

  one_said : (body : Body) → IsSimple body → Row (IsQuiet l.own_first) l.sent (pdu_of (header_of l) l.sent body ∷ []) (l.sent + 1)
  unfolding pdu_of header_of
  one_said body simple = (record { number = refl; simple = simple }, refl)

  ticks_act : is_open (ticking now l).link.phase ≡ true → Acts NothingCame (Unit {0}) l (ticking now l).link (ticking now l).pdus
  unfolding ticking beating telling sending
  ticks_act = entering now l is_in settled_at (λ (s : Step). is_open (then_do s beating).link.phase ≡ true → Acts NothingCame (Unit {0}) l (then_do s beating).link (then_do s beating).pdus)
      (λ o. beats (is_up l.phase && nat_le 300 (l.clock - l.sent_at))) (λ o. absurd (false≢true o))
    where
      beats : (b : Bool) → let s = (if b then sending Heartbeat l else silent l) in Acts NothingCame (Unit {0}) l s.link s.pdus
      beats true = rests (record { own_first = refl; reached = refl; waits = λ w. w; joined = λ j. j }) (one_said Heartbeat tt) (inr tt)
      beats false = still NothingCame (Unit {0})

  opens_act : opens now l ≡ false → is_open (opening now l).link.phase ≡ true → Acts NothingCame (Unit {0}) l (opening now l).link (opening now l).pdus
  unfolding opening opens telling sending
  opens_act = entering now l is_in settled_at (λ (s : Step). may_open s.link ≡ false → is_open (then_do s (λ k. if may_open k then requesting k else silent k)).link.phase ≡ true
      → Acts NothingCame (Unit {0}) l (then_do s (λ k. if may_open k then requesting k else silent k)).link (then_do s (λ k. if may_open k then requesting k else silent k)).pdus)
      (λ not. by_test (may_open l) not) (λ not. shut (may_open told) not)
    where
      told : LinkState
      told = (telling Reason.Sequence l).link

      by_test : (b : Bool) → b ≡ false → let s = (if b then requesting l else silent l) in is_open s.link.phase ≡ true → Acts NothingCame (Unit {0}) l s.link s.pdus
      by_test true e = absurd (false≢true (sym e))
      by_test false e = λ o. still NothingCame (Unit {0})

      shut : (b : Bool) → b ≡ false → let s = (if b then requesting told else silent told) in is_open s.link.phase ≡ true
          → Acts NothingCame (Unit {0}) l s.link ((telling Reason.Sequence l).pdus ++ s.pdus)
      shut true e = absurd (false≢true (sym e))
      shut false e = λ o. absurd (false≢true o)

  sends_act : (item : List ℕ) → is_open (sending_item now item l).link.phase ≡ true → Acts NothingCame (Unit {0}) l (sending_item now item l).link (sending_item now item l).pdus
  unfolding sending_item acceptance giving telling sending
  sends_act item = entering now l is_in settled_at (λ (s : Step). is_open (then_do s (λ k. if is_ok (acceptance k) then giving item k else silent k)).link.phase ≡ true
      → Acts NothingCame (Unit {0}) l (then_do s (λ k. if is_ok (acceptance k) then giving item k else silent k)).link (then_do s (λ k. if is_ok (acceptance k) then giving item k else silent k)).pdus)
      (λ o. given (is_ok (acceptance l))) (λ o. absurd (false≢true o))
    where
      given : (b : Bool) → let s = (if b then giving item l else silent l) in Acts NothingCame (Unit {0}) l s.link s.pdus
      given true = rests (record { own_first = refl; reached = refl; waits = λ w. w; joined = λ j. j }) (one_said (Data (item ∷ [])) tt) (inr tt)
      given false = still NothingCame (Unit {0})

  young_now : l.clock < l.own_stamp + 1800
  young_now = subst (λ (n : ℕ). n < l.own_stamp + 1800) (sym settled_at.clock) settled_at.young

  -- a PDU that is read
  hears_act : (Came : Pdu → Type 0) (MaySpeak : Type 0) (p : Pdu) → Came p → is_open (hearing p l).link.phase ≡ true → Acts Came MaySpeak l (hearing p l).link (hearing p l).pdus
  unfolding hearing
  hears_act Came MaySpeak p came = λ o. choose (p.receiver == l.identity.own) (p.sender == l.identity.partner) refl refl o (hears p l is_in joined young_now)
      (λ receiver sender passes level free body. answers_first p l is_in joined young_now receiver sender passes level free body o)
    where
      no_both : p.body ≡ RetransmissionRequest → p.body ≡ RetransmissionResponse → ⊥
      no_both e f = cc (e, f)

      by_deed : (k : LinkState) (ps : List Pdu) → (p.receiver == l.identity.own) ≡ true → (p.sender == l.identity.partner) ≡ true → is_open k.phase ≡ true → Deed p l k ps
          → (Passes p l → (ahead p l == 0) ≡ true → waits l.phase ≡ false → p.body ≡ RetransmissionRequest → Answers ps) → Acts Came MaySpeak l k ps
      by_deed k ps receiver sender opened (leaves why left) first = absurd (false≢true (sym left.is_out ∙ opened))
      by_deed k ps receiver sender opened (keeps why same none) first =
          subst (λ (j : LinkState). Acts Came MaySpeak l j ps) (sym same) (subst (λ (qs : List Pdu). Acts Came MaySpeak l l qs) (sym none) (still Came MaySpeak))
      by_deed k ps receiver sender opened (asks passes apart a) first = misses joined p came receiver sender passes apart a
      by_deed k ps receiver sender opened (takes passes t) first = hears_one joined p came receiver sender passes t (λ body. answered body t.turn)
        where
          answered : p.body ≡ RetransmissionRequest → (p.body ≡ RetransmissionResponse) ⊎ InTurn p l → Answers ps
          answered body (inl response) = absurd (no_both body response)
          answered body (inr turn) = first passes turn.0 turn.1 body

      choose : (a b : Bool) → (p.receiver == l.identity.own) ≡ a → (p.sender == l.identity.partner) ≡ b
          → let r = (if not a then refusing Verdict.NotForMe l else if not b then refusing Verdict.WrongSender l else by_state (state_at l.clock l) p l)
          in is_open r.link.phase ≡ true → Deed p l r.link r.pdus
          → ((p.receiver == l.identity.own) ≡ true → (p.sender == l.identity.partner) ≡ true → Passes p l → (ahead p l == 0) ≡ true → waits l.phase ≡ false → p.body ≡ RetransmissionRequest → Answers r.pdus)
          → Acts Came MaySpeak l r.link r.pdus
      choose false b e f = λ o deed first. still Came MaySpeak
      choose true false e f = λ o deed first. still Came MaySpeak
      choose true true e f = λ o deed first. by_deed (by_state (state_at l.clock l) p l).link (by_state (state_at l.clock l) p l).pdus e f o deed (first e f)

  receives_act : (MaySpeak : Type 0) (bytes : List ℕ) → is_open (receiving now bytes l).link.phase ≡ true → Acts (Read l bytes) MaySpeak l (receiving now bytes l).link (receiving now bytes l).pdus
  unfolding receiving hearing_bytes
  receives_act MaySpeak bytes = entering now l is_in settled_at (λ (s : Step). is_open (hearing_bytes (reading l.identity.key bytes) s.link).link.phase ≡ true
      → Acts (Read l bytes) MaySpeak l (hearing_bytes (reading l.identity.key bytes) s.link).link (s.pdus ++ (hearing_bytes (reading l.identity.key bytes) s.link).pdus))
      (by_reading (reading l.identity.key bytes) refl)
      (λ o. absurd (false≢true (sym (stays_shut (reading l.identity.key bytes) (telling Reason.Sequence l).link (told_shut l).0 (told_shut l).1) ∙ o)))
    where
      by_reading : (what : Result Pdu PduFault) → reading l.identity.key bytes ≡ what → is_open (hearing_bytes what l).link.phase ≡ true
          → Acts (Read l bytes) MaySpeak l (hearing_bytes what l).link (hearing_bytes what l).pdus
      by_reading (Err fault) e o = still (Read l bytes) MaySpeak
      by_reading (Ok p) e o = hears_act (Read l bytes) MaySpeak p e o

-- whether an end may say something quiet in a call that answers nothing
abbrev pub MaySpeakIn : Call → LinkState → Type 0
MaySpeakIn Ticks l = Unit {0}
MaySpeakIn Opens l = Unit {0}
MaySpeakIn (Closes why) l = Unit {0}
MaySpeakIn (Sends item) l = Unit {0}
MaySpeakIn (Receives bytes connection) l = is_asking l ≡ true

-- a call of an end that has joined
pub acts_by : (call : Call) (moment : ℕ) (end : EndState) → is_open end.link.phase ≡ true → IsSettledAt (reading_of end.clock) end.link → is_asking end.link ≡ false
    → (outcome call moment end).enters ≡ None → is_open (outcome call moment end).link.phase ≡ true
    → Acts (CameBy end.link call) (MaySpeakIn call end.link) end.link (outcome call moment end).link (outcome call moment end).pdus
unfolding outcome
acts_by Ticks moment end is_in at joined none opened = ticks_act (reading_of end.clock) end.link is_in at joined opened
acts_by Opens moment end is_in at joined none opened = opens_act (reading_of end.clock) end.link is_in at joined (not_entered (opens (reading_of end.clock) end.link) moment none) opened
acts_by (Closes why) moment end is_in at joined none opened = absurd (closing_shuts (reading_of end.clock) end.link is_in at why opened)
acts_by (Sends item) moment end is_in at joined none opened = sends_act (reading_of end.clock) end.link is_in at joined item opened
acts_by (Receives bytes connection) moment end is_in at joined none opened = receives_act (reading_of end.clock) end.link is_in at joined (is_asking end.link ≡ true) bytes opened

-- ---- a client that asks for the connection doesn't wait

shut_never : (k : LinkState) → is_open k.phase ≡ false → IsWaiting k → ⊥
shut_never k shut waiting = false≢true (sym shut ∙ ap is_open waiting)

pub start_never : (k : LinkState) → is_asking k ≡ true → IsWaiting k → ⊥
start_never k asking_now waiting = false≢true (grind (arith, waiting, asking_now))

module _ (p : Pdu) (l : LinkState) (asks_now : is_asking l ≡ true) where
  violating_never : IsWaiting (violating l).link → ⊥
  unfolding telling sending
  violating_never = shut_never (violating l).link refl

  joining_never : (o : Opening) → IsWaiting (accepting (joining p o l)).link → ⊥
  unfolding joining judging meeting sending telling
  joining_never o = choose (pointwise nat_eq o.version own_version) (o.window == window_size)
    where
      met : LinkState
      met = record (meeting p l) { phase = Phase.Up }

      up_never : Phase.Up ≡ Phase.RetransmissionRequested → ⊥
      up_never e = cc e

      choose : (a b : Bool) → IsWaiting (accepting (if a then (if b then sending Heartbeat met else telling Reason.Window met) else telling Reason.Version met)).link → ⊥
      choose true true = up_never
      choose true false = shut_never (telling Reason.Window met).link refl
      choose false b = shut_never (telling Reason.Version met).link refl

  asking_never : (b : Body) → IsWaiting (asking b p l).link → ⊥
  unfolding asking
  asking_never (ConnectionResponse o) = choose (answers_request p l)
    where
      choose : (b : Bool) → IsWaiting (if b then accepting (joining p o l) else refusing Verdict.BadConfirm l).link → ⊥
      choose true = joining_never o
      choose false = start_never l asks_now
  asking_never (DisconnectionRequest d r) = choose (answers_request p l)
    where
      choose : (b : Bool) → IsWaiting (if b then accepting (silent (closed l)) else refusing Verdict.BadConfirm l).link → ⊥
      choose true = shut_never (closed l) refl
      choose false = start_never l asks_now
  asking_never (ConnectionRequest o) = violating_never
  asking_never RetransmissionRequest = violating_never
  asking_never RetransmissionResponse = violating_never
  asking_never Heartbeat = violating_never
  asking_never (Data x) = violating_never
  asking_never (RetransmittedData x) = violating_never

  hearing_never : Asks l.clock l → IsWaiting (hearing p l).link → ⊥
  unfolding hearing by_state
  hearing_never is = choose (p.receiver == l.identity.own) (p.sender == l.identity.partner)
    where
      starts : IsWaiting (by_state State.Start p l).link → ⊥
      starts = subst (λ (b : Bool). IsWaiting (if b then asking p.body p l else connected p.body p l).link → ⊥) (sym is.client) (asking_never p.body)

      state_is : state_at l.clock l ≡ State.Start
      state_is = lives_state l (ap is_open is.starts) is.young ∙ ap open_state is.starts

      choose : (a b : Bool) → IsWaiting (if not a then refusing Verdict.NotForMe l else if not b then refusing Verdict.WrongSender l else by_state (state_at l.clock l) p l).link → ⊥
      choose false b = start_never l asks_now
      choose true false = start_never l asks_now
      choose true true = subst (λ (s : State). IsWaiting (by_state s p l).link → ⊥) (sym state_is) starts

module _ (now : ℕ) (l : LinkState) (is_in : is_open l.phase ≡ true) (settled_at : IsSettledAt now l) (own : l.own_stamp ≤ now) (asks_now : is_asking l ≡ true) where
  receiving_never : (bytes : List ℕ) → IsWaiting (receiving now bytes l).link → ⊥
  unfolding receiving hearing_bytes
  receiving_never bytes = entering now l is_in settled_at (λ (s : Step). IsWaiting (hearing_bytes (reading l.identity.key bytes) s.link).link → ⊥)
      (by_reading (reading l.identity.key bytes))
      (shut_never (hearing_bytes (reading l.identity.key bytes) (telling Reason.Sequence l).link).link (stays_shut (reading l.identity.key bytes) (telling Reason.Sequence l).link (told_shut l).0 (told_shut l).1))
    where
      by_reading : (what : Result Pdu PduFault) → IsWaiting (hearing_bytes what l).link → ⊥
      by_reading (Err fault) = start_never l asks_now
      by_reading (Ok p) = hearing_never p l asks_now (asking_is l.clock l refl asks_now (subst (λ (n : ℕ). n < l.own_stamp + 1800) (sym settled_at.clock) settled_at.young)
          (subst (λ (n : ℕ). l.own_stamp ≤ n) (sym settled_at.clock) own))

receives_never : (call : Call) (moment : ℕ) (end : EndState) → is_open end.link.phase ≡ true → IsSettledAt (reading_of end.clock) end.link → end.link.own_stamp ≤ reading_of end.clock
    → is_asking end.link ≡ true → (p : Pdu) → CameBy end.link call p → IsWaiting (outcome call moment end).link → ⊥
unfolding outcome
receives_never Ticks moment end is_in at own asks_now p came = absurd came
receives_never Opens moment end is_in at own asks_now p came = absurd came
receives_never (Closes why) moment end is_in at own asks_now p came = absurd came
receives_never (Sends item) moment end is_in at own asks_now p came = absurd came
receives_never (Receives bytes connection) moment end is_in at own asks_now p came = receiving_never (reading_of end.clock) end.link is_in at own asks_now bytes

quiet_row : (first : ℕ) (h : Header) → h.first_sequence_number ≡ first → (n : ℕ) (ps : List Pdu) (last : ℕ) → Says IsSimple h n ps last → Row (IsQuiet first) n ps last
unfolding pdu_of
quiet_row first h same n [] last says = says
quiet_row first h same n (p ∷ ps) last says = (
  record { number = ap (λ (q : Pdu). q.sequence_number) says.0 ∙ ap (λ (f : ℕ). wire f n) same; simple = says.1 },
  quiet_row first h same (n + 1) ps last says.2,
)

header_first : (k : LinkState) → (header_of k).first_sequence_number ≡ k.own_first
unfolding header_of
header_first k = refl

-- a call of such a client
pub asking_acts_by : (call : Call) (moment : ℕ) (end : EndState) → is_open end.link.phase ≡ true → IsSettledAt (reading_of end.clock) end.link → end.link.own_stamp ≤ reading_of end.clock
    → is_asking end.link ≡ true → (outcome call moment end).enters ≡ None → is_open (outcome call moment end).link.phase ≡ true
    → (outcome call moment end).link.own_first ≡ end.link.own_first
    → Acts (CameBy end.link call) (MaySpeakIn call end.link) end.link (outcome call moment end).link (outcome call moment end).pdus
asking_acts_by call moment end is_in at own asks_now none opened same_first = choose (ask_moves_by call moment end is_in at own asks_now none opened)
  where
    joined_before : (k : LinkState) → is_asking k ≡ false → k.expected ≡ 1 → reached_by k ≡ reached_by end.link
    joined_before k not one = ap (λ (b : Bool). if b then 1 else k.expected) not ∙ one ∙ sym (ap (λ (b : Bool). if b then 1 else end.link.expected) asks_now)

    may_speak : (c : Call) → MaySpeakIn c end.link
    may_speak Ticks = tt
    may_speak Opens = tt
    may_speak (Closes why) = tt
    may_speak (Sends item) = tt
    may_speak (Receives bytes connection) = asks_now

    choose : AskMoved (CameBy end.link call) end.link (outcome call moment end).link (outcome call moment end).pdus
        → Acts (CameBy end.link call) (MaySpeakIn call end.link) end.link (outcome call moment end).link (outcome call moment end).pdus
    choose (asks_on same quiet) = rests
        (record { own_first = same_first; reached = ap reached_by same; waits = λ w. sym (ap (λ (k : LinkState). k.phase) same) ∙ w; joined = λ j. absurd (false≢true (sym j ∙ asks_now)) })
        (subst (λ (ps : List Pdu). Row (IsQuiet end.link.own_first) end.link.sent ps (outcome call moment end).link.sent) (sym quiet) (sym (ap (λ (k : LinkState). k.sent) same)))
        (inl quiet)
    choose (joins_by p came receiver sender clock joined own_is sent met) = rests
        (record {
          own_first = same_first;
          reached = joined_before (outcome call moment end).link joined met.expected;
          waits = λ w. absurd (receives_never call moment end is_in at own asks_now p came w);
          joined = λ j. absurd (false≢true (sym j ∙ asks_now));
        })
        (quiet_row end.link.own_first (header_of (outcome call moment end).link) (header_first (outcome call moment end).link ∙ same_first) end.link.sent (outcome call moment end).pdus
        (outcome call moment end).link.sent met.says)
        (inr (may_speak call))
