-- What a link counts over its calls: the items that it has taken and given in its connection, and those that wait.
use Rattle.simulator_recovery.proofs.Words.Basics.{◌≡◌, ℕ, ◌∙◌, ◌+◌, ◌-◌, ◌≤◌, ◌<◌, ◌⊎◌, inl, inr, Bool, true, false, not, ◌&&◌, ◌==◌, nat_lt, nat_le, List, [], ◌∷◌, length, Result, Ok, Err, if◌then◌else◌, refl, sym, ap, subst, arith, leb-false, suc, is_ok, nat_eq, pointwise, false≢true, nat_tests}
use Rattle.simulator_recovery.proofs.Words.Links.{acceptance, answer_to_send, closing_by, hearing_bytes, opening, receiving, sending_item, ticking, deadline, open_state, settled, state_at, beginning, granting, joining, judging, may_open, meeting, own_opening, requesting, connection_limit, own_version, sequence_range, stops_at_greatest, window_size, Step, beating, closing, entered, giving, is_told, limited, sending, silent, telling, Receipt, accepting, admission, admitting, ahead, answering, answers_request, asking, behind, bringing, by_state, confirms, connected, handing, hearing, in_turn, is_opening_again, is_stale, missing, refusing, repeating, resting, retagged, still_waiting, taking, testing, violating, LinkState, is_client, is_open, is_up, Phase, State, Reason, Verdict, Unconfirmed, reading, Body, ConnectionRequest, ConnectionResponse, Data, DisconnectionRequest, Heartbeat, RetransmissionRequest, RetransmissionResponse, RetransmittedData, Opening, PduFault, Pdu}
use Rattle.simulator_recovery.proofs.Words.Recovery.{HasCounted}
use Rattle.simulator_recovery.proofs.Lemmas.Ground.EndCalls.{count_push}
use Rattle.simulator_recovery.proofs.Lemmas.Ground.DueTests.{none_more}

-- ---- numbers and lists

stops_twice : (n m : ℕ) → stops_at_greatest (stops_at_greatest n + m) ≡ stops_at_greatest (n + m)
stops_twice n m = grind arith

fewer_wait : (confirmed : ℕ) (waiting : List Unconfirmed) → length (still_waiting confirmed waiting) ≤ length waiting
unfolding still_waiting
fewer_wait confirmed [] = omega arith
fewer_wait confirmed (first ∷ others) = choose (nat_le first.tag confirmed) (fewer_wait confirmed others)
  where
    choose : (b : Bool) → length (still_waiting confirmed others) ≤ length others → length (if b then still_waiting confirmed others else first ∷ others) ≤ length (first ∷ others)
    choose true few = omega (arith, few)
    choose false few = omega arith

as_many_again : (count : ℕ) (waiting : List Unconfirmed) → length (retagged count waiting) ≡ length waiting
unfolding retagged
as_many_again count [] = refl
as_many_again count (first ∷ others) = ap suc (as_many_again (count + 1) others)

-- ---- how a call begins

pub settled_open : (now : ℕ) (l : LinkState) → is_open (settled now l).phase ≡ true → (settled now l ≡ record l { clock = now }) × (is_open l.phase ≡ true) × (now < deadline l)
unfolding settled
settled_open now l = choose (is_open l.phase) (nat_le (deadline l) now) refl refl
  where
    over : LinkState
    over = record l { phase = Phase.Closed; closed_at = deadline l; clock = now }

    choose : (a b : Bool) → is_open l.phase ≡ a → nat_le (deadline l) now ≡ b → is_open (if a && b then over else record l { clock = now }).phase ≡ true
        → ((if a && b then over else record l { clock = now }) ≡ record l { clock = now }) × (is_open l.phase ≡ true) × (now < deadline l)
    choose true true f g e = absurd (false≢true e)
    choose true false f g e = (refl, f, leb-false _ _ g)
    choose false b f g e = absurd (false≢true (sym f ∙ e))

-- the clock rules of one reading are applied once
pub settled_twice : (now : ℕ) (l : LinkState) → settled now (settled now l) ≡ settled now l
unfolding settled deadline
settled_twice now l = choose (is_open l.phase && nat_le (deadline l) now) refl
  where
    choose : (b : Bool) → (is_open l.phase && nat_le (deadline l) now) ≡ b
        → settled now (if b then record l { phase = Phase.Closed; closed_at = deadline l; clock = now } else record l { clock = now }) ≡ (if b then record l { phase = Phase.Closed; closed_at = deadline l; clock = now } else record l { clock = now })
    choose true e = refl
    choose false e = rw e refl

pub settled_closed : (now : ℕ) (l : LinkState) → is_open l.phase ≡ false → settled now l ≡ record l { clock = now }
unfolding settled
settled_closed now l e = rw e refl

pub limited_open : (l : LinkState) → is_open (limited l).link.phase ≡ true → limited l ≡ silent l
unfolding limited telling sending
limited_open l = choose (is_open l.phase) (nat_le connection_limit l.sent)
  where
    choose : (a b : Bool) → is_open (if a && b then telling Reason.Sequence l else silent l).link.phase ≡ true → (if a && b then telling Reason.Sequence l else silent l) ≡ silent l
    choose true true e = absurd (false≢true e)
    choose true false e = refl
    choose false b e = refl

pub entered_closed : (now : ℕ) (l : LinkState) → is_open l.phase ≡ false → entered now l ≡ silent (record l { clock = now })
unfolding entered limited
entered_closed now l e = ap limited (settled_closed now l e) ∙ rw e refl

pub entered_open : (now : ℕ) (l : LinkState) → is_open (entered now l).link.phase ≡ true → (entered now l ≡ silent (record l { clock = now })) × (is_open l.phase ≡ true) × (now < deadline l)
unfolding entered
entered_open now l e =
    let limit = limited_open (settled now l) e
    in let s = settled_open now l (ap (λ (x : Step). is_open x.link.phase) (sym limit) ∙ e)
    in (limit ∙ ap silent s.0, s.1, s.2)

-- ---- what an end says

pub send_was_open : (now : ℕ) (item : List ℕ) (l : LinkState) → is_open (sending_item now item l).link.phase ≡ true → (entered now l ≡ silent (record l { clock = now })) × (is_open l.phase ≡ true) × (now < deadline l)
unfolding sending_item giving sending
send_was_open now item l e = entered_open now l (ap is_open (sym (same_phase (entered now l).link (is_ok (acceptance (entered now l).link)))) ∙ e)
  where
    same_phase : (x : LinkState) (b : Bool) → (if b then giving item x else silent x).link.phase ≡ x.phase
    same_phase x true = refl
    same_phase x false = refl

pub send_phase : (now : ℕ) (item : List ℕ) (l : LinkState) → is_open (sending_item now item l).link.phase ≡ true → (sending_item now item l).link.phase ≡ l.phase
unfolding sending_item giving sending
send_phase now item l e = ap (λ (s : Step). (if is_ok (acceptance s.link) then giving item s.link else silent s.link).link.phase) (send_was_open now item l e).0 ∙ same (is_ok (acceptance (record l { clock = now })))
  where
    same : (b : Bool) → (if b then giving item (record l { clock = now }) else silent (record l { clock = now })).link.phase ≡ l.phase
    same true = refl
    same false = refl

-- after an item that was sent, or refused, the end is in its connection as before
pub record AfterSend (now : ℕ) (item : List ℕ) (taken given : ℕ) (l : LinkState) : Type 0 where
  pub phase_is : (sending_item now item l).link.phase ≡ l.phase
  pub counts : HasCounted taken (if is_ok (answer_to_send now l) then given + 1 else given) (sending_item now item l).link
  -- where it is up and the window has room, the item was accepted
  pub surely : is_up l.phase ≡ true → length l.waiting < window_size → is_ok (answer_to_send now l) ≡ true

pub send_counts : (now : ℕ) (item : List ℕ) (l : LinkState) (taken given : ℕ) → is_open (sending_item now item l).link.phase ≡ true → HasCounted taken given l → AfterSend now item taken given l
unfolding sending_item answer_to_send acceptance giving sending
send_counts now item l taken given e has = record {
  phase_is = ap (λ (s : Step). (done s.link).phase) opened.0 ∙ by_answer (is_ok (acceptance at));
  counts = subst (λ (s : Step). HasCounted taken (if is_ok (acceptance s.link) then given + 1 else given) (done s.link)) (sym opened.0) (counted (is_ok (acceptance at)));
  surely = λ up few. ap (λ (s : Step). is_ok (acceptance s.link)) opened.0 ∙ accepts up few;
}
  where
    at : LinkState
    at = record l { clock = now }

    done : LinkState → LinkState
    done x = (if is_ok (acceptance x) then giving item x else silent x).link

    opened : (entered now l ≡ silent at) × (is_open l.phase ≡ true) × (now < deadline l)
    opened = send_was_open now item l e

    by_answer : (b : Bool) → (if b then giving item at else silent at).link.phase ≡ l.phase
    by_answer true = refl
    by_answer false = refl

    counted : (b : Bool) → HasCounted taken (if b then given + 1 else given) (if b then giving item at else silent at).link
    counted true = record { taken_is = has.taken_is; given_is = ap (λ (n : ℕ). stops_at_greatest (n + 1)) has.given_is ∙ stops_twice given 1; waiting = let w = has.waiting in let more = count_push l.waiting (record { tag = l.sent; item = item }) in omega (arith, w, more) }
    counted false = record { taken_is = has.taken_is; given_is = has.given_is; waiting = has.waiting }

    accepts : is_up l.phase ≡ true → length l.waiting < window_size → is_ok (acceptance at) ≡ true
    accepts up few = rw (up, free) refl
      where
        free : nat_lt (length l.waiting) window_size ≡ true
        free = grind (arith, nat_tests, few)

pub tick_was_open : (now : ℕ) (l : LinkState) → is_open (ticking now l).link.phase ≡ true → (entered now l ≡ silent (record l { clock = now })) × (is_open l.phase ≡ true) × (now < deadline l)
unfolding ticking beating sending
tick_was_open now l e = entered_open now l (ap is_open (sym (same_phase (entered now l).link (is_up (entered now l).link.phase && nat_le 300 ((entered now l).link.clock - (entered now l).link.sent_at)))) ∙ e)
  where
    same_phase : (x : LinkState) (b : Bool) → (if b then sending Heartbeat x else silent x).link.phase ≡ x.phase
    same_phase x true = refl
    same_phase x false = refl

pub tick_counts : (now : ℕ) (l : LinkState) (taken given : ℕ) → is_open (ticking now l).link.phase ≡ true → HasCounted taken given l
    → ((ticking now l).link.phase ≡ l.phase) × (is_open l.phase ≡ true) × HasCounted taken given (ticking now l).link
unfolding ticking beating sending
tick_counts now l taken given e has = subst (λ (s : Step). ((beating s.link).link.phase ≡ l.phase) × (is_open l.phase ≡ true) × HasCounted taken given (beating s.link).link) (sym opened.0)
    (same_phase at due, opened.1, counted due)
  where
    at : LinkState
    at = record l { clock = now }

    due : Bool
    due = is_up l.phase && nat_le 300 (now - l.sent_at)

    same_phase : (x : LinkState) (b : Bool) → (if b then sending Heartbeat x else silent x).link.phase ≡ x.phase
    same_phase x true = refl
    same_phase x false = refl

    opened : (entered now l ≡ silent at) × (is_open l.phase ≡ true) × (now < deadline l)
    opened = tick_was_open now l e

    counted : (b : Bool) → HasCounted taken given (if b then sending Heartbeat at else silent at).link
    counted true = record { taken_is = has.taken_is; given_is = has.given_is; waiting = has.waiting }
    counted false = record { taken_is = has.taken_is; given_is = has.given_is; waiting = has.waiting }

-- a close leaves no connection
pub close_closes : (now : ℕ) (why : Reason) (l : LinkState) → is_open (closing_by now why l).link.phase ≡ false
unfolding closing_by closing telling sending
close_closes now why l = choose (is_open (entered now l).link.phase) refl (is_told why)
  where
    k : LinkState
    k = (entered now l).link

    choose : (a : Bool) → is_open k.phase ≡ a → (b : Bool) → is_open (if a then (if b then telling why k else silent (record k { phase = Phase.Closed; closed_at = k.clock })) else silent k).link.phase ≡ false
    choose true e true = refl
    choose true e false = refl
    choose false e b = e

-- a client opens, or not
pub open_counts : (now : ℕ) (l : LinkState) (taken given : ℕ) → is_open (opening now l).link.phase ≡ true → (is_open l.phase ≡ true → HasCounted taken given l)
    → ((is_open l.phase ≡ true) × ((opening now l).link.phase ≡ l.phase) × HasCounted taken given (opening now l).link) ⊎ (((opening now l).link.phase ≡ Phase.Start) × HasCounted 0 0 (opening now l).link)
unfolding opening requesting beginning sending
open_counts now l taken given e has = choose (may_open k) e
  where
    k : LinkState
    k = (entered now l).link

    choose : (b : Bool) → is_open (if b then requesting k else silent k).link.phase ≡ true
        → ((is_open l.phase ≡ true) × ((if b then requesting k else silent k).link.phase ≡ l.phase) × HasCounted taken given (if b then requesting k else silent k).link)
        ⊎ (((if b then requesting k else silent k).link.phase ≡ Phase.Start) × HasCounted 0 0 (if b then requesting k else silent k).link)
    choose true f = inr (refl, record { taken_is = refl; given_is = refl; waiting = omega arith })
    choose false f =
        let opened = entered_open now l f
        in let had = has opened.1
        in inl (subst (λ (s : Step). (is_open l.phase ≡ true) × (s.link.phase ≡ l.phase) × HasCounted taken given s.link) (sym opened.0)
        (opened.1, refl, record { taken_is = had.taken_is; given_is = had.given_is; waiting = had.waiting }))

-- ---- what comes

-- What becomes of a PDU at an end in a connection, where it stays in it: items go to the user, if it is up.
record Comes (taken given : ℕ) (l : LinkState) (r : Receipt) : Type 0 where
  counts : HasCounted (taken + length r.items) given r.link
  up : (r.items ≡ []) ⊎ (is_up r.link.phase ≡ true)
  stays_up : is_up l.phase ≡ true → is_up r.link.phase ≡ true
  -- it gives nothing, and no more items wait
  same : r.link.given ≡ l.given
  fewer : length r.link.waiting ≤ length l.waiting

module _ (taken given : ℕ) (p : Pdu) (l : LinkState) (has : HasCounted taken given l) (connected_is : is_open l.phase ≡ true) where
  abbrev Fine : Receipt → Type 0
  Fine r = is_open r.link.phase ≡ true → Comes taken given l r

  fine_silent : (k : LinkState) → k.taken ≡ l.taken → k.given ≡ l.given → length k.waiting ≤ length l.waiting → (is_up l.phase ≡ true → is_up k.phase ≡ true) → (r : Receipt) → r.link ≡ k → r.items ≡ [] → Fine r
  fine_silent k t g w up r e none f = record {
    counts = record {
      taken_is = ap (λ (x : LinkState). x.taken) e ∙ t ∙ has.taken_is ∙ ap stops_at_greatest (sym (ap (λ (list : List (List ℕ)). taken + length list) none ∙ none_more taken));
      given_is = ap (λ (x : LinkState). x.given) e ∙ g ∙ has.given_is;
      waiting = let had = has.waiting in let same = ap (λ (x : LinkState). length x.waiting) e in omega (arith, w, had, same);
    };
    up = inl none;
    stays_up = λ u. ap (λ (x : LinkState). is_up x.phase) e ∙ up u;
    same = ap (λ (x : LinkState). x.given) e ∙ g;
    fewer = let as_many = ap (λ (x : LinkState). length x.waiting) e in omega (arith, w, as_many);
  }

  refused : (r : Receipt) → r.link ≡ l → r.items ≡ [] → Fine r
  refused r e none = fine_silent l refl refl (omega arith) (λ u. u) r e none

  violated : Fine (violating l)
  unfolding telling sending
  violated f = absurd (false≢true f)

  fewer : length (still_waiting (l.sent - 1 - behind p l) l.waiting) ≤ length l.waiting
  fewer = fewer_wait (l.sent - 1 - behind p l) l.waiting

  resumed : Fine (accepting (silent (record (taking p l) { phase = Phase.RetransmissionRunning })))
  unfolding taking
  resumed = fine_silent (record (taking p l) { phase = Phase.RetransmissionRunning }) refl refl fewer (λ u. refl) (accepting (silent (record (taking p l) { phase = Phase.RetransmissionRunning }))) refl refl

  closed_by : Fine (accepting (silent (record (taking p l) { phase = Phase.Closed; closed_at = l.clock })))
  unfolding taking
  closed_by f = absurd (false≢true f)

  missed : Fine (missing l)
  unfolding missing sending
  missed = fine_silent (missing l).link refl refl (omega arith) (λ u. refl) (missing l) refl refl

  -- items are handed out at an end that is up
  handed : (items : List (List ℕ)) (k : LinkState) → k.taken ≡ l.taken → k.given ≡ l.given → length k.waiting ≤ length l.waiting → is_up k.phase ≡ true → Fine (handing items k)
  unfolding handing
  handed items k t g w up f = record {
    counts = record {
      taken_is = ap (λ (n : ℕ). stops_at_greatest (n + length items)) (t ∙ has.taken_is) ∙ stops_twice taken (length items);
      given_is = g ∙ has.given_is;
      waiting = let had = has.waiting in omega (arith, w, had);
    };
    up = inr up;
    stays_up = λ u. up;
    same = g;
    fewer = w;
  }

  answered : Fine (accepting (answering (taking p l)))
  unfolding answering repeating sending taking
  answered = fine_silent (answering (taking p l)).link refl refl (let many = as_many_again (l.sent + 1) (still_waiting (l.sent - 1 - behind p l) l.waiting) in let few = fewer in omega (arith, many, few)) (λ u. u) (accepting (answering (taking p l))) refl refl

  comes_up : Fine (accepting (silent (record (taking p l) { phase = Phase.Up })))
  unfolding taking
  comes_up = fine_silent (record (taking p l) { phase = Phase.Up }) refl refl fewer (λ u. refl) (accepting (silent (record (taking p l) { phase = Phase.Up }))) refl refl

  -- what it brings, in its turn
  brings : (body : Body) → ((items : List (List ℕ)) → body ≡ RetransmittedData items → is_up l.phase ≡ true) → Fine (bringing body (taking p l))
  unfolding bringing taking
  brings (ConnectionRequest o) again = comes_up
  brings (ConnectionResponse o) again = comes_up
  brings RetransmissionRequest again = answered
  brings RetransmissionResponse again = comes_up
  brings (DisconnectionRequest d r) again = comes_up
  brings Heartbeat again = comes_up
  brings (Data items) again = handed items (record (taking p l) { phase = Phase.Up }) refl refl fewer refl
  brings (RetransmittedData items) again = handed items (taking p l) refl refl fewer (again items refl)

  turns : ((items : List (List ℕ)) → p.body ≡ RetransmittedData items → is_up l.phase ≡ true) → Fine (in_turn p l)
  unfolding in_turn
  turns again = choose (ahead p l == 0)
    where
      choose : (b : Bool) → Fine (if b then bringing p.body (taking p l) else missing l)
      choose true = brings p.body again
      choose false = missed

  no_again : {A : Type 0} (body : Body) → p.body ≡ body → ((items : List (List ℕ)) → body ≡ RetransmittedData items → A) → (items : List (List ℕ)) → p.body ≡ RetransmittedData items → A
  no_again body e other items f = other items (sym e ∙ f)

  -- by what may come in a phase
  admits : (body : Body) → p.body ≡ body → (at : Phase) → l.phase ≡ at → Fine (admitting (admission body at) p l)
  unfolding admitting taking
  admits (ConnectionRequest o) e at f = violated
  admits (ConnectionResponse o) e at f = violated
  admits RetransmissionRequest e Phase.Closed f = turns (no_again RetransmissionRequest e (λ items g. absurd (cc g)))
  admits RetransmissionRequest e Phase.Start f = violated
  admits RetransmissionRequest e Phase.Up f = turns (no_again RetransmissionRequest e (λ items g. absurd (cc g)))
  admits RetransmissionRequest e Phase.RetransmissionRequested f = refused (refusing Verdict.Discarded l) refl refl
  admits RetransmissionRequest e Phase.RetransmissionRunning f = turns (no_again RetransmissionRequest e (λ items g. absurd (cc g)))
  admits RetransmissionResponse e Phase.Closed f = violated
  admits RetransmissionResponse e Phase.Start f = violated
  admits RetransmissionResponse e Phase.Up f = violated
  admits RetransmissionResponse e Phase.RetransmissionRequested f = resumed
  admits RetransmissionResponse e Phase.RetransmissionRunning f = violated
  admits (DisconnectionRequest d r) e at f = closed_by
  admits Heartbeat e Phase.RetransmissionRequested f = refused (refusing Verdict.Discarded l) refl refl
  admits Heartbeat e Phase.Closed f = turns (no_again Heartbeat e (λ items g. absurd (cc g)))
  admits Heartbeat e Phase.Start f = turns (no_again Heartbeat e (λ items g. absurd (cc g)))
  admits Heartbeat e Phase.Up f = turns (no_again Heartbeat e (λ items g. absurd (cc g)))
  admits Heartbeat e Phase.RetransmissionRunning f = turns (no_again Heartbeat e (λ items g. absurd (cc g)))
  admits (Data x) e Phase.RetransmissionRequested f = refused (refusing Verdict.Discarded l) refl refl
  admits (Data x) e Phase.Closed f = turns (no_again (Data x) e (λ items g. absurd (cc g)))
  admits (Data x) e Phase.Start f = turns (no_again (Data x) e (λ items g. absurd (cc g)))
  admits (Data x) e Phase.Up f = turns (no_again (Data x) e (λ items g. absurd (cc g)))
  admits (Data x) e Phase.RetransmissionRunning f = turns (no_again (Data x) e (λ items g. absurd (cc g)))
  admits (RetransmittedData x) e Phase.Closed f = violated
  admits (RetransmittedData x) e Phase.Start f = violated
  admits (RetransmittedData x) e Phase.Up f = violated
  admits (RetransmittedData x) e Phase.RetransmissionRequested f = refused (refusing Verdict.Discarded l) refl refl
  admits (RetransmittedData x) e Phase.RetransmissionRunning f = turns (λ items g. ap is_up f)

  tests : Fine (testing p l)
  unfolding testing
  tests = choose (nat_lt sequence_range (ahead p l)) (is_stale p l) (confirms p l)
    where
      choose : (a b d : Bool) → Fine (if a then refusing Verdict.OutOfRange l else if b then refusing Verdict.Stale l else if not d then refusing Verdict.BadConfirm l else admitting (admission p.body l.phase) p l)
      choose true b d = refused (refusing Verdict.OutOfRange l) refl refl
      choose false true d = refused (refusing Verdict.Stale l) refl refl
      choose false false false = refused (refusing Verdict.BadConfirm l) refl refl
      choose false false true = admits p.body refl l.phase refl

  connects : (body : Body) → Fine (connected body p l)
  unfolding connected
  connects (ConnectionRequest o) = choose (is_opening_again p l)
    where
      choose : (b : Bool) → Fine (if b then refusing Verdict.Discarded l else violating l)
      choose true = refused (refusing Verdict.Discarded l) refl refl
      choose false = violated
  connects (ConnectionResponse o) = tests
  connects RetransmissionRequest = tests
  connects RetransmissionResponse = tests
  connects (DisconnectionRequest d r) = tests
  connects Heartbeat = tests
  connects (Data x) = tests
  connects (RetransmittedData x) = tests

  -- a client that asked
  joins : (o : Opening) → Fine (accepting (joining p o l))
  unfolding joining judging meeting sending telling
  joins o = choose (pointwise nat_eq o.version own_version) (o.window == window_size)
    where
      met : LinkState
      met = record (meeting p l) { phase = Phase.Up }

      choose : (a b : Bool) → Fine (accepting (if a then (if b then sending Heartbeat met else telling Reason.Window met) else telling Reason.Version met))
      choose true true = fine_silent (sending Heartbeat met).link refl refl (omega arith) (λ u. refl) (accepting (sending Heartbeat met)) refl refl
      choose true false = λ f. absurd (false≢true f)
      choose false b = λ f. absurd (false≢true f)

  asks : (body : Body) → Fine (asking body p l)
  unfolding asking
  asks (ConnectionResponse o) = choose (answers_request p l)
    where
      choose : (b : Bool) → Fine (if b then accepting (joining p o l) else refusing Verdict.BadConfirm l)
      choose true = joins o
      choose false = refused (refusing Verdict.BadConfirm l) refl refl
  asks (DisconnectionRequest d r) = choose (answers_request p l)
    where
      choose : (b : Bool) → Fine (if b then accepting (silent (record l { phase = Phase.Closed; closed_at = l.clock })) else refusing Verdict.BadConfirm l)
      choose true = λ f. absurd (false≢true f)
      choose false = refused (refusing Verdict.BadConfirm l) refl refl
  asks (ConnectionRequest o) = violated
  asks RetransmissionRequest = violated
  asks RetransmissionResponse = violated
  asks Heartbeat = violated
  asks (Data x) = violated
  asks (RetransmittedData x) = violated

  by_phase : (at : Phase) → l.phase ≡ at → Fine (by_state (open_state at) p l)
  unfolding by_state
  by_phase Phase.Closed e = absurd (false≢true (sym (ap is_open e) ∙ connected_is))
  by_phase Phase.Start e = choose (is_client l.identity.role)
    where
      choose : (b : Bool) → Fine (if b then asking p.body p l else connected p.body p l)
      choose true = asks p.body
      choose false = connects p.body
  by_phase Phase.Up e = connects p.body
  by_phase Phase.RetransmissionRequested e = connects p.body
  by_phase Phase.RetransmissionRunning e = connects p.body

  hears : l.clock < deadline l → Fine (hearing p l)
  unfolding hearing state_at
  hears lives = choose (p.receiver == l.identity.own) (p.sender == l.identity.partner)
    where
      alive : nat_lt l.clock (deadline l) ≡ true
      alive = grind (arith, nat_tests, lives)

      state_is : (if is_open l.phase && nat_lt l.clock (deadline l) then open_state l.phase else (if nat_lt l.clock (deadline l + 6000) then State.Quiet else State.Down)) ≡ open_state l.phase
      state_is = rw (connected_is, alive) refl

      choose : (a b : Bool) → Fine (if not a then refusing Verdict.NotForMe l else if not b then refusing Verdict.WrongSender l else by_state (state_at l.clock l) p l)
      choose false b = refused (refusing Verdict.NotForMe l) refl refl
      choose true false = refused (refusing Verdict.WrongSender l) refl refl
      choose true true = subst (λ (s : State). Fine (by_state s p l)) (sym state_is) (by_phase l.phase refl)

-- ---- an end outside

-- a connection that is entered has counted nothing, and isn't up
abbrev Enters : Receipt → Type 0
Enters r = is_open r.link.phase ≡ true → (r.items ≡ []) × HasCounted 0 0 r.link × (is_up r.link.phase ≡ false)

module _ (p : Pdu) (l : LinkState) (outside : is_open l.phase ≡ false) where
  shut : (r : Receipt) → r.link ≡ l → Enters r
  shut r e f = absurd (false≢true (sym outside ∙ ap (λ (x : LinkState). is_open x.phase) (sym e) ∙ f))

  grants : (o : Opening) → Enters (accepting (granting p o l))
  unfolding granting judging meeting beginning sending telling
  grants o = choose (pointwise nat_eq o.version own_version) (o.window == window_size)
    where
      met : LinkState
      met = meeting p (beginning l)

      choose : (a b : Bool) → Enters (accepting (if a then (if b then sending (ConnectionResponse own_opening) met else telling Reason.Window met) else telling Reason.Version met))
      choose true true = λ f. (refl, record { taken_is = refl; given_is = refl; waiting = omega arith }, refl)
      choose true false = λ f. absurd (false≢true f)
      choose false b = λ f. absurd (false≢true f)

  rests : (body : Body) → Enters (resting body p l)
  unfolding resting
  rests (ConnectionRequest o) = choose (is_client l.identity.role)
    where
      choose : (b : Bool) → Enters (if b then refusing Verdict.WrongState l else accepting (granting p o l))
      choose true = shut (refusing Verdict.WrongState l) refl
      choose false = grants o
  rests (ConnectionResponse o) = shut (refusing Verdict.WrongState l) refl
  rests RetransmissionRequest = shut (refusing Verdict.WrongState l) refl
  rests RetransmissionResponse = shut (refusing Verdict.WrongState l) refl
  rests (DisconnectionRequest d r) = shut (refusing Verdict.WrongState l) refl
  rests Heartbeat = shut (refusing Verdict.WrongState l) refl
  rests (Data x) = shut (refusing Verdict.WrongState l) refl
  rests (RetransmittedData x) = shut (refusing Verdict.WrongState l) refl

  hears_outside : Enters (hearing p l)
  unfolding hearing state_at by_state
  hears_outside = choose (p.receiver == l.identity.own) (p.sender == l.identity.partner)
    where
      quiet : (b : Bool) → Enters (by_state (if b then State.Quiet else State.Down) p l)
      quiet true = shut (refusing Verdict.Quiet l) refl
      quiet false = rests p.body

      by_clock : (a : Bool) → a ≡ false → (b c : Bool) → Enters (by_state (if a && b then open_state l.phase else (if c then State.Quiet else State.Down)) p l)
      by_clock true e b c = absurd (false≢true (sym e))
      by_clock false e b c = quiet c

      choose : (a b : Bool) → Enters (if not a then refusing Verdict.NotForMe l else if not b then refusing Verdict.WrongSender l else by_state (state_at l.clock l) p l)
      choose false b = shut (refusing Verdict.NotForMe l) refl
      choose true false = shut (refusing Verdict.WrongSender l) refl
      choose true true = by_clock (is_open l.phase) outside (nat_lt l.clock (deadline l)) (nat_lt l.clock (deadline l + 6000))

-- ---- bytes that come

pub data AfterReceipt (now : ℕ) (bytes : List ℕ) (taken given : ℕ) (l : LinkState) : Type 0 where
  stays_in : is_open l.phase ≡ true → HasCounted (taken + length (receiving now bytes l).items) given (receiving now bytes l).link → ((receiving now bytes l).items ≡ []) ⊎ (is_up (receiving now bytes l).link.phase ≡ true)
      → (is_up l.phase ≡ true → is_up (receiving now bytes l).link.phase ≡ true) → AfterReceipt now bytes taken given l
  comes_in : is_open (settled now l).phase ≡ false → (receiving now bytes l).items ≡ [] → HasCounted 0 0 (receiving now bytes l).link → AfterReceipt now bytes taken given l

-- an end that is quiet stays outside
pub settled_is : (now : ℕ) (l : LinkState) → is_open l.phase ≡ true → now < deadline l → settled now l ≡ record l { clock = now }
unfolding settled
settled_is now l is_in lives =
    ap (λ (b : Bool). if b && nat_le (deadline l) now then record l { phase = Phase.Closed; closed_at = deadline l; clock = now } else record l { clock = now }) is_in
    ∙ ap (λ (b : Bool). if b then record l { phase = Phase.Closed; closed_at = deadline l; clock = now } else record l { clock = now }) not_over
  where
    not_over : nat_le (deadline l) now ≡ false
    not_over = grind (arith, nat_tests, lives)

-- the clock rules do nothing more at the same reading
pub settled_again : (now : ℕ) (l : LinkState) → is_open (settled now (settled now l)).phase ≡ false → is_open (settled now l).phase ≡ false
unfolding deadline
settled_again now l e = choose (is_open (settled now l).phase) refl
  where
    choose : (a : Bool) → is_open (settled now l).phase ≡ a → is_open (settled now l).phase ≡ false
    choose false f = f
    choose true f =
        let so = settled_open now l f
        in let again : settled now (settled now l) ≡ record l { clock = now } = ap (settled now) so.0 ∙ settled_is now (record l { clock = now }) so.1 so.2
        in absurd (false≢true (sym e ∙ ap (λ (k : LinkState). is_open k.phase) again ∙ so.1))

quiet_hears : (p : Pdu) (l : LinkState) → is_open l.phase ≡ false → l.clock < l.closed_at + 6000 → is_open (hearing p l).link.phase ≡ false
unfolding hearing state_at by_state deadline
quiet_hears p l outside quiet = choose (p.receiver == l.identity.own) (p.sender == l.identity.partner)
  where
    over : nat_lt l.clock (l.closed_at + 6000) ≡ true
    over = grind (arith, nat_tests, quiet)

    is_quiet : (s : State) → s ≡ State.Quiet → is_open (by_state s p l).link.phase ≡ false
    is_quiet s e = subst (λ (x : State). is_open (by_state x p l).link.phase ≡ false) (sym e) outside

    choose : (a b : Bool) → is_open (if not a then refusing Verdict.NotForMe l else if not b then refusing Verdict.WrongSender l else by_state (state_at l.clock l) p l).link.phase ≡ false
    choose false b = outside
    choose true false = outside
    choose true true = is_quiet (state_at l.clock l) (rw (outside, over) refl)

-- an end that is entered open, outside, or closed at the limit
data Entry (now : ℕ) (l : LinkState) : Type 0 where
  inside : entered now l ≡ silent (record l { clock = now }) → is_open l.phase ≡ true → now < deadline l → Entry now l
  outside : is_open (settled now l).phase ≡ false → (entered now l).link ≡ settled now l → Entry now l
  full : is_open (entered now l).link.phase ≡ false → (entered now l).link.clock < (entered now l).link.closed_at + 6000 → Entry now l

entry : (now : ℕ) (l : LinkState) → Entry now l
unfolding entered limited telling sending
entry now l = choose (is_open (settled now l).phase) refl (nat_le connection_limit (settled now l).sent) refl
  where
    s : LinkState
    s = settled now l

    choose : (a : Bool) → is_open (settled now l).phase ≡ a → (b : Bool) → nat_le connection_limit (settled now l).sent ≡ b → Entry now l
    choose true e true f = full (rw (e, f) refl) (rw (e, f) (omega arith))
    choose true e false f = let so = settled_open now l e in inside (rw (e, f) (ap silent so.0)) so.1 so.2
    choose false e b f = outside e (rw e refl)

-- a datagram that is read at an end which it finds inside, outside, or full
module _ (now taken given : ℕ) (l : LinkState) where
  of_inside : (read : Result Pdu PduFault) → (entered now l).link ≡ record l { clock = now } → is_open l.phase ≡ true → now < deadline l → HasCounted taken given l
      → is_open (hearing_bytes read (entered now l).link).link.phase ≡ true → Comes taken given (record l { clock = now }) (hearing_bytes read (entered now l).link)
  unfolding hearing_bytes deadline
  of_inside (Err fault) e is_in lives had = subst (λ (k : LinkState). is_open (hearing_bytes (Err fault) k).link.phase ≡ true → Comes taken given (record l { clock = now }) (hearing_bytes (Err fault) k)) (sym e)
      (λ f. record { counts = record { taken_is = had.taken_is ∙ ap stops_at_greatest (omega arith); given_is = had.given_is; waiting = had.waiting }; up = inl refl; stays_up = λ u. u; same = refl; fewer = omega arith })
  of_inside (Ok p) e is_in lives had = subst (λ (k : LinkState). is_open (hearing_bytes (Ok p) k).link.phase ≡ true → Comes taken given (record l { clock = now }) (hearing_bytes (Ok p) k)) (sym e)
      (hears taken given p (record l { clock = now }) (record { taken_is = had.taken_is; given_is = had.given_is; waiting = had.waiting }) is_in lives)

of_outside : (read : Result Pdu PduFault) (k : LinkState) → is_open k.phase ≡ false → Enters (hearing_bytes read k)
unfolding hearing_bytes
of_outside (Err fault) k out = λ f. absurd (false≢true (sym out ∙ f))
of_outside (Ok p) k out = hears_outside p k out

of_full : (read : Result Pdu PduFault) (k : LinkState) → is_open k.phase ≡ false → k.clock < k.closed_at + 6000 → is_open (hearing_bytes read k).link.phase ≡ false
unfolding hearing_bytes
of_full (Err fault) k out quiet = out
of_full (Ok p) k out quiet = quiet_hears p k out quiet

pub receipt_counts : (now : ℕ) (bytes : List ℕ) (taken given : ℕ) (l : LinkState) → is_open (receiving now bytes l).link.phase ≡ true → (is_open l.phase ≡ true → HasCounted taken given l) → AfterReceipt now bytes taken given l
unfolding receiving
receipt_counts now bytes taken given l open_then has = by_entry (entry now l)
  where
    by_entry : Entry now l → AfterReceipt now bytes taken given l
    by_entry (inside e is_in lives) = let c = of_inside now taken given l (reading l.identity.key bytes) (ap (λ (s : Step). s.link) e) is_in lives (has is_in) open_then in stays_in is_in c.counts c.up c.stays_up
    by_entry (outside out same) = let c = of_outside (reading l.identity.key bytes) (entered now l).link (ap (λ (k : LinkState). is_open k.phase) same ∙ out) open_then in comes_in out c.0 c.1
    by_entry (full out quiet) = absurd (false≢true (sym (of_full (reading l.identity.key bytes) (entered now l).link out quiet) ∙ open_then))

-- at an end that is up after it a datagram has given nothing, and no more items wait
pub receipt_window : (now : ℕ) (bytes : List ℕ) (taken given : ℕ) (l : LinkState) → is_open (receiving now bytes l).link.phase ≡ true → is_up (receiving now bytes l).link.phase ≡ true → (is_open l.phase ≡ true → HasCounted taken given l)
    → ((receiving now bytes l).link.given ≡ l.given) × (length (receiving now bytes l).link.waiting ≤ length l.waiting)
unfolding receiving
receipt_window now bytes taken given l open_then up has = by_entry (entry now l)
  where
    by_entry : Entry now l → ((receiving now bytes l).link.given ≡ l.given) × (length (receiving now bytes l).link.waiting ≤ length l.waiting)
    by_entry (inside e is_in lives) = let c = of_inside now taken given l (reading l.identity.key bytes) (ap (λ (s : Step). s.link) e) is_in lives (has is_in) open_then in (c.same, c.fewer)
    by_entry (outside out same) = let c = of_outside (reading l.identity.key bytes) (entered now l).link (ap (λ (k : LinkState). is_open k.phase) same ∙ out) open_then in absurd (false≢true (sym c.2 ∙ up))
    by_entry (full out quiet) = absurd (false≢true (sym (of_full (reading l.identity.key bytes) (entered now l).link out quiet) ∙ open_then))
