-- Two ends that are in one connection, and are in it again later, were in no other meanwhile.
use Rattle.simulator_recovery.proofs.Words.Basics.{◌≡◌, ◌⊎◌, inl, inr, ℕ, ◌∙◌, ◌+◌, ◌<◌, ◌==◌, ◌&&◌, not, nat_lt, Bool, true, false, if◌then◌else◌, List, [], ◌∷◌, length, Option, Some, None, refl, sym, ap, subst, arith, Ok, Err, nat_tests, none-some, same_Some}
use Rattle.simulator_recovery.proofs.Words.Links.{IsCall, hearing_bytes, opens, receiving, deadline, state_at, Each, Call, Closes, Opens, Receives, Sends, Ticks, end_after, is_taken, newer, outcome, reading_of, Calls, Elsewhere, Event as LinkEvent, Loses, May, MayCall, MayRun, Passes, Restarts, happened, run, Timely, CallsOn, Links, LinksEvent, LosesAny, PassesFor, RestartsOn, events_on, happened_to, run_on, seen, sent_by, AreNames, Names, Step, entered, by_state, hearing, resting, Ends, called, LinkState, is_client, is_open, Identity, Role, State, reading, Body, ConnectionRequest, ConnectionResponse, Data, DisconnectionRequest, Heartbeat, RetransmissionRequest, RetransmissionResponse, RetransmittedData, Pdu}
use Rattle.simulator_recovery.proofs.Words.Machine.{is_same_connection, server_in, Before}
use Rattle.simulator_recovery.proofs.Words.Recovery.{LawsBelow}
use Rattle.simulator_recovery.proofs.Lemmas.Ground.EndCalls.{IsCallOn, each_both}
use Rattle.simulator_recovery.proofs.Lemmas.Ground.LinkCounts.{entered_closed}

-- ---- what a client outside takes

resting_client : (body : Body) (pdu : Pdu) (l : LinkState) → is_client l.identity.role ≡ true → is_taken (resting body pdu l).verdict ≡ false
unfolding resting
resting_client (ConnectionRequest opening) pdu l client = rw client refl
resting_client (ConnectionResponse opening) pdu l client = refl
resting_client RetransmissionRequest pdu l client = refl
resting_client RetransmissionResponse pdu l client = refl
resting_client (DisconnectionRequest detail reason) pdu l client = refl
resting_client Heartbeat pdu l client = refl
resting_client (Data items) pdu l client = refl
resting_client (RetransmittedData items) pdu l client = refl

outside_state : (now : ℕ) (l : LinkState) → is_open l.phase ≡ false → (state_at now l ≡ State.Quiet) ⊎ (state_at now l ≡ State.Down)
unfolding state_at
outside_state now l shut = rw shut (choose (nat_lt now (deadline l + 6000)))
  where
    choose : (b : Bool) → ((if b then State.Quiet else State.Down) ≡ State.Quiet) ⊎ ((if b then State.Quiet else State.Down) ≡ State.Down)
    choose true = inl refl
    choose false = inr refl

by_state_client : (s : State) (pdu : Pdu) (l : LinkState) → is_client l.identity.role ≡ true → (s ≡ State.Quiet) ⊎ (s ≡ State.Down) → is_taken (by_state s pdu l).verdict ≡ false
unfolding by_state
by_state_client s pdu l client (inl e) = subst (λ (x : State). is_taken (by_state x pdu l).verdict ≡ false) (sym e) refl
by_state_client s pdu l client (inr e) = subst (λ (x : State). is_taken (by_state x pdu l).verdict ≡ false) (sym e) (resting_client pdu.body pdu l client)

heard_client : (pdu : Pdu) (l : LinkState) → is_client l.identity.role ≡ true → is_open l.phase ≡ false → is_taken (hearing pdu l).verdict ≡ false
unfolding hearing
heard_client pdu l client shut = choose (not (pdu.receiver == l.identity.own)) (not (pdu.sender == l.identity.partner)) refl refl
  where
    choose : (a b : Bool) → not (pdu.receiver == l.identity.own) ≡ a → not (pdu.sender == l.identity.partner) ≡ b → is_taken (hearing pdu l).verdict ≡ false
    choose true b e f = rw e refl
    choose false true e f = rw (e, f) refl
    choose false false e f = rw (e, f) (by_state_client (state_at l.clock l) pdu l client (outside_state l.clock l shut))

client_takes_none : (now : ℕ) (bytes : List ℕ) (l : LinkState) → is_client l.identity.role ≡ true → is_open l.phase ≡ false → is_taken (receiving now bytes l).verdict ≡ false
unfolding receiving hearing_bytes
client_takes_none now bytes l client shut = subst (λ (s : Step). is_taken (hearing_bytes (reading l.identity.key bytes) s.link).verdict ≡ false) (sym (entered_closed now l shut)) (by_read (reading l.identity.key bytes))
  where
    by_read : (read : _) → is_taken (hearing_bytes read (record l { clock = now })).verdict ≡ false
    by_read (Err fault) = refl
    by_read (Ok pdu) = heard_client pdu (record l { clock = now }) client shut

-- ---- two ends

module _ (laws : LawsBelow) (names : Names) (are : AreNames names) (connection : ℕ) where
  -- the client has begun a later one
  pub record IsLate (ends : Ends) : Type 0 where
    pub began : ℕ
    pub client : ends.client.connection ≡ Some began
    pub later : connection < began

  -- it is the last of both
  pub record IsSame (ends : Ends) : Type 0 where
    pub client : ends.client.connection ≡ Some connection
    pub server : ends.server.connection ≡ Some connection

  -- After calls the client has begun a later one; or it is the last of both, and a server that had left it is outside.
  abbrev pub Stays : Ends → Ends → Type 0
  Stays old new = IsLate new ⊎ (IsSame new × (is_open old.server.link.phase ≡ false → is_open new.server.link.phase ≡ false))

  client_enters : (call : Call) (ends : Ends) → Timely names ends → (entered : ℕ) → (outcome call ends.moment ends.client).enters ≡ Some entered → entered ≡ ends.moment
  unfolding outcome
  client_enters Ticks ends timely entered e = absurd (none-some entered e)
  client_enters (Closes why) ends timely entered e = absurd (none-some entered e)
  client_enters (Sends item) ends timely entered e = absurd (none-some entered e)
  client_enters Opens ends timely entered e = choose (opens (reading_of ends.client.clock) ends.client.link) e
    where
      choose : (b : Bool) → (if b then Some ends.moment else None) ≡ Some entered → entered ≡ ends.moment
      choose true f = sym (same_Some ends.moment entered f)
      choose false f = absurd (none-some entered f)
  client_enters (Receives bytes at) ends timely entered e = choose (is_open ends.client.link.phase) refl e
    where
      verdict_false : is_open ends.client.link.phase ≡ false → is_taken (receiving (reading_of ends.client.clock) bytes ends.client.link).verdict ≡ false
      verdict_false shut = client_takes_none (reading_of ends.client.clock) bytes ends.client.link (ap (λ (i : Identity). is_client i.role) timely.client.identity) shut

      choose : (b : Bool) → is_open ends.client.link.phase ≡ b → (if not b && is_taken (receiving (reading_of ends.client.clock) bytes ends.client.link).verdict then Some at else None) ≡ Some entered → entered ≡ ends.moment
      choose true f g = absurd (none-some entered g)
      choose false f g = absurd (none-some entered (subst (λ (c : Bool). (if c then Some at else None) ≡ Some entered) (verdict_false f) g))

  same_apart : (ends : Ends) → IsSame ends → (inside : Bool) → server_in inside (is_same_connection ends.client.connection ends.server.connection) ≡ Before → ⊥
  same_apart ends same inside e = choose inside (subst (λ (b : Bool). server_in inside b ≡ Before) one e)
    where
      yes : (n : ℕ) → (n == n) ≡ true
      yes n = grind (arith, nat_tests)

      one : is_same_connection ends.client.connection ends.server.connection ≡ true
      one = ap (λ (o : Option ℕ). is_same_connection o ends.server.connection) same.client ∙ ap (is_same_connection (Some connection)) same.server ∙ yes connection

      choose : (b : Bool) → server_in b true ≡ Before → ⊥
      choose true f = absurd (cc f)
      choose false f = absurd (cc f)

  call_late : (who : Role) (call : Call) (ends : Ends) → Timely names ends → IsLate ends → IsLate (called who call ends)
  unfolding called end_after
  call_late Role.Server call ends timely late = record { began = late.began; client = late.client; later = late.later }
  call_late Role.Client call ends timely late = choose (outcome call ends.moment ends.client).enters refl
    where
      choose : (o : Option ℕ) → (outcome call ends.moment ends.client).enters ≡ o → IsLate (called Role.Client call ends)
      choose None e = record { began = late.began; client = ap (λ (o : Option ℕ). newer o ends.client.connection) e ∙ late.client; later = late.later }
      choose (Some entered) e = record {
        began = entered;
        client = ap (λ (o : Option ℕ). newer o ends.client.connection) e;
        later = let now = client_enters call ends timely entered e in let few = laws.one_connection_counted names ends Role.Client late.began timely late.client in let more = late.later in omega (arith, now, few, more);
      }

  call_stays : (who : Role) (call : Call) (ends : Ends) → Timely names ends → MayCall names who call ends → IsSame ends → Stays ends (called who call ends)
  unfolding called end_after
  call_stays Role.Client call ends timely may same = choose (outcome call ends.moment ends.client).enters refl
    where
      choose : (o : Option ℕ) → (outcome call ends.moment ends.client).enters ≡ o → Stays ends (called Role.Client call ends)
      choose None e = inr (record { client = ap (λ (o : Option ℕ). newer o ends.client.connection) e ∙ same.client; server = same.server }, λ shut. shut)
      choose (Some entered) e = inl (record {
        began = entered;
        client = ap (λ (o : Option ℕ). newer o ends.client.connection) e;
        later = let now = client_enters call ends timely entered e in let few = laws.one_connection_counted names ends Role.Client connection timely same.client in omega (arith, now, few);
      })
  call_stays Role.Server call ends timely may same = choose (outcome call ends.moment ends.server).enters refl
    where
      choose : (o : Option ℕ) → (outcome call ends.moment ends.server).enters ≡ o → Stays ends (called Role.Server call ends)
      choose None e = inr (record { client = same.client; server = ap (λ (o : Option ℕ). newer o ends.server.connection) e ∙ same.server }, λ shut. laws.outside_until_it_enters call ends.moment ends.server shut e)
      choose (Some entered) e = absurd (same_apart ends same _ (laws.servers_enter_once names call entered ends are timely may e).before)

  one_late : (event : LinkEvent) (ends : Ends) → IsCall event → Timely names ends → IsLate ends → IsLate (happened event ends)
  one_late (Calls who call) ends is timely late = call_late who call ends timely late
  one_late (Elsewhere count) ends is timely late = record { began = late.began; client = late.client; later = late.later }
  one_late (Passes elapsed of_client of_server) ends is timely late = absurd is
  one_late (Loses bytes) ends is timely late = absurd is
  one_late (Restarts who clock first) ends is timely late = absurd is

  one_stays : (event : LinkEvent) (ends : Ends) → IsCall event → May names event ends → Timely names ends → IsSame ends → Stays ends (happened event ends)
  one_stays (Calls who call) ends is may timely same = call_stays who call ends timely may same
  one_stays (Elsewhere count) ends is may timely same = inr (record { client = same.client; server = same.server }, λ shut. shut)
  one_stays (Passes elapsed of_client of_server) ends is may timely same = absurd is
  one_stays (Loses bytes) ends is may timely same = absurd is
  one_stays (Restarts who clock first) ends is may timely same = absurd is

  pub run_late : (events : List LinkEvent) (ends : Ends) → Each IsCall events → MayRun names events ends → Timely names ends → IsLate ends → IsLate (run events ends)
  run_late [] ends calls may timely late = late
  run_late (first ∷ others) ends calls may timely late = run_late others (happened first ends) calls.1 may.1 (laws.every_event_keeps_time names first ends are timely may.0) (one_late first ends calls.0 timely late)

  pub run_stays : (events : List LinkEvent) (ends : Ends) → Each IsCall events → MayRun names events ends → Timely names ends → IsSame ends → Stays ends (run events ends)
  run_stays [] ends calls may timely same = inr (same, λ shut. shut)
  run_stays (first ∷ others) ends calls may timely same = choose (one_stays first ends calls.0 may.0 timely same)
      (λ late. run_late others (happened first ends) calls.1 may.1 (laws.every_event_keeps_time names first ends are timely may.0) late)
      (λ still. run_stays others (happened first ends) calls.1 may.1 (laws.every_event_keeps_time names first ends are timely may.0) still)
    where
      choose : Stays ends (happened first ends) → (IsLate (happened first ends) → IsLate (run others (happened first ends))) → (IsSame (happened first ends) → Stays (happened first ends) (run others (happened first ends)))
          → Stays ends (run others (happened first ends))
      choose (inl late) on_late on_same = inl (on_late late)
      choose (inr (still, shuts)) on_late on_same = both (on_same still)
        where
          both : Stays (happened first ends) (run others (happened first ends)) → Stays ends (run others (happened first ends))
          both (inl late) = inl late
          both (inr (on, more)) = inr (on, λ shut. more (shuts shut))

-- events that are calls at links are calls to each
pub on_calls : (link : ℕ) (events : List LinksEvent) (network : Links) → Each IsCallOn events → Each IsCall (run_on link events network)
on_calls link [] network each = tt
on_calls link (first ∷ others) network each = each_both IsCall (events_on link first network) (run_on link others (happened_to first network)) (one first each.0) (on_calls link others (happened_to first network) each.1)
  where
    one : (event : LinksEvent) → IsCallOn event → Each IsCall (events_on link event network)
    one (CallsOn at who call) is = choose (link == at)
      where
        choose : (b : Bool) → Each IsCall (if b then Calls who call ∷ [] else Elsewhere (length (sent_by who call (seen at network))) ∷ [])
        choose true = (tt, tt)
        choose false = (tt, tt)
    one (PassesFor elapsed of_clients of_servers) is = absurd is
    one (LosesAny bytes) is = absurd is
    one (RestartsOn at who clock first) is = absurd is
