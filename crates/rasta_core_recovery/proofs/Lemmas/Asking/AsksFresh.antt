-- A client that joins its connection while datagrams come, and nothing else is done: neither end misses anything there.
use Rattle.rasta_core_recovery.proofs.Words.Basics.{◌≡◌, ℕ, ◌∙◌, ◌≤◌, ◌<◌, ◌⊎◌, inl, inr, Bool, true, false, ◌&&◌, not, List, [], ◌∷◌, Option, Some, None, if◌then◌else◌, refl, sym, ap, arith, false≢true}
use Rattle.rasta_core_recovery.proofs.Words.Links.{LinkState, is_asking, is_client, is_open, is_up, receiving, Identity, Role, Each, Call, Closes, Opens, Receives, Sends, Ticks, end_after, is_taken, newer, outcome, reading_of, Calls, Elsewhere, Event, Loses, May, MayCall, MayRun, Passes as TimePasses, Restarts, happened, run, AreNames, Names, Ends, called, sent, Timely, Plays, joined, left, BeginsByResponse, OpensOn, Ordered}
use Rattle.rasta_core_recovery.proofs.Words.Recovery.{AskInTurn, EndsAskInTurn, IsAsk, IsComing, IsWaiting, of_client, AreIn, reached_by, LawsBelow}
use Rattle.rasta_core.specs.LinkAndFlow.{asking}
use Rattle.rasta_core_recovery.proofs.Lemmas.Asking.AsksEnters.{asks_to_enter}
use Rattle.rasta_core_recovery.proofs.Lemmas.Asking.AsksEvents.{client_called, event_asks, server_called}
use Rattle.rasta_core_recovery.proofs.Lemmas.Asking.AsksGoes.{asked_still, joins_asking_none, says_nothing}
use Rattle.rasta_core_recovery.proofs.Lemmas.Asking.AsksSaid.{partner_ask_only}
use Rattle.rasta_core_recovery.proofs.Lemmas.Windows.Confirmed.{Both, client_inside, never_asks, reached_is, server_joined, server_reached_is}
use Rattle.rasta_core_recovery.proofs.Lemmas.Windows.ConfirmingEvents.{CameBy, both_of, client_new, client_was_in, enters_none, entered_both, server_new, settled_so}
use Rattle.rasta_core_recovery.proofs.Lemmas.Falling.FallsCalls.{AskMoved, ask_moves_by, asks_on, joins_by}
use Rattle.rasta_core_recovery.proofs.Lemmas.Falling.FallsEvents.{client_past}

-- a connection in which little was said: by the server its response alone, and by the client no ask after its request
pub record IsFresh (names : Names) (ends : Ends) : Type 0 where
  pub server_few : ends.server.link.sent ≤ 1
  pub client_few : ends.client.link.sent ≤ 2
  pub client_asks : (n : ℕ) → IsAsk names (of_client ends) n → n < 1

-- so it is while the client asks for it
pub fresh_asking : (names : Names) (ends : Ends) → Both names ends → is_asking ends.client.link ≡ true → IsFresh names ends
fresh_asking names ends both asks = record {
  server_few = let s = server_alone in let c = (server_joined names ends both).inside.counted in omega (arith, s, c);
  client_few = let a = client_alone in omega (arith, a);
  client_asks = λ n ask. let b = ask.said.below in let a = client_alone in omega (arith, a, b);
}
  where
    alone_in : sent both.together.client ≡ 1
    alone_in = (client_inside names ends both).alone asks

    client_alone : ends.client.link.sent ≡ 1
    client_alone = (client_inside names ends both).counted ∙ alone_in

    begins_not : BeginsByResponse both.together.client.flow → ⊥
    begins_not = by both.together.client_plays
      where
        by : Plays ends.client.link both.together.client both.together.server → BeginsByResponse both.together.client.flow → ⊥
        by (joined has) = absurd (false≢true (sym has.joined ∙ asks))
        by (asking on) = on.client
        by (left shut keeps) = absurd (false≢true (sym shut ∙ both.client_in))

    server_alone : sent both.together.server ≡ 1
    server_alone = choose (is_up ends.server.link.phase) refl
      where
        not_heard : BeginsByResponse both.together.client.flow ⊎ ((2 ≤ sent both.together.client) × OpensOn both.together.client.flow) → ⊥
        not_heard (inl begins) = begins_not begins
        not_heard (inr (two, opens_on)) = omega (arith, two, alone_in)

        choose : (b : Bool) → is_up ends.server.link.phase ≡ b → sent both.together.server ≡ 1
        choose true e = absurd (not_heard ((server_joined names ends both).come.heard e))
        choose false e = ((server_joined names ends both).come.starting e).0

-- there neither waits
pub fresh_never_waits : (names : Names) (ends : Ends) → Both names ends → AskInTurn names ends → IsFresh names ends → (IsWaiting ends.client.link → ⊥) × (IsWaiting ends.server.link → ⊥)
fresh_never_waits names ends both in_turn fresh = (
  λ waits. let m = (in_turn.client.asked waits).missed in let f = fresh.server_few in omega (arith, m, f),
  λ waits. let m = (in_turn.server.asked waits).missed in let f = fresh.client_few in let r = server_reached_is names ends both in let s = both.together.order.there.counts.some in omega (arith, m, f, r, s),
)

module _ (laws : LawsBelow) (names : Names) (are : AreNames names) (ends : Ends) (timely : Timely names ends) (ordered : Ordered names ends) (asks : EndsAskInTurn names ends) (before : AreIn ends → IsFresh names ends) where
  server_fresh : (bytes : List ℕ) (of : ℕ) → MayCall names Role.Server (Receives bytes of) ends → AreIn (called Role.Server (Receives bytes of) ends) → IsFresh names (called Role.Server (Receives bytes of) ends)
  unfolding called
  server_fresh bytes of may in_new = choose (is_open ends.server.link.phase) refl
    where
      choose : (b : Bool) → is_open ends.server.link.phase ≡ b → IsFresh names (server_new laws names are 0 ends timely ordered (Receives bytes of) may)
      choose false shut = fresh_asking names (server_new laws names are 0 ends timely ordered (Receives bytes of) may)
          (entered_both laws names are 0 ends timely ordered bytes of may in_new.server shut in_new) (asks_to_enter laws names are ends timely ordered bytes of may in_new shut)
      choose true was = record {
        server_few = let e = same in let f = fresh.server_few in omega (arith, e, f);
        client_few = fresh.client_few;
        client_asks = λ n a. fresh.client_asks n (partner_ask_only names (server_called laws names are ends timely ordered (Receives bytes of) may in_new was asks) n a);
      }
        where
          in_old : AreIn ends
          in_old = record { client = in_new.client; server = was }

          fresh : IsFresh names ends
          fresh = before in_old

          both : Both names ends
          both = both_of names ends timely ordered in_old

          some : 1 ≤ reached_by ends.server.link
          some = let r = server_reached_is names ends both in let s = both.together.order.there.counts.some in omega (arith, r, s)

          same : (server_new laws names are 0 ends timely ordered (Receives bytes of) may).server.link.sent ≡ ends.server.link.sent
          same = says_nothing names (server_called laws names are ends timely ordered (Receives bytes of) may in_new was asks)
              (λ asking_now. false≢true (sym (never_asks ends.server.link (ap (λ (i : Identity). is_client i.role) timely.server.identity)) ∙ asking_now))
              (let f = fresh.client_few in let s = some in omega (arith, f, s)) (λ n a. let b = fresh.client_asks n a in let s = some in omega (arith, b, s))

  client_sends : (bytes : List ℕ) (of : ℕ) (may : MayCall names Role.Client (Receives bytes of) ends) → AreIn (client_new laws names are 0 ends timely ordered (Receives bytes of) may)
      → is_asking ends.client.link ≡ true → ends.client.link.sent ≡ 1 → (client_new laws names are 0 ends timely ordered (Receives bytes of) may).client.link.sent ≤ 2
  unfolding end_after
  client_sends bytes of may in_new asking_now one = choose (ask_moves_by (Receives bytes of) ends.moment ends.client was (settled_so laws names ends Role.Client timely was) (client_past names ends timely was) asking_now
      (enters_none laws names are 0 ends timely ordered (Receives bytes of) may in_new) in_new.client)
    where
      was : is_open ends.client.link.phase ≡ true
      was = client_was_in laws names are 0 ends timely ordered (Receives bytes of) may in_new

      choose : AskMoved (CameBy ends.client.link (Receives bytes of)) ends.client.link (outcome (Receives bytes of) ends.moment ends.client).link (outcome (Receives bytes of) ends.moment ends.client).pdus
          → (outcome (Receives bytes of) ends.moment ends.client).link.sent ≤ 2
      choose (asks_on same none) = let e = ap (λ (k : LinkState). k.sent) same in omega (arith, e, one)
      choose (joins_by p came receiver sender clock has_joined own_is sent_is met) = omega (arith, sent_is, one)

  client_fresh : (bytes : List ℕ) (of : ℕ) → MayCall names Role.Client (Receives bytes of) ends → AreIn (called Role.Client (Receives bytes of) ends) → IsFresh names (called Role.Client (Receives bytes of) ends)
  unfolding called
  client_fresh bytes of may in_new = choose (is_asking ends.client.link) refl
    where
      in_old : AreIn ends
      in_old = record { client = client_was_in laws names are 0 ends timely ordered (Receives bytes of) may in_new; server = in_new.server }

      fresh : IsFresh names ends
      fresh = before in_old

      both : Both names ends
      both = both_of names ends timely ordered in_old

      choose : (b : Bool) → is_asking ends.client.link ≡ b → IsFresh names (client_new laws names are 0 ends timely ordered (Receives bytes of) may)
      choose false not = record {
        server_few = fresh.server_few;
        client_few = let e = same in let f = fresh.client_few in omega (arith, e, f);
        client_asks = λ n a. fresh.client_asks n (asked_still names (client_called laws names are ends timely ordered (Receives bytes of) may in_new asks) same n a);
      }
        where
          some : 1 ≤ reached_by ends.client.link
          some = let r = reached_is names ends both in let s = both.together.order.back.counts.some in omega (arith, r, s)

          same : (client_new laws names are 0 ends timely ordered (Receives bytes of) may).client.link.sent ≡ ends.client.link.sent
          same = says_nothing names (client_called laws names are ends timely ordered (Receives bytes of) may in_new asks) (λ asking_now. false≢true (sym not ∙ asking_now))
              (let f = fresh.server_few in omega (arith, f)) (λ n a. let b = a.said.below in let f = fresh.server_few in let s = some in omega (arith, b, f, s))
      choose true asking_now = record {
        server_few = fresh.server_few;
        client_few = sends_two;
        client_asks = λ n a. fresh.client_asks n (joins_asking_none names (client_called laws names are ends timely ordered (Receives bytes of) may in_new asks) asking_now n a);
      }
        where
          one : ends.client.link.sent ≡ 1
          one = (client_inside names ends both).counted ∙ (client_inside names ends both).alone asking_now

          sends_two : (client_new laws names are 0 ends timely ordered (Receives bytes of) may).client.link.sent ≤ 2
          sends_two = client_sends bytes of may in_new asking_now one

  coming_fresh : (event : Event) → IsComing event → May names event ends → AreIn (happened event ends) → IsFresh names (happened event ends)
  coming_fresh (Calls Role.Server (Receives bytes of)) comes may in_new = server_fresh bytes of may in_new
  coming_fresh (Calls Role.Client (Receives bytes of)) comes may in_new = client_fresh bytes of may in_new
  coming_fresh (Calls who Ticks) comes may in_new = absurd comes
  coming_fresh (Calls who Opens) comes may in_new = absurd comes
  coming_fresh (Calls who (Closes why)) comes may in_new = absurd comes
  coming_fresh (Calls who (Sends item)) comes may in_new = absurd comes
  coming_fresh (TimePasses elapsed client_on server_on) comes may in_new = absurd comes
  coming_fresh (Loses bytes) comes may in_new = absurd comes
  coming_fresh (Restarts who clock first) comes may in_new = absurd comes
  coming_fresh (Elsewhere count) comes may in_new = absurd comes

pub all_fresh : (laws : LawsBelow) (names : Names) → AreNames names → (events : List Event) (ends : Ends) → Timely names ends → Ordered names ends → EndsAskInTurn names ends → (AreIn ends → IsFresh names ends)
    → Each IsComing events → MayRun names events ends → AreIn (run events ends) → IsFresh names (run events ends)
all_fresh laws names are [] ends timely ordered asks before come may = before
all_fresh laws names are (e ∷ events) ends timely ordered asks before come may =
    all_fresh laws names are events (happened e ends) (laws.every_event_keeps_time names e ends are timely may.0) (laws.every_event_keeps_order_kept names e ends are timely ordered may.0) (event_asks laws names e ends are timely ordered may.0 asks)
    (coming_fresh laws names are ends timely ordered asks before e come.0 may.0) come.1 may.1

-- ---- a client enters nothing by what comes

module _ (laws : LawsBelow) (names : Names) (are : AreNames names) where
  client_enters_none : (ends : Ends) → Timely names ends → (bytes : List ℕ) (of : ℕ) → MayCall names Role.Client (Receives bytes of) ends → (outcome (Receives bytes of) ends.moment ends.client).enters ≡ None
  unfolding outcome
  client_enters_none ends timely bytes of may =
      choose (is_open ends.client.link.phase) (is_taken (receiving (reading_of ends.client.clock) bytes ends.client.link).verdict) refl refl
    where
      not_server : Role.Client ≡ Role.Server → ⊥
      not_server e = cc e

      by_may : is_open ends.client.link.phase ≡ false → is_taken (receiving (reading_of ends.client.clock) bytes ends.client.link).verdict ≡ true → MayCall names Role.Client (Receives bytes of) ends → ⊥
      by_may shut takes (inl sent) = not_server (laws.opening_is_new names ends Role.Client bytes of sent.0 are timely sent.1 shut takes).is_server
      by_may shut takes (inr other) = false≢true (sym (laws.what_is_taken names ends Role.Client bytes timely other).1 ∙ takes)

      choose : (a b : Bool) → is_open ends.client.link.phase ≡ a → is_taken (receiving (reading_of ends.client.clock) bytes ends.client.link).verdict ≡ b → (if not a && b then Some of else None) ≡ None
      choose false true f g = absurd (by_may f g may)
      choose false false f g = refl
      choose true b f g = refl

  -- it is in the connection in which it was, and was open if it is
  pub record IsSameClient (one other : Ends) : Type 0 where
    pub connection : other.client.connection ≡ one.client.connection
    pub was_in : is_open other.client.link.phase ≡ true → is_open one.client.link.phase ≡ true

  client_same : (ends : Ends) → Timely names ends → (bytes : List ℕ) (of : ℕ) → MayCall names Role.Client (Receives bytes of) ends → IsSameClient ends (called Role.Client (Receives bytes of) ends)
  unfolding called end_after
  client_same ends timely bytes of may = record {
    connection = ap (λ (o : Option ℕ). newer o ends.client.connection) (client_enters_none ends timely bytes of may);
    was_in = λ opened. choose opened (is_open ends.client.link.phase) refl;
  }
    where
      choose : is_open (outcome (Receives bytes of) ends.moment ends.client).link.phase ≡ true → (b : Bool) → is_open ends.client.link.phase ≡ b → b ≡ true
      choose opened true e = refl
      choose opened false e = absurd (false≢true (sym (laws.outside_until_it_enters_stays (Receives bytes of) ends.moment ends.client e (client_enters_none ends timely bytes of may)) ∙ opened))

  server_leaves : (ends : Ends) (call : Call) → IsSameClient ends (called Role.Server call ends)
  unfolding called
  server_leaves ends call = record { connection = refl; was_in = λ opened. opened }

  one_same : (ends : Ends) → Timely names ends → (event : Event) → IsComing event → May names event ends → IsSameClient ends (happened event ends)
  one_same ends timely (Calls Role.Server (Receives bytes of)) comes may = server_leaves ends (Receives bytes of)
  one_same ends timely (Calls Role.Client (Receives bytes of)) comes may = client_same ends timely bytes of may
  one_same ends timely (Calls who Ticks) comes may = absurd comes
  one_same ends timely (Calls who Opens) comes may = absurd comes
  one_same ends timely (Calls who (Closes why)) comes may = absurd comes
  one_same ends timely (Calls who (Sends item)) comes may = absurd comes
  one_same ends timely (TimePasses elapsed client_on server_on) comes may = absurd comes
  one_same ends timely (Loses bytes) comes may = absurd comes
  one_same ends timely (Restarts who clock first) comes may = absurd comes
  one_same ends timely (Elsewhere count) comes may = absurd comes

  pub all_same : (events : List Event) (ends : Ends) → Timely names ends → Each IsComing events → MayRun names events ends → IsSameClient ends (run events ends)
  all_same [] ends timely come may = record { connection = refl; was_in = λ opened. opened }
  all_same (e ∷ events) ends timely come may =
      let one = one_same ends timely e come.0 may.0 in let rest = all_same events (happened e ends) (laws.every_event_keeps_time names e ends are timely may.0) come.1 may.1
      in record { connection = rest.connection ∙ one.connection; was_in = λ opened. one.was_in (rest.was_in opened) }
