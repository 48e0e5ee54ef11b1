-- While datagrams come, and nothing else is done, two ends say nothing but asks and answers. So where both wait after that, an answer is still to come.
use Rattle.rasta_core_recovery.proofs.Words.Basics.{◌≡◌, ℕ, ◌∙◌, ◌≤◌, ◌<◌, ◌⊎◌, inl, inr, Bool, true, false, ◌&&◌, not, List, [], ◌∷◌, Option, Some, None, if◌then◌else◌, refl, sym, ap, arith, false≢true, same_Some}
use Rattle.rasta_core_recovery.proofs.Words.Links.{is_asking, is_client, is_open, receiving, Identity, Role, Pdu, Each, Call, Closes, Opens, Receives, Sends, Sent, Ticks, end_after, is_taken, newer, outcome, reading_of, Calls, Elsewhere, Event, Loses, May, MayCall, MayRun, Passes as TimePasses, Restarts, Start, happened, run, started, AreNames, Names, partner_of, Ends, called, Timely, Ordered}
use Rattle.rasta_core_recovery.proofs.Words.Recovery.{AnAnswerComes, AnswerComes, AskInTurn, BothWait, EndsAskInTurn, HasAsked, IsComing, IsWaiting, of_client, of_server, AreIn, reached_by, can_come, comings, own_work, LawsBelow}
use Rattle.rasta_core_recovery.proofs.Lemmas.Asking.AsksBlocks.{SaysBlocks, never_both}
use Rattle.rasta_core_recovery.proofs.Lemmas.Asking.AsksEvents.{asks_start, client_called, client_end, event_asks, server_called, server_end}
use Rattle.rasta_core_recovery.proofs.Lemmas.Asking.AsksFresh.{IsSameClient, all_fresh, all_same, fresh_asking, fresh_never_waits}
use Rattle.rasta_core_recovery.proofs.Lemmas.Asking.AsksGoes.{blocks_go, own_still_comes, partner_blocks, stands_by, stays_joined, still_comes}
use Rattle.rasta_core_recovery.proofs.Lemmas.Asking.AsksSaid.{grows}
use Rattle.rasta_core_recovery.proofs.Lemmas.Windows.Confirmed.{Both, never_asks}
use Rattle.rasta_core_recovery.proofs.Lemmas.Rounds.Facts.{is_inside, has_heard}
use Rattle.rasta_core_recovery.proofs.Lemmas.Windows.ConfirmingEvents.{CameBy, both_of, client_new, client_was_in, connection_is, server_new, stays_outside}

pub comings_come : (time : ℕ) (ds : List Sent) → Each IsComing (comings time ds)
comings_come time [] = tt
comings_come time (d ∷ ds) = choose (can_come time d) (comings_come time ds)
  where
    choose : (b : Bool) → Each IsComing (comings time ds) → Each IsComing (if b then Calls (partner_of d.sender) (Receives d.bytes d.connection) ∷ comings time ds else comings time ds)
    choose true each = (tt, each)
    choose false each = each

-- both have said nothing but asks and answers from these numbers on, and the client has joined
pub record BothSayBlocks (names : Names) (client_base server_base : ℕ) (ends : Ends) : Type 0 where
  pub client : SaysBlocks names (of_client ends) client_base
  pub server : SaysBlocks names (of_server ends) server_base
  pub client_from : client_base ≤ ends.client.link.sent
  pub server_from : server_base ≤ ends.server.link.sent
  pub joined : is_asking ends.client.link ≡ false

module _ (laws : LawsBelow) (names : Names) (are : AreNames names) (connection client_base server_base : ℕ) where
  -- The server's last connection is this one, or a later one; and while both are in this one, that is so.
  record IsSo (ends : Ends) : Type 0 where
    last : ℕ
    is_last : ends.server.connection ≡ Some last
    from : connection ≤ last
    so : last ≡ connection → AreIn ends → BothSayBlocks names client_base server_base ends

  module _ (ends : Ends) (timely : Timely names ends) (ordered : Ordered names ends) (asks : EndsAskInTurn names ends) (is : IsSo ends) where
    -- a connection that the server enters is later than those before
    enters_later : (bytes : List ℕ) (of : ℕ) → MayCall names Role.Server (Receives bytes of) ends → (entered : ℕ) → (outcome (Receives bytes of) ends.moment ends.server).enters ≡ Some entered
        → is.last < entered
    unfolding outcome
    enters_later bytes of may entered e = choose (is_open ends.server.link.phase) (is_taken (receiving (reading_of ends.server.clock) bytes ends.server.link).verdict) refl refl e
      where
        by_may : is_open ends.server.link.phase ≡ false → is_taken (receiving (reading_of ends.server.clock) bytes ends.server.link).verdict ≡ true → of ≡ entered
            → MayCall names Role.Server (Receives bytes of) ends → is.last < entered
        by_may shut takes s (inl sent) =
            let new = (laws.opening_is_new names ends Role.Server bytes of sent.0 are timely sent.1 shut takes).is_new is.last is.is_last in let c = sent.1.connection_same in omega (arith, new, c, s)
        by_may shut takes s (inr other) = absurd (false≢true (sym (laws.what_is_taken names ends Role.Server bytes timely other).1 ∙ takes))

        choose : (a b : Bool) → is_open ends.server.link.phase ≡ a → is_taken (receiving (reading_of ends.server.clock) bytes ends.server.link).verdict ≡ b
            → (if not a && b then Some of else None) ≡ Some entered → is.last < entered
        choose false true f g h = by_may f g (same_Some of entered h) may
        choose false false f g h = absurd (cc h)
        choose true b f g h = absurd (cc h)

    server_so : (bytes : List ℕ) (of : ℕ) → MayCall names Role.Server (Receives bytes of) ends → IsSo (called Role.Server (Receives bytes of) ends)
    unfolding called end_after
    server_so bytes of may = choose (outcome (Receives bytes of) ends.moment ends.server).enters refl
      where
        choose : (found : Option ℕ) → (outcome (Receives bytes of) ends.moment ends.server).enters ≡ found → IsSo (called Role.Server (Receives bytes of) ends)
        choose (Some entered) e = let more = enters_later bytes of may entered e in record {
          last = entered;
          is_last = ap (λ (o : Option ℕ). newer o ends.server.connection) e;
          from = let f = is.from in omega (arith, f, more);
          so = λ same. absurd (let f = is.from in omega (arith, f, more, same));
        }
        choose None e = record {
          last = is.last;
          is_last = ap (λ (o : Option ℕ). newer o ends.server.connection) e ∙ is.is_last;
          from = is.from;
          so = λ same in_new. goes same in_new (is_open ends.server.link.phase) refl;
        }
          where
            goes : is.last ≡ connection → (in_new : AreIn (called Role.Server (Receives bytes of) ends)) → (b : Bool) → is_open ends.server.link.phase ≡ b
                → BothSayBlocks names client_base server_base (called Role.Server (Receives bytes of) ends)
            goes same in_new false shut = absurd (false≢true (sym (laws.outside_until_it_enters_stays (Receives bytes of) ends.moment ends.server shut e) ∙ in_new.server))
            goes same in_new true was = record {
              client = partner_blocks names (server_called laws names are ends timely ordered (Receives bytes of) may in_new was asks) client_base before.client;
              server = blocks_go names (server_called laws names are ends timely ordered (Receives bytes of) may in_new was asks) silent server_base before.server_from before.server;
              client_from = before.client_from;
              server_from = let s = grows names (server_called laws names are ends timely ordered (Receives bytes of) may in_new was asks) in let f = before.server_from in omega (arith, s, f);
              joined = before.joined;
            }
              where
                before : BothSayBlocks names client_base server_base ends
                before = is.so same (record { client = in_new.client; server = was })

                silent : is_asking ends.server.link ≡ true → ⊥
                silent asking = false≢true (sym (never_asks ends.server.link (ap (λ (i : Identity). is_client i.role) timely.server.identity)) ∙ asking)

    client_so : (bytes : List ℕ) (of : ℕ) → MayCall names Role.Client (Receives bytes of) ends → IsSo (called Role.Client (Receives bytes of) ends)
    unfolding called
    client_so bytes of may = record { last = is.last; is_last = is.is_last; from = is.from; so = goes }
      where
        goes : is.last ≡ connection → (in_new : AreIn (called Role.Client (Receives bytes of) ends)) → BothSayBlocks names client_base server_base (called Role.Client (Receives bytes of) ends)
        goes same in_new = record {
          client = blocks_go names (client_called laws names are ends timely ordered (Receives bytes of) may in_new asks) (λ asking. false≢true (sym before.joined ∙ asking)) client_base before.client_from before.client;
          server = partner_blocks names (client_called laws names are ends timely ordered (Receives bytes of) may in_new asks) server_base before.server;
          client_from = let s = grows names (client_called laws names are ends timely ordered (Receives bytes of) may in_new asks) in let f = before.client_from in omega (arith, s, f);
          server_from = before.server_from;
          joined = stays_joined names (client_called laws names are ends timely ordered (Receives bytes of) may in_new asks) before.joined;
        }
          where
            before : BothSayBlocks names client_base server_base ends
            before = is.so same (record { client = client_was_in laws names are 0 ends timely ordered (Receives bytes of) may in_new; server = in_new.server })

    coming_so : (event : Event) → IsComing event → May names event ends → IsSo (happened event ends)
    coming_so (Calls Role.Server (Receives bytes of)) comes may = server_so bytes of may
    coming_so (Calls Role.Client (Receives bytes of)) comes may = client_so bytes of may
    coming_so (Calls who Ticks) comes may = absurd comes
    coming_so (Calls who Opens) comes may = absurd comes
    coming_so (Calls who (Closes why)) comes may = absurd comes
    coming_so (Calls who (Sends item)) comes may = absurd comes
    coming_so (TimePasses elapsed client_on server_on) comes may = absurd comes
    coming_so (Loses bytes) comes may = absurd comes
    coming_so (Restarts who clock first) comes may = absurd comes
    coming_so (Elsewhere count) comes may = absurd comes

  all_so : (events : List Event) (ends : Ends) → Timely names ends → Ordered names ends → EndsAskInTurn names ends → IsSo ends → Each IsComing events → MayRun names events ends
      → IsSo (run events ends) × EndsAskInTurn names (run events ends)
  all_so [] ends timely ordered asks is come may = (is, asks)
  all_so (e ∷ events) ends timely ordered asks is come may =
      all_so events (happened e ends) (laws.every_event_keeps_time names e ends are timely may.0) (laws.every_event_keeps_order_kept names e ends are timely ordered may.0) (event_asks laws names e ends are timely ordered may.0 asks)
      (coming_so ends timely ordered asks is e come.0 may.0) come.1 may.1

none_yet : (base : ℕ) (n : ℕ) → base ≤ n → n < base → ⊥
none_yet base n low below = omega (arith, low, below)

module _ (laws : LawsBelow) (names : Names) (are : AreNames names) (events : List Event) (ends : Ends) (timely : Timely names ends) (ordered : Ordered names ends) (asks : EndsAskInTurn names ends)
    (come : Each IsComing events) (may : MayRun names events ends) (connection : ℕ) (in_it : ends.server.connection ≡ Some connection) (joined : is_asking ends.client.link ≡ false)
    (are_in : AreIn (run events ends)) (still_in : (run events ends).server.connection ≡ Some connection) where
  abbrev behind : Ends
  behind = run events ends

  all : IsSo laws names are connection ends.client.link.sent ends.server.link.sent behind × EndsAskInTurn names behind
  all = all_so laws names are connection ends.client.link.sent ends.server.link.sent events ends timely ordered asks (record {
    last = connection;
    is_last = in_it;
    from = omega arith;
    so = λ same is. record {
      client = λ n low below. absurd (none_yet ends.client.link.sent n low below);
      server = λ n low below. absurd (none_yet ends.server.link.sent n low below);
      client_from = omega arith;
      server_from = omega arith;
      joined = joined;
    };
  }) come may

  pub say_blocks : BothSayBlocks names ends.client.link.sent ends.server.link.sent behind
  say_blocks = all.0.so (same_Some all.0.last connection (sym all.0.is_last ∙ still_in)) are_in

  then_ask : AskInTurn names behind
  then_ask = all.1 are_in

  -- Where both wait then, and each took last a PDU that the other has said meanwhile, an answer is still to come to one of them.
  pub an_answer_comes : IsWaiting behind.client.link → IsWaiting behind.server.link → ends.server.link.sent < reached_by behind.client.link → ends.client.link.sent < reached_by behind.server.link
      → ((n : ℕ) × AnswerComes names (of_client behind) n) ⊎ ((n : ℕ) × AnswerComes names (of_server behind) n)
  an_answer_comes client_waits server_waits client_took server_took = choose client_asked.comes server_asked.comes
    where
      client_asked : HasAsked names (of_client behind)
      client_asked = then_ask.client.asked client_waits

      server_asked : HasAsked names (of_server behind)
      server_asked = then_ask.server.asked server_waits

      choose : (reached_by behind.server.link ≤ client_asked.number) ⊎ ((n : ℕ) × AnswerComes names (of_client behind) n)
          → (reached_by behind.client.link ≤ server_asked.number) ⊎ ((n : ℕ) × AnswerComes names (of_server behind) n)
          → ((n : ℕ) × AnswerComes names (of_client behind) n) ⊎ ((n : ℕ) × AnswerComes names (of_server behind) n)
      choose (inr comes) also = inl comes
      choose (inl not_passed) (inr comes) = inr comes
      choose (inl not_passed) (inl server_not_passed) = absurd (never_both names (of_client behind) then_ask.client then_ask.server then_ask.apart ends.client.link.sent ends.server.link.sent
          say_blocks.client say_blocks.server client_asked not_passed server_asked server_not_passed server_took client_took)

-- ---- and after the ends' own work, in which nothing comes

-- Two ends at a later moment, where as much came to each, and none waits that didn't: an answer that was to come still is.
record HasStood (names : Names) (one other : Ends) : Type 0 where
  in_before : AreIn one
  connection : other.server.connection ≡ one.server.connection
  client_waits : IsWaiting other.client.link → IsWaiting one.client.link
  server_waits : IsWaiting other.server.link → IsWaiting one.server.link
  client_reached : reached_by other.client.link ≡ reached_by one.client.link
  server_reached : reached_by other.server.link ≡ reached_by one.server.link
  answers : AnAnswerComes names one → AnAnswerComes names other

idle_enters : (ends : Ends) → (outcome Ticks ends.moment ends.server).enters ≡ None
unfolding outcome
idle_enters ends = refl

module _ (laws : LawsBelow) (names : Names) (are : AreNames names) (ends : Ends) (timely : Timely names ends) (ordered : Ordered names ends) (asks : EndsAskInTurn names ends) where
  client_idles : (call : Call) → ((p : Pdu) → CameBy ends.client.link call p → ⊥) → (may : MayCall names Role.Client call ends) → AreIn (called Role.Client call ends)
      → HasStood names ends (called Role.Client call ends)
  unfolding called
  client_idles call none may in_new = record {
    in_before = record { client = client_was_in laws names are 0 ends timely ordered call may in_new; server = in_new.server };
    connection = refl;
    client_waits = idle.0;
    server_waits = λ waits. waits;
    client_reached = idle.1;
    server_reached = refl;
    answers = comes;
  }
    where
      idle : (IsWaiting (client_end laws names are ends timely ordered call may in_new asks).link → IsWaiting ends.client.link)
          × (reached_by (client_end laws names are ends timely ordered call may in_new asks).link ≡ reached_by ends.client.link)
      idle = stands_by names (client_called laws names are ends timely ordered call may in_new asks) none

      comes : AnAnswerComes names ends → AnAnswerComes names (client_new laws names are 0 ends timely ordered call may)
      comes (inl (n, c)) = inl (n, own_still_comes names (client_called laws names are ends timely ordered call may in_new asks) none n c)
      comes (inr (n, c)) = inr (n, still_comes names (client_called laws names are ends timely ordered call may in_new asks) n c)

  server_idles : (in_new : AreIn (called Role.Server Ticks ends)) → HasStood names ends (called Role.Server Ticks ends)
  unfolding called
  server_idles in_new = record {
    in_before = record { client = in_new.client; server = was };
    connection = connection_is laws names are 0 ends timely ordered Ticks tt in_new was;
    client_waits = λ waits. waits;
    server_waits = idle.0;
    client_reached = refl;
    server_reached = idle.1;
    answers = comes;
  }
    where
      was : is_open ends.server.link.phase ≡ true
      was = choose (is_open ends.server.link.phase) refl
        where
          choose : (b : Bool) → is_open ends.server.link.phase ≡ b → b ≡ true
          choose true e = refl
          choose false e = absurd (stays_outside laws Ticks ends.moment ends.server e (idle_enters ends) in_new.server)

      idle : (IsWaiting (server_end laws names are ends timely ordered Ticks tt in_new was asks).link → IsWaiting ends.server.link)
          × (reached_by (server_end laws names are ends timely ordered Ticks tt in_new was asks).link ≡ reached_by ends.server.link)
      idle = stands_by names (server_called laws names are ends timely ordered Ticks tt in_new was asks) (λ p came. came)

      comes : AnAnswerComes names ends → AnAnswerComes names (server_new laws names are 0 ends timely ordered Ticks tt)
      comes (inr (n, c)) = inr (n, own_still_comes names (server_called laws names are ends timely ordered Ticks tt in_new was asks) (λ p came. came) n c)
      comes (inl (n, c)) = inl (n, still_comes names (server_called laws names are ends timely ordered Ticks tt in_new was asks) n c)

stood_then : (names : Names) (one mid other : Ends) → HasStood names one mid → HasStood names mid other → HasStood names one other
stood_then names one mid other a b = record {
  in_before = a.in_before;
  connection = b.connection ∙ a.connection;
  client_waits = λ waits. a.client_waits (b.client_waits waits);
  server_waits = λ waits. a.server_waits (b.server_waits waits);
  client_reached = b.client_reached ∙ a.client_reached;
  server_reached = b.server_reached ∙ a.server_reached;
  answers = λ comes. b.answers (a.answers comes);
}

module _ (laws : LawsBelow) (names : Names) (are : AreNames names) (ends : Ends) (timely : Timely names ends) (ordered : Ordered names ends) (asks : EndsAskInTurn names ends) (are_in : AreIn (run own_work ends)) where
  abbrev ticked : Ends
  ticked = called Role.Client Ticks ends

  abbrev opened : Ends
  opened = called Role.Client Opens ticked

  ticked_timely : Timely names ticked
  ticked_timely = laws.every_event_keeps_time names (Calls Role.Client Ticks) ends are timely tt

  ticked_ordered : Ordered names ticked
  ticked_ordered = laws.every_event_keeps_order_kept names (Calls Role.Client Ticks) ends are timely ordered tt

  ticked_asks : EndsAskInTurn names ticked
  ticked_asks = event_asks laws names (Calls Role.Client Ticks) ends are timely ordered tt asks

  opened_timely : Timely names opened
  opened_timely = laws.every_event_keeps_time names (Calls Role.Client Opens) ticked are ticked_timely tt

  opened_ordered : Ordered names opened
  opened_ordered = laws.every_event_keeps_order_kept names (Calls Role.Client Opens) ticked are ticked_timely ticked_ordered tt

  opened_asks : EndsAskInTurn names opened
  opened_asks = event_asks laws names (Calls Role.Client Opens) ticked are ticked_timely ticked_ordered tt ticked_asks

  last : HasStood names opened (run own_work ends)
  last = server_idles laws names are opened opened_timely opened_ordered opened_asks are_in

  mid : HasStood names ticked opened
  mid = client_idles laws names are ticked ticked_timely ticked_ordered ticked_asks Opens (λ p came. came) tt last.in_before

  work_stands : HasStood names ends (run own_work ends)
  work_stands = stood_then names ends ticked (run own_work ends) (client_idles laws names are ends timely ordered asks Ticks (λ p came. came) tt mid.in_before)
      (stood_then names ticked opened (run own_work ends) mid last)

-- ---- a round

-- what holds of two ends at any moment
record Kept (names : Names) (ends : Ends) : Type 0 where
  timely : Timely names ends
  ordered : Ordered names ends
  asks : EndsAskInTurn names ends

all_kept : (laws : LawsBelow) (names : Names) → AreNames names → (events : List Event) (ends : Ends) → Kept names ends → MayRun names events ends → Kept names (run events ends)
all_kept laws names are [] ends kept may = kept
all_kept laws names are (e ∷ events) ends kept may = all_kept laws names are events (happened e ends) (record {
  timely = laws.every_event_keeps_time names e ends are kept.timely may.0;
  ordered = laws.every_event_keeps_order_kept names e ends are kept.timely kept.ordered may.0;
  asks = event_asks laws names e ends are kept.timely kept.ordered may.0 kept.asks;
}) may.1

module _ (laws : LawsBelow) (names : Names) (are : AreNames names) (events : List Event) (ends : Ends) (now : Kept names ends) (come : Each IsComing events) (may : MayRun names events ends)
    (are_in : AreIn (run own_work (run events ends))) (wait : BothWait ends (run own_work (run events ends))) where
  abbrev came : Ends
  came = run events ends

  kept : Kept names came
  kept = all_kept laws names are events ends now may

  stands : HasStood names came (run own_work came)
  stands = work_stands laws names are came kept.timely kept.ordered kept.asks are_in

  client_since : IsSameClient laws names are ends came
  client_since = all_same laws names are events ends now.timely come may

  both : Both names came
  both = both_of names came kept.timely kept.ordered stands.in_before

  -- Two ends to which something comes, and which then do their own work: where both wait after that, and each took last a PDU that the other has
  -- said meanwhile, an answer is still to come to one of them.
  answer_left : AnAnswerComes names (run own_work came)
  answer_left = choose (is_asking ends.client.link) refl
    where
      was_in : is_open ends.client.link.phase ≡ true
      was_in = client_since.was_in stands.in_before.client

      choose : (b : Bool) → is_asking ends.client.link ≡ b → AnAnswerComes names (run own_work came)
      choose true asking = absurd ((fresh_never_waits names came both (kept.asks stands.in_before)
          (all_fresh laws names are events ends now.timely now.ordered now.asks (λ in_old. fresh_asking names ends (both_of names ends now.timely now.ordered in_old) asking) come may stands.in_before)).0
          (stands.client_waits wait.client))
      choose false not_asking = stands.answers (an_answer_comes laws names are events ends now.timely now.ordered now.asks come may now.timely.newest there.0 not_asking stands.in_before
          (laws.one_connection_inside names came kept.timely stands.in_before.client stands.in_before.server ∙ client_since.connection ∙ there.1) (stands.client_waits wait.client) (stands.server_waits wait.server)
          (let e = stands.client_reached in let t = wait.client_took in omega (arith, t, e)) (let e = stands.server_reached in let t = wait.server_took in omega (arith, t, e)))
        where
          there : (ends.server.connection ≡ Some now.timely.newest) × (ends.client.connection ≡ Some now.timely.newest)
          there = (now.timely.ends_timed.joined (has_heard ends.client.link was_in not_asking), now.timely.ends_timed.client.in_newest (is_inside ends.client.link was_in))

pub round_leaves_answer : (laws : LawsBelow) (names : Names) → AreNames names → (events : List Event) (ends : Ends) → Timely names ends → Ordered names ends → EndsAskInTurn names ends → Each IsComing events
    → MayRun names events ends → AreIn (run own_work (run events ends)) → BothWait ends (run own_work (run events ends)) → AnAnswerComes names (run own_work (run events ends))
round_leaves_answer laws names are events ends timely ordered asks = answer_left laws names are events ends (record { timely = timely; ordered = ordered; asks = asks })

-- so it is after every list of events
pub answer_comes_behind : (laws : LawsBelow) (names : Names) (start : Start) (events more : List Event) → AreNames names → MayRun names events (started names start) → Each IsComing more
    → MayRun names more (run events (started names start)) → AreIn (run own_work (run more (run events (started names start))))
    → BothWait (run events (started names start)) (run own_work (run more (run events (started names start)))) → AnAnswerComes names (run own_work (run more (run events (started names start))))
answer_comes_behind laws names start events more are may = answer_left laws names are more (run events (started names start))
    (all_kept laws names are events (started names start) (record { timely = laws.starts_in_time names start are; ordered = laws.every_event_keeps_order_starts names start; asks = asks_start names start }) may)
