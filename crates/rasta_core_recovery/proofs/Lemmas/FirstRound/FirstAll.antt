-- A client that had joined before the first round, whatever comes in that of what was sent by then: both ends are up soon.
use Rattle.rasta_core_recovery.proofs.Words.Basics.{◌≡◌, ℕ, zero, suc, ◌⊎◌, inl, inr, ◌∙◌, ◌+◌, ◌-◌, ◌≤◌, ◌<◌, Bool, true, false, List, [], ◌∷◌, ◌++◌, length, drop, refl, sym, ap, subst, arith}
use Rattle.rasta_core_recovery.proofs.Words.Links.{settled, LinkState, is_asking, is_open, Role, Pdu, Each, Sent, Event, IsAmong, Passes, happened, run, AreNames, Names, Ends}
use Rattle.rasta_core_recovery.proofs.Words.Recovery.{AnAnswerComes, AskInTurn, BothWait, EndsAskInTurn, AreIn, reached_by, ComeFirst, StayBelowLimitFrom, WereSent, round_of, AreUp, Flow, comings, events_of, good_rounds, own_work, recovery_rounds, LawsBelow}
use Rattle.rasta_core_recovery.proofs.Lemmas.FirstRound.AnyFirst.{below_first}
use Rattle.rasta_core_recovery.proofs.Lemmas.Asking.AsksEvents.{all_ask}
use Rattle.rasta_core_recovery.proofs.Lemmas.Asking.AsksRound.{comings_come, round_leaves_answer}
use Rattle.rasta_core_recovery.proofs.Lemmas.Rounds.Bridge.{LeavesIt, leaves_it, passed_on, ten_later, left_clocks, front_may}
use Rattle.rasta_core_recovery.proofs.Lemmas.Rounds.Course.{Joined, returned}
use Rattle.rasta_core_recovery.proofs.Lemmas.Rounds.Deed.{Passes as PassesPdu, Taken}
use Rattle.rasta_core_recovery.proofs.Lemmas.ComingUp.Early.{HealthyOrOld}
use Rattle.rasta_core_recovery.proofs.Lemmas.Rounds.Facts.{Shares, each_both}
use Rattle.rasta_core_recovery.proofs.Lemmas.ComingUp.Fates.{Comes, JustOut, Leaves, Stays, joined_step, leaves_comes, out_comes, search, seen_narrow, server_joined, server_quiet}
use Rattle.rasta_core_recovery.proofs.Lemmas.FirstRound.FirstBoth.{Directions}
use Rattle.rasta_core_recovery.proofs.Lemmas.FirstRound.FirstDue.{each_of}
use Rattle.rasta_core_recovery.proofs.Lemmas.FirstRound.FirstHears.{Below, IsBelow}
use Rattle.rasta_core_recovery.proofs.Lemmas.FirstRound.FirstLists.{to_client_since, to_server_since, turns_at}
use Rattle.rasta_core_recovery.proofs.Lemmas.FirstRound.FirstNew.{StandsAt, Stood, stood_behind}
use Rattle.rasta_core_recovery.proofs.Lemmas.FirstRound.FirstRises.{Climbs, KeepsOf, Lately, lately_of}
use Rattle.rasta_core_recovery.proofs.Lemmas.FirstRound.FirstRows.{rows_to_client, rows_to_server, says}
use Rattle.rasta_core_recovery.proofs.Lemmas.FirstRound.FirstSaid.{chain_returns}
use Rattle.rasta_core_recovery.proofs.Lemmas.FirstRound.FirstShort.{few_wait, sent_settled, short_round}
use Rattle.rasta_core_recovery.proofs.Lemmas.FirstRound.FirstSince.{IsSince, client_since, client_source, server_since, server_source}
use Rattle.rasta_core_recovery.proofs.Lemmas.FirstRound.FirstStands.{stands_early}
use Rattle.rasta_core_recovery.proofs.Lemmas.FirstRound.FirstTakes.{IsShort, all_by, came_to_client, came_to_server}
use Rattle.rasta_core_recovery.proofs.Lemmas.FirstRound.FirstTalk.{same_kept}
use Rattle.rasta_core_recovery.proofs.Lemmas.FirstRound.FirstTalks.{comes_early, same_rounds, seen_then}
use Rattle.rasta_core_recovery.proofs.Lemmas.FirstRound.FirstTurns.{Answer, IsNth, Turns, answers_with, each_turned, row_nth, waiting_is, not_asking_reached}
use Rattle.rasta_core_recovery.proofs.Lemmas.FirstRound.FirstWays.{direction_of}
use Rattle.rasta_core_recovery.proofs.Lemmas.Rounds.Happen.{may_happen, rounds_lead, rounds_may_happen, run_joined}
use Rattle.rasta_core_recovery.proofs.Lemmas.ComingUp.Healthy.{Healthy, waits}
use Rattle.rasta_core_recovery.proofs.Lemmas.Rounds.Links.{Pair, end_round, pair_round, pair_rounds}
use Rattle.rasta_core_recovery.proofs.Lemmas.Rounds.Lists.{each_drop}
use Rattle.rasta_core_recovery.proofs.Lemmas.Rounds.Mirror.{Mirrors}
use Rattle.rasta_core_recovery.proofs.Lemmas.Rounds.Passed.{IsUnderWay, without}
use Rattle.rasta_core_recovery.proofs.Lemmas.ComingUp.Recovers.{climbing, healthy_at, is_up_then, mirrors, seen}
use Rattle.rasta_core_recovery.proofs.Lemmas.Rounds.Holds.{Holds, holds_run}
use Rattle.rasta_core_recovery.proofs.Lemmas.ComingUp.Returned.{IsReturned}
use Rattle.rasta_core_recovery.proofs.Lemmas.ComingUp.Seen.{BothIn, Rows, Seen, Stay, rows_after, server_behind, server_not_asking}
use Rattle.rasta_core_recovery.proofs.Lemmas.Rounds.Turn.{Either, gone, so}
use Rattle.rasta_core_recovery.proofs.Lemmas.Rounds.Words.{Row, chain_row, voice_of}
use Rattle.rasta_core_recovery.proofs.Lemmas.FirstRound.FirstRead.{ReadRound, all_to_client, all_to_server, read_round}

-- each of a list stands in it
each_stands : (ps : List Pdu) → Each (λ (p : Pdu). (i : ℕ) × StandsAt i p ps) ps
each_stands [] = tt
each_stands (p ∷ ps) = ((0, refl), each_turned (λ (x : Pdu). (i : ℕ) × StandsAt i x ps) (λ (x : Pdu). (i : ℕ) × StandsAt i x (p ∷ ps)) ps (λ x (i, is). (suc i, is)) (each_stands ps))

-- what an end keeps isn't both of before the round and of the round
never_old : (kept clock last : ℕ) → kept ≤ last → clock ≡ last + 10 → kept ≡ clock → ⊥
never_old kept clock last old at is = omega (arith, old, at, is)

module _ (laws : LawsBelow) (names : Names) (are : AreNames names) (f : Flow) (start : Holds names f.ends) (asks : EndsAskInTurn names f.ends) (due : List Sent) (comes : ComeFirst names due f) where
  abbrev g : Flow
  g = round_of due f

  abbrev t : ℕ
  t = f.ends.time + 10000

  abbrev events : List Event
  events = Passes 10000 10000 10000 ∷ (comings (f.ends.time + 10000) due ++ own_work)

  then_asks : EndsAskInTurn names g.ends
  then_asks = all_ask laws names are events f.ends start.timely start.ordered asks comes.may

  first_round : ReadRound names f due
  first_round = read_round laws names are f start due comes

  open first_round use {then_holds, read, mirror, facts_now as facts_a, left}

  all_were : WereSent f.ends.sent f.ends.sent
  all_were = each_of (λ (d : Sent). IsAmong d f.ends.sent) f.ends.sent (λ d is. is)

  -- these ends, with all that was sent before; and with what comes
  abbrev a : Pair
  a = mirror.0

  abbrev p : Pair
  p = record { client = a.client; server = a.server; to_client = read.to_client; to_server = read.to_server }

  abbrev q : Pair
  q = pair_round p

  -- ---- good rounds after it

  abbrev at_round : ℕ → Flow
  at_round i = good_rounds i g

  holds_at : (i : ℕ) → Holds names (at_round i).ends
  holds_at i = subst (Holds names) (sym (rounds_lead i g)) (holds_run laws names are (events_of i g) g.ends then_holds (rounds_may_happen names i g))

  asks_at : (i : ℕ) → EndsAskInTurn names (at_round i).ends
  asks_at i = subst (EndsAskInTurn names) (sym (rounds_lead i g))
      (all_ask laws names are (events_of i g) g.ends then_holds.timely then_holds.ordered then_asks (rounds_may_happen names i g))

  mirrors_at : (i : ℕ) → Mirrors names (at_round i) (pair_rounds i q)
  mirrors_at i = mirrors laws names are g then_holds q left.mirrors i

  left_at : (i : ℕ) → LeavesIt names (at_round i) (drop (at_round i).passed (at_round i).ends.sent) (pair_rounds i q)
  left_at i = leaves_it laws names are (at_round i) (drop (at_round i).passed (at_round i).ends.sent) (pair_rounds i q) (record {
    timely = (mirrors_at i).timely;
    client = (mirrors_at i).client;
    server = (mirrors_at i).server;
    to_client = (mirrors_at i).to_client;
    to_server = (mirrors_at i).to_server;
    may = may_happen names (at_round i);
  })

  module _ (n : ℕ) (long : recovery_rounds ≤ suc n) (room : StayBelowLimitFrom due n f) where
    then_seen : Seen names n q
    then_seen = seen laws names are g then_holds q left.mirrors n room.2

    client_clock : q.client.clock ≡ p.client.clock + 10
    client_clock = (left_clocks names f due p start.timely mirror.1.client mirror.1.server left).0

    server_clock : q.server.clock ≡ p.server.clock + 10
    server_clock = (left_clocks names f due p start.timely mirror.1.client mirror.1.server left).1

    -- ---- both were inside, and stay

    module _ (is : Joined p.client.clock p.client) (was : is_open p.server.phase ≡ true) (j : Joined q.client.clock q.client) (s : Stays 1 q) where
      in_it : BothIn q
      in_it = s.stay.both 0 (omega arith)

      server_is : Joined p.server.clock p.server
      server_is = server_joined names a facts_a was

      rows : Rows p q
      rows = rows_after p is server_is in_it

      shares0 : Shares p.client p.server × Shares p.server p.client
      shares0 = facts_a.shares is.connected is.joined was

      shares : Shares q.client q.server × Shares q.server q.client
      shares = (then_seen.facts 0).shares in_it.client j.joined in_it.server

      climbs : Climbs q
      climbs = climbing laws names are g then_holds q left.mirrors 0 in_it

      below : Below a
      below = below_first names f f.ends.sent all_were start.timely start.ordered start.rising a mirror.1 (record { client = is.connected; server = was })

      server_not : is_asking q.server ≡ false
      server_not = server_not_asking names q.server (then_seen.facts 0).server

      client_keeps : KeepsOf q.client q.server climbs.client_kept
      client_keeps = climbs.client_keeps j.joined

      client_first : q.client.own_first ≡ p.client.own_first
      unfolding pair_round
      client_first = (says p.to_client p.client is in_it.client).own_first

      server_first : q.server.own_first ≡ p.server.own_first
      unfolding pair_round
      server_first = (says p.to_server p.server server_is in_it.server).own_first

      -- what both say in it
      by_client : Lately q.server q.client p.client.sent q.client.sent (q.client.expected - 1) climbs.client_kept q.to_server
      by_client = lately_of q.server q.client p.client.sent q.client.sent climbs.client_kept q.to_server climbs.client_low (omega (arith, shares0.1.some, shares0.1.most)) shares.0.fits refl j.joined
          (let r = client_keeps.recent in omega (arith, r)) rows.client climbs.to_server

      by_server : Lately q.client q.server p.server.sent q.server.sent (q.server.expected - 1) climbs.server_kept q.to_client
      by_server = lately_of q.client q.server p.server.sent q.server.sent climbs.server_kept q.to_client climbs.server_low (omega (arith, shares0.0.some, shares0.0.most)) shares.1.fits refl server_not
          (let r = climbs.server_keeps.recent in omega (arith, r)) rows.server climbs.to_client

      -- ---- what each has come to

      client_confirmed_fits : q.server.expected - 1 < 2147483648
      client_confirmed_fits = omega (arith, shares.1.most, shares.0.fits)

      server_confirmed_fits : q.client.expected - 1 < 2147483648
      server_confirmed_fits = omega (arith, shares.0.most, shares.1.fits)

      server_low : q.server.clock < by_client.reading + 2147483648
      server_low = let r = by_client.recent in omega (arith, r)

      client_low : q.client.clock < by_server.reading + 2147483648
      client_low = let r = by_server.recent in omega (arith, r)

      abbrev Always : Pdu → Type 0
      Always x = Unit {0}

      abbrev Any : ℕ → Type 0
      Any x = Unit {0}

      abbrev Old : ℕ → Type 0
      Old own = own ≤ p.server.clock

      always : (x : Pdu) (l k : LinkState) (qs : List Pdu) → Always x → Joined q.client.clock l → PassesPdu x l → Taken x l k qs → Any k.own_stamp
      always x l k qs r i passes taken = tt

      turn : (x : Pdu) (l k : LinkState) (qs : List Pdu) → IsReturned p.server.clock x → Joined q.server.clock l → PassesPdu x l → Taken x l k qs → Old k.own_stamp
      turn x l k qs r i passes taken =
          let known = r taken.speech in let old = known.2 in let recent = known.3 in
          let aged = returned known.0 q.server.clock x l i.clock known.1 (omega (arith, old, server_clock)) (omega (arith, recent, server_clock)) in
          omega (arith, taken.own_stamp, aged, i.clock, old, server_clock)

      abbrev ToClient : Pdu → Type 0
      ToClient x = (IsBelow p.server.own_first p.server.sent p.server.clock x × Always x) ⊎ ((i : ℕ) × StandsAt i x q.to_client)

      abbrev ToServer : Pdu → Type 0
      ToServer x = (IsBelow p.client.own_first p.client.sent p.client.clock x × IsReturned p.server.clock x) ⊎ ((i : ℕ) × StandsAt i x q.to_server)

      client_comes : Each ToClient p.to_client
      client_comes = all_to_client names f due first_round ToClient
          (each_turned (IsBelow p.server.own_first p.server.sent p.server.clock) ToClient a.to_client (λ x b. inl (b, tt)) below.to_client)
          (each_turned (λ (x : Pdu). (i : ℕ) × StandsAt i x q.to_client) ToClient q.to_client (λ x i. inr i) (each_stands q.to_client))

      server_comes : Each ToServer p.to_server
      server_comes = all_to_server names f due first_round ToServer
          (each_turned (λ (x : Pdu). IsBelow p.client.own_first p.client.sent p.client.clock x × IsReturned p.server.clock x) ToServer a.to_server (λ x b. inl b)
          (each_both (IsBelow p.client.own_first p.client.sent p.client.clock) (IsReturned p.server.clock) a.to_server below.to_server (facts_a.returned was)))
          (each_turned (λ (x : Pdu). (i : ℕ) × StandsAt i x q.to_server) ToServer q.to_server (λ x i. inr i) (each_stands q.to_server))

      abbrev ClientStood : LinkState → Type 0
      ClientStood l = Stood p.server.own_first p.server.sent p.server.clock q.client.clock (voice_of q.server) by_server.reading q.server.sent (q.server.expected - 1) climbs.server_kept
          by_server.count q.to_client by_server.chain server_first shares.1.fits client_confirmed_fits climbs.server_keeps.before client_low Always Any always l

      abbrev ServerStood : LinkState → Type 0
      ServerStood l = Stood p.client.own_first p.client.sent p.client.clock q.server.clock (voice_of q.client) by_client.reading q.client.sent (q.client.expected - 1) climbs.client_kept
          by_client.count q.to_server by_client.chain client_first shares.0.fits server_confirmed_fits client_keeps.before server_low (IsReturned p.server.clock) Old turn l

      client_now : q.client ≡ (end_round q.client.clock p.to_client p.client).link
      unfolding pair_round
      client_now = ap (λ (x : ℕ). (end_round x p.to_client p.client).link) (sym client_clock)

      server_now : q.server ≡ (end_round q.server.clock p.to_server p.server).link
      unfolding pair_round
      server_now = ap (λ (x : ℕ). (end_round x p.to_server p.server).link) (sym server_clock)

      client_stood : ClientStood q.client
      client_stood = choose (stood_behind p.server.own_first p.server.sent p.server.clock q.client.clock (voice_of q.server) by_server.reading q.server.sent (q.server.expected - 1) climbs.server_kept
          by_server.count q.to_client by_server.chain server_first shares.1.fits client_confirmed_fits climbs.server_keeps.before client_low Always Any always
          p.to_client p.client client_clock is shares0.0.first (shares.1.first ∙ client_first) shares0.0.most below.client_kept keeps.kept_is keeps.before keeps.recent tt client_comes)
        where
          keeps : KeepsOf p.client p.server below.client_kept
          keeps = below.client_keeps is.joined

          choose : Either q.client.clock (end_round q.client.clock p.to_client p.client).link (ClientStood (end_round q.client.clock p.to_client p.client).link) → ClientStood q.client
          choose (gone out) = absurd (cc (out.is_out, in_it.client, ap (λ (l : LinkState). is_open l.phase) client_now))
          choose (so stood) = subst ClientStood (sym client_now) stood

      server_stood : ServerStood q.server
      server_stood = choose (stood_behind p.client.own_first p.client.sent p.client.clock q.server.clock (voice_of q.client) by_client.reading q.client.sent (q.client.expected - 1) climbs.client_kept
          by_client.count q.to_server by_client.chain client_first shares.0.fits server_confirmed_fits client_keeps.before server_low (IsReturned p.server.clock) Old turn
          p.to_server p.server server_clock server_is shares0.1.first (shares.0.first ∙ server_first) shares0.1.most below.server_kept below.server_keeps.kept_is below.server_keeps.before
          below.server_keeps.recent server_is.own server_comes)
        where
          choose : Either q.server.clock (end_round q.server.clock p.to_server p.server).link (ServerStood (end_round q.server.clock p.to_server p.server).link) → ServerStood q.server
          choose (gone out) = absurd (cc (out.is_out, in_it.server, ap (λ (l : LinkState). is_open l.phase) server_now))
          choose (so stood) = subst ServerStood (sym server_now) stood

      -- ---- what is under way, but for what each has passed

      abbrev m : ℕ
      m = q.client.expected - p.server.sent

      abbrev k : ℕ
      k = q.server.expected - p.client.sent

      client_under : IsUnderWay q.client q.server p.server.sent m q.to_client
      client_under = record { is = j; first = shares.0.first; row = rows.server; passed = omega arith; most = shares.0.most; fits = shares.1.fits }

      server_then : Joined q.server.clock q.server
      server_then = server_joined names q (then_seen.facts 0) in_it.server

      server_under : IsUnderWay q.server q.client p.client.sent k q.to_server
      server_under = record { is = server_then; first = shares.1.first; row = rows.client; passed = omega arith; most = shares.1.most; fits = shares.0.fits }

      abbrev r : Pair
      r = without m k q

      long_so : 1560 ≤ n
      long_so = omega (arith, long)

      abbrev d : Directions names p.client.clock p.server.clock r
      d = record {
        client = (then_seen.facts 0).client;
        server = (then_seen.facts 0).server;
        client_kept = climbs.client_kept;
        server_kept = climbs.server_kept;
        to_client = direction_of p.server.own_first p.server.sent p.server.clock q.client q.server by_server.reading by_server.count climbs.client_kept climbs.server_kept q.to_client by_server.chain
            server_first shares.1.fits client_confirmed_fits climbs.server_keeps.before client_low Always Any always j shares.0.first shares.0.some shares.0.most client_keeps.kept_is client_keeps.before
            client_keeps.recent ((then_seen.server_past 0).said in_it.server) by_server.recent server_clock client_stood;
        to_server = direction_of p.client.own_first p.client.sent p.client.clock q.server q.client by_client.reading by_client.count climbs.server_kept climbs.client_kept q.to_server by_client.chain
            client_first shares.0.fits server_confirmed_fits client_keeps.before server_low (IsReturned p.server.clock) Old turn server_then shares.1.first shares.1.some shares.1.most
            climbs.server_keeps.kept_is climbs.server_keeps.before climbs.server_keeps.recent ((then_seen.client_past 0).said in_it.client) by_client.recent client_clock server_stood;
      }

      -- ---- the server's own stamp

      own_old : (climbs.client_kept ≤ p.server.clock) ⊎ (climbs.server_kept ≤ p.client.clock) → q.server.own_stamp ≤ p.server.clock
      own_old (inl o) = server_behind p server_is (all_to_server names f due first_round (IsReturned p.server.clock) (facts_a.returned was)
          (chain_returns p.server.clock (voice_of q.client) p.client.sent by_client.count by_client.reading q.client.sent (q.client.expected - 1) climbs.client_kept q.to_server by_client.chain o
          (let x = by_client.recent in omega (arith, x, server_clock)))) in_it.server
      own_old (inr o) = by server_stood
        where
          by : ServerStood q.server → q.server.own_stamp ≤ p.server.clock
          by (inl (old, z)) = z
          by (inr h) = absurd (never_old climbs.server_kept q.client.clock p.client.clock o client_clock
              (same_kept climbs.server_kept q.client.clock q.client.clock climbs.server_keeps.before (let x = climbs.server_keeps.recent in omega (arith, x)) (omega arith) (omega arith)
              (sym climbs.server_keeps.kept_is ∙ h.kept)))

      -- an end that keeps a stamp of the round took one that was said in it
      client_took : climbs.client_kept ≡ q.server.clock → p.server.sent < q.client.expected
      client_took now = by client_stood
        where
          by : ClientStood q.client → p.server.sent < q.client.expected
          by (inl (o, z)) = absurd (never_old climbs.client_kept q.server.clock p.server.clock
              (omega (
                arith,
                o.before,
                same_kept climbs.client_kept o.kept q.server.clock client_keeps.before (let x = client_keeps.recent in omega (arith, x)) (omega (arith, o.before, server_clock))
                    (omega (arith, o.recent, server_clock)) (sym client_keeps.kept_is ∙ o.kept_is),
              )) server_clock now)
          by (inr h) = omega (arith, h.expected)

      server_took : climbs.server_kept ≡ q.client.clock → p.client.sent < q.server.expected
      server_took now = by server_stood
        where
          by : ServerStood q.server → p.client.sent < q.server.expected
          by (inl (o, z)) = absurd (never_old climbs.server_kept q.client.clock p.client.clock
              (omega (
                arith,
                o.before,
                same_kept climbs.server_kept o.kept q.client.clock climbs.server_keeps.before (let x = climbs.server_keeps.recent in omega (arith, x))
                    (omega (arith, o.before, client_clock)) (omega (arith, o.recent, client_clock)) (sym climbs.server_keeps.kept_is ∙ o.kept_is),
              )) client_clock now)
          by (inr h) = omega (arith, h.expected)

      -- ---- in the good rounds after it

      abbrev same_then : (i : ℕ) → pair_rounds (suc i) q ≡ pair_rounds (suc i) r
      same_then i = same_rounds names n q long_so then_seen j s p.server.sent p.client.sent m k client_under server_under i

      seen_r : Seen names n r
      seen_r = seen_then names n q long_so then_seen j s p.server.sent p.client.sent m k client_under server_under

      client_at : (i : ℕ) → (at_round i).ends.client.link ≡ (pair_rounds i r).client
      client_at zero = left.mirrors.client
      client_at (suc i) = (mirrors_at (suc i)).client ∙ ap (λ (x : Pair). x.client) (same_then i)

      server_at : (i : ℕ) → (at_round i).ends.server.link ≡ (pair_rounds i r).server
      server_at zero = left.mirrors.server
      server_at (suc i) = (mirrors_at (suc i)).server ∙ ap (λ (x : Pair). x.server) (same_then i)

      few_before : (length p.client.waiting ≤ 20) × (length p.server.waiting ≤ 20)
      few_before =
          let x = few_wait names f.ends start.timely start.ordered (ap (λ (l : LinkState). is_open l.phase) mirror.1.client ∙ is.connected)
          (ap (λ (l : LinkState). is_open l.phase) mirror.1.server ∙ was) in
          (omega (arith, x.0, ap (λ (l : LinkState). length l.waiting) mirror.1.client), omega (arith, x.1, ap (λ (l : LinkState). length l.waiting) mirror.1.server))

      client_since_start : Each (IsSince names t Role.Client g.ends.sent) r.to_server
      client_since_start = each_drop (IsSince names t Role.Client g.ends.sent) k q.to_server
          (subst (λ (ds : List Sent). Each (IsSince names t Role.Client ds) q.to_server) (sym left.sent) (client_since names f due p left t (omega arith)))

      server_since_start : Each (IsSince names t Role.Server g.ends.sent) r.to_client
      server_since_start = each_drop (IsSince names t Role.Server g.ends.sent) m q.to_client
          (subst (λ (ds : List Sent). Each (IsSince names t Role.Server ds) q.to_client) (sym left.sent) (server_since names f due p left t (omega arith)))

      from_t : t ≤ g.ends.time
      from_t = omega (arith, left.time)

      abbrev x_from : ℕ
      x_from = d.to_client.number

      abbrev y_from : ℕ
      y_from = d.to_server.number

      x_row : Row (IsNth r.server.own_first) x_from r.to_client r.server.sent
      x_row = row_nth (voice_of q.server) x_from q.server.sent r.to_client
          (chain_row (voice_of q.server) x_from d.to_client.count d.to_client.reading q.server.sent (q.server.expected - 1) climbs.server_kept r.to_client d.to_client.chain)

      y_row : Row (IsNth r.client.own_first) y_from r.to_server r.client.sent
      y_row = row_nth (voice_of q.client) y_from q.client.sent r.to_server
          (chain_row (voice_of q.client) y_from d.to_server.count d.to_server.reading q.client.sent (q.client.expected - 1) climbs.client_kept r.to_server d.to_server.chain)

      -- ---- they stay for so long

      module _ (last : ℕ) (least : 177 ≤ last) (most : last ≤ 178) (stay : Stay last r) where
        joined_at : (i : ℕ) → i ≤ last → Joined (pair_rounds i r).client.clock (pair_rounds i r).client
        joined_at zero le = j
        joined_at (suc i) le = choose (joined_step (pair_rounds i r) (joined_at i (omega (arith, le))))
          where
            choose : JustOut (pair_rounds (suc i) r).client ⊎ Joined (pair_rounds (suc i) r).client.clock (pair_rounds (suc i) r).client
                → Joined (pair_rounds (suc i) r).client.clock (pair_rounds (suc i) r).client
            choose (inl out) = absurd (let c = (stay.both (suc i) le).client in cc (out.is_out, c))
            choose (inr then_is) = then_is

        server_joined_at : (i : ℕ) → i ≤ last → Joined (pair_rounds i r).server.clock (pair_rounds i r).server
        server_joined_at i le = server_joined names (pair_rounds i r) (seen_r.facts i) (stay.both i le).server

        client_in : (i : ℕ) → i ≤ last → is_open (at_round i).ends.client.link.phase ≡ true
        client_in i le = ap (λ (l : LinkState). is_open l.phase) (client_at i) ∙ (stay.both i le).client

        server_in : (i : ℕ) → i ≤ last → is_open (at_round i).ends.server.link.phase ≡ true
        server_in i le = ap (λ (l : LinkState). is_open l.phase) (server_at i) ∙ (stay.both i le).server

        few_at : (i : ℕ) → i ≤ last → (length (pair_rounds i r).client.waiting ≤ 20) × (length (pair_rounds i r).server.waiting ≤ 20)
        few_at i le = let x = few_wait names (at_round i).ends (holds_at i).timely (holds_at i).ordered (client_in i le) (server_in i le) in
            (omega (arith, x.0, ap (λ (l : LinkState). length l.waiting) (client_at i)), omega (arith, x.1, ap (λ (l : LinkState). length l.waiting) (server_at i)))

        short_client : (i : ℕ) → i ≤ 2 → IsShort (pair_rounds i r).to_client
        unfolding pair_round
        short_client zero le = short_round p.to_server p.server server_is few_before.1 in_it.server m
        short_client (suc i) le = short_round (pair_rounds i r).to_server (pair_rounds i r).server (server_joined_at i (omega (arith, le, least))) (few_at i (omega (arith, le, least))).1
            (stay.both (suc i) (omega (arith, le, least))).server 0

        short_server : (i : ℕ) → i ≤ 2 → IsShort (pair_rounds i r).to_server
        unfolding pair_round
        short_server zero le = short_round p.to_client p.client is few_before.0 in_it.client k
        short_server (suc i) le = short_round (pair_rounds i r).to_client (pair_rounds i r).client (joined_at i (omega (arith, le, least))) (few_at i (omega (arith, le, least))).0
            (stay.both (suc i) (omega (arith, le, least))).client 0

        client_joined : (i : ℕ) → i ≤ last → is_asking (at_round i).ends.client.link ≡ false
        client_joined i le = ap (λ (l : LinkState). is_asking l) (client_at i) ∙ (joined_at i le).joined

        server_joined_then : (i : ℕ) → i ≤ last → is_asking (at_round i).ends.server.link ≡ false
        server_joined_then i le = ap (λ (l : LinkState). is_asking l) (server_at i) ∙ (server_joined_at i le).joined

        asks_then : (i : ℕ) → i ≤ last → AskInTurn names (at_round i).ends
        asks_then i le = asks_at i (record { client = client_in i le; server = server_in i le })

        server_row : (i : ℕ) → i ≤ last → Row (IsNth (at_round i).ends.server.link.own_first) x_from (came_to_client (suc i) r) (at_round i).ends.server.link.sent
        server_row i le = subst (λ (l : LinkState). Row (IsNth l.own_first) x_from (came_to_client (suc i) r) l.sent) (sym (server_at i))
            (rows_to_client last r stay joined_at server_joined_at x_from x_row i le)

        client_row : (i : ℕ) → i ≤ last → Row (IsNth (at_round i).ends.client.link.own_first) y_from (came_to_server (suc i) r) (at_round i).ends.client.link.sent
        client_row i le = subst (λ (l : LinkState). Row (IsNth l.own_first) y_from (came_to_server (suc i) r) l.sent) (sym (client_at i))
            (rows_to_server last r stay joined_at server_joined_at y_from y_row i le)

        turns : (i : ℕ) → i ≤ 2 → Turns (all_by i r) x_from y_from
        turns i few = turns_at names g q r t from_t same_then left_at server_since_start client_since_start i few (omega (arith, left.time)) (mirrors_at i)
            (holds_at i).ordered (client_at i) (server_at i) (server_in i le) (client_joined i le) (server_joined_then i le) (asks_then i le) x_from y_from (server_row i le) (client_row i le)
          where
            le : i ≤ last
            le = omega (arith, few, least)

        -- ---- an answer comes, where both wait after the round

        abbrev passed : Ends
        passed = happened (Passes 10000 10000 10000) f.ends

        there : g.ends ≡ run own_work (run (comings t due) passed)
        there = run_joined (comings t due) own_work passed

        are_in : AreIn g.ends
        are_in = record { client = client_in 0 (omega arith); server = server_in 0 (omega arith) }

        client_passed : passed.client.link.sent ≡ p.client.sent
        unfolding pair_round
        client_passed = ap (λ (l : LinkState). l.sent) (passed_on f.ends).0
            ∙ ap (λ (x : ℕ). (settled x f.ends.client.link).sent)
            (ten_later f.ends.client.clock p.client.clock (sym (ap (λ (l : LinkState). l.clock) mirror.1.client) ∙ start.timely.client.clock))
            ∙ ap (λ (l : LinkState). (settled (p.client.clock + 10) l).sent) mirror.1.client
            ∙ sent_settled (p.client.clock + 10) p.to_client p.client refl is in_it.client

        server_passed : passed.server.link.sent ≡ p.server.sent
        unfolding pair_round
        server_passed = ap (λ (l : LinkState). l.sent) (passed_on f.ends).2
            ∙ ap (λ (x : ℕ). (settled x f.ends.server.link).sent)
            (ten_later f.ends.server.clock p.server.clock (sym (ap (λ (l : LinkState). l.clock) mirror.1.server) ∙ start.timely.server.clock))
            ∙ ap (λ (l : LinkState). (settled (p.server.clock + 10) l).sent) mirror.1.server
            ∙ sent_settled (p.server.clock + 10) p.to_server p.server refl server_is in_it.server

        client_reached : reached_by g.ends.client.link ≡ q.client.expected
        client_reached = not_asking_reached g.ends.client.link (client_joined 0 (omega arith)) ∙ ap (λ (l : LinkState). l.expected) left.mirrors.client

        server_reached : reached_by g.ends.server.link ≡ q.server.expected
        server_reached = not_asking_reached g.ends.server.link (server_joined_then 0 (omega arith)) ∙ ap (λ (l : LinkState). l.expected) left.mirrors.server

        module _ (client_now_kept : climbs.client_kept ≡ q.server.clock) (server_now_kept : climbs.server_kept ≡ q.client.clock) (client_waits : waits q.client.phase ≡ true)
            (server_waits : waits q.server.phase ≡ true) where
          both_wait : BothWait passed g.ends
          both_wait = record {
            client = waiting_is g.ends.client.link (ap (λ (l : LinkState). waits l.phase) left.mirrors.client ∙ client_waits);
            server = waiting_is g.ends.server.link (ap (λ (l : LinkState). waits l.phase) left.mirrors.server ∙ server_waits);
            client_took = (let c = client_took client_now_kept in omega (arith, c, server_passed, client_reached));
            server_took = (let c = server_took server_now_kept in omega (arith, c, client_passed, server_reached));
          }

          answer_comes : AnAnswerComes names g.ends
          answer_comes = subst (AnAnswerComes names) (sym there)
              (round_leaves_answer laws names are (comings t due) passed (laws.every_event_keeps_time names (Passes 10000 10000 10000) f.ends are start.timely comes.may.0)
              (laws.every_event_keeps_order_kept names (Passes 10000 10000 10000) f.ends are start.timely start.ordered comes.may.0)
              (all_ask laws names are (Passes 10000 10000 10000 ∷ []) f.ends start.timely start.ordered asks (comes.may.0, tt))
              (comings_come t due) (front_may names (comings t due) own_work passed comes.may.1) (subst AreIn there are_in) (subst (BothWait passed) there both_wait))

          abbrev AnswerTo : LinkState → LinkState → Type 0
          AnswerTo c v = Answer c v x_from (came_to_client 1 r) ⊎ Answer v c y_from (came_to_server 1 r)

          answered_then : AnswerTo q.client q.server
          answered_then = subst (λ (v : LinkState). AnswerTo q.client v) left.mirrors.server (subst (λ (c : LinkState). AnswerTo c g.ends.server.link) left.mirrors.client
              (answers_with names g.ends (client_joined 0 (omega arith)) (server_joined_then 0 (omega arith)) (asks_then 0 (omega arith)) x_from y_from (came_to_client 1 r) (came_to_server 1 r)
              (server_row 0 (omega arith)) (client_row 0 (omega arith))
              (server_source names g q left.mirrors then_holds.ordered (server_in 0 (omega arith)) t (omega (arith, left.time)) (came_to_client 1 r)
              (to_client_since names g q r t from_t same_then left_at server_since_start client_since_start 0))
              (client_source names g q left.mirrors then_holds.ordered (server_in 0 (omega arith)) t (omega (arith, left.time)) (came_to_server 1 r)
              (to_server_since names g q r t from_t same_then left_at server_since_start client_since_start 0)) answer_comes))

        early : HealthyOrOld names last r p.server.clock
        early = stands_early names last p.client.clock p.server.clock r (seen_narrow names last n r (omega (arith, most, long_so)) seen_r) stay (omega (arith, least))
            (omega (arith, most)) short_client short_server d turns server_clock own_old answered_then

      comes_both : Comes names 1560 q
      comes_both = comes_early names n q long_so then_seen j s p.server.sent p.client.sent m k client_under server_under p.server.clock server_clock early

    -- ---- the sum

    out_comes_then : is_open q.client.phase ≡ false → Comes names 1560 q
    out_comes_then shut = let x = out_comes names n q (omega (arith, long)) then_seen shut in record { rounds = x.rounds; soon = omega (arith, x.soon); healthy = x.healthy }

    -- its server was inside, or left lately and stays outside
    server_was : p.server.clock ≤ p.server.closed_at + 1804 → is_open p.server.phase ≡ false → is_open q.server.phase ≡ true → ⊥
    server_was lately shut then_in = cc (ap (λ (l : LinkState). is_open l.phase) (server_quiet p shut (omega (arith, lately))), shut, then_in)

    joined_comes : Joined p.client.clock p.client → Comes names 1560 q
    joined_comes is = choose (joined_step p is)
      where
        inside : (j : Joined q.client.clock q.client) (s : Stays 1 q) → (b : Bool) → is_open p.server.phase ≡ b → Comes names 1560 q
        inside j s false e = absurd (server_was (facts_a.alone is.connected is.joined e) e (s.stay.both 0 (omega arith)).server)
        inside j s true e = comes_both is e j s

        by_search : (j : Joined q.client.clock q.client) → Leaves 1 q ⊎ Stays 1 q → Comes names 1560 q
        by_search j (inl l) = let x = leaves_comes names 1 n q (omega arith) (omega (arith, long)) then_seen l in record { rounds = x.rounds; soon = omega (arith, x.soon); healthy = x.healthy }
        by_search j (inr s) = inside j s (is_open p.server.phase) refl

        choose : JustOut q.client ⊎ Joined q.client.clock q.client → Comes names 1560 q
        choose (inl out) = out_comes_then out.is_out
        choose (inr j) = by_search j (search 1 q j)

    pub joined_up : Joined f.ends.client.link.clock f.ends.client.link → AreUp (good_rounds n g).ends
    joined_up is =
        let come : Comes names 1560 q = joined_comes (subst (λ (l : LinkState). Joined l.clock l) mirror.1.client is) in
        let h : Healthy names 1 (pair_rounds n q) = healthy_at names 1560 n q (omega (arith, long)) then_seen come in
        let at : Mirrors names (good_rounds n g) (pair_rounds n q) = mirrors laws names are g then_holds q left.mirrors n in
        (is_up_then _ _ at.client h.steady_client.up, is_up_then _ _ at.server h.steady_server.up)
